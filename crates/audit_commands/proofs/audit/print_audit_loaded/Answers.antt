use Rattle.audit_commands.proofs.Beside.{audited_serves}
use Rattle.audit_commands.proofs.audit.print_audit_loaded.Goals as goal

pub returns-clause-serves : goal.returns-clause-serves
returns-clause-serves g c served =
    audited_serves (g.C.Clients.meaning c.args.clients.now) c.args.store.now _ _ _ _ _
    c.print_audit.ensures served
