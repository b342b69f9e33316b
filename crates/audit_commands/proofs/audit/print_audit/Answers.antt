use Rattle.std.proofs.Common.{refl}
use Rattle.audit_commands.proofs.Audited.{audited, audited_not, audited_on}
use Rattle.audit_commands.proofs.audit.print_audit.Goals as goal

pub returns-in_err-report : goal.returns-in_err-report
returns-in_err-report g c =
    let clients = g.C.Clients.meaning c.args.clients.now in
    let e = c.in_err-report.ensures in
    let came = c.in_err-report.field-0.0 in
    audited_on clients _ _ _ _ c.from_residual.result came c.from_residual.ensures.1
    (audited_not clients _ _ _ _ came e.run e.moments e.reads e.synced e.by e.tells
    (record { same = refl; same_faults = refl }))

pub returns : goal.returns
returns g c =
    let e = c.in_ok-report.ensures in
    audited (g.C.Clients.meaning c.args.clients.now) _ _ _ _ _ c.in_ok-report.report e.run
    e.moments e.synced e.tells c.print_report.ensures
