use Rattle.sharing_commands.proofs.Fronts.{adds_on, adds_short, adds_then}
use Rattle.sharing_commands.proofs.Standing.{known_on}
use Rattle.sharing_commands.proofs.setting.add_target.Goals as goal

pub returns-in_err-add_group-clause-adds : goal.returns-in_err-add_group-clause-adds
returns-in_err-add_group-clause-adds g c =
    let clients = g.C.Clients.meaning c.args.clients.now in
    adds_on c.from_residual.result c.in_err-add_group.field-0.0 c.from_residual.ensures.1 clients
    _ _ _ _ _
    (adds_short clients _ _ _ _ _ _ c.in_err-add_group.field-0.0 c.in_err-add_group.ensures.adds)

pub returns-clause-adds : goal.returns-clause-adds
returns-clause-adds g c =
    adds_then (g.C.Clients.meaning c.args.clients.now) _ _ _ _ _ _ _ _ _ c.set_level.result
    c.in_ok-add_group.ensures.adds c.set_level.ensures.adds

pub returns-in_err-add_group-clause-stands : goal.returns-in_err-add_group-clause-stands
returns-in_err-add_group-clause-stands g c =
    known_on c.from_residual.result c.in_err-add_group.field-0.0 c.from_residual.ensures.1
    (g.C.Clients.meaning c.args.clients.now) c.add_group.new.store
    (g.D.Disk.tells c.add_group.new.disk) c.args.contact c.in_err-add_group.ensures.stands
