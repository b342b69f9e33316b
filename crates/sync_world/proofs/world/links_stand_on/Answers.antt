use Rattle.std.proofs.Common.{arith}
use Rattle.sync_course.proofs.LiftLaws.{get_within}
use Rattle.sync_world.proofs.ToldLaws.{stand_more}
use Rattle.sync_world.proofs.WireLaws.{get_at}
use Rattle.sync_world.proofs.world.links_stand_on.Goals as goal

pub devices-init : goal.devices-init
devices-init c = λ d device below there. absurd (omega (arith, below))

pub devices-preserved : goal.devices-preserved
devices-preserved c =
    stand_more c.args.devices.now c.devices.d c.index-devices-d.result
    (get_at c.args.devices.now c.devices.d c.index-devices-d.result c.devices-test.true
    c.index-devices-d.is) c.links_stand.ensures
    c.devices.invariant

pub returns : goal.returns
returns c = λ d device there.
    let within = get_within c.args.devices.now d device there in
    c.devices.invariant d device (omega (arith, within, c.devices-test.false)) there
