use Rattle.std.proofs.Common.{◌<◌, length, arith}
use Rattle.sync_world.specs.Turning.{look_link}
use Rattle.sync_world.proofs.LoopLaws.{one_more}
use Rattle.sync_world.proofs.turning.look_all.Goals as goal

pub links-preserved : goal.links-preserved
links-preserved c =
    let within : c.links.link-index < length c.args.links.now =
    omega (arith, c.links-test.true, c.links.auto.links) in
    one_more (look_link c.args.number c.args.device.now) c.args.links.now c.links.links
    c.links.link-index c.link-item.result c.look_on.new.link within c.links.invariant
    c.link-item.is c.in_ok-look_on.ensures
