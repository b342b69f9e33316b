use Rattle.std.proofs.Common.{◌<◌, length, arith}
use Rattle.world_links.specs.Links.{left_by}
use Rattle.sync_world.proofs.LoopLaws.{one_more}
use Rattle.sync_world.proofs.turning.leave_all.Goals as goal

pub links-preserved : goal.links-preserved
links-preserved c =
    let within : c.links.link-index < length c.args.links.now =
    omega (arith, c.links-test.true, c.links.auto.links) in
    one_more (left_by c.args.number) c.args.links.now c.links.links c.links.link-index
    c.link-item.result c.leave.new.self within c.links.invariant c.link-item.is c.leave.ensures
