use Rattle.std.proofs.Common.{◌<◌, length, arith}
use Rattle.sync_world.specs.Shown.{link_arrived}
use Rattle.sync_world.specs.Turning.{is_moving}
use Rattle.sync_world.proofs.LoopLaws.{one_more, one_more_test}
use Rattle.sync_world.proofs.turning.carry_all.Goals as goal

pub links-preserved : goal.links-preserved
links-preserved c =
    let within : c.links.link-index < length c.args.links.now =
    omega (arith, c.links-test.true, c.links.auto.links) in
    record {
      some = one_more_test link_arrived is_moving c.args.links.now c.links.links c.links.link-index
          c.link-item.result c.links.some c.in_ok-carried.carried within c.links.invariant.carried
          c.link-item.is c.links.invariant.some c.in_ok-carried.ensures.some;
      carried = one_more link_arrived c.args.links.now c.links.links c.links.link-index
          c.link-item.result c.carry.new.link within c.links.invariant.carried c.link-item.is
          c.in_ok-carried.ensures.carried;
    }
