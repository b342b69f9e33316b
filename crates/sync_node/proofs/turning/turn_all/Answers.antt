use Rattle.std.proofs.Common.{arith}
use Rattle.sync_node.specs.Keeps.{LinksWork}
use Rattle.sync_node.proofs.CallLaws.{links_keep_closed}
use Rattle.sync_node.proofs.RunActLaws.{round_stopped, round_went}
use Rattle.sync_node.proofs.KeepLaws.{was}
use Rattle.sync_node.proofs.turning.turn_all.Goals as goal

pub returns-in_err-still : goal.returns-in_err-still
returns-in_err-still g c =
    was _ c.in_err-still.field-0.0 (LinksWork _ _ _ _ _ _ _ _ _) c.from_residual.ensures.1 (record {
      went = λ first attached. tt;
      stopped = λ first attached. round_stopped (c.in_err-still.ensures.stopped first attached);
      keeps = c.in_err-still.ensures.keeps;
    })

pub returns : goal.returns
returns g c = record {
  went = λ first attached.
      rw c.turned.ensures
      (round_went (omega (arith, c.turn_each.auto.links))
      (c.in_ok-still.ensures.went first attached) c.close_redundant.ensures.some
      c.close_redundant.ensures.exact);
  stopped = λ first attached. tt;
  keeps = links_keep_closed c.in_ok-still.ensures.keeps c.close_redundant.ensures.some;
}
