use Rattle.std.proofs.Common.{◌+◌, sym, subst}
use Rattle.session_core.proofs.Greatest.{IsBest, next_greater, next_not}
use Rattle.session_core.proofs.links.keep.Goals as goal
use Rattle.session_core.proofs.links.keep.Goals.{then-gt, else-gt}

pub loop-place-preserved : goal.loop-place-preserved
loop-place-preserved c =
    let nonces = c.args.nonces.now in
    let place = c.loop-place.place in
    let kept = c.loop-place.kept in
    elim c.if-gt.branch [
      | then-gt w ↦
          subst (IsBest nonces (place + 1)) (sym w.kept-is)
          (next_greater nonces place kept c.loop-place.invariant c.index-nonces-place.result c.index-nonces-kept.result c.loop-place-test.true c.index-nonces-place.is c.index-nonces-kept.is w.if-gt.ensures)
      | else-gt w ↦
          subst (IsBest nonces (place + 1)) (sym w.kept-is)
          (next_not nonces place kept c.loop-place.invariant c.index-nonces-place.result c.index-nonces-kept.result c.loop-place-test.true c.index-nonces-place.is c.index-nonces-kept.is w.if-gt.ensures)
    ]
