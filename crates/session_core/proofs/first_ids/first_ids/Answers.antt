use Rattle.std.proofs.Common.{Bool, cond, ◌++◌, ◌∷◌, [], sym, ap, ◌∙◌}
use Rattle.session_core.proofs.First.{gathered_next}
use Rattle.session_core.proofs.first_ids.first_ids.Goals as goal
use Rattle.session_core.proofs.first_ids.first_ids.Goals.{then-branch+in_ok-push, else-branch}

pub loop-id-preserved : goal.loop-id-preserved
loop-id-preserved c =
    let before = c.loop-id.distinct.items in
    let kept = λ (b : Bool). cond b (before ++ c.id-item.result ∷ []) before in
    gathered_next c.in_ok-counts.counts.items c.args.ids.now c.in_ok-counts.ensures.counted
    c.loop-id.id-index c.id-item.result c.loop-id-test.true c.id-item.is
    c.in_ok-is_first.field-0 c.loop-id.known.keys c.is_first.new.known.keys
    before c.if-branch.distinct.items
    (rw c.as_slice.ensures.value at c.in_ok-is_first.ensures.first)
    (rw c.as_slice.ensures.value at c.in_ok-is_first.ensures.known)
    (elim c.if-branch.branch [
      | then-branch+in_ok-push w ↦
          (ap (λ v. v.items) w.distinct-is ∙ w.in_ok-push.ensures.items) ∙ sym (ap kept w.if-branch.true)
      | else-branch w ↦ ap (λ v. v.items) w.distinct-is ∙ sym (ap kept w.if-branch.false)
    ])
    c.loop-id.invariant
