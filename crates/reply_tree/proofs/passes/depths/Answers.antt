use Rattle.std.proofs.Common.{◌≡◌, ℕ, ◌+◌, ◌^◌, ◌<◌, List, length, None, get_or, sym, ap, ◌∙◌, subst, arith}
use Rattle.reply_tree.specs.Kept.{depth_under}
use Rattle.reply_tree.specs.Walks.{depth_of}
use Rattle.reply_tree.proofs.Passing.{if_some, one_more, depth_is, depth_room}
use Rattle.reply_tree.proofs.passes.depths.Goals as goal

pub depth_under-depth-requires-clause-room : goal.depth_under-depth-requires-clause-room
depth_under-depth-requires-clause-room c =
    let ps = c.args.parents.now in
    let within : c.items.n < length ps = omega (arith, c.items-test.true) in
    if_some (get_or ps c.items.n None) (λ p. get_or c.as_slice.result.now p 0 + 1 < 2 ^ 32) (λ p e.
    subst (λ (xs : List ℕ). get_or xs p 0 + 1 < 2 ^ 32) (sym c.as_slice.ensures.value)
    (depth_room ps c.requires.earlier c.items.n p c.items.depths.items within c.requires.few c.items.invariant e))

pub items-preserved : goal.items-preserved
items-preserved c =
    let ps = c.args.parents.now in
    let within : c.items.n < length ps = omega (arith, c.items-test.true) in
    let is : c.depth_under-depth.result ≡ depth_of ps c.items.n =
    c.depth_under-depth.ensures ∙ ap (λ (xs : List ℕ). depth_under xs (get_or ps c.items.n None)) c.as_slice.ensures.value
    ∙ depth_is ps c.requires.earlier c.items.n c.items.depths.items within c.items.invariant in
    one_more c.items.n c.depth_under-depth.result (depth_of ps) c.items.depths.items c.push.new.self.items c.items.invariant is c.in_ok-push.ensures.items
