use Rattle.std.proofs.Common.{◌≡◌, ℕ, ◌+◌, ◌-◌, ◌^◌, ◌<◌, List, length, Option, None, get_or, replicate, sym, ap, ◌∙◌, subst, arith}
use Rattle.std.proofs.lemmas.List.{with_items_is, length-replicate}
use Rattle.reply_tree.specs.Kept.{count_added}
use Rattle.reply_tree.specs.Walks.{RepliesToEarlier}
use Rattle.reply_tree.proofs.Passing.{AreCounted, if_some, all_one, none_counted, all_counted, count_room, count_more}
use Rattle.reply_tree.proofs.passes.sizes.Goals as goal

pub loop-left-init : goal.loop-left-init
loop-left-init c =
    let ps = c.args.parents.now in
    let ones : c.in_ok-sizes.sizes.items ≡ replicate (length ps) 1 = c.in_ok-sizes.ensures.items_if_clones_equal (λ y e. e) in
    let long : length c.in_ok-sizes.sizes.items ≡ length ps = ap length ones ∙ length-replicate (length ps) 1 in
    record {
      counted = λ old. none_counted ps old c.in_ok-sizes.sizes.items long (all_one (length ps) 1 c.in_ok-sizes.sizes.items ones);
      within = omega arith;
    }

pub count_in-requires-clause-within : goal.count_in-requires-clause-within
count_in-requires-clause-within c =
    let a = c.loop-left.invariant.counted c.requires.earlier in
    omega (arith, ap length c.as_mut_slice.ensures.value, a.many, c.loop-left.invariant.within, c.loop-left-test.true)

pub count_in-requires-clause-parent : goal.count_in-requires-clause-parent
count_in-requires-clause-parent c =
    let ps = c.args.parents.now in
    let a = c.loop-left.invariant.counted c.requires.earlier in
    if_some (get_or ps (c.loop-left.left - 1) None) (λ p. p < length c.as_mut_slice.result.now) (λ p e.
    let lt = c.requires.earlier (c.loop-left.left - 1) p e in
    omega (arith, lt, ap length c.as_mut_slice.ensures.value, a.many, c.loop-left.invariant.within, c.loop-left-test.true))

-- what was counted before the next item
at_next : (ps : List (Option ℕ)) (old : RepliesToEarlier ps) (left : ℕ) (sizes : List ℕ) → 0 < left → AreCounted ps old left sizes → AreCounted ps old (left - 1 + 1) sizes
at_next ps old left sizes some a = let same : left ≡ left - 1 + 1 = omega (arith, some) in subst (λ (k : ℕ). AreCounted ps old k sizes) same a

pub count_in-requires-clause-room : goal.count_in-requires-clause-room
count_in-requires-clause-room c =
    let ps = c.args.parents.now in
    let item : ℕ = c.loop-left.left - 1 in
    let a = at_next ps c.requires.earlier c.loop-left.left c.loop-left.sizes.items (omega (arith, c.loop-left-test.true)) (c.loop-left.invariant.counted c.requires.earlier) in
    let within : item < length ps = omega (arith, c.loop-left.invariant.within, c.loop-left-test.true) in
    if_some (get_or ps item None) (λ p. get_or c.as_mut_slice.result.now p 0 + get_or c.as_mut_slice.result.now item 0 < 2 ^ 32) (λ p e.
    subst (λ (xs : List ℕ). get_or xs p 0 + get_or xs item 0 < 2 ^ 32) (sym c.as_mut_slice.ensures.value)
    (count_room ps c.requires.earlier item p c.loop-left.sizes.items within c.requires.few a e))

pub loop-left-preserved : goal.loop-left-preserved
loop-left-preserved c =
    let ps = c.args.parents.now in
    let item : ℕ = c.loop-left.left - 1 in
    let within : item < length ps = omega (arith, c.loop-left.invariant.within, c.loop-left-test.true) in
    let made : c.count_in.new.sizes ≡ count_added c.loop-left.sizes.items item (get_or ps item None) =
    c.count_in.ensures ∙ ap (λ (xs : List ℕ). count_added xs item (get_or ps item None)) c.as_mut_slice.ensures.value in
    let same = with_items_is c.loop-left.sizes c.count_in.new.sizes (c.count_in.auto.sizes ∙ c.as_mut_slice.ensures.len) ∙ made in
    record {
      counted = λ old. subst (AreCounted ps old item) (sym same)
          (count_more ps old item c.loop-left.sizes.items within (at_next ps old c.loop-left.left c.loop-left.sizes.items (omega (arith, c.loop-left-test.true)) (c.loop-left.invariant.counted old)));
      within = omega (arith, within);
    }

pub returns : goal.returns
returns c =
    let ps = c.args.parents.now in
    let none : c.loop-left.left ≡ 0 = omega (arith, c.loop-left-test.false) in
    all_counted ps c.requires.earlier c.loop-left.sizes.items (subst (λ (k : ℕ). AreCounted ps c.requires.earlier k c.loop-left.sizes.items) none (c.loop-left.invariant.counted c.requires.earlier))
