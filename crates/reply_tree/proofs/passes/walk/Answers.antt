use Rattle.std.proofs.Common.{◌≡◌, ℕ, ◌+◌, ◌^◌, ◌<◌, ◌∷◌, ◌++◌, [], List, length, Option, None, vec_len, get_or, replicate, refl, sym, ap, ◌∙◌, subst, arith}
use Rattle.std.proofs.lemmas.List.{with_items_is, length-replicate}
use Rattle.reply_tree.specs.Kept.{free_at, free_behind}
use Rattle.reply_tree.specs.Walks.{RepliesToEarlier, size_of}
use Rattle.reply_tree.proofs.Ranks.{place_of, place_within}
use Rattle.reply_tree.proofs.Passing.{ArePlaced, if_some, none_placed, next_place, place_room, place_more, all_placed}
use Rattle.reply_tree.proofs.passes.walk.Goals as goal

pub items-init : goal.items-init
items-init c old =
    let ps = c.args.parents.now in
    let zeros : c.in_ok-walk.walk.items ≡ replicate (length ps) 0 = c.in_ok-walk.ensures.items_if_clones_equal (λ y e. e) in
    none_placed ps old 0 c.in_ok-free.free.items c.in_ok-walk.walk.items refl c.in_ok-free.ensures.items (ap length zeros ∙ length-replicate (length ps) 0)

pub take_place-place-requires-clause-within : goal.take_place-place-requires-clause-within
take_place-place-requires-clause-within c =
    let ps = c.args.parents.now in
    let a = c.items.invariant c.requires.earlier in
    if_some (get_or ps c.items.n None) (λ p. p < length c.as_mut_slice.result.now) (λ p e.
    let lt = c.requires.earlier c.items.n p e in
    omega (arith, lt, ap length c.as_mut_slice.ensures.value, a.many))

pub take_place-place-requires-clause-room : goal.take_place-place-requires-clause-room
take_place-place-requires-clause-room c =
    let ps = c.args.parents.now in
    let within : c.items.n < length ps = omega (arith, c.items-test.true) in
    let room = place_room ps c.requires.earlier c.items.n c.items.top c.items.free.items c.items.walk.items within c.requires.few (c.items.invariant c.requires.earlier) in
    let size : get_or c.args.sizes.now c.items.n 0 ≡ size_of ps c.items.n = c.requires.sizes.each c.items.n within in
    subst (λ (xs : List ℕ). free_at c.items.top xs (get_or ps c.items.n None) + get_or c.args.sizes.now c.items.n 0 < 2 ^ 32) (sym c.as_mut_slice.ensures.value)
    (subst (λ (k : ℕ). free_at c.items.top c.items.free.items (get_or ps c.items.n None) + k < 2 ^ 32) (sym size) room)

-- the place that was taken is the item's, which is below the number of items
place_less : (ps : List (Option ℕ)) (old : RepliesToEarlier ps) (n top place : ℕ) (free shown walk : List ℕ) → n < length ps → ArePlaced ps old n top free walk
    → place ≡ free_at top shown (get_or ps n None) → shown ≡ free → place < length ps
place_less ps old n top place free shown walk within a is same =
    let at : place ≡ place_of ps n = is ∙ ap (λ (xs : List ℕ). free_at top xs (get_or ps n None)) same ∙ next_place ps old n top free walk within a in
    let less = place_within ps old n within in
    omega (arith, less, at)

pub overflow_add-place : goal.overflow_add-place
overflow_add-place c =
    let ps = c.args.parents.now in
    let within : c.items.n < length ps = omega (arith, c.items-test.true) in
    let less = place_less ps c.requires.earlier c.items.n c.items.top c.take_place-place.result c.items.free.items c.as_mut_slice.result.now c.items.walk.items within
    (c.items.invariant c.requires.earlier) c.take_place-place.ensures.place c.as_mut_slice.ensures.value in
    omega (arith, less, c.requires.few)

pub index_mut-requires : goal.index_mut-requires
index_mut-requires c =
    let ps = c.args.parents.now in
    let within : c.items.n < length ps = omega (arith, c.items-test.true) in
    let a = c.items.invariant c.requires.earlier in
    let less = place_less ps c.requires.earlier c.items.n c.items.top c.take_place-place.result c.items.free.items c.as_mut_slice.result.now c.items.walk.items within
    a c.take_place-place.ensures.place c.as_mut_slice.ensures.value in
    let long : vec_len c.items.walk ≡ length ps = c.items.walk.ok.0 ∙ a.long in
    omega (arith, less, long)

pub items-preserved : goal.items-preserved
items-preserved c old =
    let ps = c.args.parents.now in
    let n = c.items.n in
    let within : n < length ps = omega (arith, c.items-test.true) in
    let size : get_or c.args.sizes.now n 0 ≡ size_of ps n = c.requires.sizes.each n within in
    let at : c.take_place-place.result ≡ free_at c.items.top c.items.free.items (get_or ps n None) =
    c.take_place-place.ensures.place ∙ ap (λ (xs : List ℕ). free_at c.items.top xs (get_or ps n None)) c.as_mut_slice.ensures.value in
    let kept = with_items_is c.items.free c.take_place-place.new.free (c.take_place-place.auto.free ∙ c.as_mut_slice.ensures.len) in
    let free : c.push.new.self.items ≡ free_behind c.items.free.items (get_or ps n None) (get_or c.args.sizes.now n 0) ++ (c.take_place-place.result + 1) ∷ [] =
    c.in_ok-push.ensures.items
    ∙ ap (λ (xs : List ℕ). xs ++ (c.take_place-place.result + 1) ∷ []) (kept ∙ c.take_place-place.ensures.below
    ∙ ap (λ (xs : List ℕ). free_behind xs (get_or ps n None) (get_or c.args.sizes.now n 0)) c.as_mut_slice.ensures.value) in
    place_more ps old n c.items.top c.take_place-place.result (get_or c.args.sizes.now n 0) c.take_place-place.new.top c.items.free.items c.items.walk.items c.push.new.self.items
    within size at (c.items.invariant old) c.take_place-place.ensures.top free

pub returns : goal.returns
returns c =
    let ps = c.args.parents.now in
    let all : c.items.n ≡ length ps = omega (arith, c.items-test.false, c.items.auto.n-end) in
    all_placed ps c.requires.earlier c.items.top c.items.free.items c.items.walk.items
    (subst (λ (k : ℕ). ArePlaced ps c.requires.earlier k c.items.top c.items.free.items c.items.walk.items) all (c.items.invariant c.requires.earlier))
