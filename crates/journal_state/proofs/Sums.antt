-- Sums over nodes, once one node is changed or one more is there.
use Rattle.std.proofs.Common.{◌≡◌, ℕ, zero, suc, ◌+◌, ◌*◌, ◌≤◌, Bool, true, false, cond, List, [], ◌∷◌, ◌++◌, length, Option, None, Some, slice_get, ap, arith}
use Rattle.message_graph.specs.declared.nodes.Node.{Node}
use Rattle.message_graph.specs.Nodes as nodes
use Rattle.journal_state.specs.Left.{left_in, one_if_none, sum_of}

pub sum_changed : (weight : Node → ℕ) (f : Node → Node) (n : ℕ) (ns : List Node) (y : Node) → slice_get ns n ≡ Some y
    → sum_of weight (nodes.change f n ns) + weight y ≡ sum_of weight ns + weight (f y)
sum_changed weight f n [] y at = absurd (let e : None ≡ Some y = at in cc)
sum_changed weight f zero (x ∷ ns) y at =
    let is : x ≡ y = cc in
    let one : weight x ≡ weight y = ap weight is in
    let two : weight (f x) ≡ weight (f y) = ap (λ (w : Node). weight (f w)) is in
    omega (arith, one, two)
sum_changed weight f (suc n) (x ∷ ns) y at = let later = sum_changed weight f n ns y at in omega (arith, later)

pub sum_more : (weight : Node → ℕ) (ns : List Node) (y : Node) → sum_of weight (ns ++ y ∷ []) ≡ sum_of weight ns + weight y
sum_more weight [] y = omega arith
sum_more weight (x ∷ ns) y = let later = sum_more weight ns y in omega (arith, later)

-- where the weight of the changed node stays, so does the sum
pub sum_kept : (weight : Node → ℕ) (f : Node → Node) (n : ℕ) (ns : List Node) (y : Node) → slice_get ns n ≡ Some y → weight (f y) ≡ weight y
    → sum_of weight (nodes.change f n ns) ≡ sum_of weight ns
sum_kept weight f n ns y at same = let all = sum_changed weight f n ns y at in omega (arith, all, same)

none_or_one : {A : Type 0} (o : Option A) → one_if_none o ≤ 1
none_or_one None = omega arith
none_or_one (Some x) = omega arith

-- a node has at most two entries left
pub left_most : (ns : List Node) → left_in ns ≤ 2 * length ns
left_most [] = omega arith
left_most (x ∷ ns) = let later = left_most ns in omega (arith, later, none_or_one x.answer, none_or_one x.ending)

delivered_or_not : (b : Bool) → cond b 1 0 ≤ 1
delivered_or_not true = omega arith
delivered_or_not false = omega arith

pub few_delivered : (ns : List Node) → sum_of (λ n. cond (nodes.is_delivered n.ending) 1 0) ns ≤ length ns
few_delivered [] = omega arith
few_delivered (x ∷ ns) = let later = few_delivered ns in omega (arith, later, delivered_or_not (nodes.is_delivered x.ending))
