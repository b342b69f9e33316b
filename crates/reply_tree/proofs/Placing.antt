-- A list that has each item at its place is the walk: places ascend along the walk and are below the number of items, so they are 0, 1, 2 ..
use Rattle.std.proofs.Common.{◌≡◌, ℕ, zero, suc, ◌+◌, ◌-◌, ◌<◌, ◌≤◌, List, length, Option, get_or, sym, ap, ◌∙◌, arith}
use Rattle.std.proofs.lemmas.List.{get_or_default, same_lists}
use Rattle.reply_tree.specs.Walks.{walk_of, RepliesToEarlier}
use Rattle.reply_tree.proofs.SortedWalk.{sorted}
use Rattle.reply_tree.proofs.Ranks.{place_of, place_before, place_within}

-- numbers that ascend below a limit are 0, 1, 2 .., where there are as many
module _ (p : ℕ → ℕ) (n : ℕ) (ascends : (i j : ℕ) → i < j → j < n → p i < p j) (below : (k : ℕ) → k < n → p k < n) where
  no_less : (k : ℕ) → k < n → k ≤ p k
  no_less zero h = omega arith
  no_less (suc k) h = let less = no_less k (omega (arith, h)) in let up = ascends k (suc k) (omega arith) h in omega (arith, less, up)

  no_more : (d k : ℕ) → k + d + 1 ≡ n → p k + d + 1 ≤ n
  no_more zero k e = let b = below k (omega (arith, e)) in omega (arith, b)
  no_more (suc d) k e = let rest = no_more d (k + 1) (omega (arith, e)) in let up = ascends k (k + 1) (omega arith) (omega (arith, e)) in omega (arith, rest, up)

  pub is_own : (k : ℕ) → k < n → p k ≡ k
  is_own k h =
      let less = no_less k h in
      let split : (d : ℕ) × (k + d + 1 ≡ n) = (n - (k + 1), omega (arith, h)) in
      let more = no_more split.0 k split.1 in
      omega (arith, less, more, split.1)

pub walk_is : (ps : List (Option ℕ)) → RepliesToEarlier ps → (walk : List ℕ) → length walk ≡ length ps
    → ((n : ℕ) → n < length ps → get_or walk (place_of ps n) 0 ≡ n) → walk ≡ walk_of ps
walk_is ps old walk many each =
    let s = sorted ps old (length ps) (omega arith) in
    let w : List ℕ = walk_of ps in
    let long : length w ≡ length ps = s.many in
    let at : (k : ℕ) → k < length ps → place_of ps (get_or w k 0) ≡ k =
    is_own (λ k. place_of ps (get_or w k 0)) (length ps)
    (λ i j h g. place_before ps old (get_or w i 0) (get_or w j 0) (s.below i (omega (arith, h, g, long))) (s.below j (omega (arith, g, long))) (s.ascends i j h (omega (arith, g, long))))
    (λ k h. place_within ps old (get_or w k 0) (s.below k (omega (arith, h, long)))) in
    same_lists walk w (omega (arith, many, long)) (λ k d h.
    let within : k < length ps = omega (arith, h, many) in
    get_or_default walk k d 0 h
    ∙ ap (λ (i : ℕ). get_or walk i 0) (sym (at k within))
    ∙ each (get_or w k 0) (s.below k (omega (arith, within, long)))
    ∙ get_or_default w k 0 d (omega (arith, within, long)))
