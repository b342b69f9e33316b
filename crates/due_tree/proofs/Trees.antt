-- Cells of a tree: what a write leaves, and what a cell that is not due says of the places below it.
use Rattle.std.proofs.Common.{◌≡◌, ◌≢◌, ℕ, ◌+◌, ◌-◌, ◌*◌, ◌/◌, ◌%◌, ◌^◌, ◌<◌, ◌≤◌, min, true, false, nat_le, nat_eq, List, length, Option, None, Some, refl, sym, ap, subst, ◌∙◌, ◌⊎◌, inl, inr, set, arith, zero, suc, add-one, pow-add}
use Rattle.std.proofs.lemmas.List.{get_or-set_same, get_or-set_other}
use Rattle.std.specs.Option.{option_eq}
use Rattle.std.proofs.lemmas.Bool.{cases_eq, cases_lt, true≢false, eqb-true}
use Rattle.std.proofs.lemmas.Bool.Decides.{nat_tests}
use Rattle.std.proofs.Math.Nat.{mul-le-mul_left, mul-le-mul_right, mul_assoc, pow-succ'}
use Rattle.due_tree.specs.Due.{is_due}
use Rattle.due_tree.specs.Cells.{lesser, at, least_below, IsTreeBut, IsTree, IsClear}

above_left : (m n bound : ℕ) → nat_le (min m n) bound ≡ false → nat_le m bound ≡ false
above_left m n bound h = grind (arith, nat_tests)

above_right : (m n bound : ℕ) → nat_le (min m n) bound ≡ false → nat_le n bound ≡ false
above_right m n bound h = grind (arith, nat_tests)

below_right : (m n bound : ℕ) → nat_le (min m n) bound ≡ true → nat_le m bound ≡ false → nat_le n bound ≡ true
below_right m n bound h e = grind (arith, nat_tests)

-- where the lesser of two is not due, neither is
pub neither_due : (bound : ℕ) (a b : Option ℕ) → is_due bound (lesser a b) ≡ false → (is_due bound a ≡ false) × (is_due bound b ≡ false)
neither_due bound None b h = (refl, h)
neither_due bound (Some m) None h = (h, refl)
neither_due bound (Some m) (Some n) h = (above_left m n bound h, above_right m n bound h)

-- where the lesser of two is due and the first is not, the second is
pub other_due : (bound : ℕ) (a b : Option ℕ) → is_due bound (lesser a b) ≡ true → is_due bound a ≡ false → is_due bound b ≡ true
other_due bound None b h n = h
other_due bound (Some m) None h n = absurd (true≢false (sym h ∙ n))
other_due bound (Some m) (Some n) h e = below_right m n bound h e

-- a write of what the children give, or of a place, leaves only the parent wrong
pub climbs : (leaves : ℕ) (cells : List (Option ℕ)) (cell : ℕ) (v : Option ℕ) → IsTreeBut leaves cells cell → cell < length cells → leaves ≤ cell ⊎ (v ≡ least_below cells cell) → IsTreeBut leaves (set cells cell v) (cell / 2)
climbs leaves cells cell v h within given node low high ne =
    let left : 2 * node ≢ cell = omega arith in
    let right : 2 * node + 1 ≢ cell = omega arith in
    let below : least_below (set cells cell v) node ≡ least_below cells node =
    (λ i. lesser (get_or-set_other cells cell (2 * node) v None left i) (get_or-set_other cells cell (2 * node + 1) v None right i)) in
    elim (cases_eq node cell) [
      | inl same ↦ elim given [
        | inl leaf ↦ absurd (omega arith)
        | inr is ↦ subst (λ k. at (set cells cell v) k ≡ least_below (set cells cell v) k) (sym same)
            (get_or-set_same cells cell v None within ∙ is ∙ sym (subst (λ k. least_below (set cells cell v) k ≡ least_below cells k) same below))
      ]
      | inr other ↦ get_or-set_other cells cell node v None other ∙ h node low high other ∙ sym below
    ]

-- the first write: a place
pub put_first : (leaves : ℕ) (cells : List (Option ℕ)) (place : ℕ) (v : Option ℕ) → IsTree leaves cells → leaves + place < length cells → IsTreeBut leaves (set cells (leaves + place) v) ((leaves + place) / 2)
put_first leaves cells place v tree within =
    climbs leaves cells (leaves + place) v (λ node low high _. tree node low high) within (inl (omega arith))

-- the next write: what the children give
pub put_next : (leaves : ℕ) (cells : List (Option ℕ)) (cell : ℕ) → IsTreeBut leaves cells cell → cell < length cells → IsTreeBut leaves (set cells cell (least_below cells cell)) (cell / 2)
put_next leaves cells cell h within = climbs leaves cells cell (least_below cells cell) h within (inr refl)

-- nor where the cell that may be wrong is not
pub put_same : (leaves : ℕ) (cells : List (Option ℕ)) (cell : ℕ) → IsTreeBut leaves cells cell → at cells cell ≡ least_below cells cell → IsTree leaves cells
put_same leaves cells cell h same node low high =
    elim (cases_eq node cell) [
      | inl is ↦ subst (λ k. at cells k ≡ least_below cells k) (sym is) same
      | inr other ↦ h node low high other
    ]

-- what a test of two numbers says
pub same_option : (a b : Option ℕ) → option_eq nat_eq a b ≡ true → a ≡ b
same_option None None h = refl
same_option None (Some y) h = cc
same_option (Some x) None h = cc
same_option (Some x) (Some y) h = let e : x ≡ y = eqb-true x y h in ap Some e

-- building from the last cell down to the first
pub mended : (leaves : ℕ) (cells : List (Option ℕ)) (cell : ℕ) → 1 ≤ cell → cell < length cells → ((node : ℕ) → cell < node → 1 ≤ node → node < leaves → at cells node ≡ least_below cells node)
    → (node : ℕ) → cell ≤ node → 1 ≤ node → node < leaves → at (set cells cell (least_below cells cell)) node ≡ least_below (set cells cell (least_below cells cell)) node
mended leaves cells cell one within h node from low high =
    let v = least_below cells cell in
    let left : 2 * node ≢ cell = omega arith in
    let right : 2 * node + 1 ≢ cell = omega arith in
    let below : least_below (set cells cell v) node ≡ least_below cells node =
    (λ i. lesser (get_or-set_other cells cell (2 * node) v None left i) (get_or-set_other cells cell (2 * node + 1) v None right i)) in
    elim (cases_eq node cell) [
      | inl same ↦ subst (λ k. at (set cells cell v) k ≡ least_below (set cells cell v) k) (sym same)
          (get_or-set_same cells cell v None within ∙ sym (subst (λ k. least_below (set cells cell v) k ≡ least_below cells k) same below))
      | inr other ↦ get_or-set_other cells cell node v None other ∙ h node (omega arith) low high ∙ sym below
    ]

-- twice the power before
pub double : (h : ℕ) → 2 ^ suc h ≡ 2 * 2 ^ h
double h = pow-succ' 2 h

one_at_least : (h : ℕ) → 1 ≤ 2 ^ h
one_at_least zero = omega arith
one_at_least (suc h) = omega (arith, one_at_least h, double h)

-- the places of a cell are those of its two children
left_begin : (node w : ℕ) → node * (2 * w) ≡ (2 * node) * w
left_begin node w = grind arith

right_end : (node w : ℕ) → (node + 1) * (2 * w) ≡ (2 * node + 1 + 1) * w
right_end node w = grind arith

left_before_right : (node w : ℕ) → (2 * node + 1) * w ≤ (2 * node + 1 + 1) * w
left_before_right node w = grind arith

two_high : (n w leaves : ℕ) → 1 ≤ w → n * (2 * w) ≤ 2 * leaves → n ≤ leaves
two_high n w leaves one h = let e : 2 * (n * w) ≤ 2 * leaves = subst (λ k. k ≤ 2 * leaves) (twice n w) h in let m : n * 1 ≤ n * w = mul-le-mul_left n one in omega arith
  where
    twice : (n w : ℕ) → n * (2 * w) ≡ 2 * (n * w)
    twice n w = grind arith

-- where a cell is not due, no place below it is
pub clear_below : (bound leaves : ℕ) (cells : List (Option ℕ)) → IsTree leaves cells → (height node : ℕ) → 1 ≤ node → (node + 1) * 2 ^ height ≤ 2 * leaves → is_due bound (at cells node) ≡ false → IsClear bound cells (node * 2 ^ height) ((node + 1) * 2 ^ height)
clear_below bound leaves cells tree zero node low fits not cell from to =
    let e : node ≡ cell = omega arith in subst (λ k. is_due bound (at cells k) ≡ false) e not
clear_below bound leaves cells tree (suc height) node low fits not cell from to =
    let w = 2 ^ height in
    let fits2 : (node + 1) * (2 * w) ≤ 2 * leaves = subst (λ k. (node + 1) * k ≤ 2 * leaves) (double height) fits in
    let from2 : (2 * node) * w ≤ cell = subst (λ k. k ≤ cell) (left_begin node w) (subst (λ k. node * k ≤ cell) (double height) from) in
    let to2 : cell < (2 * node + 1 + 1) * w = subst (λ k. cell < k) (right_end node w) (subst (λ k. cell < (node + 1) * k) (double height) to) in
    let fits3 : (2 * node + 1 + 1) * w ≤ 2 * leaves = subst (λ k. k ≤ 2 * leaves) (right_end node w) fits2 in
    let below : node + 1 ≤ leaves = two_high (node + 1) w leaves (one_at_least height) fits2 in
    let both = neither_due bound (at cells (2 * node)) (at cells (2 * node + 1)) (subst (λ o. is_due bound o ≡ false) (tree node low (omega arith)) not) in
    elim (cases_lt cell ((2 * node + 1) * w)) [
      | inl left ↦ clear_below bound leaves cells tree height (2 * node) (omega arith) (omega (arith, left_before_right node w)) both.0 cell from2 left
      | inr right ↦ clear_below bound leaves cells tree height (2 * node + 1) (omega arith) fits3 both.1 cell right to2
    ]

-- a due cell that was reached from `low`, with no due place before its own
pub record IsReached (bound leaves low : ℕ) (cells : List (Option ℕ)) (cell above : ℕ) : Type 0 where
  pub begins : leaves ≤ cell * 2 ^ above
  pub ends : (cell + 1) * 2 ^ above ≤ 2 * leaves
  pub first : low ≤ cell * 2 ^ above
  pub due : is_due bound (at cells cell) ≡ true
  pub clear : IsClear bound cells low (cell * 2 ^ above)

module _ (bound leaves low : ℕ) (cells : List (Option ℕ)) (tree : IsTree leaves cells) where
  -- a reached cell above the places is no place
  pub reached_inside : (cell above : ℕ) → IsReached bound leaves low cells cell (suc above) → (1 ≤ cell) × (cell < leaves)
  reached_inside cell above r =
      let ends : (cell + 1) * (2 * 2 ^ above) ≤ 2 * leaves = subst (λ k. (cell + 1) * k ≤ 2 * leaves) (double above) r.ends in
      let high : cell + 1 ≤ leaves = two_high (cell + 1) (2 ^ above) leaves (one_at_least above) ends in (
        elim (cases_eq cell 0) [
          | inl none ↦ absurd (let z : leaves ≤ 0 * 2 ^ suc above = subst (λ k. leaves ≤ k * 2 ^ suc above) none r.begins in omega arith)
          | inr some ↦ omega arith
        ],
        omega arith,
      )

  pub reached_left : (cell above : ℕ) → IsReached bound leaves low cells cell (suc above) → is_due bound (at cells (2 * cell)) ≡ true → IsReached bound leaves low cells (2 * cell) above
  reached_left cell above r due =
      let w = 2 ^ above in
      let begin : cell * 2 ^ suc above ≡ (2 * cell) * w = ap (λ k. cell * k) (double above) ∙ left_begin cell w in
      let end : (cell + 1) * 2 ^ suc above ≡ (2 * cell + 1 + 1) * w = ap (λ k. (cell + 1) * k) (double above) ∙ right_end cell w in
      let ends : (2 * cell + 1 + 1) * w ≤ 2 * leaves = subst (λ k. k ≤ 2 * leaves) end r.ends in
      record {
        begins = subst (λ k. leaves ≤ k) begin r.begins;
        ends = omega (arith, left_before_right cell w);
        first = subst (λ k. low ≤ k) begin r.first;
        due = due;
        clear = subst (λ k. IsClear bound cells low k) begin r.clear;
      }

  pub reached_right : (cell above : ℕ) → IsReached bound leaves low cells cell (suc above) → is_due bound (at cells (2 * cell)) ≡ false → IsReached bound leaves low cells (2 * cell + 1) above
  reached_right cell above r not =
      let w = 2 ^ above in
      let inside = reached_inside cell above r in
      let begin : cell * 2 ^ suc above ≡ (2 * cell) * w = ap (λ k. cell * k) (double above) ∙ left_begin cell w in
      let end : (cell + 1) * 2 ^ suc above ≡ (2 * cell + 1 + 1) * w = ap (λ k. (cell + 1) * k) (double above) ∙ right_end cell w in
      let ends : (2 * cell + 1 + 1) * w ≤ 2 * leaves = subst (λ k. k ≤ 2 * leaves) end r.ends in
      let begins : leaves ≤ (2 * cell) * w = subst (λ k. leaves ≤ k) begin r.begins in
      let first : low ≤ (2 * cell) * w = subst (λ k. low ≤ k) begin r.first in
      let step : (2 * cell) * w ≤ (2 * cell + 1) * w = grind arith in
      let before : IsClear bound cells low ((2 * cell) * w) = subst (λ k. IsClear bound cells low k) begin r.clear in
      let after : IsClear bound cells ((2 * cell) * w) ((2 * cell + 1) * w) = clear_below bound leaves cells tree above (2 * cell) (omega arith) (omega (arith, left_before_right cell w)) not in
      record {
        begins = omega arith;
        ends = ends;
        first = omega arith;
        due = other_due bound (at cells (2 * cell)) (at cells (2 * cell + 1)) (subst (λ o. is_due bound o ≡ true) (tree cell inside.0 inside.1) r.due) not;
        clear = λ k from to. elim (cases_lt k ((2 * cell) * w)) [ inl l ↦ before k from l | inr g ↦ after k g to ];
      }

-- on the way up from the place `from`: the cell is on its level, and no place from `from` to the end of its own is due
pub record IsPassed (bound height from : ℕ) (cells : List (Option ℕ)) (cell above : ℕ) : Type 0 where
  pub begins : 2 ^ (height - above) ≤ cell
  pub ends : cell < 2 * 2 ^ (height - above)
  pub past : from < (cell + 1) * 2 ^ above
  pub clear : IsClear bound cells from ((cell + 1) * 2 ^ above)

-- a level's cells have all the places
level : (height above : ℕ) → above ≤ height → 2 ^ (height - above) * 2 ^ above ≡ 2 ^ height
level height above h = sym (pow-add 2 (height - above) above) ∙ ap (λ k. 2 ^ k) (omega arith)

up : (height above : ℕ) → above < height → 2 ^ (height - above) ≡ 2 * 2 ^ (height - (above + 1))
up height above h = let e : height - above ≡ suc (height - (above + 1)) = omega arith in ap (λ k. 2 ^ k) e ∙ double (height - (above + 1))

module _ (bound leaves height from : ℕ) (cells : List (Option ℕ)) (tree : IsTree leaves cells) (power : leaves ≡ 2 ^ height) where
  -- the sibling to the right lies within the tree
  pub sibling_begins : (cell above : ℕ) → above < height → IsPassed bound height from cells cell above → leaves ≤ (cell + 1) * 2 ^ above
  sibling_begins cell above h p =
      let q = 2 ^ (height - above) in
      let b : q ≤ cell = p.begins in
      let s : q ≤ cell + 1 = omega arith in
      let m : q * 2 ^ above ≤ (cell + 1) * 2 ^ above = mul-le-mul_right (2 ^ above) s in
      subst (λ k. k ≤ (cell + 1) * 2 ^ above) (level height above (omega arith) ∙ sym power) m

  pub sibling_ends : (cell above : ℕ) → above < height → IsPassed bound height from cells cell above → cell % 2 ≡ 0 → (cell + 1 + 1) * 2 ^ above ≤ 2 * leaves
  sibling_ends cell above h p even =
      let q = 2 ^ (height - above) in
      let e : cell < 2 * q = p.ends in
      let s : cell + 1 + 1 ≤ 2 * q = omega arith in
      let m : (cell + 1 + 1) * 2 ^ above ≤ (2 * q) * 2 ^ above = mul-le-mul_right (2 ^ above) s in
      subst (λ k. (cell + 1 + 1) * 2 ^ above ≤ k) (mul_assoc 2 q (2 ^ above) ∙ ap (λ k. 2 * k) (level height above (omega arith) ∙ sym power)) m

  parent_end : (cell above : ℕ) → (2 * (cell / 2) + 1 + 1) * 2 ^ above ≡ (cell / 2 + 1) * 2 ^ (above + 1)
  parent_end cell above = sym (ap (λ k. (cell / 2 + 1) * k) (ap (λ k. 2 ^ k) (add-one above) ∙ double above) ∙ right_end (cell / 2) (2 ^ above))

  parent_clear : (cell above : ℕ) → IsClear bound cells from ((2 * (cell / 2) + 1 + 1) * 2 ^ above) → IsClear bound cells from ((cell / 2 + 1) * 2 ^ (above + 1))
  parent_clear cell above c = subst (λ k. IsClear bound cells from k) (parent_end cell above) c

  -- up from a right child
  pub up_odd : (cell above : ℕ) → above < height → IsPassed bound height from cells cell above → cell % 2 ≢ 0 → IsPassed bound height from cells (cell / 2) (above + 1)
  up_odd cell above h p odd =
      let b : 2 * 2 ^ (height - (above + 1)) ≤ cell = subst (λ k. k ≤ cell) (up height above h) p.begins in
      let e : cell < 2 * (2 * 2 ^ (height - (above + 1))) = subst (λ k. cell < 2 * k) (up height above h) p.ends in
      let same : cell + 1 ≡ 2 * (cell / 2) + 1 + 1 = omega arith in
      record {
        begins = omega arith;
        ends = omega arith;
        past = subst (λ k. from < k) (ap (λ k. k * 2 ^ above) same ∙ parent_end cell above) p.past;
        clear = parent_clear cell above (subst (λ k. IsClear bound cells from (k * 2 ^ above)) same p.clear);
      }

  -- up from a left child whose sibling is not due
  pub up_even : (cell above : ℕ) → above < height → IsPassed bound height from cells cell above → cell % 2 ≡ 0 → is_due bound (at cells (cell + 1)) ≡ false → IsPassed bound height from cells (cell / 2) (above + 1)
  up_even cell above h p even not =
      let b : 2 * 2 ^ (height - (above + 1)) ≤ cell = subst (λ k. k ≤ cell) (up height above h) p.begins in
      let e : cell < 2 * (2 * 2 ^ (height - (above + 1))) = subst (λ k. cell < 2 * k) (up height above h) p.ends in
      let same : cell + 1 + 1 ≡ 2 * (cell / 2) + 1 + 1 = omega arith in
      let after : IsClear bound cells ((cell + 1) * 2 ^ above) ((cell + 1 + 1) * 2 ^ above) = clear_below bound leaves cells tree above (cell + 1) (omega arith) (sibling_ends cell above h p even) not in
      let both : IsClear bound cells from ((cell + 1 + 1) * 2 ^ above) = (λ k low high. elim (cases_lt k ((cell + 1) * 2 ^ above)) [ inl l ↦ p.clear k low l | inr g ↦ after k g high ]) in
      record {
        begins = omega arith;
        ends = omega arith;
        past = subst (λ k. from < k) (ap (λ k. k * 2 ^ above) same ∙ parent_end cell above) (let m : (cell + 1) * 2 ^ above ≤ (cell + 1 + 1) * 2 ^ above = mul-le-mul_right (2 ^ above) (omega arith) in omega (arith, p.past));
        clear = parent_clear cell above (subst (λ k. IsClear bound cells from (k * 2 ^ above)) same both);
      }

  -- at the root no place is left
  pub at_root : (cell above : ℕ) → height ≤ above → above ≤ height → IsPassed bound height from cells cell above → IsClear bound cells from (2 * leaves)
  at_root cell above low high p =
      let e : above ≡ height = omega arith in
      let z : height - above ≡ 0 = omega arith in
      let b : 2 ^ 0 ≤ cell = subst (λ k. 2 ^ k ≤ cell) z p.begins in
      let t : cell < 2 * 2 ^ 0 = subst (λ k. cell < 2 * 2 ^ k) z p.ends in
      let one : cell + 1 ≡ 2 = omega arith in
      subst (λ k. IsClear bound cells from k) ((λ i. one i * 2 ^ e i) ∙ ap (λ k. 2 * k) (sym power)) p.clear

  -- before the first step up
  pub at_place : leaves ≤ from → from < 2 * leaves → is_due bound (at cells from) ≡ false → IsPassed bound height from cells from 0
  at_place low high not =
      let zero_less : height ≡ height - 0 = omega arith in
      record {
        begins = subst (λ k. 2 ^ k ≤ from) zero_less (subst (λ k. k ≤ from) power low);
        ends = subst (λ k. from < 2 * 2 ^ k) zero_less (subst (λ k. from < 2 * k) power high);
        past = omega arith;
        clear = λ k at_least below. let e : from ≡ k = omega arith in subst (λ c. is_due bound (at cells c) ≡ false) e not;
      }
