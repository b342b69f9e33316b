-- The ids of a list, counted one by one in their slots.
use Rattle.std.proofs.Common.{◌≡◌, ℕ, ◌+◌, ◌<◌, ◌≤◌, Bool, true, false, ◌||◌, List, [], length, take}
use Rattle.std.proofs.Common.{get_or, set, slice_index, slice_index_or, refl, sym, ap, ◌∙◌, subst, inl}
use Rattle.std.proofs.Common.{inr, arith, below_more, length-set}
use Rattle.std.proofs.lemmas.Bool.{cases_eq}
use Rattle.std.proofs.lemmas.List.{get_or_default, get_or-set_same, get_or-set_other}
use Rattle.std.specs.Cmp.Lexicographic.{bytes_decides}
use Rattle.sync_rules.specs.Lists.{same_id, is_among}
use Rattle.session_core.specs.Slots.{slot_of}
use Rattle.session_core.proofs.First.{among_next}

-- no count falls where one is set to a greater number
raised : (counts : List ℕ) (slot v k : ℕ) → slot < length counts → get_or counts slot 0 ≤ v
    → get_or counts k 0 ≤ get_or (set counts slot v) k 0
raised counts slot v k within more =
    elim (cases_eq k slot) [
      | inl e ↦ subst (λ (n : ℕ). get_or counts n 0 ≤ get_or (set counts slot v) n 0) (sym e)
          (rw (get_or-set_same counts slot v 0 within) more)
      | inr e ↦ rw (get_or-set_other counts slot k v 0 e) (omega arith)
    ]

-- the ids before a place are counted, and one that stands before another place too is counted twice
pub record IsCounted (slots : ℕ) (ids : List (List ℕ)) (place : ℕ) (counts : List ℕ) : Type 0 where
  pub sized : length counts ≡ slots
  pub filled : (x : List ℕ) → is_among (take place ids) x ≡ true
      → 0 < slice_index counts (slot_of x slots)
  pub twice : (k : ℕ) → k < place → is_among (take k ids) (slice_index_or ids k []) ≡ true
      → 1 < slice_index counts (slot_of (slice_index_or ids k []) slots)

module _ (slots : ℕ) (ids : List (List ℕ)) (place : ℕ) (counts : List ℕ)
    (so_far : IsCounted slots ids place counts) where
  -- one id more
  pub counted_next : (id : List ℕ) (slot v : ℕ) → place < length ids → id ≡ get_or ids place id
      → slot ≡ slot_of id slots → slot < slots
      → get_or counts slot 0 ≤ v → 0 < v → (0 < get_or counts slot 0 → 1 < v)
      → IsCounted slots ids (place + 1) (set counts slot v)
  counted_next id slot v within here at below no_less some more = record {
    sized = length-set counts slot v ∙ so_far.sized;
    filled = λ x among.
        by x (same_id id x) refl (sym (among_next ids place id within here x) ∙ among);
    twice =
        below_more
        (λ k. is_among (take k ids) (slice_index_or ids k []) ≡ true
        → 1 < slice_index (set counts slot v) (slot_of (slice_index_or ids k []) slots))
        place
        (λ k earlier among.
        omega (arith, so_far.twice k earlier among, kept (slot_of (slice_index_or ids k []) slots)))
        (λ among. subst (λ (y : List ℕ). 1 < slice_index (set counts slot v) (slot_of y slots)) (sym there)
        (at_slot (λ n. 1 < n) (more (before (ap (is_among (take place ids)) (sym there) ∙ among)))));
  }
    where
      there : slice_index_or ids place [] ≡ id
      there = sym (here ∙ get_or_default ids place id [] within)

      inside : slot < length counts
      inside = omega (arith, so_far.sized)

      kept : (k : ℕ) → slice_index counts k ≤ slice_index (set counts slot v) k
      kept k = raised counts slot v k inside no_less

      before : is_among (take place ids) id ≡ true → 0 < slice_index counts slot
      before among = subst (λ (n : ℕ). 0 < slice_index counts n) (sym at) (so_far.filled id among)

      -- what holds of the count that is set
      at_slot : (P : ℕ → Type 0) → P v → P (slice_index (set counts slot v) (slot_of id slots))
      at_slot P p =
          subst P
          (sym (get_or-set_same counts slot v 0 inside) ∙ ap (slice_index (set counts slot v)) at) p

      by : (x : List ℕ) (same : Bool) → same_id id x ≡ same
          → (same_id id x || is_among (take place ids) x) ≡ true
          → 0 < slice_index (set counts slot v) (slot_of x slots)
      by x true e told =
          subst (λ (y : List ℕ). 0 < slice_index (set counts slot v) (slot_of y slots))
          ((bytes_decides id x).0 e) (at_slot (λ n. 0 < n) some)
      by x false e told =
          let earlier = sym (ap (λ b. b || is_among (take place ids) x) e) ∙ told in
          omega (arith, so_far.filled x earlier, kept (slot_of x slots))
