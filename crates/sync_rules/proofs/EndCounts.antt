-- In a settled journal as many held messages are good as are delivered, and as many are bad as are invalid.
use Rattle.std.proofs.Common.{◌≡◌, ℕ, ◌+◌, Bool, true, false, cond, ◌||◌, List, [], ◌∷◌, length, refl, sym, ◌∙◌, ap, arith, Some, is_some}
use Rattle.std.specs.FinSet as fin_set
use Rattle.std.proofs.lemmas.Bool.{both_ways, false≢true, or_left, or_parts, or_right}
use Rattle.sync_rules.specs.declared.entries.Entry.{Entry}
use Rattle.sync_rules.specs.Clients.{Meaning}
use Rattle.sync_rules.specs.Lists.{same_id, is_among, has_repeat}
use Rattle.sync_rules.specs.Facts.{Facts, Held, Id, facts, held_at, is_held}
use Rattle.sync_rules.specs.Steps.{IsSettled}
use Rattle.sync_rules.specs.Rounds.{bad, good, graph_of}
use Rattle.sync_rules.specs.Legal.{Legal}
use Rattle.sync_rules.specs.Consistency.{IsConsistent, ids_of_held}
use Rattle.sync_rules.specs.Knowing.{CountsEnds}
use Rattle.sync_rules.proofs.Elements.{same_id-is, same_id_itself, same_id_swap, tally, tally-is}
use Rattle.sync_rules.proofs.Sound.{SoundFacts}
use Rattle.sync_rules.proofs.Runs.{legal_sound}
use Rattle.sync_rules.proofs.Settling.{bad_if_invalid, bad_is_invalid, good_if_delivered, good_is_delivered}
use Rattle.sync_rules.proofs.ConsistencyLaws.{legal_consistent}

-- ---- counts

same_bool : (a b : Bool) → (a ≡ true → b ≡ true) → (b ≡ true → a ≡ true) → a ≡ b
same_bool true b up down = sym (up refl)
same_bool false true up down = down refl
same_bool false false up down = refl

tally_never : (xs : List Held) → tally (λ h. false) xs ≡ 0
tally_never [] = refl
tally_never (x ∷ xs) = tally_never xs

-- one element more, which passes at most one of two tests
one_or : (a b : Bool) (n i k : ℕ) → (a ≡ true → b ≡ false) → n ≡ i + k → cond (a || b) (1 + n) n ≡ cond a (1 + i) i + cond b (1 + k) k
one_or true true n i k apart e = absurd (both_ways true (apart refl) refl)
one_or true false n i k apart e = omega (arith, e)
one_or false true n i k apart e = omega (arith, e)
one_or false false n i k apart e = e

-- no element passes both tests
tally_or : (p q : Held → Bool) → ((x : Held) → p x ≡ true → q x ≡ false) → (xs : List Held) → tally (λ h. p h || q h) xs ≡ tally p xs + tally q xs
tally_or p q apart [] = omega arith
tally_or p q apart (x ∷ xs) =
    one_or (p x) (q x) (tally (λ h. p h || q h) xs) (tally p xs) (tally q xs) (apart x) (tally_or p q apart xs)

tally_absent : (hs : List Held) (d : Id) → is_among (ids_of_held hs) d ≡ false → tally (λ h. same_id d h.id) hs ≡ 0
tally_absent [] d none = refl
tally_absent (h ∷ hs) d none =
    let parts = or_parts (same_id h.id d) (is_among (ids_of_held hs) d) none in
    ap (λ b. cond b (1 + tally (λ x. same_id d x.id) hs) (tally (λ x. same_id d x.id) hs)) (same_id_swap d h.id ∙ parts.0)
    ∙ tally_absent hs d parts.1

-- of distinct ids one is that of a held message
tally_one : (hs : List Held) (d : Id) → has_repeat (ids_of_held hs) ≡ false → is_held hs d ≡ true → tally (λ h. same_id d h.id) hs ≡ 1
tally_one [] d distinct held = absurd (false≢true held)
tally_one (h ∷ hs) d distinct held = by (λ k. tally_one hs d parts.1 k) (same_id h.id d) refl held
  where
    parts : (is_among (ids_of_held hs) h.id ≡ false) × (has_repeat (ids_of_held hs) ≡ false)
    parts = or_parts (is_among (ids_of_held hs) h.id) (has_repeat (ids_of_held hs)) distinct

    there : (b : Bool) → same_id h.id d ≡ b → tally (λ x. same_id d x.id) (h ∷ hs) ≡ cond b (1 + tally (λ x. same_id d x.id) hs) (tally (λ x. same_id d x.id) hs)
    there b e = ap (λ t. cond t (1 + tally (λ x. same_id d x.id) hs) (tally (λ x. same_id d x.id) hs)) (same_id_swap d h.id ∙ e)

    by : (is_held hs d ≡ true → tally (λ x. same_id d x.id) hs ≡ 1) → (b : Bool) → same_id h.id d ≡ b
        → is_some (cond b (Some h) (held_at hs d)) ≡ true → tally (λ x. same_id d x.id) (h ∷ hs) ≡ 1
    by rest true e k =
        let none : tally (λ x. same_id d x.id) hs ≡ 0 =
        tally_absent hs d (ap (is_among (ids_of_held hs)) (sym (same_id-is h.id d e)) ∙ parts.0) in
        there true e ∙ ap (λ n. 1 + n) none
    by rest false e k = there false e ∙ rest k

-- distinct ids that are held are as many as the held messages that they name
tally_named : (hs : List Held) → has_repeat (ids_of_held hs) ≡ false → (ids : List Id) → has_repeat ids ≡ false
    → ((id : Id) → is_among ids id ≡ true → is_held hs id ≡ true) → tally (λ h. is_among ids h.id) hs ≡ length ids
tally_named hs distinct [] apart held = tally_never hs
tally_named hs distinct (id ∷ ids) apart held =
    let parts = or_parts (is_among ids id) (has_repeat ids) apart in
    let both = tally_or (λ h. same_id id h.id) (λ h. is_among ids h.id) (λ h e. ap (is_among ids) (sym (same_id-is id h.id e)) ∙ parts.0) hs in
    let one = tally_one hs id distinct (held id (or_left (same_id id id) (is_among ids id) (same_id_itself id))) in
    let rest = tally_named hs distinct ids parts.1 (λ x among. held x (or_right (same_id id x) (is_among ids x) among)) in
    omega (arith, both, one, rest)

-- ---- the ends of a settled journal

module _ (clients : Meaning) (f : Facts) (s : SoundFacts clients f) (fit : IsConsistent f) (settled : IsSettled clients f) where
  good_same : (id : Id) → good (graph_of clients f) (length f.held) id ≡ is_among f.delivered id
  good_same id =
      same_bool (good (graph_of clients f) (length f.held) id) (is_among f.delivered id)
      (good_is_delivered clients f s settled (length f.held) id) (good_if_delivered clients f s id)

  bad_same : (id : Id) → bad (graph_of clients f) (length f.held) id ≡ fin_set.contains f.invalid id
  bad_same id =
      same_bool (bad (graph_of clients f) (length f.held) id) (fin_set.contains f.invalid id)
      (bad_is_invalid clients f s settled (length f.held) id) (bad_if_invalid clients f s id)

  pub counts_ends : CountsEnds clients f
  counts_ends = record {
    good =
        sym (tally-is (λ h. good (graph_of clients f) (length f.held) h.id) f.held)
        ∙ ((λ i. tally (λ h. good_same h.id i) f.held)
        ∙ tally_named f.held fit.held.distinct f.delivered fit.ends.distinct
        (λ id among. fit.ends.judged_held id (fit.ends.delivered_judged id among)));
    bad =
        sym (tally-is (λ h. bad (graph_of clients f) (length f.held) h.id) f.held)
        ∙ ((λ i. tally (λ h. bad_same h.id i) f.held) ∙ tally-is (λ h. fin_set.contains f.invalid h.id) f.held);
  }

pub legal_counts : (clients : Meaning) (j : List (List Entry)) → Legal clients j → IsSettled clients (facts j) → CountsEnds clients (facts j)
legal_counts clients j l settled = counts_ends clients (facts j) (legal_sound clients j l) (legal_consistent clients j l) settled
