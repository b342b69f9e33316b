-- Sets and alarms of contacts, in which a message is put where it belongs.
use Rattle.std.proofs.Common.{◌≡◌, ℕ, suc, ◌<◌, ◌≤◌, Bool, true, false, cond, not, ◌&&◌, ◌||◌, nat_eq, List, [], ◌∷◌, length, refl, sym, ◌∙◌, ap, arith, eq-eqb, eqb-true, inl, inr}
use Rattle.std.specs.Cmp.{both_tied, unsigned_ties, nat_eq_equiv}
use Rattle.std.specs.List.{list_any, slice_index_or}
use Rattle.std.specs.Ordering.{is_eq, is_gt, nat_cmp, ordering_then}
use Rattle.std.specs.declared.cmp.Ordering.{Ordering}
use Rattle.std.specs.declared.cmp.Ordering.TheVariants.{Less, Equal, Greater}
use Rattle.std.proofs.lemmas.Bool.{and_parts, false≢true, or_cases, or_left, or_right}
use Rattle.std.proofs.lemmas.Cmp.{ranked}
use Rattle.sync_rules.specs.Facts.{Row}
use Rattle.journal_audit.specs.declared.ready.Ready.{Ready}
use Rattle.journal_audit.specs.Numbers.{has_alarm, has_for, has_time}
use Rattle.journal_audit.specs.Standing.{IsPlaced, StandsOn, stands}

-- ---- times

abbrev pub time_cmp : ℕ × ℕ → ℕ × ℕ → Ordering
time_cmp a b = ordering_then (nat_cmp a.0 b.0) (nat_cmp a.1 b.1)

at_time : (k q : ℕ × ℕ) → is_eq (time_cmp k q) ≡ (nat_eq q.0 k.0 && nat_eq q.1 k.1)
at_time k q =
    sym (both_tied (nat_eq k.0 q.0) (nat_eq k.1 q.1) (nat_cmp k.0 q.0) (nat_cmp k.1 q.1) (unsigned_ties k.0 q.0) (unsigned_ties k.1 q.1))
    ∙ (λ i. nat_eq_equiv.symm k.0 q.0 i && nat_eq_equiv.symm k.1 q.1 i)

time-is : (times : List (ℕ × ℕ)) (t n : ℕ) → list_any (λ k. is_eq (time_cmp (t, n) k)) times ≡ has_time times t n
time-is [] t n = refl
time-is (x ∷ xs) t n = λ i. at_time (t, n) x i || time-is xs t n i

-- one time put in or taken out
pub time_put : (old new : List (ℕ × ℕ)) (t n : ℕ) (b : Bool)
    → ((q : ℕ × ℕ) → list_any (λ x. is_eq (time_cmp q x)) new ≡ cond (is_eq (time_cmp (t, n) q)) b (list_any (λ x. is_eq (time_cmp q x)) old))
    → (u m : ℕ) → has_time new u m ≡ cond (nat_eq u t && nat_eq m n) b (has_time old u m)
time_put old new t n b put u m = sym (time-is new u m) ∙ put (u, m) ∙ (λ i. cond (at_time (t, n) (u, m) i) b (time-is old u m i))

-- a time that is not before another of the same set
le_time : (k q : ℕ × ℕ) → is_gt (time_cmp k q) ≡ false → k.0 ≤ q.0
le_time k q e =
    elim (nat_cmp k.0 q.0) as (λ r. nat_cmp k.0 q.0 ≡ r → is_gt (ordering_then r (nat_cmp k.1 q.1)) ≡ false → k.0 ≤ q.0) [
      | Less ↦ λ p no. let lt : k.0 < q.0 = ranked k.0 q.0 Less (sym p) in omega (arith, lt)
      | Equal ↦ λ p no. let same : k.0 ≡ q.0 = ranked k.0 q.0 Equal (sym p) in omega (arith, same)
      | Greater ↦ λ p no. absurd (false≢true (sym no))
    ] refl e

-- each time of a set is ahead where the least is
pub all_ahead : (least : ℕ × ℕ) (times : List (ℕ × ℕ)) (now : ℕ) → ((k : ℕ) (d : ℕ × ℕ) → k < length times → is_gt (time_cmp least (slice_index_or times k d)) ≡ false) → now < least.0
    → (t n : ℕ) → has_time times t n ≡ true → now < t
all_ahead least [] now all later t n some = absurd (false≢true some)
all_ahead least (x ∷ xs) now all later t n some =
    elim (or_cases (nat_eq x.0 t && nat_eq x.1 n) (has_time xs t n) some) [
      | inl here ↦
          let same : x.0 ≡ t = eqb-true x.0 t (and_parts (nat_eq x.0 t) (nat_eq x.1 n) here).0 in
          let least_of : least.0 ≤ x.0 = le_time least x (all 0 x (omega arith)) in
          omega (arith, same, least_of, later)
      | inr rest ↦ all_ahead least xs now (λ k d under. all (suc k) d (omega (arith, under))) later t n rest
    ]

-- ---- one message

apart : (a b c : Bool) → (a && c) ≡ false → (a && (b && c)) ≡ false
apart false b c e = refl
apart true false c e = refl
apart true true c e = e

-- what stands of other messages stays
still : (a ha ha' hw hw' hl hl' : Bool) → ha' ≡ ha → hw' ≡ hw → (hl ≡ true → hl' ≡ true) → ((not a || ha) && (hw || hl)) ≡ true → ((not a || ha') && (hw' || hl')) ≡ true
still a ha ha' hw hw' hl hl' asked awake keeps both =
    let parts = and_parts (not a || ha) (hw || hl) both in
    let first : (not a || ha') ≡ true = ap (λ b. not a || b) asked ∙ parts.0 in
    let second : (hw' || hl') ≡ true = elim (or_cases hw hl parts.1) [
      | inl wakes ↦ or_left hw' hl' (awake ∙ wakes)
      | inr rings ↦ or_right hw' hl' (keeps rings)
    ] in
    λ i. (first i && second i)

now_asked : (asked : Bool) → (not asked || asked) ≡ true
now_asked true = refl
now_asked false = refl

pub placed_by : (old new : Ready) (contact n : ℕ) (goes timely : Bool) (row : Row) → new.cursors ≡ old.cursors
    → ((c m : ℕ) → has_for new.asked c m ≡ cond (nat_eq c contact && nat_eq m n) (goes && row.asked) (has_for old.asked c m))
    → ((c m : ℕ) → has_for new.awake c m ≡ cond (nat_eq c contact && nat_eq m n) (goes && timely) (has_for old.awake c m))
    → ((c t m : ℕ) → has_alarm new.alarms c t m
    ≡ cond ((goes && not (goes && timely)) && (nat_eq c contact && (nat_eq t row.expiry && nat_eq m n))) true (has_alarm old.alarms c t m))
    → IsPlaced old new contact n goes row
placed_by old new contact n goes timely row same asked awake alarms = record {
  here = here;
  others = λ c m r e standing.
      still r.asked (has_for old.asked c m) (has_for new.asked c m) (has_for old.awake c m) (has_for new.awake c m) (has_alarm old.alarms c r.expiry m) (has_alarm new.alarms c r.expiry m)
      (asked c m ∙ ap (λ b. cond b (goes && row.asked) (has_for old.asked c m)) e) (awake c m ∙ ap (λ b. cond b (goes && timely) (has_for old.awake c m)) e)
      (λ had. alarms c r.expiry m ∙ (ap (cond ((goes && not (goes && timely)) && (nat_eq c contact && (nat_eq r.expiry row.expiry && nat_eq m n))) true) had ∙ both _)) standing;
  cursors = same;
}
  where
    both : (b : Bool) → cond b true true ≡ true
    both true = refl
    both false = refl

    itself : (a b : ℕ) → (nat_eq a a && nat_eq b b) ≡ true
    itself a b = λ i. eq-eqb a a refl i && eq-eqb b b refl i

    thrice : (a b c : ℕ) → (nat_eq a a && (nat_eq b b && nat_eq c c)) ≡ true
    thrice a b c = λ i. eq-eqb a a refl i && itself b c i

    or_rings : (t l : Bool) → (t || cond ((true && not (true && t)) && true) true l) ≡ true
    or_rings true l = refl
    or_rings false l = refl

    here : goes ≡ true → stands new contact n row ≡ true
    here e =
        let first : has_for new.asked contact n ≡ row.asked =
        asked contact n ∙ ((λ i. cond (itself contact n i) (e i && row.asked) (has_for old.asked contact n))) in
        let second : has_for new.awake contact n ≡ timely =
        awake contact n ∙ ((λ i. cond (itself contact n i) (e i && timely) (has_for old.awake contact n))) in
        let third : has_alarm new.alarms contact row.expiry n ≡ cond ((true && not (true && timely)) && true) true (has_alarm old.alarms contact row.expiry n) =
        alarms contact row.expiry n ∙ (λ i. cond ((e i && not (e i && timely)) && thrice contact row.expiry n i) true (has_alarm old.alarms contact row.expiry n)) in
        (λ i. (not row.asked || first i) && (second i || third i))
        ∙ (λ i. now_asked row.asked i && or_rings timely (has_alarm old.alarms contact row.expiry n) i)

-- an alarm of the message itself was taken out before
pub placed_behind : (old mid new : Ready) (contact was n : ℕ) (goes : Bool) (row : Row) → mid.asked ≡ old.asked → mid.awake ≡ old.awake → mid.cursors ≡ old.cursors
    → ((c t m : ℕ) → has_alarm mid.alarms c t m ≡ cond (nat_eq c contact && (nat_eq t was && nat_eq m n)) false (has_alarm old.alarms c t m))
    → IsPlaced mid new contact n goes row → IsPlaced old new contact n goes row
placed_behind old mid new contact was n goes row asked awake cursors alarms placed = record {
  here = placed.here;
  others = λ c m r e standing.
      placed.others c m r e
      (still r.asked (has_for old.asked c m) (has_for mid.asked c m) (has_for old.awake c m) (has_for mid.awake c m) (has_alarm old.alarms c r.expiry m) (has_alarm mid.alarms c r.expiry m)
      (ap (λ (s : List (List ℕ)). has_for s c m) asked) (ap (λ (s : List (List ℕ)). has_for s c m) awake)
      (λ had. alarms c r.expiry m ∙ (ap (λ b. cond b false (has_alarm old.alarms c r.expiry m)) (apart (nat_eq c contact) (nat_eq r.expiry was) (nat_eq m n) e) ∙ had)) standing);
  cursors = placed.cursors ∙ cursors;
}

-- a message is awake, and one of its alarms was taken out
pub rung : (old new : Ready) (contact time n : ℕ) → new.cursors ≡ old.cursors → new.asked ≡ old.asked
    → ((c m : ℕ) → has_for new.awake c m ≡ cond (nat_eq c contact && nat_eq m n) true (has_for old.awake c m))
    → ((c t m : ℕ) → has_alarm new.alarms c t m ≡ cond (nat_eq c contact && (nat_eq t time && nat_eq m n)) false (has_alarm old.alarms c t m))
    → StandsOn old new
rung old new contact time n cursors asked awake alarms = record {
  stay = λ c m r standing. by c m r standing (nat_eq c contact && nat_eq m n) refl;
  cursors = cursors;
}
  where
    by : (c m : ℕ) (r : Row) → stands old c m r ≡ true → (b : Bool) → (nat_eq c contact && nat_eq m n) ≡ b → stands new c m r ≡ true
    by c m r standing true e =
        let first = (and_parts (not r.asked || has_for old.asked c m) (has_for old.awake c m || has_alarm old.alarms c r.expiry m) standing).0 in
        let wakes : has_for new.awake c m ≡ true = awake c m ∙ ap (λ b. cond b true (has_for old.awake c m)) e in
        let kept : (not r.asked || has_for new.asked c m) ≡ true = ap (λ (s : List (List ℕ)). not r.asked || has_for s c m) asked ∙ first in
        let one : (has_for new.awake c m || has_alarm new.alarms c r.expiry m) ≡ true = or_left (has_for new.awake c m) _ wakes in
        λ i. kept i && one i
    by c m r standing false e =
        still r.asked (has_for old.asked c m) (has_for new.asked c m) (has_for old.awake c m) (has_for new.awake c m) (has_alarm old.alarms c r.expiry m) (has_alarm new.alarms c r.expiry m)
        (ap (λ (s : List (List ℕ)). has_for s c m) asked) (awake c m ∙ ap (λ b. cond b true (has_for old.awake c m)) e)
        (λ had. alarms c r.expiry m ∙ (ap (λ b. cond b false (has_alarm old.alarms c r.expiry m)) (apart (nat_eq c contact) (nat_eq r.expiry time) (nat_eq m n) e) ∙ had)) standing
