-- The steps that are open in some facts, one after the other: how many turns find them all, and that they read groups and
-- held messages with their ends alone.
use Rattle.std.proofs.Common.{◌≡◌, ℕ, zero, suc, ◌+◌, ◌≤◌, List, [], ◌∷◌, ◌++◌, refl, sym, ◌∙◌, ap, arith, Some, None}
use Rattle.std.specs.FinSet as fin_set
use Rattle.sync_rules.specs.declared.entries.Entry.{Entry}
use Rattle.sync_rules.specs.declared.entries.Entry.TheVariants as entry
use Rattle.sync_rules.specs.Clients.{Meaning}
use Rattle.sync_rules.specs.Facts.{Facts, Held, Id, Ids, after, after_all}
use Rattle.sync_rules.specs.Growth.{HasSameSteps}
use Rattle.sync_rules.specs.Left.{left_among, left_for, left_of}
use Rattle.sync_rules.specs.Legal.{IsSettling}
use Rattle.sync_rules.specs.Steps.{IsSettled, next}
use Rattle.sync_rules.specs.EntryTests.{IsSettlingEntry}
use Rattle.sync_rules.proofs.LeftLaws.{step_lowers}
use Rattle.sync_rules.proofs.StepKinds.{same_next}
use Rattle.sync_rules.proofs.StepLaws.{next_is_settling}
use Rattle.brief_account.specs.Account.{cascade, settling_of, steps_from}

-- ---- turns

module _ (clients : Meaning) where
  -- where no step is open there is none for any number of turns
  pub no_cascade : (g : Facts) (n : ℕ) → IsSettled clients g → cascade clients n g ≡ []
  no_cascade g zero settled = refl
  no_cascade g (suc n) settled = ap (steps_from (cascade clients n) g) settled

  cascade_more : (g : Facts) (n : ℕ) (e : Entry) → next clients g ≡ Some e
      → cascade clients (suc n) g ≡ e ∷ cascade clients n (after g e)
  cascade_more g n e open_now = ap (steps_from (cascade clients n) g) open_now

  -- a step that is open is one that is left
  some_left : (g : Facts) (e : Entry) (n : ℕ) → next clients g ≡ Some e → left_of g ≤ n → left_of (after g e) + 1 ≤ n
  some_left g e n open_now few = let lower = step_lowers clients g e open_now in omega (arith, lower, few)

  none_left : (g : Facts) → left_of g ≤ 0 → IsSettled clients g
  none_left g none =
      elim (next clients g) as (λ o. next clients g ≡ o → next clients g ≡ None) [
        | None ↦ λ settled. settled
        | Some e ↦ λ open_now. let no : ⊥ = let more = some_left g e 0 open_now none in omega (arith, more) in absurd no
      ] refl

  -- as many turns as steps are left find all steps
  same_turns : (n m : ℕ) (g : Facts) → left_of g ≤ n → left_of g ≤ m → cascade clients n g ≡ cascade clients m g
  same_turns zero m g few many = sym (no_cascade g m (none_left g few))
  same_turns (suc n) zero g few many = no_cascade g (suc n) (none_left g many)
  same_turns (suc n) (suc m) g few many =
      elim (next clients g) as (λ o. next clients g ≡ o → cascade clients (suc n) g ≡ cascade clients (suc m) g) [
        | None ↦ λ settled. no_cascade g (suc n) settled ∙ sym (no_cascade g (suc m) settled)
        | Some e ↦ λ open_now.
            let one = some_left g e (suc n) open_now few in
            let other = some_left g e (suc m) open_now many in
            cascade_more g n e open_now
            ∙ (ap (λ (t : List Entry). e ∷ t) (same_turns n m (after g e) (omega (arith, one)) (omega (arith, other)))
            ∙ sym (cascade_more g m e open_now))
      ] refl

  pub enough : (g : Facts) (n : ℕ) → left_of g ≤ n → cascade clients n g ≡ settling_of clients g
  enough g n few = same_turns n (left_of g) g few (omega arith)

  pub settling_none : (g : Facts) → IsSettled clients g → settling_of clients g ≡ []
  settling_none g settled = no_cascade g (left_of g) settled

  pub settling_more : (g : Facts) (e : Entry) → next clients g ≡ Some e
      → settling_of clients g ≡ e ∷ settling_of clients (after g e)
  settling_more g e open_now =
      let lower = step_lowers clients g e open_now in
      sym (enough g (suc (left_of g)) (omega arith))
      ∙ (cascade_more g (left_of g) e open_now
      ∙ ap (λ (t : List Entry). e ∷ t) (enough (after g e) (left_of g) (omega (arith, lower))))

  -- ---- each is a step, and none is open behind them

  cascade_steps : (n : ℕ) (g : Facts) → IsSettling clients g (cascade clients n g)
  cascade_steps zero g = tt
  cascade_steps (suc n) g =
      elim (next clients g) as (λ o. next clients g ≡ o → IsSettling clients g (steps_from (cascade clients n) g o)) [
        | None ↦ λ settled. tt
        | Some e ↦ λ open_now. (open_now, cascade_steps n (after g e))
      ] refl

  pub settling_steps : (g : Facts) → IsSettling clients g (settling_of clients g)
  settling_steps g = cascade_steps (left_of g) g

  cascade_settles : (n : ℕ) (g : Facts) → left_of g ≤ n → IsSettled clients (after_all g (cascade clients n g))
  cascade_settles zero g few = none_left g few
  cascade_settles (suc n) g few =
      elim (next clients g) as
      (λ o. next clients g ≡ o → IsSettled clients (after_all g (steps_from (cascade clients n) g o))) [
        | None ↦ λ settled. settled
        | Some e ↦ λ open_now.
            let one = some_left g e (suc n) open_now few in
            cascade_settles n (after g e) (omega (arith, one))
      ] refl

  pub settling_settles : (g : Facts) → IsSettled clients (after_all g (settling_of clients g))
  settling_settles g = cascade_settles (left_of g) g (omega arith)

-- ---- facts with the same steps

-- facts with these ends
abbrev with_ends : Facts → Ids → Ids → List Id → Facts
with_ends f judged invalid delivered = record f { judged = judged; invalid = invalid; delivered = delivered }

left_by_ends : (f g : Facts) (judged invalid : Ids) (delivered : List Id) (hs : List Held)
    → left_among (with_ends f judged invalid delivered) hs ≡ left_among (with_ends g judged invalid delivered) hs
left_by_ends f g judged invalid delivered [] = refl
left_by_ends f g judged invalid delivered (h ∷ hs) =
    ap (λ (n : ℕ). left_for (with_ends g judged invalid delivered) h.id + n)
    (left_by_ends f g judged invalid delivered hs)

pub same_left : (g h : Facts) → HasSameSteps g h → left_of h ≡ left_of g
same_left g h s =
    (λ i. left_among (with_ends h (s.judged i) (s.invalid i) (s.delivered i)) (s.held i))
    ∙ left_by_ends h g g.judged g.invalid g.delivered g.held

pub same_steps_behind : (g h : Facts) (e : Entry) → IsSettlingEntry e → HasSameSteps g h
    → HasSameSteps (after g e) (after h e)
same_steps_behind g h (entry.Judged id) is s = record {
  groups = s.groups;
  held = s.held;
  judged = ap (λ (ids : Ids). fin_set.insert ids id) s.judged;
  invalid = s.invalid;
  delivered = s.delivered;
}
same_steps_behind g h (entry.Deliver id) is s = record {
  groups = s.groups;
  held = s.held;
  judged = s.judged;
  invalid = s.invalid;
  delivered = ap (λ (ids : List Id). ids ++ id ∷ []) s.delivered;
}
same_steps_behind g h (entry.Invalid id) is s = record {
  groups = s.groups;
  held = s.held;
  judged = s.judged;
  invalid = ap (λ (ids : Ids). fin_set.insert ids id) s.invalid;
  delivered = s.delivered;
}
same_steps_behind g h _ is s = absurd is

module _ (clients : Meaning) where
  pub same_steps_behind_all : (es : List Entry) (g h : Facts) → IsSettling clients g es → HasSameSteps g h
      → HasSameSteps (after_all g es) (after_all h es)
  same_steps_behind_all [] g h settling s = s
  same_steps_behind_all (e ∷ es) g h settling s =
      same_steps_behind_all es (after g e) (after h e) settling.1
      (same_steps_behind g h e (next_is_settling clients g e settling.0) s)

  same_cascade : (n : ℕ) (g h : Facts) → HasSameSteps g h → cascade clients n h ≡ cascade clients n g
  same_cascade zero g h s = refl
  same_cascade (suc n) g h s =
      elim (next clients g) as
      (λ o. next clients g ≡ o → cascade clients (suc n) h ≡ steps_from (cascade clients n) g o) [
        | None ↦ λ settled. no_cascade clients h (suc n) (same_next clients g h s ∙ settled)
        | Some e ↦ λ open_now.
            cascade_more clients h n e (same_next clients g h s ∙ open_now)
            ∙ ap (λ (t : List Entry). e ∷ t)
            (same_cascade n (after g e) (after h e) (same_steps_behind g h e (next_is_settling clients g e open_now) s))
      ] refl

  pub same_settling : (g h : Facts) → HasSameSteps g h → settling_of clients g ≡ settling_of clients h
  same_settling g h s =
      sym (same_cascade (left_of g) g h s)
      ∙ sym (ap (λ (n : ℕ). cascade clients n h) (same_left g h s))
