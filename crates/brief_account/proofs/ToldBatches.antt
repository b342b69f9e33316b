-- What is told of the messages, cut into batches, follows a journal.
use Rattle.std.proofs.Common.{◌≡◌, ◌+◌, ◌<◌, ◌≤◌, true, false, cond, List, [], ◌∷◌, ◌++◌, length, refl, sym, subst, arith, ltb-true, ltb-false, Some}
use Rattle.std.specs.Prelude.{nat_lt}
use Rattle.std.proofs.lemmas.List.{length_push}
use Rattle.sync_rules.specs.declared.entries.Entry.{Entry}
use Rattle.sync_rules.specs.declared.entries.Entry.TheVariants as entry
use Rattle.sync_rules.specs.declared.limits.TheConstants.{MAX_STEPS}
use Rattle.sync_rules.specs.Clients.{Meaning}
use Rattle.sync_rules.specs.Facts.{Facts, after, after_all, after_batches}
use Rattle.sync_rules.specs.Legal.{GoesOn, IsSettling}
use Rattle.sync_rules.specs.Steps.{next}
use Rattle.sync_rules.proofs.Kept.{after_all-append}
use Rattle.sync_rules.proofs.Settling.{goes_on_both}
use Rattle.sync_rules.proofs.WorkLaws.{allowed_settling}
use Rattle.brief_account.specs.Brief.{closed, filled, is_kept}
use Rattle.brief_account.proofs.Accounts.{AllTell}

pub closed_after : (g : Facts) (front : List Entry) → after_batches g (closed front) ≡ after_all g front
closed_after g [] = refl
closed_after g (e ∷ es) = refl

module _ (clients : Meaning) where
  settling-push : (g : Facts) (es : List Entry) (e : Entry) → IsSettling clients g es
      → next clients (after_all g es) ≡ Some e
      → IsSettling clients g (es ++ e ∷ [])
  settling-push g [] e settling open_now = (open_now, tt)
  settling-push g (x ∷ es) e settling open_now = (settling.0, settling-push (after g x) es e settling.1 open_now)

  closed_goes : (g : Facts) (front : List Entry) → IsSettling clients g front → length front ≤ MAX_STEPS
      → GoesOn clients g (closed front)
  closed_goes g [] settling few = tt
  closed_goes g (e ∷ es) settling few = (allowed_settling clients g (e ∷ es) (omega arith, few, settling), tt)

  -- the rest of what is told goes on behind every batch of steps
  abbrev RestGoes : List Entry → Type 0
  RestGoes es = (g : Facts) (front : List Entry) → IsSettling clients g front → length front ≤ MAX_STEPS
      → AllTell clients (after_all g front) es
      → GoesOn clients g (filled MAX_STEPS is_kept front es)

  -- a step, in the batch that is being filled or in a new one
  step_goes : (g : Facts) (front : List Entry) (e : Entry) (es : List Entry) → RestGoes es
      → IsSettling clients g front → length front ≤ MAX_STEPS
      → next clients (after_all g front) ≡ Some e → AllTell clients (after (after_all g front) e) es
      → GoesOn clients g (cond (nat_lt (length front) MAX_STEPS) (filled MAX_STEPS is_kept (front ++ e ∷ []) es)
      (front ∷ filled MAX_STEPS is_kept (e ∷ []) es))
  step_goes g front e es rest settling few open_now told =
      elim (nat_lt (length front) MAX_STEPS) as (λ b. nat_lt (length front) MAX_STEPS ≡ b
      → GoesOn clients g (cond b (filled MAX_STEPS is_kept (front ++ e ∷ []) es)
      (front ∷ filled MAX_STEPS is_kept (e ∷ []) es))) [
        | true ↦ λ room.
            let below : length front < MAX_STEPS = ltb-true (length front) MAX_STEPS room in
            let long : length (front ++ e ∷ []) ≡ length front + 1 = length_push front e in
            rest g (front ++ e ∷ []) (settling-push g front e settling open_now) (omega (arith, below, long))
            (subst (λ (x : Facts). AllTell clients x es) (sym (after_all-append g front (e ∷ []))) told)
        | false ↦ λ full.
            let above : MAX_STEPS ≤ length front = ltb-false (length front) MAX_STEPS full in (
              allowed_settling clients g front (omega (arith, above), few, settling),
              rest (after_all g front) (e ∷ []) (open_now, tt) (omega arith) told,
            )
      ] refl

  pub told_goes : (es : List Entry) → RestGoes es
  told_goes [] g front settling few told = closed_goes g front settling few
  told_goes (entry.Kept from m ∷ es) g front settling few told =
      let e : Entry = entry.Kept from m in
      goes_on_both clients g (closed front) ((e ∷ []) ∷ filled MAX_STEPS is_kept [] es)
      (closed_goes g front settling few)
      (subst (λ (x : Facts). GoesOn clients x ((e ∷ []) ∷ filled MAX_STEPS is_kept [] es))
      (sym (closed_after g front)) (
        (refl, told.0.0, (told.0.1, told.0.2)),
        told_goes es (after (after_all g front) e) [] tt (omega arith) told.1,
      ))
  told_goes (entry.Judged id ∷ es) g front settling few told =
      step_goes g front (entry.Judged id) es (told_goes es) settling few told.0 told.1
  told_goes (entry.Deliver id ∷ es) g front settling few told =
      step_goes g front (entry.Deliver id) es (told_goes es) settling few told.0 told.1
  told_goes (entry.Invalid id ∷ es) g front settling few told =
      step_goes g front (entry.Invalid id) es (told_goes es) settling few told.0 told.1
  told_goes (_ ∷ es) g front settling few told = absurd told.0
