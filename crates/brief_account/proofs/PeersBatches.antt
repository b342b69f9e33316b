-- The batches of rows and wanted ids of a brief account: entries that suit may follow in batches of MAX_ROWS.
use Rattle.std.proofs.Common.{◌≡◌, ℕ, ◌+◌, ◌<◌, ◌≤◌, true, false, cond, nat_lt, List, [], ◌∷◌, ◌++◌, length, length-append, append_assoc, refl, sym, ◌∙◌, subst, arith}
use Rattle.std.proofs.lemmas.Bool.{ltb-true, ltb-false}
use Rattle.sync_rules.specs.declared.entries.Entry.{Entry}
use Rattle.sync_rules.specs.declared.entries.Entry.TheVariants as entry
use Rattle.sync_rules.specs.declared.states.Start.TheVariants as start
use Rattle.sync_rules.specs.declared.limits.TheConstants.{MAX_ROWS}
use Rattle.sync_rules.specs.Clients.{Meaning}
use Rattle.sync_rules.specs.Facts.{Facts, after, after_all}
use Rattle.sync_rules.specs.Steps.{IsSettled}
use Rattle.sync_rules.specs.Legal.{Allowed, AreRows, GoesOn, IsRowsBatch, SuitsRows}
use Rattle.sync_rules.proofs.StepKinds.{same_next}
use Rattle.brief_account.specs.Brief.{filled, never_alone}

-- ---- fronts and backs of entries that suit

suits_front : (h : Facts) (es fs : List Entry) → AreRows h (es ++ fs) → AreRows h es
suits_front h [] fs a = tt
suits_front h (e ∷ es) fs a = (a.0, suits_front (after h e) es fs a.1)

suits_back : (h : Facts) (es fs : List Entry) → AreRows h (es ++ fs) → AreRows (after_all h es) fs
suits_back h [] fs a = a
suits_back h (e ∷ es) fs a = suits_back (after h e) es fs a.1

-- ---- what entries of rows leave

-- a brief account without open steps
record IsOpen (clients : Meaning) (h : Facts) : Type 0 where
  opening : h.start ≡ start.Opening
  settled : IsSettled clients h

open_after : (clients : Meaning) (h : Facts) (e : Entry) → SuitsRows h e → IsOpen clients h → IsOpen clients (after h e)
open_after clients h (entry.Tried t) suits o = record {
  opening = λ i. (after (record h { start = o.opening i }) (entry.Tried t)).start;
  settled = same_next clients h (after h (entry.Tried t))
      (record { groups = refl; held = refl; judged = refl; invalid = refl; delivered = refl }) ∙ o.settled;
}
open_after clients h (entry.Want contact id) suits o = record {
  opening = λ i. (after (record h { start = o.opening i }) (entry.Want contact id)).start;
  settled = same_next clients h (after h (entry.Want contact id))
      (record { groups = refl; held = refl; judged = refl; invalid = refl; delivered = refl }) ∙ o.settled;
}
open_after clients h _ suits o = absurd suits

open_all : (clients : Meaning) (h : Facts) (es : List Entry) → AreRows h es → IsOpen clients h
    → IsOpen clients (after_all h es)
open_all clients h [] suits o = o
open_all clients h (e ∷ es) suits o = open_all clients (after h e) es suits.1 (open_after clients h e suits.0 o)

-- ---- one batch

rows_allowed : (clients : Meaning) (h : Facts) (b : List Entry) → IsRowsBatch clients h b → Allowed clients h b
rows_allowed clients h [] is = absurd (let some : 1 ≤ 0 = is.some in omega (arith, some))
rows_allowed clients h (entry.Tried t ∷ es) is = is
rows_allowed clients h (entry.Want contact id ∷ es) is = is
rows_allowed clients h (_ ∷ es) is = absurd is.suits.0

batch_allowed : (clients : Meaning) (h : Facts) (b : List Entry) → IsOpen clients h → 1 ≤ length b → length b ≤ MAX_ROWS
    → AreRows h b → Allowed clients h b
batch_allowed clients h b o some few suits =
    rows_allowed clients h b (record { opening = o.opening; settled = o.settled; some = some; few = few; suits = suits })

-- ---- all batches

module _ (clients : Meaning) (most : ℕ) (some : 1 ≤ most) (within : most ≤ MAX_ROWS) where
  filled_open : (h : Facts) (front es : List Entry) → IsOpen clients h → length front ≤ most → AreRows h (front ++ es)
      → GoesOn clients h (filled most never_alone front es)
  filled_open h [] [] o few suits = tt
  filled_open h (x ∷ front) [] o few suits = (
    batch_allowed clients h (x ∷ front) o (omega arith) (omega (arith, few, within))
        (suits_front h (x ∷ front) [] suits),
    tt,
  )
  filled_open h front (e ∷ es) o few suits =
      elim (nat_lt (length front) most) as (λ b. nat_lt (length front) most ≡ b
      → GoesOn clients h (cond b (filled most never_alone (front ++ e ∷ []) es)
      (front ∷ filled most never_alone (e ∷ []) es))) [
        | true ↦ λ room.
            filled_open h (front ++ e ∷ []) es o
            (let less : length front < most = ltb-true (length front) most room in
            let longer : length (front ++ e ∷ []) ≡ length front + 1 = length-append front (e ∷ []) in
            omega (arith, less, longer))
            (subst (AreRows h) (sym (append_assoc front (e ∷ []) es)) suits)
        | false ↦ λ full.
            let no_less : most ≤ length front = ltb-false (length front) most full in
            let mine : AreRows h front = suits_front h front (e ∷ es) suits in (
              batch_allowed clients h front o (omega (arith, no_less, some)) (omega (arith, few, within)) mine,
              filled_open (after_all h front) (e ∷ []) es (open_all clients h front mine o) some
                  (suits_back h front (e ∷ es) suits),
            )
      ] refl

-- entries that suit may follow in batches
pub filled_follow : (clients : Meaning) (h : Facts) (es : List Entry) → h.start ≡ start.Opening → IsSettled clients h
    → AreRows h es
    → GoesOn clients h (filled MAX_ROWS never_alone [] es)
filled_follow clients h es opening settled suits =
    filled_open clients MAX_ROWS (omega arith) (omega arith) h [] es (record { opening = opening; settled = settled })
    (omega arith) suits
