-- The steps, or the rows and wanted ids, of a front of a batch.
use Rattle.std.proofs.Common.{◌≡◌, Bool, true, false, ◌&&◌, ℕ, ◌+◌, ◌<◌, List, [], ◌∷◌, ◌++◌, length, take, drop, get_or, refl, sym, ap, subst, ◌∙◌}
use Rattle.std.proofs.lemmas.List.{drop_more, take_more, take-append-drop}
use Rattle.sync_rules.specs.declared.entries.Entry.{Entry}
use Rattle.sync_rules.specs.Allows.{are_rows, is_some_of, same_entry, settles, suits_rows}
use Rattle.sync_rules.specs.Clients.{Meaning}
use Rattle.sync_rules.specs.Facts.{Facts, after, after_all}
use Rattle.sync_rules.specs.Steps.{next}
use Rattle.journal_state.specs.Stepping.{AreStepsOrRows, IsStepOrRow, PlaysFront}

after_all-push : (f : Facts) (es : List Entry) (e : Entry) → after_all f (es ++ e ∷ []) ≡ after (after_all f es) e
after_all-push f [] e = refl
after_all-push f (x ∷ es) e = after_all-push (after f x) es e

front-push : (clients : Meaning) (f : Facts) (es : List Entry) (e : Entry) → AreStepsOrRows clients f es → IsStepOrRow clients (after_all f es) e
    → AreStepsOrRows clients f (es ++ e ∷ [])
front-push clients f [] e s is = (is, tt)
front-push clients f (x ∷ es) e s is = (s.0, front-push clients (after f x) es e s.1 is)

-- the facts are those after the first entries, each of them the next step, or a row or wanted id that suits
pub record HasPlayed (clients : Meaning) (old new : Facts) (front : List Entry) : Type 0 where
  pub steps : AreStepsOrRows clients old front
  pub facts : new ≡ after_all old front

-- one more
pub played_more : (clients : Meaning) (old so_far new : Facts) (entries : List Entry) (k : ℕ) (e : Entry) → k < length entries → e ≡ get_or entries k e
    → HasPlayed clients old so_far (take k entries) → IsStepOrRow clients so_far e → new ≡ after so_far e → HasPlayed clients old new (take (k + 1) entries)
played_more clients old so_far new entries k e within is p step made =
    let more : take (k + 1) entries ≡ take k entries ++ e ∷ [] = take_more entries k e within ∙ ap (λ x. take k entries ++ x ∷ []) (sym is) in
    subst (HasPlayed clients old new) (sym more)
    (record {
      steps = front-push clients old (take k entries) e p.steps (subst (λ (f : Facts). IsStepOrRow clients f e) p.facts step);
      facts = made ∙ ap (λ f. after f e) p.facts ∙ sym (after_all-push old (take k entries) e);
    })

pub played_front : (clients : Meaning) (old new : Facts) (entries : List Entry) (k : ℕ) → HasPlayed clients old new (take k entries) → PlaysFront clients old new entries
played_front clients old new entries k p = record {
  front = take k entries;
  rest = drop k entries;
  parts = sym (take-append-drop k entries);
  steps = p.steps;
  facts = p.facts;
}

pub plays_nothing : (clients : Meaning) (old new : Facts) (entries : List Entry) → new ≡ old → PlaysFront clients old new entries
plays_nothing clients old new entries same = record { front = []; rest = entries; parts = refl; steps = tt; facts = same }

-- ---- a step of the test

left_of_list : (es : List Entry) (k : ℕ) (e : Entry) → k < length es → e ≡ get_or es k e → drop k es ≡ e ∷ drop (k + 1) es
left_of_list es k e within is = drop_more es k e within ∙ ap (λ x. x ∷ drop (k + 1) es) (sym is)

pub settles_next : (clients : Meaning) (so_far new : Facts) (es : List Entry) (k : ℕ) (e : Entry) (same : Bool) → k < length es → e ≡ get_or es k e
    → same ≡ is_some_of same_entry (next clients so_far) e → same ≡ true → new ≡ after so_far e
    → settles clients new (drop (k + 1) es) ≡ settles clients so_far (drop k es)
settles_next clients so_far new es k e same within is answer true_is made =
    let rest = drop (k + 1) es in
    ap (λ f. settles clients f rest) made
    ∙ (ap (λ b. b && settles clients (after so_far e) rest) (sym true_is ∙ answer)
    ∙ ap (settles clients so_far) (sym (left_of_list es k e within is)))

pub leads_next : (so_far new : Facts) (es : List Entry) (k : ℕ) (e : Entry) → k < length es → e ≡ get_or es k e → new ≡ after so_far e
    → after_all new (drop (k + 1) es) ≡ after_all so_far (drop k es)
leads_next so_far new es k e within is made =
    ap (λ f. after_all f (drop (k + 1) es)) made ∙ ap (after_all so_far) (sym (left_of_list es k e within is))

-- ---- a row of the test

pub rows_next : (so_far new : Facts) (es : List Entry) (k : ℕ) (e : Entry) (suits : Bool) → k < length es → e ≡ get_or es k e
    → suits ≡ suits_rows so_far e → suits ≡ true → new ≡ after so_far e → are_rows new (drop (k + 1) es) ≡ are_rows so_far (drop k es)
rows_next so_far new es k e suits within is answer true_is made =
    let rest = drop (k + 1) es in
    ap (λ f. are_rows f rest) made
    ∙ (ap (λ b. b && are_rows (after so_far e) rest) (sym true_is ∙ answer)
    ∙ ap (are_rows so_far) (sym (left_of_list es k e within is)))

-- an entry that does not suit decides
pub rows_stop : (so_far : Facts) (es : List Entry) (k : ℕ) (e : Entry) (suits : Bool) → k < length es → e ≡ get_or es k e
    → suits ≡ suits_rows so_far e → suits ≡ false → are_rows so_far (drop k es) ≡ false
rows_stop so_far es k e suits within is answer false_is =
    ap (are_rows so_far) (left_of_list es k e within is) ∙ ap (λ b. b && are_rows (after so_far e) (drop (k + 1) es)) (sym answer ∙ false_is)
