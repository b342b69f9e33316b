-- How a journal began: what opens a brief account, and where its own kinds of entry stand.
use Rattle.std.proofs.Common.{◌≡◌, true, false, List, [], ◌∷◌, refl, sym, ◌∙◌, ap}
use Rattle.std.specs.List.{list_all}
use Rattle.std.proofs.lemmas.Bool.{and_parts, false≢true}
use Rattle.sync_rules.specs.declared.entries.Entry.{Entry}
use Rattle.sync_rules.specs.declared.entries.Entry.TheVariants as entry
use Rattle.sync_rules.specs.declared.states.Start.{Start}
use Rattle.sync_rules.specs.declared.states.Start.TheVariants as start
use Rattle.sync_rules.specs.Facts.{Facts, after, after_all, after_batches, nothing, facts, entries_of, start_after}
use Rattle.sync_rules.specs.Allows.{is_opening}
use Rattle.sync_rules.specs.CountLaws.{is_no_brief}
use Rattle.sync_rules.proofs.Kept.{after_batches-is}

-- ---- an entry that begins no brief account opens none

pub stays_closed : (s : Start) (e : Entry) → is_no_brief e ≡ true → is_opening s ≡ false → is_opening (start_after s e) ≡ false
stays_closed start.Empty (entry.Brief n) plain closed = absurd (false≢true plain)
stays_closed start.Empty _ plain closed = refl
stays_closed start.Opening e plain closed = absurd (false≢true (sym closed))
stays_closed start.Going e plain closed = refl

pub stays_closed_all : (f : Facts) (es : List Entry) → list_all is_no_brief es ≡ true → is_opening f.start ≡ false
    → is_opening (after_all f es).start ≡ false
stays_closed_all f [] plain closed = closed
stays_closed_all f (e ∷ es) plain closed =
    let both = and_parts (is_no_brief e) (list_all is_no_brief es) plain in
    stays_closed_all (after f e) es both.1 (stays_closed f.start e both.0 closed)

-- so a journal without such an entry is no brief account
pub facts_closed : (j : List (List Entry)) → list_all is_no_brief (entries_of j) ≡ true → is_opening (facts j).start ≡ false
facts_closed j plain =
    ap (λ (f : Facts). is_opening f.start) (after_batches-is nothing j) ∙ stays_closed_all nothing (entries_of j) plain refl
