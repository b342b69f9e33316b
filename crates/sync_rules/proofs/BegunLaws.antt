-- The sessions that have begun, and those of them that are in the list of sessions.
use Rattle.std.proofs.Common.{◌≡◌, ◌+◌, ◌≤◌, true, List, [], ◌∷◌, ◌++◌, length, sym, subst, arith}
use Rattle.std.specs.List.{list_all}
use Rattle.std.proofs.lemmas.Bool.{and_parts, false≢true}
use Rattle.std.proofs.lemmas.List.{length_push}
use Rattle.sync_rules.specs.declared.entries.Entry.{Entry}
use Rattle.sync_rules.specs.declared.entries.Entry.TheVariants as entry
use Rattle.sync_rules.specs.Facts.{Facts, after, after_all, facts, nothing, entries_of}
use Rattle.sync_rules.specs.CountLaws.{AllBegunListed, JournalsCountBegun, is_no_brief}
use Rattle.sync_rules.proofs.Kept.{after_batches-is}

pub entry_keeps : (f : Facts) (e : Entry) → is_no_brief e ≡ true → AllBegunListed f → AllBegunListed (after f e)
entry_keeps f (entry.Session s) plain listed =
    let more : length (f.sessions ++ s ∷ []) ≡ length f.sessions + 1 = length_push f.sessions s in
    omega (arith, listed, more)
entry_keeps f (entry.Brief n) plain listed = absurd (false≢true plain)
entry_keeps f _ plain listed = listed

pub entries_keep : (f : Facts) (es : List Entry) → list_all is_no_brief es ≡ true → AllBegunListed f → AllBegunListed (after_all f es)
entries_keep f [] plain listed = listed
entries_keep f (e ∷ es) plain listed =
    let both = and_parts (is_no_brief e) (list_all is_no_brief es) plain in
    entries_keep (after f e) es both.1 (entry_keeps f e both.0 listed)

-- ---- no more are in the list than have begun

entry_counts : (f : Facts) (e : Entry) → length f.sessions ≤ f.begun → length (after f e).sessions ≤ (after f e).begun
entry_counts f (entry.Session s) few =
    let more : length (f.sessions ++ s ∷ []) ≡ length f.sessions + 1 = length_push f.sessions s in
    omega (arith, few, more)
entry_counts f (entry.Brief n) few = omega (arith, few)
entry_counts f _ few = few

pub entries_count : (f : Facts) (es : List Entry) → length f.sessions ≤ f.begun → length (after_all f es).sessions ≤ (after_all f es).begun
entries_count f [] few = few
entries_count f (e ∷ es) few = entries_count (after f e) es (entry_counts f e few)

pub journals_count : JournalsCountBegun
journals_count j =
    let at : length nothing.sessions ≤ nothing.begun = omega arith in
    subst (λ (f : Facts). length f.sessions ≤ f.begun) (sym (after_batches-is nothing j)) (entries_count nothing (entries_of j) at)
