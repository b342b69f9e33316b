-- What holds of two counts of the facts: the sessions that have begun, and the steps that are left.
use Rattle.std.specs.Prelude.{◌≡◌, ◌+◌, ◌*◌, ◌≤◌, Bool, true, false, List, length, Some}
use Rattle.std.specs.List.{list_all}
use Rattle.sync_rules.specs.declared.entries.Entry.{Entry}
use Rattle.sync_rules.specs.declared.entries.Entry.TheVariants as entry
use Rattle.sync_rules.specs.Clients.{Meaning}
use Rattle.sync_rules.specs.Facts.{Facts, after, after_all, facts}
use Rattle.sync_rules.specs.Legal.{IsSettling}
use Rattle.sync_rules.specs.Left.{left_of}
use Rattle.sync_rules.specs.Steps.{next}

-- ---- sessions

-- an entry other than the first of a brief account
abbrev pub is_no_brief : Entry → Bool
is_no_brief (entry.Brief n) = false
is_no_brief _ = true

-- every session that has begun is in the list
abbrev pub AllBegunListed : Facts → Type 0
AllBegunListed f = f.begun ≡ length f.sessions

-- an entry that begins no brief account keeps it, and so do entries
abbrev pub EntryKeepsBegun : Type 0
EntryKeepsBegun = (f : Facts) (e : Entry) → is_no_brief e ≡ true → AllBegunListed f → AllBegunListed (after f e)

abbrev pub EntriesKeepBegun : Type 0
EntriesKeepBegun = (f : Facts) (es : List Entry) → list_all is_no_brief es ≡ true → AllBegunListed f → AllBegunListed (after_all f es)

-- no more sessions are in the list than have begun, in every list of batches, legal or not
abbrev pub JournalsCountBegun : Type 0
JournalsCountBegun = (j : List (List Entry)) → length (facts j).sessions ≤ (facts j).begun

-- ---- steps left

-- the next step leaves one step fewer, in any facts
abbrev pub StepLowersLeft : Type 0
StepLowersLeft = (clients : Meaning) (f : Facts) (e : Entry) → next clients f ≡ Some e → left_of (after f e) + 1 ≤ left_of f

-- steps one after the other leave as many fewer
abbrev pub StepsLowerLeft : Type 0
StepsLowerLeft = (clients : Meaning) (f : Facts) (es : List Entry) → IsSettling clients f es → left_of (after_all f es) + length es ≤ left_of f

-- at most two for each held message
abbrev pub LeftIsBounded : Type 0
LeftIsBounded = (f : Facts) → left_of f ≤ 2 * length f.held
