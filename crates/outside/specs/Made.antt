-- Which calls of a disk a run makes, one behind another, where they are told. Each stands here by what it changes; one
-- that only looks changes nothing.
use Rattle.std.specs.Prelude.{◌≡◌, ◌⊎◌, suc, List, [], ◌∷◌, ◌++◌, length, Option, Some, Result, Ok, Err}
use Rattle.std.specs.List.{flat_map}
use Rattle.std.specs.Option.{option_to_list}
use Rattle.outside.specs.Calls.{Calls, more_calls}
use Rattle.outside.specs.Changes.{Change, wrote, wrote_not, cut, cut_not, of_disk}
use Rattle.outside.specs.Disk.{RelatesTold}
use Rattle.outside.specs.Outside.{Outside}

-- the changes of these calls
abbrev pub changes_of : List (Option Change) → List Change
changes_of calls = flat_map option_to_list calls

-- what a call that failed leaves among the changes: a write or a cut may stand there as one that failed
abbrev pub IsTrace : Option Change → List Change → Type 0
IsTrace (Some (wrote file at bytes)) trace = (trace ≡ []) ⊎ (trace ≡ wrote_not file at bytes ∷ [])
IsTrace (Some (cut file len)) trace = (trace ≡ []) ⊎ (trace ≡ cut_not file len ∷ [])
IsTrace _ trace = trace ≡ []

-- just these calls were made
pub record MadeAll (calls : List (Option Change)) (old new : Calls) : Type 0 where
  pub more : List Change
  pub grown : new.changes ≡ old.changes ++ more
  pub are : of_disk more ≡ changes_of calls
  pub made : new.made ≡ more_calls (length calls) old.made

-- these calls were made up to one, which failed
pub record BrokeOff (calls : List (Option Change)) (old new : Calls) : Type 0 where
  pub front : List (Option Change)
  pub failed : Option Change
  pub rest : List (Option Change)
  pub parts : calls ≡ front ++ failed ∷ rest
  pub trace : List Change
  pub left : IsTrace failed trace
  pub more : List Change
  pub grown : new.changes ≡ old.changes ++ more
  pub are : of_disk more ≡ changes_of front ++ trace
  pub made : new.made ≡ more_calls (suc (length front)) old.made

-- the same where they are told
pub record DoesAll (calls : List (Option Change)) (old new : Outside) : Type 0 where
  pub done : RelatesTold (MadeAll calls) old.calls new.calls

pub record BreaksIn (calls : List (Option Change)) (old new : Outside) : Type 0 where
  pub broken : RelatesTold (BrokeOff calls) old.calls new.calls

-- all of these calls where it succeeds, and where it fails those up to the one that failed
abbrev pub DoesCalls : {T E : Type 0} → List (Option Change) → Result T E → Outside → Outside → Type 0
DoesCalls calls (Ok _) old new = DoesAll calls old new
DoesCalls calls (Err _) old new = BreaksIn calls old new
