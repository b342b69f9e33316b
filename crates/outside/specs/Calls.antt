-- What a disk tells of the calls made of it, and how they go on.
use Rattle.std.specs.Prelude.{◌≡◌, ℕ, zero, suc, ◌≤◌, List, [], ◌++◌, Option}
use Rattle.outside.specs.Faults.{one_more}
use Rattle.outside.specs.Files.{Two}
use Rattle.outside.specs.Changes.{Change, of_disk}

-- The two files that a disk began with, and what changed it and the host over it since; the numbers of its calls that
-- are to fail, and that from which on all fail and leave no trace; and how many calls of a disk were made, a count that
-- stands still at 2^64 - 1.
pub record Calls : Type 0 where
  pub start : Two (List ℕ)
  pub changes : List Change
  pub failing : List ℕ
  pub stop : Option ℕ
  pub made : ℕ

-- any calls more: the disk began as before, what is to fail stays, and the changes of before are a front of those of now
pub record CallsGoOn (old new : Calls) : Type 0 where
  pub same_start : new.start ≡ old.start
  pub same_failing : new.failing ≡ old.failing
  pub same_stop : new.stop ≡ old.stop
  pub more : List Change
  pub grown : new.changes ≡ old.changes ++ more
  pub later : old.made ≤ new.made

-- nothing of the disk changed, whatever was done on the links
pub record ChangesNone (old new : Calls) : Type 0 where
  pub more : List Change
  pub grown : new.changes ≡ old.changes ++ more
  pub none : of_disk more ≡ []

-- one call of the disk more; and none
pub record OneCall (old new : Calls) : Type 0 where
  pub goes_on : CallsGoOn old new
  pub made : new.made ≡ one_more old.made

pub record NoCall (old new : Calls) : Type 0 where
  pub goes_on : CallsGoOn old new
  pub made : new.made ≡ old.made
  pub unchanged : ChangesNone old new

-- a count of calls after so many more
abbrev pub more_calls : ℕ → ℕ → ℕ
more_calls zero made = made
more_calls (suc n) made = one_more (more_calls n made)
