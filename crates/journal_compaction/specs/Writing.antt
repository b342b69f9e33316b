-- A writer of frames into a prepared file.
use Rattle.std.specs.Prelude.{◌≡◌, ℕ, ◌+◌, ◌≤◌, ◌*◌, false, List, [], ◌++◌, length, Option}
use Rattle.outside.specs.declared.limits.TheConstants.{MAX_FRAME}
use Rattle.outside.specs.Files.{Two, File, NothingPending, file_of}
use Rattle.outside.specs.Frames.{IsAtRest, is_open}
use Rattle.outside.specs.Steps.{other_of}
use Rattle.frame_journal.specs.Gathering.{GathersFrames}
use Rattle.frame_journal.specs.Journal.{JournalValue}
use Rattle.sync_rules.specs.Facts.{Facts}
use Rattle.journal_migration.specs.Copying.{IsShut}
use Rattle.journal_compaction.specs.declared.items.Item.{Item}
use Rattle.journal_compaction.specs.Paging.{pages}

-- nothing is pending in the writer's file, which is shut at the writer's end
pub record IsWriterShut (n : JournalValue) (two : Two File) : Type 0 where
  pub at_rest : IsAtRest two n.file n.end
  pub shut : IsShut (file_of two n.file).now n.end

-- nothing is pending in the file, which has no open header
pub record IsFileIdle (file : ℕ) (two : Two File) : Type 0 where
  pub settled : NothingPending two file
  pub shut : is_open (file_of two file).now ≡ false

-- the file is left so, and the other is as before
pub record StaysIdle (file : ℕ) (old new : Two File) : Type 0 where
  pub other : other_of new file ≡ other_of old file
  pub idle : IsFileIdle file new

-- ---- the payload that is being filled

-- a payload that takes so many more entries that are not to stand alone, each of 34 bytes at most,
-- fits a frame
abbrev pub HasSpace : (left : ℕ) → List ℕ → Type 0
HasSpace left page = length page + 34 * left ≤ MAX_FRAME

-- ---- all items of a list

-- of these items all but the rest are written, or wait in a group, or are in the payload that is
-- being filled and takes so many more
pub record Written (f : Facts) (most : ℕ) (items rest : List Item) (left : ℕ) (page : List ℕ)
    (n n' : JournalValue) (group group' : List ℕ)
    (old new : Option (Two File)) : Type 0 where
  pub added : List (List ℕ)
  pub goes_on : added ++ pages f most left page rest ≡ pages f most 0 [] items
  pub adding : GathersFrames n n' group group' added old new
