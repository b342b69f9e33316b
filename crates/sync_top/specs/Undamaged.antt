-- No own damage: a store that nobody else wrote is never damaged.
use Rattle.std.specs.Prelude.{◌≡◌, ℕ, List, Some}
use Rattle.outside.specs.Files.{Two, File, IsImage}
use Rattle.outside.specs.Outside.{Outside, MomentsAre}
use Rattle.outside.specs.Runs.{TellsAll}
use Rattle.sync_rules.specs.declared.entries.Entry.{Entry}
use Rattle.sync_rules.specs.Clients.{Meaning}
use Rattle.entry_codec.specs.Standing.{journal}
use Rattle.file_standing.specs.Standing.{stands}
use Rattle.commands.specs.Reading.{Asked}
use Rattle.sync_top.specs.Run.{AsksSync}

-- the files stand for a journal
pub record StandsForJournal (clients : Meaning) (files : Two (List ℕ)) : Type 0 where
  pub of : List (List Entry)
  pub stands_for : stands clients files ≡ journal of

-- If whatever a crash might have left at the start stands for a journal, so does whatever it might
-- leave at any moment of the run.
abbrev pub Undamaged : Meaning → (old new : Outside) → Type 0
Undamaged clients old new =
    (two : Two File) → old.files ≡ Some two
    → ((left : Two (List ℕ)) → IsImage two left → StandsForJournal clients left)
    → MomentsAre old new (λ m. StandsForJournal clients m.files)

-- no command damages a store; of a run of sessions it is said where files and links are told
abbrev pub NeverDamaged : Meaning → Asked → (old new : Outside) → Type 0
NeverDamaged clients words old new = (AsksSync words → TellsAll new) → Undamaged clients old new
