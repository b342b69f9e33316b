-- What is printed of a store, and what is left of files that only are looked at.
use Rattle.std.specs.Prelude.{◌≡◌, ℕ, List, Some}
use Rattle.std.specs.Io.KnownBytes.{Appends}
use Rattle.outside.specs.Faults.{CountRose}
use Rattle.outside.specs.Files.{Two, File, read_files}
use Rattle.outside.specs.Outside.{Outside, MomentsAre, IsNow}
use Rattle.sync_rules.specs.Clients.{Meaning}
use Rattle.entry_codec.specs.Standing.{Standing}
use Rattle.file_standing.specs.Standing.{stands}
use Rattle.sync_words.specs.declared.outcome.Outcome.{Outcome}
use Rattle.sync_words.specs.declared.outcome.Outcome.TheVariants as outcome
use Rattle.outside.specs.Streams.{Stream, IsIdle, GetsFront}
use Rattle.store_commands.specs.Shown.{Showing, denies, shows}

-- a text is printed, where memory is found for it
abbrev pub PrintsText : List ℕ → Stream → Stream → Outcome → Type 0
PrintsText text out out' outcome.Done = Appends out.bytes out'.bytes text
PrintsText text out out' outcome.WriteFault =
    CountRose out.faults out'.faults × GetsFront out out' text
PrintsText text out out' outcome.Memory = IsIdle out out'
PrintsText text out out' _ = ⊥

-- what is shown is printed
abbrev pub PrintsShowing : Showing → Stream → Stream → Outcome → Type 0
PrintsShowing (shows text) out out' came = PrintsText text out out' came
PrintsShowing (denies why) out out' came = (came ≡ outcome.Refused why) × IsIdle out out'

-- the files read as before
abbrev pub FilesReadSame : Two File → Two File → Type 0
FilesReadSame two two' = read_files two' ≡ read_files two

-- the files read as before; where a call on the disk failed nothing is said of them but at each
-- moment
abbrev pub KeepsFiles : Outcome → Two File → Two File → Type 0
KeepsFiles outcome.DiskFault two two' = Unit {0}
KeepsFiles came two two' = FilesReadSame two two'

-- each moment is as a crash might have left the files before, and in the end they are so
pub record LeavesFilesSo (P : Two File → Type 0) (two : Two File) (old new : Outside) : Type 0 where
  pub moments : MomentsAre old new (IsNow two old.links)
  pub kept : (two' : Two File) → new.files ≡ Some two' → P two'

-- What is so where the files are told: they are left so, and this is so of what they stood for.
pub record LeavesTold (clients : Meaning) (keeps : Two File → Two File → Type 0)
    (is_so : Standing → Type 0) (two : Two File) (old new : Outside) : Type 0 where
  pub rests : LeavesFilesSo (keeps two) two old new
  pub ends : is_so (stands clients (read_files two))
