-- A command that may not write leaves the files as they are.
use Rattle.std.specs.Prelude.{◌≡◌, false, Some}
use Rattle.outside.specs.Files.{Two, File}
use Rattle.outside.specs.Outside.{DiskRun, IsNow, MomentsAre, Outside}
use Rattle.commands.specs.Reading.{Asked}
use Rattle.commands.specs.Reading.Asked.{Do, Usage}
use Rattle.commands.specs.Writing.{may_write}

-- no link was touched, and each moment is as a crash might have left the files before
pub record OnlyLooks (old new : Outside) : Type 0 where
  pub run : DiskRun old new
  pub moments : (two : Two File) → old.files ≡ Some two → MomentsAre old new (IsNow two old.links)

-- so do faulty words, and those of a command that may not write
abbrev pub LooksUnless : Asked → (old new : Outside) → Type 0
LooksUnless (Usage place) old new = OnlyLooks old new
LooksUnless (Do asked) old new = may_write asked ≡ false → OnlyLooks old new
