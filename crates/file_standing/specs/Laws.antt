-- What holds of all that files stand for.
use Rattle.std.specs.Prelude.{◌≡◌, ℕ, List}
use Rattle.sync_rules.specs.Clients.{Meaning}
use Rattle.outside.specs.Files.{Two}
use Rattle.entry_codec.specs.Standing.{Standing}
use Rattle.entry_codec.specs.FilesHold.{AreBytes, HasStanding}
use Rattle.file_standing.specs.Standing.{stands}

-- what files of bytes stand for is what they hold
abbrev pub FilesStand : Type 0
FilesStand = (clients : Meaning) (files : Two (List ℕ)) → AreBytes files
    → HasStanding clients files (stands clients files)

-- and they hold nothing else
abbrev pub FilesStandForOne : Type 0
FilesStandForOne = (clients : Meaning) (files : Two (List ℕ)) → AreBytes files
    → (standing : Standing) → HasStanding clients files standing → stands clients files ≡ standing
