-- What two files stand for. `HasStanding` says it; that there is an answer for all files is `standing`, which a reader finds.
use Rattle.std.specs.Prelude.{ℕ, List}
use Rattle.sync_rules.specs.Clients.{Meaning}
use Rattle.outside.specs.Files.{Two}
use Rattle.entry_codec.specs.Standing.{Standing}
use Rattle.entry_codec.proofs.Standings.{standing}

-- what two files stand for
abbrev pub stands : Meaning → Two (List ℕ) → Standing
stands clients files = (standing clients files).of
