-- The life of a node that serves, as a command.
use Rattle.outside.specs.Outside.{Outside}
use Rattle.outside.specs.Streams.{Stream}
use Rattle.sync_rules.specs.Clients.{Meaning}
use Rattle.sync_words.specs.declared.outcome.Outcome.{Outcome}
use Rattle.sync_words.specs.declared.status.Status.{Status}
use Rattle.commands.specs.Reading.{Asked}
use Rattle.commands.specs.Reading.Asked.{Do}
use Rattle.commands.specs.declared.command.Command.TheVariants as command
use Rattle.node_life.specs.Serving.{HasServed}
use Rattle.sync_top.specs.Run.{ReportsOutcome}

-- for the words `serve std`, a node served; of others nothing is said here
abbrev pub ServesAs : {H : Type 0} → (tells : H → Outside) → Meaning → Asked → (old new : H)
    → (input input' out out' : Stream) → Outcome → Type 0
ServesAs tells clients (Do command.Serve) old new input input' out out' came =
    HasServed tells clients old new input input' out out' came
ServesAs tells clients _ old new input input' out out' came = Unit {0}

-- and the status and the error output tell what that came to
pub record Serves {H : Type 0} (tells : H → Outside) (clients : Meaning) (words : Asked)
    (old new : H) (input input' out out' err err' : Stream) (given : Status) : Type 0 where
  pub came : Outcome
  pub lived : ServesAs tells clients words old new input input' out out' came
  pub reports : ReportsOutcome came err err' given
