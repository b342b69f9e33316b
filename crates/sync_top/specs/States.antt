-- What `try` tells of the messages of its group where its whole text was written: the state of
-- each, by rounds over the messages and their verdicts alone.
use Rattle.std.specs.Prelude.{◌≡◌, ℕ, List, Some}
use Rattle.std.specs.Io.KnownBytes.{Consumes, Appends}
use Rattle.record_grammar.specs.Stream.{records}
use Rattle.journal_play.specs.Fates.{SaysFates}
use Rattle.sync_ids.specs.Ids.{group_id_of}
use Rattle.sync_rules.specs.Clients.{Meaning}
use Rattle.sync_words.specs.declared.status.Status.{Status}
use Rattle.sync_words.specs.declared.status.Status.TheVariants as status
use Rattle.outside.specs.Streams.{Stream}
use Rattle.stream_commands.specs.Streams.{ReadsWhole}
use Rattle.commands.specs.Reading.{Asked}
use Rattle.commands.specs.Reading.Asked.{Do}
use Rattle.commands.specs.declared.command.Command.TheVariants as command

-- the client of this name is known; the input was read to its end, and the output got a text that
-- says the state of each message which the records of the bytes read bring to its group
pub record TellsStates (clients : Meaning) (name descriptor : List ℕ)
    (input input' out out' : Stream) : Type 0 where
  pub kind : ℕ
  pub known : clients.kind_of name 0 ≡ Some kind
  pub read : List ℕ
  pub text : List ℕ
  pub consumed : Consumes input.bytes input'.bytes read
  pub whole : ReadsWhole input input' read
  pub says : SaysFates clients kind
      (group_id_of (record { name = name; major = 0; descriptor = descriptor })) (records read) text
  pub written : Appends out.bytes out'.bytes text

-- `try` tells the states where it answers that all was done or that the input is no stream of
-- records
abbrev pub TellsWhole : Meaning → Asked → (input input' out out' : Stream) → Status → Type 0
TellsWhole clients (Do (command.Try name descriptor)) input input' out out' status.Done =
    TellsStates clients name descriptor input input' out out'
TellsWhole clients (Do (command.Try name descriptor)) input input' out out' status.BadStream =
    TellsStates clients name descriptor input input' out out'
TellsWhole clients words input input' out out' given = Unit {0}
