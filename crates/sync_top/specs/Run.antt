-- What a run of a command reads and writes, and what it comes to.
use Rattle.std.specs.Prelude.{◌≡◌, ◌⊎◌, Some}
use Rattle.outside.specs.Files.{Two, File}
use Rattle.outside.specs.Outside.{Outside, DiskRun}
use Rattle.sync_rules.specs.Clients.{Meaning}
use Rattle.store_commands.specs.Show.{FilesReadSame, LeavesFilesSo}
use Rattle.sync_run.specs.Headline.{Headline}
use Rattle.sync_words.specs.declared.status.Status.{Status}
use Rattle.sync_words.specs.declared.outcome.Outcome.{Outcome}
use Rattle.sync_words.specs.declared.outcome.Outcome.TheVariants as outcome
use Rattle.sync_words.specs.Outcomes.{status_of, text_of}
use Rattle.outside.specs.Streams.{Stream, GetsText}
use Rattle.stream_commands.specs.Streams.{EndsAtOnce, Streams, TriesClient, UntouchedStreams}
use Rattle.sync_top.specs.Duties.{comes_of}
use Rattle.stream_commands.specs.RecordText.{items_text}
use Rattle.commands.specs.Reading.{Asked}
use Rattle.commands.specs.Reading.Asked.{Usage, Do}
use Rattle.commands.specs.declared.command.Command.TheVariants as command

-- no call was made on the disk but such as leave it as it was, and nothing was read or written
pub record DoesNothing (old new : Outside) (input input' out out' : Stream) : Type 0 where
  pub run : DiskRun old new
  pub rests : (two : Two File) → old.files ≡ Some two
      → LeavesFilesSo (FilesReadSame two) two old new
  pub untouched : UntouchedStreams input input' out out'

-- a command of a store came to what it should; or memory was wanting before it was begun, and
-- nothing was done
abbrev pub ComesOfStore : (Outcome → Type 0) → (old new : Outside)
    → (input input' out out' : Stream) → Outcome → Type 0
ComesOfStore did old new input input' out out' came =
    did came ⊎ ((came ≡ outcome.Memory) × DoesNothing old new input input' out out')

-- what the words ask for, and what it comes to; faulty words come to their place, and nothing serves
-- that could end; what a node comes to that serves is said by its life (`Serves`)
abbrev pub WordsComeTo : Meaning → Asked → (old new : Outside) → (input input' out out' : Stream)
    → Outcome → Type 0
WordsComeTo clients (Usage place) old new input input' out out' came =
    EndsAtOnce (outcome.Usage place) input input' out out' came
WordsComeTo clients (Do (command.Try name descriptor)) old new input input' out out' came =
    TriesClient clients name descriptor (clients.kind_of name 0) input input' out out' came
WordsComeTo clients (Do command.Records) old new input input' out out' came =
    Streams (λ items text. text ≡ items_text items) input input' out out' came
WordsComeTo clients (Do command.Quit) old new input input' out out' came =
    EndsAtOnce outcome.NoNode input input' out out' came
WordsComeTo clients (Do command.Serve) old new input input' out out' came = Unit {0}
WordsComeTo clients (Do asked) old new input input' out out' came =
    ComesOfStore (comes_of clients asked old new input input' out out') old new input input'
    out out' came

-- the words ask for a run of sessions
abbrev pub AsksSync : Asked → Type 0
AsksSync (Do (command.Sync turns quiet links)) = Unit {0}
AsksSync _ = ⊥

-- the words ask for a node that serves
abbrev pub AsksServe : Asked → Type 0
AsksServe (Do command.Serve) = Unit {0}
AsksServe _ = ⊥

-- Whatever the links bring, whatever call fails and whenever the device stops, each moment of a run
-- of sessions is covered.
abbrev pub Covered : Meaning → Asked → (old new : Outside) → Type 0
Covered clients (Do (command.Sync turns quiet links)) old new = Headline clients links old new
Covered clients _ old new = Unit {0}

-- the host is as before, but for the commands of a store
abbrev pub KeepsHost : {H : Type 0} → Asked → H → H → Type 0
KeepsHost (Usage place) old new = new ≡ old
KeepsHost (Do (command.Try name descriptor)) old new = new ≡ old
KeepsHost (Do command.Records) old new = new ≡ old
KeepsHost (Do command.Quit) old new = new ≡ old
KeepsHost (Do _) old new = Unit {0}

-- the error output got the text of the outcome, and the status is the outcome's
abbrev pub ReportsOutcome : Outcome → (err err' : Stream) → Status → Type 0
ReportsOutcome came err err' given = (given ≡ status_of came) × GetsText err err' (text_of came)

-- a run of a command: what the words ask for came to an outcome, and the status and the error
-- output tell it
pub record RanCommand (clients : Meaning) (words : Asked) (old new : Outside)
    (input input' out out' err err' : Stream) (given : Status) : Type 0 where
  pub came : Outcome
  pub comes : WordsComeTo clients words old new input input' out out' came
  pub reports : ReportsOutcome came err err' given
