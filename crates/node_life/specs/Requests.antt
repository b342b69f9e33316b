-- What a node answers to a request.
use Rattle.std.specs.Prelude.{◌≡◌, ◌==◌, ◌⊎◌, ◌&&◌, ◌||◌, ℕ, Bool, true, false, List, [], Some}
use Rattle.std.specs.Prelude.{nat_lt}
use Rattle.outside.specs.Outside.{Outside}
use Rattle.outside.specs.Streams.{Stream}
use Rattle.request_frames.specs.Requests.{Request}
use Rattle.sync_rules.specs.Clients.{Meaning}
use Rattle.sync_store.specs.Store.{StoreValue}
use Rattle.sync_words.specs.declared.outcome.Outcome.{Outcome}
use Rattle.sync_words.specs.declared.outcome.Outcome.TheVariants as outcome
use Rattle.commands.specs.Reading.{Asked, asks}
use Rattle.commands.specs.Reading.Asked.{Do, Usage}
use Rattle.commands.specs.declared.command.Command.{Command}
use Rattle.commands.specs.declared.command.Command.TheVariants as command
use Rattle.commands.specs.Writing.{reads_body}
use Rattle.store_commands.specs.Serving.{IsReadyToServe}
use Rattle.sync_ids.specs.declared.message.TheConstants.{MAX_BODY}
use Rattle.stream_commands.specs.RecordText.{items_text}
use Rattle.stream_commands.specs.Streams.{Streams, TriesClient}
use Rattle.node_service.specs.Lives.{shown_bytes}
use Rattle.node_service.specs.Words.{AreWords, parts_of, reads_most}
use Rattle.node_service.specs.declared.node.Reply.{Reply}
use Rattle.node_requests.specs.Requests.{DoesRequest}
use Rattle.node_life.specs.Inputs.{ReadsGiven}
use Rattle.node_life.specs.Settling.{HasSettled, StandsNow}

-- ---- what is said

-- what a request came to, what the output gets, and whether the node ends behind it
pub record Said : Type 0 where
  pub came : Outcome
  pub out : List ℕ
  pub ends : Bool

-- where nothing was done
abbrev pub bare : Outcome → Said
bare came = record { came = came; out = []; ends = false }

-- Of a command that came to this and printed this text. Where no memory was found for its text, that
-- is all that is said: what it did stands. A fault of the disk ends the node.
abbrev pub said_of : Outcome → (text : List ℕ) → Said
said_of outcome.WriteFault text = bare outcome.Memory
said_of outcome.DiskFault text =
    record { came = outcome.DiskFault; out = text; ends = true }
said_of came text = record { came = came; out = text; ends = false }

-- the node ends
abbrev pub goodbye : Said
goodbye = record { came = outcome.Done; out = []; ends = true }

-- ---- a command

-- A command did this over an input that is as given, with nothing in its output before, and this is
-- said of it.
pub record Answers (does : (input input' out out' : Stream) → Outcome → Type 0)
    (given : (input input' : Stream) → Type 0) (said : Said) : Type 0 where
  pub input : Stream
  pub input' : Stream
  pub has : given input input'
  pub out : Stream
  pub out' : Stream
  pub empty : out.bytes ≡ Some []
  pub printed : List ℕ
  pub text : out'.bytes ≡ Some printed
  pub came : Outcome
  pub did : does input input' out out' came
  pub is : said ≡ said_of came printed

-- the journal is settled, and then the command is done over the files as they stand
pub record AnswersSettled {H : Type 0} (tells : H → Outside) (clients : Meaning)
    (given : (input input' : Stream) → Type 0) (asked : Command) (old new : H) (said : Said)
    : Type 0 where
  pub between : H
  pub settled : HasSettled clients (tells old) (tells between) outcome.Done
  pub answers : Answers (DoesRequest clients asked (tells between) (tells new)) given said

-- the journal was not settled, for want of memory or since the disk failed, and nothing was done but
-- some of its settling
pub record StaysUnsettled {H : Type 0} (tells : H → Outside) (clients : Meaning) (old new : H)
    (said : Said) : Type 0 where
  pub came : Outcome
  pub settled : HasSettled clients (tells old) (tells new) came
  pub undone : came ≡ outcome.Done → ⊥
  pub is : said ≡ said_of came []

-- By what the words ask for: what is done is what the command says, of which those that use no store
-- leave the host as it is.
abbrev pub AnswersAsked : {H : Type 0} → (tells : H → Outside) → Meaning
    → (given : (input input' : Stream) → Type 0) → Asked → (old new : H) → Said → Type 0
AnswersAsked tells clients given (Usage place) old new said =
    (new ≡ old) × (said ≡ bare (outcome.Usage place))
AnswersAsked tells clients given (Do command.Quit) old new said = (new ≡ old) × (said ≡ goodbye)
AnswersAsked tells clients given (Do (command.Sync turns quiet links)) old new said =
    (new ≡ old) × (said ≡ bare outcome.NodeHolds)
AnswersAsked tells clients given (Do command.Serve) old new said =
    (new ≡ old) × (said ≡ bare outcome.NodeHolds)
AnswersAsked tells clients given (Do (command.Try name descriptor)) old new said =
    (new ≡ old) × Answers (TriesClient clients name descriptor (clients.kind_of name 0)) given said
AnswersAsked tells clients given (Do command.Records) old new said =
    (new ≡ old) × Answers (Streams (λ items text. text ≡ items_text items)) given said
AnswersAsked tells clients given (Do asked) old new said =
    AnswersSettled tells clients given asked old new said
    ⊎ StaysUnsettled tells clients old new said

-- the words of a request ask for something, and that is answered
pub record AnswersWords {H : Type 0} (tells : H → Outside) (clients : Meaning) (request : Request)
    (old new : H) (said : Said) : Type 0 where
  pub words : List (List ℕ)
  pub are : AreWords (parts_of request.words) words
  pub answers : AnswersAsked tells clients (ReadsGiven request.size request.input) (asks words) old
      new said

-- A request is answered; or memory was wanting, and nothing was done. What it left is synced, so that
-- what is answered stands whatever comes; or the disk failed, and the node ends.
pub record AnswersRequest {H : Type 0} (tells : H → Outside) (clients : Meaning) (request : Request)
    (old new : H) (came : Outcome) (out : List ℕ) (ends : Bool) : Type 0 where
  pub does : ((new ≡ old) × (record { came = came; out = out; ends = ends } ≡ bare outcome.Memory))
      ⊎ AnswersWords tells clients request old new (record { came = came; out = out; ends = ends })
  pub synced : ((came ≡ outcome.DiskFault) × (ends ≡ true)) ⊎ StandsNow clients (tells new)

-- ---- its parts

-- what a reply says, with what was written to the output
abbrev pub said_by : Reply → (out : List ℕ) → Said
said_by reply out =
    record { came = reply.came; out = shown_bytes reply.shown out; ends = reply.ends }

-- these are the streams
abbrev pub AreStreams : (old new : Stream) → (input input' : Stream) → Type 0
AreStreams old new input input' = (input ≡ old) × (input' ≡ new)

-- the store may be used again; or the disk failed, and the node ends
abbrev pub StaysReady : Meaning → StoreValue → Outside → Reply → Type 0
StaysReady clients s o reply =
    ((reply.came ≡ outcome.DiskFault) × (reply.ends ≡ true)) ⊎ IsReadyToServe clients s o

-- a command was answered, or memory was wanting for its input
abbrev pub AnswersOr : {H : Type 0} → (tells : H → Outside) → Meaning
    → (given : (input input' : Stream) → Type 0) → Command → (old new : H) → Said → Type 0
AnswersOr tells clients given asked old new said =
    ((new ≡ old) × (said ≡ bare outcome.Memory))
    ⊎ AnswersAsked tells clients given (Do asked) old new said

-- a command was answered over these streams, and the store may be used again
pub record HasDone {H : Type 0} (tells : H → Outside) (clients : Meaning)
    (given : (input input' : Stream) → Type 0) (asked : Command) (old new : H) (s : StoreValue)
    (reply : Reply) (out : List ℕ) : Type 0 where
  pub answers : AnswersAsked tells clients given (Do asked) old new (said_by reply out)
  pub ready : StaysReady clients s (tells new) reply

-- so over streams of which these bytes were left, and of which no call failed
pub record HasDoneOver {H : Type 0} (tells : H → Outside) (clients : Meaning) (kept : List ℕ)
    (asked : Command) (old new : H) (s : StoreValue) (reply : Reply) (out : List ℕ) : Type 0 where
  pub input : Stream
  pub input' : Stream
  pub bytes : input.bytes ≡ Some kept
  pub unfailing : input'.faults ≡ input.faults
  pub done : HasDone tells clients (AreStreams input input') asked old new s reply out

-- how much of an input is enough for a command: all of it, or as much as it reads
abbrev pub is_enough : Command → (most len : ℕ) → Bool
is_enough asked most len =
    nat_lt len most || ((reads_most asked == 0) || (reads_body asked && nat_lt MAX_BODY most))
