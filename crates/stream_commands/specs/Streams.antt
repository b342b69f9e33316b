-- What a command that reads a stream of records reads and writes, and what it comes to.
use Rattle.std.specs.Prelude.{◌≡◌, ℕ, ◌+◌, ◌≤◌, ◌⊎◌, List, Option, None, Some, length, take}
use Rattle.std.specs.Io.KnownBytes.{Consumes, Appends, IsAtEnd}
use Rattle.outside.specs.Faults.{CountRose}
use Rattle.outside.specs.Streams.{Stream, IsIdle, GetsFront, GetsText}
use Rattle.record_grammar.specs.Stream.{records_of, ending, items}
use Rattle.record_grammar.specs.declared.stream.Ending.{Ending}
use Rattle.record_grammar.specs.declared.stream.Ending.TheVariants as ends
use Rattle.record_grammar.specs.declared.stream.Item.{Item}
use Rattle.journal_play.specs.Playing.{Played, HasPlayed, IsTextOf}
use Rattle.sync_ids.specs.Values.{GroupValue}
use Rattle.sync_ids.specs.declared.records.Record.{Record}
use Rattle.sync_rules.specs.declared.states.Refused.TheVariants as refused
use Rattle.sync_rules.specs.Clients.{Meaning}
use Rattle.sync_words.specs.declared.outcome.Outcome.{Outcome}
use Rattle.sync_words.specs.declared.outcome.Outcome.TheVariants as outcome
use Rattle.stream_commands.specs.declared.input.TheConstants.{MAX_INPUT}
use Rattle.stream_commands.specs.declared.input.Stop.{Stop}
use Rattle.stream_commands.specs.declared.input.Stop.TheVariants as stop

-- nothing was read or written
abbrev pub UntouchedStreams : Stream → Stream → Stream → Stream → Type 0
UntouchedStreams input input' out out' = IsIdle input input' × IsIdle out out'

-- the input was read to its end, which is within the greatest length
pub record ReadsWhole (input input' : Stream) (read : List ℕ) : Type 0 where
  pub at_end : IsAtEnd input'.bytes
  pub within : length read ≤ MAX_INPUT

-- what an input that was read to its end comes to
abbrev pub outcome_of : Ending → Outcome
outcome_of ends.Clean = outcome.Done
outcome_of (ends.Inside place) = outcome.Inside place
outcome_of (ends.Bad place why) = outcome.Bad place why

-- What a command comes to that reads its whole input, by the bytes read, the text for their first
-- MAX_INPUT bytes and how the stream of these ends.
abbrev pub InputComesTo : (input input' out out' : Stream) (read text : List ℕ) (end : Ending)
    → Outcome → Type 0
InputComesTo input input' out out' read text end outcome.TooMuch =
    (length read ≡ MAX_INPUT + 1) × GetsText out out' text
InputComesTo input input' out out' read text end outcome.ReadFault =
    CountRose input.faults input'.faults × (length read ≤ MAX_INPUT) × GetsText out out' text
InputComesTo input input' out out' read text end outcome.WriteFault =
    CountRose out.faults out'.faults × ReadsWhole input input' read × GetsFront out out' text
InputComesTo input input' out out' read text end came =
    ReadsWhole input input' read × (outcome_of end ≡ came) × Appends out.bytes out'.bytes text

-- a command read these bytes, and its text is what is told of the items of their first MAX_INPUT
-- bytes
pub record ReadsStream (told : List Item → List ℕ → Type 0) (input input' out out' : Stream)
    (came : Outcome) : Type 0 where
  pub read : List ℕ
  pub text : List ℕ
  pub consumed : Consumes input.bytes input'.bytes read
  pub text_is : told (items 0 (take MAX_INPUT read)) text
  pub ended : InputComesTo input input' out out' read text (ending 0 (take MAX_INPUT read)) came

-- memory may be wanting while the input is read, and then nothing was written
abbrev pub Streams : (List Item → List ℕ → Type 0) → (input input' out out' : Stream) → Outcome
    → Type 0
Streams told input input' out out' outcome.Memory = IsIdle out out'
Streams told input input' out out' came = ReadsStream told input input' out out' came

-- what the writing of the text comes to, by why the reading stopped and how the stream ends
abbrev pub PrintEnds : Stop → Ending → (text : List ℕ) (out out' : Stream) → Outcome → Type 0
PrintEnds stop.End end text out out' came =
    ((came ≡ outcome_of end) × Appends out.bytes out'.bytes text)
    ⊎ ((came ≡ outcome.WriteFault) × CountRose out.faults out'.faults × GetsFront out out' text)
PrintEnds stop.TooMuch end text out out' came =
    (came ≡ outcome.TooMuch) × GetsText out out' text
PrintEnds stop.ReadFault end text out out' came =
    (came ≡ outcome.ReadFault) × GetsText out out' text

-- a played journal was finished, and its text written
pub record PlayPrinted (play : Played) (why : Stop) (end : Ending) (out out' : Stream)
    (came : Outcome) : Type 0 where
  pub text : List ℕ
  pub is : (clients : Meaning) (def : GroupValue) (records : List Record)
      → HasPlayed clients def records play → IsTextOf clients def records text
  pub printed : PrintEnds why end text out out' came

-- what the writing of a played journal comes to; memory may be wanting for its text
abbrev pub PrintsPlay : Played → Stop → Ending → (out out' : Stream) → Outcome → Type 0
PrintsPlay play why end out out' came =
    ((came ≡ outcome.Memory) × IsIdle out out') ⊎ PlayPrinted play why end out out' came

-- nothing was read or written, and this is the outcome; or memory was wanting, and nothing was
-- written
abbrev pub EndsAtOnce : Outcome → (input input' out out' : Stream) → Outcome → Type 0
EndsAtOnce is input input' out out' came =
    ((came ≡ is) × UntouchedStreams input input' out out')
    ⊎ ((came ≡ outcome.Memory) × IsIdle out out')

-- `try` by whether its client is known: its text is that of a journal of the group that takes the
-- records, settling after each
abbrev pub TriesClient : Meaning → (name descriptor : List ℕ) → Option ℕ
    → (input input' out out' : Stream) → Outcome → Type 0
TriesClient clients name descriptor None input input' out out' came =
    EndsAtOnce (outcome.Refused refused.UnknownClient) input input' out out' came
TriesClient clients name descriptor (Some kind) input input' out out' came =
    Streams (λ items text.
    IsTextOf clients (record { name = name; major = 0; descriptor = descriptor })
    (records_of items) text) input input' out out' came
