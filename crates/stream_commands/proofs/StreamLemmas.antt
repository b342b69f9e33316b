-- What a command comes to that reads a stream, from how its input was heard and its text written.
use Rattle.std.proofs.Common.{◌≡◌, ℕ, List, take, sym, subst, ap, inl, inr}
use Rattle.std.specs.Io.KnownBytes.{Consumes, Appends}
use Rattle.record_grammar.specs.Stream.{ending, items, records_of}
use Rattle.record_grammar.specs.declared.stream.Ending.{Ending}
use Rattle.record_grammar.specs.declared.stream.Ending.TheVariants as ends
use Rattle.record_grammar.specs.declared.stream.Item.{Item}
use Rattle.journal_play.specs.Playing.{Played, HasPlayed, IsTextOf}
use Rattle.sync_ids.specs.Values.{GroupValue}
use Rattle.sync_rules.specs.Clients.{Meaning}
use Rattle.stream_commands.specs.declared.input.Stop.{Stop}
use Rattle.stream_commands.specs.declared.input.Stop.TheVariants as stop
use Rattle.sync_words.specs.declared.outcome.Outcome.{Outcome}
use Rattle.sync_words.specs.declared.outcome.Outcome.TheVariants as outcome
use Rattle.outside.specs.Streams.{Stream}
use Rattle.stream_commands.specs.declared.input.TheConstants.{MAX_INPUT}
use Rattle.stream_commands.specs.Input.{StopsReading}
use Rattle.stream_commands.specs.Streams.{outcome_of, InputComesTo, PrintEnds, PrintsPlay, ReadsStream}
use Rattle.stream_commands.specs.Streams.{ReadsWhole, Streams}

module _ (told : List Item → List ℕ → Type 0) (input input' out out' : Stream) (read text : List ℕ)
    (consumed : Consumes input.bytes input'.bytes read)
    (text_is : told (items 0 (take MAX_INPUT read)) text) where
  -- what the command comes to, by what it read
  abbrev Comes : Outcome → Type 0
  Comes came = Streams told input input' out out' came

  reads : (came : Outcome)
      → InputComesTo input input' out out' read text (ending 0 (take MAX_INPUT read)) came
      → ReadsStream told input input' out out' came
  reads came ended = record {
    read = read;
    text = text;
    consumed = consumed;
    text_is = text_is;
    ended = ended;
  }

  whole : StopsReading stop.End input input' read → ReadsWhole input input' read
  whole stops = record { at_end = stops.0; within = stops.1 }

  -- read to the end, and all written
  whole_of : (end : Ending) → ending 0 (take MAX_INPUT read) ≡ end
      → StopsReading stop.End input input' read
      → Appends out.bytes out'.bytes text → Comes (outcome_of end)
  whole_of ends.Clean is stops appended =
      reads outcome.Done (whole stops, ap outcome_of is, appended)
  whole_of (ends.Inside place) is stops appended =
      reads (outcome.Inside place) (whole stops, ap outcome_of is, appended)
  whole_of (ends.Bad place why) is stops appended =
      reads (outcome.Bad place why) (whole stops, ap outcome_of is, appended)

  printed_of : (why : Stop) (end : Ending) (came : Outcome) → ending 0 (take MAX_INPUT read) ≡ end
      → StopsReading why input input' read → PrintEnds why end text out out' came → Comes came
  printed_of stop.End end came is stops (inl done) =
      subst Comes (sym done.0) (whole_of end is stops done.1)
  printed_of stop.End end came is stops (inr failed) =
      subst Comes (sym failed.0) (reads outcome.WriteFault (failed.1, whole stops, failed.2))
  printed_of stop.TooMuch end came is stops gets =
      subst Comes (sym gets.0) (reads outcome.TooMuch (stops, gets.1))
  printed_of stop.ReadFault end came is stops gets =
      subst Comes (sym gets.0) (reads outcome.ReadFault (stops.0, stops.1, gets.1))

  pub streams_of : (why : Stop) (end : Ending) (came : Outcome) → end ≡ ending 0
      (take MAX_INPUT read) → StopsReading why input input' read →
      PrintEnds why end text out out' came → Streams told input input' out out' came
  streams_of why end came is stops ends = printed_of why end came (sym is) stops ends

-- a played journal was finished and printed, or memory was wanting
pub play_streams : (clients : Meaning) (def : GroupValue) (play : Played)
    (input input' out out' : Stream) (read : List ℕ) (why : Stop) (end : Ending) (came : Outcome) →
    Consumes input.bytes input'.bytes read
    → HasPlayed clients def (records_of (items 0 (take MAX_INPUT read))) play →
    end ≡ ending 0 (take MAX_INPUT read) → StopsReading why input input' read
    → PrintsPlay play why end out out' came →
    Streams (λ some text. IsTextOf clients def (records_of some) text) input input' out out' came
play_streams clients def play input input' out out' read why end came consumed played is stops
    (inl memory) =
    subst (λ (o : Outcome).
    Streams (λ some text. IsTextOf clients def (records_of some) text) input input' out out' o)
    (sym memory.0) memory.1
play_streams clients def play input input' out out' read why end came consumed played is stops
    (inr printed) =
    streams_of (λ some text. IsTextOf clients def (records_of some) text) input input' out out' read
    printed.text consumed (printed.is clients def _ played)
    why end came is stops printed.printed
