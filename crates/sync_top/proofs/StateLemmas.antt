-- Where `try` wrote its whole text, it told the state of each message; and what words come to that
-- could not be obeyed.
use Rattle.std.proofs.Common.{◌≡◌, ℕ, Bool, List, refl, sym, ap, ◌∙◌, subst, inl, inr, Option, Some}
use Rattle.std.proofs.Common.{None, Result, Err, take}
use Rattle.std.specs.Prelude.{IsErrAnd}
use Rattle.std.specs.Io.KnownBytes.{Appends}
use Rattle.std.proofs.lemmas.List.{take_all}
use Rattle.outside.specs.Files.{read_files}
use Rattle.outside.specs.Outside.{Outside}
use Rattle.outside.proofs.CallSteps.{looks_none, run_none}
use Rattle.outside.specs.Streams.{Stream, IsIdle}
use Rattle.record_grammar.specs.Stream.{ending, items, records, records_of}
use Rattle.record_grammar.specs.declared.stream.Ending.{Ending}
use Rattle.record_grammar.specs.declared.stream.Ending.TheVariants as ends
use Rattle.journal_play.specs.Fates.{SaysFates}
use Rattle.journal_play.specs.Playing.{IsTextOf}
use Rattle.sync_ids.specs.Ids.{group_id_of}
use Rattle.sync_ids.specs.Values.{GroupValue}
use Rattle.sync_ids.specs.declared.records.Record.{Record}
use Rattle.sync_rules.specs.Clients.{Meaning}
use Rattle.sync_rules.specs.Facts.{Id}
use Rattle.sync_rules.specs.Steps.{kind_of_def}
use Rattle.sync_course.specs.Closing.{Closing}
use Rattle.sync_words.specs.declared.outcome.Outcome.{Outcome}
use Rattle.sync_words.specs.declared.outcome.Outcome.TheVariants as outcome
use Rattle.sync_words.specs.declared.status.Status.{Status}
use Rattle.sync_words.specs.Outcomes.{came_to, status_of}
use Rattle.commands.specs.Reading.{Asked, IsReadAs, words_came}
use Rattle.commands.specs.Reading.Asked.{Usage, Do}
use Rattle.commands.specs.declared.command.Command.{Command}
use Rattle.commands.specs.declared.command.Command.TheVariants as command
use Rattle.commands.specs.declared.fault.WordsFault.{WordsFault}
use Rattle.commands.specs.declared.fault.WordsFault.TheVariants as fault
use Rattle.store_commands.specs.declared.commit.Settling.TheVariants as settling
use Rattle.store_commands.specs.Entries.{HasAdded}
use Rattle.store_commands.specs.Plans.{group_plan}
use Rattle.sharing_commands.specs.declared.saying.Speech.{Speech}
use Rattle.sharing_commands.specs.Sayings.{say_plan}
use Rattle.store_commands.proofs.Passing.{passed}
use Rattle.stream_commands.specs.declared.input.TheConstants.{MAX_INPUT}
use Rattle.sync_top.specs.Run.{WordsComeTo, DoesNothing, ReportsOutcome}
use Rattle.stream_commands.specs.Streams.{ReadsStream, ReadsWhole, TriesClient, outcome_of}
use Rattle.stream_commands.proofs.AnswerLemmas.{tries_memory}
use Rattle.sync_top.specs.States.{TellsStates, TellsWhole}

-- a stream of records does not end as links do
ends_no_links : (e : Ending) (closed : Closing) → outcome_of e ≡ outcome.Links closed → ⊥
ends_no_links ends.Clean closed is = cc
ends_no_links (ends.Inside place) closed is = cc
ends_no_links (ends.Bad place why) closed is = cc

module _
    (law : (clients : Meaning) (kind : ℕ) (def : GroupValue) (records : List Record) (text : List ℕ)
    → kind_of_def clients def ≡ Some kind → IsTextOf clients def records text
    → SaysFates clients kind (group_id_of def) records text)
    (clients : Meaning) (input input' out out' : Stream) where
  -- the group of the words of `try`
  abbrev group_of : (name descriptor : List ℕ) → GroupValue
  group_of name descriptor = record { name = name; major = 0; descriptor = descriptor }

  whole_states : (name descriptor : List ℕ) (kind : ℕ) (came : Outcome)
      → clients.kind_of name 0 ≡ Some kind
      → (r : ReadsStream (λ some text.
      IsTextOf clients (group_of name descriptor) (records_of some) text) input input' out
      out' came)
      → ReadsWhole input input' r.read → Appends out.bytes out'.bytes r.text
      → TellsStates clients name descriptor input input' out out'
  whole_states name descriptor kind came known r whole written = record {
    kind = kind;
    known = known;
    read = r.read;
    text = r.text;
    consumed = r.consumed;
    whole = whole;
    says =
        law clients kind (group_of name descriptor) (records r.read) r.text known
        (subst (λ (bytes : List ℕ).
        IsTextOf clients (group_of name descriptor) (records_of (items 0 bytes)) r.text)
        (take_all MAX_INPUT r.read whole.within) r.text_is);
    written = written;
  }

  abbrev Tells : (name descriptor : List ℕ) → Outcome → Type 0
  Tells name descriptor came =
      TellsWhole clients (Do (command.Try name descriptor)) input input' out out' (status_of came)

  group_states : (name descriptor : List ℕ) (o : Option ℕ) (came : Outcome)
      → clients.kind_of name 0 ≡ o
      → TriesClient clients name descriptor o input input' out out' came
      → Tells name descriptor came
  group_states name descriptor None came known (inl refused_at) =
      subst (Tells name descriptor) (sym refused_at.0) tt
  group_states name descriptor None came known (inr memory) =
      subst (Tells name descriptor) (sym memory.0) tt
  group_states name descriptor (Some kind) outcome.Done known tries =
      whole_states name descriptor kind outcome.Done known tries tries.ended.0 tries.ended.2
  group_states name descriptor (Some kind) (outcome.Bad place why) known tries =
      whole_states name descriptor kind (outcome.Bad place why) known tries tries.ended.0
      tries.ended.2
  group_states name descriptor (Some kind) (outcome.Inside place) known tries =
      whole_states name descriptor kind (outcome.Inside place) known tries tries.ended.0
      tries.ended.2
  group_states name descriptor (Some kind) (outcome.NoVersion place) known tries =
      whole_states name descriptor kind (outcome.NoVersion place) known tries tries.ended.0
      tries.ended.2
  group_states name descriptor (Some kind) (outcome.Links closed) known tries =
      absurd (ends_no_links (ending 0 (take MAX_INPUT tries.read)) closed tries.ended.1)
  group_states name descriptor (Some kind) _ known tries = tt

  pub tells : (words : Asked) (old new : Outside) (err err' : Stream) (came : Outcome)
      (given : Status) → WordsComeTo clients words old new input input' out out' came
      → ReportsOutcome came err err' given
      → TellsWhole clients words input input' out out' given
  tells (Usage place) old new err err' came given comes reports = tt
  tells (Do (command.Try name descriptor)) old new err err' came given comes reports =
      subst (TellsWhole clients (Do (command.Try name descriptor)) input input' out out')
      (sym reports.0)
      (group_states name descriptor (clients.kind_of name 0) came refl comes)
  tells (Do _) old new err err' came given comes reports = tt

-- ---- memory

-- no call was made
does_nothing : (o : Outside) (input input' out out' : Stream) → IsIdle input input'
    → IsIdle out out' → DoesNothing o o input input' out out'
does_nothing o input input' out out' idle quiet = record {
  run = run_none o;
  rests = λ two told. record {
    moments = (looks_none o).moments two told;
    kept =
        λ two' told'. let same : two' ≡ two = let it = sym told' ∙ told in cc in ap read_files same;
  };
  untouched = (idle, quiet);
}

-- memory may be wanting for any words
pub memory_comes : (clients : Meaning) (words : Asked) (o : Outside)
    (input input' out out' : Stream) → IsIdle input input' → IsIdle out out'
    → WordsComeTo clients words o o input input' out out' outcome.Memory
memory_comes clients (Usage place) o input input' out out' idle quiet = inr (refl, quiet)
memory_comes clients (Do (command.Try name descriptor)) o input input' out out' idle quiet =
    tries_memory clients name descriptor (clients.kind_of name 0) input input' out out' quiet
memory_comes clients (Do command.Records) o input input' out out' idle quiet = quiet
memory_comes clients (Do command.Serve) o input input' out out' idle quiet = tt
memory_comes clients (Do command.Quit) o input input' out out' idle quiet = inr (refl, quiet)
memory_comes clients (Do _) o input input' out out' idle quiet =
    inr (refl, does_nothing o input input' out out' idle quiet)

-- words that were not read come to their place, or memory was wanting
pub words_come : (clients : Meaning) (words : Asked) (o : Outside) (input input' out out' : Stream)
    (e : WordsFault) → IsReadAs words (Err e) → IsIdle input input' → IsIdle out out'
    → WordsComeTo clients words o o input input' out out' (words_came e)
words_come clients words o input input' out out' (fault.Usage place) is idle quiet =
    subst (λ (a : Asked). WordsComeTo clients a o o input input' out out' (outcome.Usage place))
    (sym is) (inl (refl, (idle, quiet)))
words_come clients words o input input' out out' fault.Memory is idle quiet =
    memory_comes clients words o input input' out out' idle quiet

-- ---- a group

-- the definition that the words give
def_is : (name descriptor given rest : List ℕ) (major : ℕ) (def : GroupValue) → given ≡ name
    → rest ≡ descriptor → def ≡ record { name = given; major = major; descriptor = rest }
    → def ≡ record { name = name; major = major; descriptor = descriptor }
def_is name descriptor given rest major def first second made =
    let with_name : List ℕ → GroupValue =
    λ x. record { name = x; major = major; descriptor = rest } in
    let with_descriptor : List ℕ → GroupValue =
    λ x. record { name = name; major = major; descriptor = x } in
    made ∙ ap with_name first ∙ ap with_descriptor second

-- a group was added, of the definition that the words give
pub group_comes : (clients : Meaning) (asked : Command) (name descriptor given rest : List ℕ)
    (major : ℕ) (def : GroupValue) (old new : Outside) (input input' out out' : Stream)
    (came : Outcome)
    → asked ≡ command.Group name major descriptor → given ≡ name → rest ≡ descriptor
    → def ≡ record { name = given; major = major; descriptor = rest }
    → HasAdded clients (λ f. group_plan clients f def) settling.Before old new out out' came
    → IsIdle input input' → WordsComeTo clients (Do asked) old new input input' out out' came
group_comes clients asked name descriptor given rest major def old new input input' out out' came is
    first second made added idle =
    let words : def ≡ record { name = name; major = major; descriptor = descriptor } =
    def_is name descriptor given rest major def first second made in
    subst (λ (a : Command). WordsComeTo clients (Do a) old new input input' out out' came) (sym is)
    (inl (
      subst (λ (d : GroupValue).
          HasAdded clients (λ f. group_plan clients f d) settling.Before old new out out' came)
          words
          added,
      idle,
    ))

-- what the words say was said
pub say_comes : (clients : Meaning) (asked : Command) (group : Id) (timestamp : ℕ) (join : Bool)
    (name descriptor given rest : List ℕ) (major : ℕ) (def : GroupValue) (speech : Speech)
    (old new : Outside) (input input' out out' : Stream) (came : Outcome)
    → asked ≡ command.Say group timestamp join name major descriptor → given ≡ name
    → rest ≡ descriptor → def ≡ record { name = given; major = major; descriptor = rest }
    → speech ≡ record { group = group; timestamp = timestamp; join = join; def = def }
    → HasAdded clients (say_plan clients speech) settling.BeforeAndAfter old new out out' came
    → IsIdle input input'
    → WordsComeTo clients (Do asked) old new input input' out out' came
say_comes clients asked group timestamp join name descriptor given rest major def speech old new
    input input' out out' came is first second made spoken added idle =
    let said : HasAdded clients
    (say_plan clients (record { group = group; timestamp = timestamp; join = join; def = def }))
    settling.BeforeAndAfter old new out out' came =
    subst (λ (s : Speech).
    HasAdded clients (say_plan clients s) settling.BeforeAndAfter old new out out' came) spoken
    added in
    let words : def ≡ record { name = name; major = major; descriptor = descriptor } =
    def_is name descriptor given rest major def first second made in
    subst (λ (a : Command). WordsComeTo clients (Do a) old new input input' out out' came) (sym is)
    (inl (
      subst (λ (d : GroupValue).
          HasAdded clients (say_plan clients (record {
            group = group;
            timestamp = timestamp;
            join = join;
            def = d;
          })) settling.BeforeAndAfter old new out out' came) words said,
      idle,
    ))

-- ---- answers of commands

-- what holds of a command holds of one that is it
pub as_command : (clients : Meaning) (asked is : Command) (old new : Outside)
    (input input' out out' : Stream) (came : Outcome) → asked ≡ is
    → WordsComeTo clients (Do is) old new input input' out out' came
    → WordsComeTo clients (Do asked) old new input input' out out' came
as_command clients asked is old new input input' out out' came same comes =
    subst (λ (a : Command). WordsComeTo clients (Do a) old new input input' out out' came)
    (sym same) comes

-- what goes on by `?`
module _ (r : Result (Unit {0}) Outcome) (x : Outcome) (is : IsErrAnd r (λ e. e ≡ x)) where
  pub came_on : came_to r ≡ x
  came_on = passed (λ (came : Outcome). came ≡ x) r x is refl

  pub comes_on : (clients : Meaning) (words : Asked) (old new : Outside)
      (input input' out out' : Stream) → WordsComeTo clients words old new input input' out out' x
      → WordsComeTo clients words old new input input' out out' (came_to r)
  comes_on clients words old new input input' out out' =
      passed (λ (came : Outcome). WordsComeTo clients words old new input input' out out' came) r x
      is
