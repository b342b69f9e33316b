-- A command over a store that is served.
use Rattle.std.proofs.Common.{◌≡◌, ℕ, Bool, true, false, cond, List, Option, Some, None, refl, sym}
use Rattle.std.proofs.Common.{ap, ◌∙◌, subst, inl}
use Rattle.std.specs.Prelude.{◌||◌, ◌&&◌, nat_lt, Result, Ok, Err}
use Rattle.std.specs.Prelude.{IsErrAnd}
use Rattle.std.proofs.lemmas.Bool.{false≢true}
use Rattle.outside.specs.Files.{File, Two, read_files}
use Rattle.outside.specs.Frames.{generation_in, is_open, journal_file}
use Rattle.outside.specs.Outside.{Outside}
use Rattle.outside.specs.Streams.{Stream, IsIdle}
use Rattle.outside.proofs.CallSteps.{moments_none, run_none}
use Rattle.sync_ids.specs.Values.{GroupValue}
use Rattle.sync_rules.specs.declared.states.Refused.{Refused}
use Rattle.sync_rules.specs.Clients.{Meaning}
use Rattle.sync_rules.specs.Facts.{Facts, Id}
use Rattle.sync_store.specs.Begin.{has_open}
use Rattle.sync_store.specs.Store.{StoreValue}
use Rattle.sync_words.specs.declared.outcome.Outcome.{Outcome}
use Rattle.sync_words.specs.declared.outcome.Outcome.TheVariants as outcome
use Rattle.commands.specs.declared.command.Command.{Command}
use Rattle.commands.specs.declared.command.Command.TheVariants as command
use Rattle.store_commands.specs.declared.commit.Settling.{Settling}
use Rattle.store_commands.specs.declared.commit.Settling.TheVariants as settling
use Rattle.store_commands.specs.Entries.{HasAdded, adding, plan_refusal}
use Rattle.store_commands.specs.Init.{HasBegun}
use Rattle.store_commands.specs.Plans.{EntryPlan, group_plan}
use Rattle.store_commands.specs.Serving.{IsServed, ServesOn}
use Rattle.store_commands.specs.Stopping.{NeverReads}
use Rattle.store_commands.proofs.Stopped.{stops_memory}
use Rattle.sharing_commands.specs.Sayings.{say_plan}
use Rattle.node_requests.specs.Requests.{DoesRequest, group_named, leaves_sessions, speech_of}

-- what a command came to is what the words came to
pub as_asked : (clients : Meaning) (asked is : Command) (old new : Outside)
    (input input' out out' : Stream) (came : Outcome) → asked ≡ is
    → DoesRequest clients is old new input input' out out' came
    → DoesRequest clients asked old new input input' out out' came
as_asked clients asked is old new input input' out out' came same did =
    subst (λ (a : Command). DoesRequest clients a old new input input' out out' came) (sym same) did

module _ (clients : Meaning) (s : StoreValue) (o : Outside) where
  -- nothing was done to it
  pub still_serves : (came : Outcome) → IsServed clients s o → ServesOn clients s o came
  still_serves outcome.DiskFault served = tt
  still_serves outcome.Memory served = served.ready
  still_serves _ served = served

  -- memory was wanting before anything was done
  pub memory_added : (plan : Facts → EntryPlan) (settles : Settling) (out out' : Stream)
      → IsServed clients s o → IsIdle out out'
      → HasAdded clients plan settles o o out out' outcome.Memory
  memory_added plan settles out out' served idle =
      let was = served.ready.loaded in
      record {
        run = was.run;
        did =
            inl (stops_memory clients (λ f. plan_refusal (plan f)) NeverReads o o out out' was.run
            idle s was.rests was.facts tt);
      }

-- a command that may change the sessions of the store is none that leaves them
pub not_leaving : {P : Type 0} (asked is : Command) → asked ≡ is → leaves_sessions is ≡ false
    → leaves_sessions asked ≡ true → P
not_leaving asked is same may leaves =
    absurd (false≢true (sym may ∙ ap leaves_sessions (sym same) ∙ leaves))

-- ---- a store that is there

open_somewhere : (a b c : Bool) (n : ℕ)
    → cond a (cond b (Some 1) (Some 0)) (cond c (Some 1) None) ≡ Some n → (a || c) ≡ true
open_somewhere true b c n is = refl
open_somewhere false b true n is = refl
open_somewhere false b false n is = cc

same_two : (files : Option (Two File)) (two two' : Two File) → files ≡ Some two → files ≡ Some two'
    → read_files two' ≡ read_files two
same_two files two two' told told' =
    let both : Some two' ≡ Some two = sym told' ∙ told in
    let one : two' ≡ two = cc in
    ap read_files one

pub begun_served : (clients : Meaning) (s : StoreValue) (o : Outside) (out out' : Stream)
    → IsServed clients s o → IsIdle out out' → HasBegun o o out out' outcome.Exists
begun_served clients s o out out' served idle = record {
  run = run_none o;
  by = idle;
  told = λ two files.
      let fit = served.ready.loaded.opened.ready.fits two files in
      let m = read_files two in
      record {
        moments = moments_none o _ (λ at w. inl (o.now_is two at files w));
        ends = λ two' files'. (
          open_somewhere (is_open m.first) (is_open m.second
              && nat_lt (generation_in m.first) (generation_in m.second)) (is_open m.second) s.file
              fit.1.file_is,
          same_two o.files two two' files files',
        );
      };
}

-- ---- the words of a group

-- a definition by its words
by_words : (P : GroupValue → Type 0) (name descriptor given rest : List ℕ) (major : ℕ)
    → given ≡ name → rest ≡ descriptor → P (group_named given major rest)
    → P (group_named name major descriptor)
by_words P name descriptor given rest major first second has =
    subst (λ (d : List ℕ). P (group_named name major d)) second
    (subst (λ (n : List ℕ). P (group_named n major rest)) first has)

pub group_added : (clients : Meaning) (asked : Command) (name descriptor given rest : List ℕ)
    (major : ℕ) (old new : Outside) (input input' out out' : Stream) (came : Outcome)
    → asked ≡ command.Group name major descriptor → given ≡ name → rest ≡ descriptor
    → HasAdded clients (λ f. group_plan clients f (group_named given major rest)) settling.Before
    old new out out' came
    → IsIdle input input' → DoesRequest clients asked old new input input' out out' came
group_added clients asked name descriptor given rest major old new input input' out out' came is
    first second added idle =
    as_asked clients asked (command.Group name major descriptor) old new input input' out out' came
    is (
      by_words (λ def. HasAdded clients (λ f. group_plan clients f def) settling.Before old new out
          out' came) name descriptor given rest major first second added,
      idle,
    )

pub word_said : (clients : Meaning) (asked : Command) (group : Id) (timestamp : ℕ) (join : Bool)
    (name descriptor given rest : List ℕ) (major : ℕ) (old new : Outside)
    (input input' out out' : Stream) (came : Outcome)
    → asked ≡ command.Say group timestamp join name major descriptor → given ≡ name
    → rest ≡ descriptor
    → HasAdded clients
    (say_plan clients (speech_of group timestamp join (group_named given major rest)))
    settling.BeforeAndAfter old new out out' came
    → IsIdle input input' → DoesRequest clients asked old new input input' out out' came
word_said clients asked group timestamp join name descriptor given rest major old new input input'
    out out' came is first second said idle =
    as_asked clients asked (command.Say group timestamp join name major descriptor) old new input
    input' out out' came is (
      by_words (λ def. HasAdded clients (say_plan clients (speech_of group timestamp join def))
          settling.BeforeAndAfter old new out out' came) name descriptor given rest major first second
          said,
      idle,
    )
