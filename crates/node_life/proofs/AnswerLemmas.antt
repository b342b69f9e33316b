-- What is said of commands, and what stands behind them.
use Rattle.std.proofs.Common.{◌≡◌, ℕ, Bool, true, false, List, [], refl, sym, ap, ◌∙◌, subst, inl, inr}
use Rattle.std.proofs.Common.{Some, Ok, Err}
use Rattle.std.specs.Prelude.{◌⊎◌}
use Rattle.outside.specs.Outside.{Outside}
use Rattle.outside.specs.Streams.{Stream}
use Rattle.request_frames.specs.Requests.{Request}
use Rattle.sync_rules.specs.Clients.{Meaning}
use Rattle.sync_store.specs.Store.{StoreValue}
use Rattle.sync_words.specs.declared.outcome.Outcome.{Outcome}
use Rattle.sync_words.specs.declared.outcome.Outcome.TheVariants as outcome
use Rattle.commands.specs.Reading.{Asked, words_came}
use Rattle.commands.specs.Reading.Asked.{Do}
use Rattle.commands.specs.declared.command.Command.{Command}
use Rattle.commands.specs.declared.command.Command.TheVariants as command
use Rattle.commands.specs.declared.fault.WordsFault.{WordsFault}
use Rattle.commands.specs.declared.fault.WordsFault.TheVariants as fault
use Rattle.store_commands.specs.Serving.{IsReadyToServe, ServesOn}
use Rattle.node_service.specs.Words.{AreWords, IsAskedBy, parts_of}
use Rattle.node_service.specs.declared.node.Reply.{Reply}
use Rattle.node_requests.specs.Requests.{DoesRequest, is_done_by_node}
use Rattle.node_life.specs.Inputs.{ReadsGiven}
use Rattle.node_life.specs.Requests.{AnswersAsked, AnswersOr, AnswersRequest, AnswersSettled}
use Rattle.node_life.specs.Requests.{AreStreams, HasDoneOver, Said, StaysReady, StaysUnsettled}
use Rattle.node_life.specs.Requests.{bare, said_by, said_of}
use Rattle.node_life.specs.Settling.{HasSettled, StandsNow}
use Rattle.node_life.proofs.SettleLemmas.{stands_ready}

-- ---- the store behind a command

module _ (clients : Meaning) (s : StoreValue) (o : Outside) (reply : Reply) (text : List ℕ) where
  -- a store that is served may be used again, whatever was said
  pub served_stays : (came : Outcome) → said_by reply text ≡ said_of came text
      → ServesOn clients s o came → StaysReady clients s o reply
  served_stays outcome.DiskFault is serves =
      inl (ap (λ (x : Said). x.came) is, ap (λ (x : Said). x.ends) is)
  served_stays outcome.Memory is serves = inr serves
  served_stays _ is serves = inr serves.ready

  -- so may one whose journal was not settled
  pub unsettled_stays : (came : Outcome) → said_by reply text ≡ said_of came text
      → ((came ≡ outcome.DiskFault → ⊥) → IsReadyToServe clients s o)
      → StaysReady clients s o reply
  unsettled_stays outcome.DiskFault is ready =
      inl (ap (λ (x : Said). x.came) is, ap (λ (x : Said). x.ends) is)
  unsettled_stays _ is ready = inr (ready (λ e. cc))

-- a node that goes on holds a store that is ready
pub ready_goes_on : (clients : Meaning) (s : StoreValue) (o : Outside) (reply : Reply)
    → StaysReady clients s o reply → reply.ends ≡ false → IsReadyToServe clients s o
ready_goes_on clients s o reply (inl failed) goes_on =
    absurd (let both : true ≡ false = sym failed.1 ∙ goes_on in cc)
ready_goes_on clients s o reply (inr ready) goes_on = ready

pub synced_stays : (clients : Meaning) (s : StoreValue) (o : Outside) (reply : Reply)
    → StaysReady clients s o reply
    → ((reply.came ≡ outcome.DiskFault) × (reply.ends ≡ true)) ⊎ StandsNow clients o
synced_stays clients s o reply (inl failed) = inl failed
synced_stays clients s o reply (inr ready) = inr (stands_ready clients s o ready)

-- ---- what is said

module _ {H : Type 0} (tells : H → Outside) (clients : Meaning) where
  pub as_command : (given : (input input' : Stream) → Type 0) (asked is : Command) (old new : H)
      (said : Said) → asked ≡ is → AnswersAsked tells clients given (Do is) old new said
      → AnswersAsked tells clients given (Do asked) old new said
  as_command given asked is old new said same answers =
      subst (λ (a : Command). AnswersAsked tells clients given (Do a) old new said) (sym same)
      answers

  pub on_store : (given : (input input' : Stream) → Type 0) (asked : Command) (old new : H)
      (said : Said) → is_done_by_node asked ≡ true
      → AnswersSettled tells clients given asked old new said
      ⊎ StaysUnsettled tells clients old new said
      → AnswersAsked tells clients given (Do asked) old new said
  on_store given (command.Try name descriptor) old new said done answers =
      absurd (let e : false ≡ true = done in cc)
  on_store given command.Records old new said done answers =
      absurd (let e : false ≡ true = done in cc)
  on_store given (command.Sync turns quiet links) old new said done answers =
      absurd (let e : false ≡ true = done in cc)
  on_store given command.Serve old new said done answers =
      absurd (let e : false ≡ true = done in cc)
  on_store given command.Quit old new said done answers =
      absurd (let e : false ≡ true = done in cc)
  on_store given _ old new said done answers = answers

  -- a command that was done
  pub said_done : (asked : Command) (old between new : H) (input input' out out' : Stream)
      (came : Outcome) (said : Said) (printed : List ℕ)
      → HasSettled clients (tells old) (tells between) outcome.Done → out.bytes ≡ Some []
      → out'.bytes ≡ Some printed → said ≡ said_of came printed
      → DoesRequest clients asked (tells between) (tells new) input input' out out' came
      → AnswersSettled tells clients (AreStreams input input') asked old new said
  said_done asked old between new input input' out out' came said printed settled empty text is did =
      record {
        between = between;
        settled = settled;
        answers = record {
          input = input;
          input' = input';
          has = (refl, refl);
          out = out;
          out' = out';
          empty = empty;
          printed = printed;
          text = text;
          came = came;
          did = did;
          is = is;
        };
      }

  -- ---- a request

  -- its words were read, and its command answered
  pub request_done : (request : Request) (words : List ℕ) (asked : Command) (old new : H)
      (came : Outcome) (out : List ℕ) (ends : Bool) → request.words ≡ words
      → IsAskedBy words (Ok asked)
      → AnswersOr tells clients (ReadsGiven request.size request.input) asked old new
      (record { came = came; out = out; ends = ends })
      → ((came ≡ outcome.DiskFault) × (ends ≡ true)) ⊎ StandsNow clients (tells new)
      → AnswersRequest tells clients request old new came out ends
  request_done request words asked old new came out ends is ask (inl none) synced =
      record { does = inl none; synced = synced }
  request_done request words asked old new came out ends is ask (inr answers) synced = record {
    does = inr (record {
      words = ask.words;
      are = subst (λ (w : List ℕ). AreWords (parts_of w) ask.words) (sym is) ask.are;
      answers =
          subst (λ (a : Asked).
          AnswersAsked tells clients (ReadsGiven request.size request.input) a old new
          (record { came = came; out = out; ends = ends })) (sym ask.read) answers;
    });
    synced = synced;
  }

  -- its words were not read
  pub request_unread : (request : Request) (words : List ℕ) (e : WordsFault) (o : H)
      (came : Outcome) (out : List ℕ) (ends : Bool) → request.words ≡ words
      → IsAskedBy words (Err e)
      → record { came = came; out = out; ends = ends } ≡ bare (words_came e)
      → StandsNow clients (tells o) → AnswersRequest tells clients request o o came out ends
  request_unread request words fault.Memory o came out ends is ask said stands =
      record { does = inl (refl, said); synced = inr stands }
  request_unread request words (fault.Usage place) o came out ends is ask said stands = record {
    does = inr (record {
      words = ask.words;
      are = subst (λ (w : List ℕ). AreWords (parts_of w) ask.words) (sym is) ask.are;
      answers =
          subst (λ (a : Asked).
          AnswersAsked tells clients (ReadsGiven request.size request.input) a o o
          (record { came = came; out = out; ends = ends })) (sym ask.read) (refl, said);
    });
    synced = inr stands;
  }

-- what was done for a command is so for what is that command
pub done_as : {H : Type 0} (tells : H → Outside) (clients : Meaning) (kept : List ℕ)
    (asked is : Command) (old new : H) (s : StoreValue) (reply : Reply) (out : List ℕ) → asked ≡ is
    → HasDoneOver tells clients kept is old new s reply out
    → HasDoneOver tells clients kept asked old new s reply out
done_as tells clients kept asked is old new s reply out same done =
    subst (λ (a : Command). HasDoneOver tells clients kept a old new s reply out) (sym same) done
