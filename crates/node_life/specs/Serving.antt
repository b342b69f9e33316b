-- A whole life of a node: what `serve std` does.
use Rattle.std.specs.Prelude.{◌≡◌, ◌⊎◌, Some}
use Rattle.outside.specs.Files.{File, Two, read_files}
use Rattle.outside.specs.Outside.{IsNow, MomentsAre, Outside}
use Rattle.outside.specs.Streams.{IsIdle, Stream}
use Rattle.file_standing.specs.Standing.{stands}
use Rattle.sync_rules.specs.Clients.{Meaning}
use Rattle.sync_words.specs.declared.outcome.Outcome.{Outcome}
use Rattle.sync_words.specs.declared.outcome.Outcome.TheVariants as outcome
use Rattle.store_commands.specs.Stopping.{StoodFor}
use Rattle.node_service.specs.Lives.{HasLived, requests_of}
use Rattle.node_life.specs.Requests.{AnswersRequest}
use Rattle.node_life.specs.Settling.{HasBegun}
use Rattle.node_life.specs.Ways.{StandsInLife}

-- no store was loaded, or its journal was not settled: nothing was read or written
pub record BeginsNot {H : Type 0} (tells : H → Outside) (clients : Meaning) (old new : H)
    (input input' out out' : Stream) (came : Outcome) : Type 0 where
  pub begun : HasBegun clients (tells old) (tells new) out came
  pub undone : came ≡ outcome.Done → ⊥
  pub unread : IsIdle input input'
  pub quiet : IsIdle out out'

-- A store was loaded and settled, and then the requests of the input were answered over it. At each
-- moment the files are as a crash might have left them before, or stand for a journal of this life.
pub record LivesOn {H : Type 0} (tells : H → Outside) (clients : Meaning) (old new : H)
    (input input' out out' : Stream) (came : Outcome) : Type 0 where
  pub begun : H
  pub begins : HasBegun clients (tells old) (tells begun) out outcome.Done
  pub lived : HasLived (AnswersRequest tells clients) begun new input input' out out' came
  pub moments : (two : Two File) → (tells old).files ≡ Some two
      → StoodFor (stands clients (read_files two)) (λ first.
      MomentsAre (tells old) (tells new) (λ m. IsNow two (tells old).links m
      ⊎ StandsInLife clients first (requests_of lived.answered) m.files))

-- a node served, or it could not begin to
abbrev pub HasServed : {H : Type 0} → (tells : H → Outside) → Meaning → (old new : H)
    → (input input' out out' : Stream) → Outcome → Type 0
HasServed tells clients old new input input' out out' came =
    BeginsNot tells clients old new input input' out out' came
    ⊎ LivesOn tells clients old new input input' out out' came
