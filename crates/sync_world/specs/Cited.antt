-- The laws of the crates below that the proofs of this one rest on.
use Rattle.std.specs.Prelude.{ℕ, Bool, List}
use Rattle.record_grammar.specs.Laws.{FrontsHaveFronts, SpelledRecordsAreStreams, RecordsReadBack}
use Rattle.sync_rules.specs.declared.entries.Entry.{Entry}
use Rattle.sync_rules.specs.Clients.{Meaning}
use Rattle.sync_rules.specs.Facts.{ExtendsJournal}
use Rattle.sync_rules.specs.Legal.{Legal}
use Rattle.sync_rules.specs.Naming.{MessageIdsAreWhole}
use Rattle.sync_rules.specs.Output.{GoesOnFrom, sent}
use Rattle.world_laws.specs.Moves.{Move, world_after}
use Rattle.world_laws.specs.Theorem.{IsNewWorld, IsSoundWorld}
use Rattle.world_laws.specs.Worlds.{AreSteps, IsStep, World, last_of}

-- what spellings are read as, how long the ids of messages are, and that what a session sends only
-- grows
pub record RecordLaws : Type 0 where
  pub read_back : RecordsReadBack
  pub streams : SpelledRecordsAreStreams
  pub fronts : FrontsHaveFronts
  pub whole : MessageIdsAreWhole
  pub grows : (clients : Meaning) (j before : List (List Entry)) (session : ℕ)
      → ExtendsJournal j before → Legal clients j
      → GoesOnFrom (sent j session) (sent before session)

-- what steps of a world keep, and that moves are steps
pub record WorldLaws : Type 0 where
  pub new : (clients : Meaning) (w : World) → IsNewWorld clients w → IsSoundWorld clients w
  pub steps : (clients : Meaning) (w : World) (worlds : List World) → IsSoundWorld clients w
      → AreSteps clients w worlds
      → IsSoundWorld clients (last_of w worlds)
  pub moves : (clients : Meaning) (w : World) (move : Move) (near : Bool) (link : ℕ)
      → IsStep clients w (world_after move near link w)
