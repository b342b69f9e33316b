-- What is told on a connection.
use Rattle.std.specs.Prelude.{◌≡◌, ◌⊎◌, ℕ, ◌+◌, Bool, true, false, List, [], ◌++◌, Some, Result, Ok, Err}
use Rattle.std.specs.Prelude.{codes}
use Rattle.std.specs.declared.alloc.AllocError.{AllocError}
use Rattle.node_service.specs.Lives.{spelled_answer}
use Rattle.sync_words.specs.declared.outcome.Outcome.{Outcome}
use Rattle.sync_words.specs.declared.outcome.Outcome.TheVariants as outcome
use Rattle.connections.specs.declared.connection.Standing.TheVariants as standing
use Rattle.connections.specs.Connections.{ConnectionValue}
use Rattle.connections.specs.Notices.{lines_in, notice_text}

-- this waits behind what waited
abbrev pub told_more : ConnectionValue → List ℕ → ConnectionValue
told_more c bytes = record c { waits = c.waits ++ bytes }

-- it hears on, and this waits behind what waited
abbrev pub hears_on : ConnectionValue → List ℕ → ConnectionValue
hears_on c bytes = record (told_more c bytes) { standing = standing.Hears }

-- The request that is there whole was answered: its answer waits whole, or for want of memory that there
-- is none; or nothing more does. It hears on.
abbrev pub GetsAnswer : Outcome → (shown : List ℕ) → (old new : ConnectionValue) → Result (Unit {0}) AllocError → Type 0
GetsAnswer came shown old new (Ok u) =
    (new ≡ hears_on old (spelled_answer came shown)) ⊎ (new ≡ hears_on old (spelled_answer outcome.Memory []))
GetsAnswer came shown old new (Err e) = new ≡ hears_on old []

-- a notice waits whole, or nothing of it
abbrev pub TellsNotice : (word : List ℕ) (number : ℕ) (bytes : List ℕ) → (old new : ConnectionValue) → Bool → Type 0
TellsNotice word number bytes old new true = new ≡ told_more old (notice_text word number bytes)
TellsNotice word number bytes old new false = new ≡ old

-- lines of the inbox from the place on that it watches wait, and it watches from behind them on
pub record TellsLines (lines : List ℕ) (old new : ConnectionValue) : Type 0 where
  pub from : ℕ
  pub watches : old.watch ≡ Some from
  pub is : new ≡ record (told_more old (notice_text (codes "deliver") from lines)) { watch = Some (from + lines_in lines) }
