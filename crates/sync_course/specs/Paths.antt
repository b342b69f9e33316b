-- Paths of a machine: events one after the other, each a step from the place where the one before it led.
use Rattle.std.specs.Prelude.{◌≡◌, ◌*◌, List, [], ◌∷◌, ◌++◌, length}
use Rattle.outside.specs.Outside.{Outside, MakesAtMost}
use Rattle.sync_rules.specs.declared.entries.Entry.{Entry}
use Rattle.sync_course.specs.Events.{AreQuietEvents, Event, batches_of, TellsEvents}

-- from one place by these events to another; so also by acts
abbrev pub Path : {E P : Type 0} → (P → E → P → Type 0) → P → List E → P → Type 0
Path step from [] to = to ≡ from
Path {P} step from (e ∷ es) to = (next : P) × step from e next × Path step next es to

-- What a call did: events that are told, and that lead from one place to another. Where the journal was j before, as `Before`
-- says, it is j with the batches of the events afterwards, as `After` says. Each of these batches took at most four calls of the
-- disk, where those are told; so did each of some that were next.
pub record RunsPath {P : Type 0} (step : P → Event → P → Type 0) (Before After : List (List Entry) → Type 0) (from to : P) (old new : Outside) (next : List (List Entry)) : Type 0 where
  pub events : List Event
  pub path : Path step from events to
  pub told : TellsEvents events old new
  pub journal : (j : List (List Entry)) → Before j → After (j ++ batches_of events)
  pub calls : MakesAtMost (4 * length (next ++ batches_of events)) old new

-- What a call did that was broken off: it led to some place. From there some batches were to be
-- committed next, and it was broken off in one of them or behind them.
pub record BreaksPath {P : Type 0} (step : P → Event → P → Type 0) (Before After : List (List Entry) → Type 0) (from : P) (old new : Outside) : Type 0 where
  pub to : P
  pub next : List Event
  pub quiet : AreQuietEvents next
  pub beyond : P
  pub goes_on : Path step to next beyond
  pub runs : RunsPath step Before After from to old new (batches_of next)
