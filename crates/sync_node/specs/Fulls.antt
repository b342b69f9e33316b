-- Where a call answers Full: it led to a place of the course from which the next step commits a
-- batch with which the journal, the batch's frame and the room for settling would pass the limit.
use Rattle.std.specs.Prelude.{◌<◌, List, []}
use Rattle.outside.specs.Outside.{Outside}
use Rattle.sync_rules.specs.declared.entries.Entry.{Entry}
use Rattle.sync_rules.specs.Clients.{Meaning}
use Rattle.sync_store.specs.Commits.{needed}
use Rattle.sync_store.specs.Store.{StoreValue}
use Rattle.sync_course.specs.Events.{Commit, Event}
use Rattle.sync_course.specs.Paths.{RunsPath}
use Rattle.sync_course.specs.Turns.{Place, RunStep, Terms}
use Rattle.sync_node.specs.Courses.{FitsWith}

-- the place that the call led to, and the batch; the store is as that place has it
pub record StopsFull {P : Type 0} (clients : Meaning) (step : P → Event → P → Type 0) (from : P)
    (s s' : StoreValue) (o o' : Outside) : Type 0 where
  pub to : P
  pub runs : RunsPath step (FitsWith clients s o.files) (FitsWith clients s' o'.files) from to o o' []
  pub batch : List Entry
  pub next : P
  pub steps : step to (Commit batch) next
  pub over : s'.limit < needed s' batch

abbrev pub RunFull : Meaning → Terms → Place → StoreValue → StoreValue → Outside → Outside → Type 0
RunFull clients terms p s s' o o' = StopsFull clients (RunStep clients terms) p s s' o o'
