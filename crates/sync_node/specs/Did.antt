-- What calls of a store and a host did, as acts: what is told of them, what the files stand for
-- behind them, what went out, and what a crash at each moment of them would leave. No place of a
-- run stands in it.
use Rattle.std.specs.Prelude.{◌≡◌, ◌⊎◌, ℕ, ◌*◌, ◌≤◌, true, List, ◌++◌, length}
use Rattle.frame_journal.specs.Appends.{Appends, BreaksAppends}
use Rattle.outside.specs.Faults.{CountRose}
use Rattle.outside.specs.Outside.{DiskRun, MakesAtMost, Moment, Outside}
use Rattle.outside.specs.Runs.{TellsAll}
use Rattle.sync_rules.specs.Clients.{Meaning}
use Rattle.sync_rules.specs.Facts.{Journal}
use Rattle.sync_store.specs.Store.{StoreValue}
use Rattle.sync_store.specs.Gathering.{AddsBehind, GathersBehind}
use Rattle.sync_course.specs.Acts.{Act, AreQuiet, AtFront, batches_in, events_of, sends_on}
use Rattle.sync_course.specs.Events.{TellsEvents as Tells}
use Rattle.sync_node.specs.Courses.{FitsWith, ReadsAs}
use Rattle.sync_node.specs.Going.{LetsNothingFall}
use Rattle.sync_node.specs.Output.{sent_on}

-- a moment that came with some calls has P: one since an earlier value of the clock is from before
-- them, or has P
pub record SinceThen (old new : Outside) (P : Moment → Type 0) : Type 0 where
  pub later : old.clock ≤ new.clock
  pub before : (t : ℕ) (m : Moment) → t ≤ old.clock → new.moments t m → old.moments t m ⊎ P m

-- where files and links are told, each moment that came with calls on a store is at a front of these
-- acts, whatever journal the files stood for
abbrev pub ComesAtFronts : Meaning → List Act → StoreValue → Outside → Outside → Type 0
ComesAtFronts clients acts s o o' =
    TellsAll o → (j : Journal) → FitsWith clients s o.files j
    → SinceThen o o' (AtFront clients acts j (sent_on o.links))

-- what went out, where links are told
abbrev pub HasSentBy : List Act → Outside → Outside → Type 0
HasSentBy acts o o' =
    TellsAll o → (link : ℕ) → sent_on o'.links link ≡ sent_on o.links link ++ sends_on link acts

-- These acts were done: the disk fits the store with the journal and their batches, each of which
-- took at most four calls of it; and the calls of it were those of appends to the journal's file.
pub record Did (clients : Meaning) (acts : List Act) (s s' : StoreValue)
    (o o' : Outside) : Type 0 where
  pub goes : LetsNothingFall o o'
  pub tells : Tells (events_of acts) o o'
  pub sent : HasSentBy acts o o'
  pub limit : s'.limit ≡ s.limit
  pub format : s'.format ≡ s.format
  pub fits : (j : Journal) → FitsWith clients s o.files j
      → FitsWith clients s' o'.files (j ++ batches_in acts)
  pub calls : MakesAtMost (4 * length (batches_in acts)) o o'
  pub file : s'.file ≡ s.file
  pub appends : Appends s.file s.end s'.end o o'
  pub moments : ComesAtFronts clients acts s o o'

-- These acts were done, and these were to be done next, which call nothing but the disk: a call of it
-- failed in one of them or behind them. The files as they read stand for the journal with the
-- batches of the first; a crash may leave some of the next ones too. The calls of the disk were those
-- of appends to the journal's file, up to the one that failed.
pub record DidSome (clients : Meaning) (acts next : List Act) (s s' : StoreValue)
    (o o' : Outside) : Type 0 where
  pub goes : LetsNothingFall o o'
  pub tells : Tells (events_of acts) o o'
  pub sent : HasSentBy acts o o'
  pub limit : s'.limit ≡ s.limit
  pub format : s'.format ≡ s.format
  pub reads : (j : Journal) → FitsWith clients s o.files j
      → ReadsAs clients o'.files (j ++ batches_in acts)
  pub calls : MakesAtMost (4 * length (batches_in next ++ batches_in acts)) o o'
  pub breaks : BreaksAppends s.file s.end o o'
  pub moments : ComesAtFronts clients (acts ++ next) s o o'

-- ---- acts whose batches wait

-- These acts are under way: batches that are gathered, and what calls nothing. Each batch was added
-- or waits behind those that waited before, to be added by a flush; nothing was called but the disk.
pub record Underway (clients : Meaning) (acts : List Act) (s s' : StoreValue)
    (o o' : Outside) : Type 0 where
  pub quiet : AreQuiet acts
  pub gathers : GathersBehind clients s s' o o' (batches_in acts)
  pub run : DiskRun o o'
  pub goes : LetsNothingFall o o'
  pub limit : s'.limit ≡ s.limit
  pub format : s'.format ≡ s.format

-- the same, and a call of the disk failed in adding them
pub record UnderwayBreaks (clients : Meaning) (acts : List Act) (s s' : StoreValue)
    (o o' : Outside) : Type 0 where
  pub quiet : AreQuiet acts
  pub adds : AddsBehind clients s s' o o' (batches_in acts)
  pub shut : s'.closed ≡ true
  pub run : DiskRun o o'
  pub goes : LetsNothingFall o o'
  pub limit : s'.limit ≡ s.limit
  pub format : s'.format ≡ s.format
  pub rose : CountRose o.disk_faults o'.disk_faults
