-- Where calls led on a machine whose steps are acts, and where they stopped.
use Rattle.std.specs.Prelude.{◌≡◌, ℕ, ◌<◌, List, length}
use Rattle.outside.specs.Faults.{CountRose}
use Rattle.outside.specs.Outside.{Outside}
use Rattle.sync_rules.specs.declared.entries.Entry.{Entry}
use Rattle.sync_rules.specs.Clients.{Meaning}
use Rattle.sync_store.specs.Commits.{needed}
use Rattle.sync_store.specs.Ready.{IsReady}
use Rattle.sync_store.specs.Store.{StoreValue}
use Rattle.sync_store.specs.Groups.{IsGathering}
use Rattle.sync_course.specs.Acts.{Act, AreQuiet, Does, batches_in}
use Rattle.sync_course.specs.Events.{Commit}
use Rattle.sync_course.specs.Owing.{Owing, OwesNothing}
use Rattle.sync_course.specs.Paths.{Path}
use Rattle.sync_node.specs.declared.fault.Fault.{Fault}
use Rattle.sync_node.specs.declared.fault.Fault.TheVariants as fault
use Rattle.sync_node.specs.Did.{Did, DidSome, Underway, UnderwayBreaks}

-- from one place to another: these acts were done, and lead there
pub record Went {P : Type 0} (clients : Meaning) (step : P → Act → P → Type 0) (from to : P)
    (s s' : StoreValue) (o o' : Outside) : Type 0 where
  pub acts : List Act
  pub path : Path step from acts to
  pub did : Did clients acts s s' o o'

-- and so many batches were committed on the way
pub record Makes {P : Type 0} (clients : Meaning) (step : P → Act → P → Type 0) (from to : P)
    (s s' : StoreValue) (o o' : Outside) (count : ℕ) : Type 0 where
  pub went : Went clients step from to s s' o o'
  pub counts : length (batches_in went.acts) ≡ count

-- A place has this, or one has it to which acts lead that call nothing but the disk: a link notes
-- what the records of a piece say of it before their batches are added.
pub record HasSoon {P : Type 0} (step : P → Act → P → Type 0) (Has : P → Type 0)
    (place : P) : Type 0 where
  pub acts : List Act
  pub quiet : AreQuiet acts
  pub next : P
  pub path : Path step place acts next
  pub has : Has next

-- Memory was wanting: the calls led to some place at which no bytes are owed, and the store is
-- ready.
pub record StopsReady {P : Type 0} (clients : Meaning) (step : Owing P → Act → Owing P → Type 0)
    (Has : Owing P → Type 0) (from : Owing P) (s s' : StoreValue) (o o' : Outside) : Type 0 where
  pub to : Owing P
  pub went : Went clients step from to s s' o o'
  pub clear : OwesNothing to
  pub stands : HasSoon step Has to
  pub ready : IsReady clients s' o'.files

-- A batch is to be committed there next, with which the journal would pass the limit; no bytes are
-- owed.
pub record StopsFull {P : Type 0} (clients : Meaning) (step : Owing P → Act → Owing P → Type 0)
    (Has : Owing P → Type 0) (from : Owing P) (s s' : StoreValue) (o o' : Outside) : Type 0 where
  pub to : Owing P
  pub went : Went clients step from to s s' o o'
  pub stands : HasSoon step Has to
  pub ready : IsReady clients s' o'.files
  pub clear : OwesNothing to
  pub batch : List Entry
  pub next : Owing P
  pub steps : step to (Does (Commit batch)) next
  pub over : s'.limit < needed s' batch

-- A call of the disk failed: the files as they read have what the acts to some place committed, and
-- these acts were to be done from there, which call nothing but the disk.
pub record StopsBroken {P : Type 0} (clients : Meaning) (step : P → Act → P → Type 0)
    (Has : P → Type 0) (from : P) (s s' : StoreValue) (o o' : Outside) : Type 0 where
  pub to : P
  pub acts : List Act
  pub path : Path step from acts to
  pub next : List Act
  pub quiet : AreQuiet next
  pub beyond : P
  pub goes_on : Path step to next beyond
  pub did : DidSome clients acts next s s' o o'
  pub stands : HasSoon step Has to
  pub rose : CountRose o.disk_faults o'.disk_faults

-- by the fault, calls that were broken off; what stands in the code is what `Has` says of the place
abbrev pub Stopped : {P : Type 0} → Meaning → (Owing P → Act → Owing P → Type 0)
    → (Owing P → Type 0) → Owing P
    → StoreValue → StoreValue → Outside → Outside → Fault → Type 0
Stopped clients step Has from s s' o o' fault.Memory =
    StopsReady clients step Has from s s' o o'
Stopped clients step Has from s s' o o' fault.Full = StopsFull clients step Has from s s' o o'
Stopped clients step Has from s s' o o' fault.DiskFault =
    StopsBroken clients step Has from s s' o o'

-- ---- acts whose batches wait

-- from one place to another: these acts are under way, and lead there
pub record Goes {P : Type 0} (clients : Meaning) (step : P → Act → P → Type 0) (from to : P)
    (s s' : StoreValue) (o o' : Outside) : Type 0 where
  pub acts : List Act
  pub path : Path step from acts to
  pub under : Underway clients acts s s' o o'

-- Memory was wanting: what is under way leads to some place at which no bytes are owed, and waits.
pub record HaltsReady {P : Type 0} (clients : Meaning) (step : Owing P → Act → Owing P → Type 0)
    (Has : Owing P → Type 0) (from : Owing P) (s s' : StoreValue) (o o' : Outside) : Type 0 where
  pub to : Owing P
  pub went : Goes clients step from to s s' o o'
  pub clear : OwesNothing to
  pub stands : HasSoon step Has to
  pub waits : IsGathering clients s' o'.files

-- A batch is to be committed there next, with which the journal would pass the limit; no bytes are
-- owed.
pub record HaltsFull {P : Type 0} (clients : Meaning) (step : Owing P → Act → Owing P → Type 0)
    (Has : Owing P → Type 0) (from : Owing P) (s s' : StoreValue) (o o' : Outside) : Type 0 where
  pub to : Owing P
  pub went : Goes clients step from to s s' o o'
  pub stands : HasSoon step Has to
  pub waits : IsGathering clients s' o'.files
  pub clear : OwesNothing to
  pub batch : List Entry
  pub next : Owing P
  pub steps : step to (Does (Commit batch)) next
  pub over : s'.limit < needed s' batch

-- A call of the disk failed in adding what was under way.
pub record HaltsBroken {P : Type 0} (clients : Meaning) (step : P → Act → P → Type 0)
    (Has : P → Type 0) (from : P) (s s' : StoreValue) (o o' : Outside) : Type 0 where
  pub to : P
  pub acts : List Act
  pub path : Path step from acts to
  pub breaks : UnderwayBreaks clients acts s s' o o'
  pub stands : HasSoon step Has to

-- by the fault, work that was broken off before what waits of it was added
abbrev pub Halted : {P : Type 0} → Meaning → (Owing P → Act → Owing P → Type 0)
    → (Owing P → Type 0) → Owing P
    → StoreValue → StoreValue → Outside → Outside → Fault → Type 0
Halted clients step Has from s s' o o' fault.Memory = HaltsReady clients step Has from s s' o o'
Halted clients step Has from s s' o o' fault.Full = HaltsFull clients step Has from s s' o o'
Halted clients step Has from s s' o o' fault.DiskFault =
    HaltsBroken clients step Has from s s' o o'
