-- What came of a batch that was to be committed, and of settling.
use Rattle.std.specs.Prelude.{◌≡◌, ◌≢◌, ◌<◌, false, List, [], ◌∷◌, ◌++◌}
use Rattle.sync_store.specs.Commits.{KeepsStore, needed}
use Rattle.sync_store.specs.Gathering.{AddsBehind, KeepsJournal}
use Rattle.sync_store.specs.Groups.{IsGathering}
use Rattle.sync_store.specs.Store.{StoreValue}
use Rattle.sync_node.specs.declared.fault.Fault.{Fault}
use Rattle.outside.specs.Faults.{CountRose}
use Rattle.outside.specs.Outside.{DiskRun, Outside}
use Rattle.sync_rules.specs.declared.entries.Entry.{Entry}
use Rattle.sync_rules.specs.Clients.{Meaning}
use Rattle.sync_rules.specs.Facts.{Journal, after_all, after_batches}
use Rattle.sync_rules.specs.Legal.{AllSettling}
use Rattle.sync_rules.specs.Steps.{IsSettled}
use Rattle.sync_store.specs.Ready.{IsReady}
use Rattle.sync_store.specs.Runs.{AddsBatch}
use Rattle.sync_course.specs.Acts.{commit_acts}
use Rattle.sync_node.specs.Did.{Did, DidSome, Underway, UnderwayBreaks}
use Rattle.sync_node.specs.Going.{LetsNothingFall}
use Rattle.sync_node.specs.declared.fault.Fault.TheVariants as fault

-- the store is as before in all that contracts ask of it, and the host is the same
pub record IsUndone {H : Type 0} (s s' : StoreValue) (host host' : H) : Type 0 where
  pub stays : KeepsStore s s'
  pub same_host : host' ≡ host

abbrev pub IsUndoneBy : {H : Type 0} → StoreValue → StoreValue → H → H → Fault → Type 0
IsUndoneBy s s' host host' fault.Memory = IsUndone s s' host host'
IsUndoneBy s s' host host' fault.Full = IsUndone s s' host host'
IsUndoneBy s s' host host' fault.DiskFault = Unit {0}

-- nothing was done, and the store is ready
pub record NodeStaysIdle (clients : Meaning) (s s' : StoreValue) (o o' : Outside) : Type 0 where
  pub did : Did clients [] s s' o o'
  pub ready : IsReady clients s' o'.files

-- batches were to be committed, and a call of the disk failed: some of them stand, from the first on
pub record Breaks (clients : Meaning) (may : Journal) (s s' : StoreValue)
    (o o' : Outside) : Type 0 where
  pub front : Journal
  pub others : Journal
  pub parts : may ≡ front ++ others
  pub did : DidSome clients (commit_acts front) (commit_acts others) s s' o o'
  pub rose : CountRose o.disk_faults o'.disk_faults

-- ---- one batch

pub record Committed (clients : Meaning) (batch : List Entry) (s s' : StoreValue)
    (o o' : Outside) : Type 0 where
  pub did : Did clients (commit_acts (batch ∷ [])) s s' o o'
  pub facts : s'.state.facts ≡ after_all s.state.facts batch
  pub ready : IsReady clients s' o'.files

-- with it the journal would pass the limit
pub record HasNoRoom (clients : Meaning) (batch : List Entry) (s s' : StoreValue)
    (o o' : Outside) : Type 0 where
  pub idle : NodeStaysIdle clients s s' o o'
  pub before : s.limit < needed s batch
  pub over : s'.limit < needed s' batch

abbrev pub CommitStops : Meaning → List Entry → StoreValue → StoreValue → Outside → Outside → Fault
    → Type 0
CommitStops clients batch s s' o o' fault.Memory = NodeStaysIdle clients s s' o o'
CommitStops clients batch s s' o o' fault.Full = HasNoRoom clients batch s s' o o'
CommitStops clients batch s s' o o' fault.DiskFault = Breaks clients (batch ∷ []) s s' o o'

-- ---- a batch that waits

-- the batch waits behind those that waited, or was added
pub record Joined (clients : Meaning) (batch : List Entry) (s s' : StoreValue)
    (o o' : Outside) : Type 0 where
  pub under : Underway clients (commit_acts (batch ∷ [])) s s' o o'
  pub facts : s'.state.facts ≡ after_all s.state.facts batch
  pub waits : IsGathering clients s' o'.files

-- nothing was gathered, and what waits does still, or was added
pub record StoreStaysIdle (clients : Meaning) (s s' : StoreValue) (o o' : Outside) : Type 0 where
  pub under : Underway clients [] s s' o o'
  pub facts : s'.state.facts ≡ s.state.facts
  pub waits : IsGathering clients s' o'.files

-- with it the journal would pass the limit
pub record FindsNoRoom (clients : Meaning) (batch : List Entry) (s s' : StoreValue)
    (o o' : Outside) : Type 0 where
  pub idle : StoreStaysIdle clients s s' o o'
  pub over : s'.limit < needed s' batch

abbrev pub JoinHalts : Meaning → List Entry → StoreValue → StoreValue → Outside → Outside → Fault
    → Type 0
JoinHalts clients batch s s' o o' fault.Memory = StoreStaysIdle clients s s' o o'
JoinHalts clients batch s s' o o' fault.Full = FindsNoRoom clients batch s s' o o'
JoinHalts clients batch s s' o o' fault.DiskFault = UnderwayBreaks clients [] s s' o o'

-- ---- settling behind batches that wait

-- these settling batches wait behind those that waited, or were added
pub record SettlesBy (clients : Meaning) (s s' : StoreValue) (o o' : Outside) : Type 0 where
  pub more : Journal
  pub settling : AllSettling clients s.state.facts more
  pub under : Underway clients (commit_acts more) s s' o o'
  pub facts : s'.state.facts ≡ after_batches s.state.facts more
  pub waits : IsGathering clients s' o'.files

-- and nothing is left to be settled
pub record Settled (clients : Meaning) (s s' : StoreValue) (o o' : Outside) : Type 0 where
  pub by : SettlesBy clients s s' o o'
  pub settled : IsSettled clients s'.state.facts

pub record SettlingBreaks (clients : Meaning) (s s' : StoreValue) (o o' : Outside) : Type 0 where
  pub more : Journal
  pub settling : AllSettling clients s.state.facts more
  pub breaks : UnderwayBreaks clients (commit_acts more) s s' o o'

abbrev pub SettleHalts : Meaning → StoreValue → StoreValue → Outside → Outside → Fault → Type 0
SettleHalts clients s s' o o' fault.Memory = SettlesBy clients s s' o o'
SettleHalts clients s s' o o' fault.Full = ⊥
SettleHalts clients s s' o o' fault.DiskFault = SettlingBreaks clients s s' o o'

-- ---- a flush

-- what waited was added
pub record Flushed (clients : Meaning) (s s' : StoreValue) (o o' : Outside) : Type 0 where
  pub adds : AddsBehind clients s s' o o' []
  pub still_open : s'.closed ≡ false
  pub keeps : KeepsJournal s s'
  pub run : DiskRun o o'
  pub goes : LetsNothingFall o o'
  pub ready : IsReady clients s' o'.files

-- ---- a batch that is added beside the sessions

-- nothing was committed, or the batch was and settling behind it
pub record CommitsAndSettles (clients : Meaning) (batch : List Entry) (s s' : StoreValue)
    (o o' : Outside) : Type 0 where
  pub more : Journal
  pub adds : AddsBatch clients s.state.facts batch more
  pub did : Did clients (commit_acts more) s s' o o'
  pub facts : s'.state.facts ≡ after_batches s.state.facts more
  pub ready : IsReady clients s' o'.files

-- it was, nothing is left to be settled, and no link was asked
pub record Added (clients : Meaning) (batch : List Entry) (s s' : StoreValue)
    (o o' : Outside) : Type 0 where
  pub by : CommitsAndSettles clients batch s s' o o'
  pub some : by.more ≢ []
  pub same_links : o'.links ≡ o.links
  pub settled : IsSettled clients s'.state.facts

pub record AddingFull (clients : Meaning) (batch : List Entry) (s s' : StoreValue)
    (o o' : Outside) : Type 0 where
  pub idle : NodeStaysIdle clients s s' o o'
  pub before : s.limit < needed s batch

pub record AddingBreaks (clients : Meaning) (batch : List Entry) (s s' : StoreValue)
    (o o' : Outside) : Type 0 where
  pub more : Journal
  pub adds : AddsBatch clients s.state.facts batch more
  pub breaks : Breaks clients more s s' o o'

abbrev pub AddStops : Meaning → List Entry → StoreValue → StoreValue → Outside → Outside → Fault
    → Type 0
AddStops clients batch s s' o o' fault.Memory = CommitsAndSettles clients batch s s' o o'
AddStops clients batch s s' o o' fault.Full = AddingFull clients batch s s' o o'
AddStops clients batch s s' o o' fault.DiskFault = AddingBreaks clients batch s s' o o'
