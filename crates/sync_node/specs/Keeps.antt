-- What work comes to, and what it leaves, whatever was heard: nothing falls, the store keeps its
-- limit and its format, and behind a fault it is ready or the disk failed.
use Rattle.std.specs.Prelude.{◌≡◌, ℕ, List, Option, None, Some, Result, Ok, Err, IfErr, IfOk}
use Rattle.outside.specs.Faults.{CountRose}
use Rattle.outside.specs.Outside.{Outside}
use Rattle.sync_rules.specs.Clients.{Meaning}
use Rattle.sync_rules.specs.Steps.{IsSettled}
use Rattle.sync_store.specs.Groups.{IsGathering}
use Rattle.sync_store.specs.Ready.{IsReady}
use Rattle.sync_store.specs.Store.{StoreValue}
use Rattle.sync_node.specs.declared.fault.Fault.{Fault}
use Rattle.sync_node.specs.declared.fault.Fault.TheVariants as fault
use Rattle.sync_node.specs.declared.link.Link.{Link}
use Rattle.sync_node.specs.Causes.{LinkGoes, LinksGo, sessions_of}
use Rattle.sync_node.specs.Node.{AreAttached, MayGoOn}

-- by the fault of work on a store: where memory or room was wanting the store is ready; else a call
-- of the disk failed, and the count of its failures rose
abbrev pub IsReadyOrRose : Meaning → StoreValue → Outside → Outside → Fault → Type 0
IsReadyOrRose clients s o o' fault.Memory = IsReady clients s o'.files
IsReadyOrRose clients s o o' fault.Full = IsReady clients s o'.files
IsReadyOrRose clients s o o' fault.DiskFault = CountRose o.disk_faults o'.disk_faults

-- how a call was stopped, if it was
abbrev pub stop_of : {T E : Type 0} → Result T E → Option E
stop_of (Ok _) = None
stop_of (Err e) = Some e

-- by how work was stopped: it has this, or what a fault leaves
abbrev pub HasOrStops : Type 0 → Meaning → StoreValue → Outside → Outside → Option Fault → Type 0
HasOrStops Has clients s o o' None = Has
HasOrStops Has clients s o o' (Some e) = IsReadyOrRose clients s o o' e

pub record StoreKeeps (Has : Type 0) (clients : Meaning) (s s' : StoreValue)
    (o o' : Outside) (stop : Option Fault) : Type 0 where
  pub same_limit : s'.limit ≡ s.limit
  pub same_format : s'.format ≡ s.format
  pub answered : HasOrStops Has clients s' o o' stop

-- the store is ready and settled, and its sessions are those of before
pub record StaysSettled (clients : Meaning) (s s' : StoreValue) (o' : Outside) : Type 0 where
  pub ready : IsReady clients s' o'.files
  pub settled : IsSettled clients s'.state.facts
  pub same_sessions : s'.state.facts.sessions ≡ s.state.facts.sessions
  pub same_begun : s'.state.facts.begun ≡ s.state.facts.begun

-- of work on one link
pub record LinkKeeps (clients : Meaning) (number : ℕ) (l l' : Link) (s s' : StoreValue)
    (o o' : Outside) (stop : Option Fault) : Type 0 where
  pub link : LinkGoes number l l' o o'
  pub store : StoreKeeps (StaysSettled clients s s' o') clients s s' o o' stop

-- What is said of work on one link that came to a value, or was stopped by a fault.
abbrev pub OfLink : Type 0 → Type 1
OfLink T =
    Meaning → ℕ → Link → Link → StoreValue → StoreValue → Outside → Outside → T → Type 0

-- work on one link, by what it answers: what it came to, or where it was stopped, and what it keeps
pub record LinkWorks {T : Type 0} (Went : OfLink T) (Stops : OfLink Fault) (clients : Meaning)
    (number : ℕ) (l l' : Link) (s s' : StoreValue) (o o' : Outside)
    (result : Result T Fault) : Type 0 where
  pub went : IfOk result (Went clients number l l' s s' o o')
  pub stopped : IfErr result (Stops clients number l l' s s' o o')
  pub keeps : LinkKeeps clients number l l' s s' o o' (stop_of result)

-- ---- work on one link, before what waits of it was added

-- by the fault: where memory or room was wanting the store gathers still; else a call of the disk
-- failed, and the count of its failures rose
abbrev pub WaitsOrRose : Meaning → StoreValue → Outside → Outside → Fault → Type 0
WaitsOrRose clients s o o' fault.Memory = IsGathering clients s o'.files
WaitsOrRose clients s o o' fault.Full = IsGathering clients s o'.files
WaitsOrRose clients s o o' fault.DiskFault = CountRose o.disk_faults o'.disk_faults

abbrev pub HasOrHalts : Type 0 → Meaning → StoreValue → Outside → Outside → Option Fault → Type 0
HasOrHalts Has clients s o o' None = Has
HasOrHalts Has clients s o o' (Some e) = WaitsOrRose clients s o o' e

pub record StoreGathers (Has : Type 0) (clients : Meaning) (s s' : StoreValue)
    (o o' : Outside) (stop : Option Fault) : Type 0 where
  pub same_limit : s'.limit ≡ s.limit
  pub same_format : s'.format ≡ s.format
  pub answered : HasOrHalts Has clients s' o o' stop

-- the store gathers and is settled, and its sessions are those of before
pub record StaysGathering (clients : Meaning) (s s' : StoreValue) (o' : Outside) : Type 0 where
  pub waits : IsGathering clients s' o'.files
  pub settled : IsSettled clients s'.state.facts
  pub same_sessions : s'.state.facts.sessions ≡ s.state.facts.sessions
  pub same_begun : s'.state.facts.begun ≡ s.state.facts.begun

pub record LinkGathers (clients : Meaning) (number : ℕ) (l l' : Link) (s s' : StoreValue)
    (o o' : Outside) (stop : Option Fault) : Type 0 where
  pub link : LinkGoes number l l' o o'
  pub store : StoreGathers (StaysGathering clients s s' o') clients s s' o o' stop

pub record GatherWorks {T : Type 0} (Went : OfLink T) (Halts : OfLink Fault) (clients : Meaning)
    (number : ℕ) (l l' : Link) (s s' : StoreValue) (o o' : Outside)
    (result : Result T Fault) : Type 0 where
  pub went : IfOk result (Went clients number l l' s s' o o')
  pub halted : IfErr result (Halts clients number l l' s s' o o')
  pub keeps : LinkGathers clients number l l' s s' o o' (stop_of result)

-- ---- work on all links

-- links that were attached are attached still, and may go on
pub record StayAttached (clients : Meaning) (links links' : List Link) (s s' : StoreValue)
    (o' : Outside) : Type 0 where
  pub may : MayGoOn clients links' s' o'
  pub attached : (first : ℕ) → AreAttached first links s.state.facts
      → AreAttached first links' s'.state.facts

-- of work on all links
pub record LinksKeep (clients : Meaning) (links links' : List Link) (s s' : StoreValue)
    (o o' : Outside) (stop : Option Fault) : Type 0 where
  pub go : LinksGo links links' o o'
  pub same_sessions : sessions_of links' ≡ sessions_of links
  pub store : StoreKeeps (StayAttached clients links links' s s' o') clients s s' o o' stop

-- the same of links whose sessions are numbered from the first on
abbrev pub OfLinks : Type 0 → Type 1
OfLinks T =
    Meaning → ℕ → List Link → List Link → StoreValue → StoreValue → Outside → Outside → T → Type 0

pub record LinksWork {T : Type 0} (Went : OfLinks T) (Stops : OfLinks Fault) (clients : Meaning)
    (links links' : List Link) (s s' : StoreValue) (o o' : Outside)
    (result : Result T Fault) : Type 0 where
  pub went : (first : ℕ) → AreAttached first links s.state.facts
      → IfOk result (Went clients first links links' s s' o o')
  pub stopped : (first : ℕ) → AreAttached first links s.state.facts
      → IfErr result (Stops clients first links links' s s' o o')
  pub keeps : LinksKeep clients links links' s s' o o' (stop_of result)
