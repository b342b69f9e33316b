-- A device: its host, the node on it while it runs, how many links it has had, its clock, and where its disk is to stop.
use Rattle.std.specs.Prelude.{◌≡◌, ℕ, ◌≤◌, false, [], ◌∷◌, length, Option, IfSome, IsSomeAnd, refl}
use Rattle.std.specs.Coded.{Coded, code_by, coded×, coded_option, coded_ℕ}
use Rattle.outside.specs.Calls.{CallsGoOn, ChangesNone}
use Rattle.outside.specs.MemDisk.{calls_of}
use Rattle.outside.specs.MemHost.{MemHostValue, upcoming_of}
use Rattle.outside.specs.HostTold.{host_told}
use Rattle.outside.specs.declared.limits.TheConstants.{LINKS, MAX_JOURNAL}
use Rattle.outside.specs.contracts.mem_host.MemHost as mem_host
use Rattle.client_basic.specs.Bodies.{bundle_meaning}
use Rattle.sync_rules.specs.declared.entries.Entry.{Entry}
use Rattle.sync_rules.specs.Legal.{Allowed}
use Rattle.sync_rules.specs.Steps.{IsSettled}
use Rattle.sync_store.specs.Store.{StoreValue}
use Rattle.sync_store.specs.Ready.{IsReady}
use Rattle.sync_course.specs.Free.{IsPlain}
use Rattle.sync_node.specs.Node.{IsNode, NodeValue, node_code, MayRun}
use Rattle.world_devices.specs.Brought.{IsSilent, brought_on}
use Rattle.world_devices.specs.Keeping.{AreLinksQuiet, IsRunSoFar, HoldsLaterJournal}
use Rattle.world_devices.specs.declared.stop.Stop.{Stop}
use Rattle.world_devices.specs.contracts.stop.Stop as stop

pub record DeviceValue : Type 0 where
  pub host : MemHostValue
  pub node : Option NodeValue
  pub links : ℕ
  pub clock : ℕ
  pub stop : Option Stop

abbrev pub device_code : Coded DeviceValue
device_code =
    code_by (MemHostValue × (Option NodeValue × (ℕ × (ℕ × Option Stop))))
    (coded× mem_host.the_row.coded (coded× (coded_option node_code) (coded× coded_ℕ (coded× coded_ℕ (coded_option stop.the_row.coded)))))
    (λ d. (d.host, (d.node, (d.links, (d.clock, d.stop)))))
    (λ p. record { host = p.0; node = p.1.0; links = p.1.1.0; clock = p.1.1.1.0; stop = p.1.1.1.1 })
    (λ _. refl)

-- how many links a host has
abbrev pub links_made : MemHostValue → ℕ
links_made host = (host_told host).links.dialled

-- A host has all its links; nothing is planned on them, and nothing was heard or sent. Its clock gives this time again and again.
pub record IsAnew (clock : ℕ) (host : MemHostValue) : Type 0 where
  pub dialled : links_made host ≡ LINKS
  pub silent : IsSilent host
  pub quiet : AreLinksQuiet (host_told host)
  pub upcoming : upcoming_of host.clock ≡ clock ∷ []

-- Calls of a host more: its disk began with the same files, which of its calls are to fail stays, and what changed it before is a
-- front of what has changed it now.
abbrev pub HostGoesOn : MemHostValue → MemHostValue → Type 0
HostGoesOn old new = CallsGoOn (calls_of old.disk) (calls_of new.disk)

-- no call of its disk was made, and its files are as before
pub record LeavesDisk (old new : MemHostValue) : Type 0 where
  pub files : (host_told new).files ≡ (host_told old).files
  pub made : new.disk.made ≡ old.disk.made
  pub calls : HostGoesOn old new
  pub unchanged : ChangesNone (calls_of old.disk) (calls_of new.disk)

-- a store that was loaded and settled, with the greatest limit
pub record IsStarted (s : StoreValue) (host : MemHostValue) : Type 0 where
  pub ready : IsReady bundle_meaning s (host_told host).files
  pub settled : IsSettled bundle_meaning s.state.facts
  pub limit : s.limit ≡ MAX_JOURNAL

-- the node may go on and its acts since it began lead to where it stands, its journal may have the greatest length, its links are those that the device has had, and its host has all links that it may get;
-- of these, one that the device has not had brings nothing
pub record IsRunning (n : NodeValue) (host : MemHostValue) (links : ℕ) : Type 0 where
  pub unclosed : n.closed ≡ false
  pub runs : IsRunSoFar n (host_told host)
  pub may : MayRun bundle_meaning n (host_told host)
  pub limit : n.store.limit ≡ MAX_JOURNAL
  pub linked : links ≡ length n.links
  pub dialled : LINKS ≤ links_made host
  pub attached : IsNode n
  pub unused : (link : ℕ) → links ≤ link → brought_on host link ≡ []

-- the same where the device runs
abbrev pub MayBeRunning : Option NodeValue → MemHostValue → ℕ → Type 0
MayBeRunning node host links = IfSome node (λ n. IsRunning n host links)

-- What a device always keeps: whatever a crash leaves of its files stands for a journal, of which no batch begins a brief account;
-- and it has had no more links than it may get.
abbrev pub IsDevice : Option NodeValue → MemHostValue → ℕ → Type 0
IsDevice node host links = MayBeRunning node host links × HoldsLaterJournal [] (host_told host) × (links ≤ LINKS)

-- where the device runs and its node is open, an entry may follow its journal, and it is none of a session
pub record MayAddTo (n : NodeValue) (e : Entry) : Type 0 where
  pub allowed : n.closed ≡ false → Allowed bundle_meaning n.store.state.facts (e ∷ [])
  pub plain : IsPlain (e ∷ [])

abbrev pub MayAddEntry : Option NodeValue → Entry → Type 0
MayAddEntry node e = IfSome node (λ n. MayAddTo n e)

-- the store of a device that runs, whose journal is settled
abbrev pub IsReadyStore : Option NodeValue → StoreValue → Type 0
IsReadyStore node s =
    IsSomeAnd node (λ n. (s ≡ n.store) × (n.closed ≡ false → IsSettled bundle_meaning n.store.state.facts))
