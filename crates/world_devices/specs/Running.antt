-- How the journal of a device goes on in a call, and which records it takes.
use Rattle.std.specs.Prelude.{◌≡◌, ℕ, ◌+◌, ◌-◌, Bool, true, cond, ◌&&◌, nat_le, nat_lt, List, [], ◌++◌, length, Option, Some, None, is_some}
use Rattle.outside.specs.Files.{Two, File, read_files}
use Rattle.outside.specs.HostTold.{host_told}
use Rattle.outside.specs.MemDisk.{disk_files, files_of}
use Rattle.outside.specs.MemHost.{MemHostValue}
use Rattle.record_grammar.specs.Stream.{records}
use Rattle.sync_ids.specs.declared.records.Record.{Record}
use Rattle.client_basic.specs.Bodies.{bundle_meaning}
use Rattle.entry_codec.specs.Standing.{journal}
use Rattle.file_standing.specs.Standing.{stands}
use Rattle.sync_rules.specs.Facts.{Journal, facts}
use Rattle.sync_rules.specs.Legal.{GoesOn}
use Rattle.sync_node.specs.Node.{NodeValue}
use Rattle.world_laws.specs.Worlds.{AllHeard, HasNoBrief}
use Rattle.world_devices.specs.Brought.{brought_on}
use Rattle.world_devices.specs.Devices.{DeviceValue}
use Rattle.world_devices.specs.Keeping.{AfterCrash, KeepsOn}

-- ---- the journal

-- whatever a crash leaves of the files of a host stands for this journal
abbrev pub HoldsAfterCrash : Journal → MemHostValue → Type 0
HoldsAfterCrash j host =
    AfterCrash (λ left. stands bundle_meaning left ≡ journal j) (host_told host)

-- the files as they read stand for this journal
pub record ReadsAsJournal (j : Journal) (host : MemHostValue) : Type 0 where
  pub each : (two : Two File) → (host_told host).files ≡ Some two → stands bundle_meaning (read_files two) ≡ journal j

-- ---- the records that it may take

-- the session is that of one of the node's links
abbrev pub is_session_of : NodeValue → ℕ → Bool
is_session_of n session = nat_le n.first session && nat_lt session (n.first + length n.links)

abbrev pub records_heard : Option NodeValue → MemHostValue → ℕ → List Record
records_heard None host session = []
records_heard (Some n) host session =
    cond (is_session_of n session) (records (brought_on host (session - n.first))) []

-- the records that a session of a device may take now: those that its link brings
abbrev pub records_for : DeviceValue → ℕ → List Record
records_for d session = records_heard d.node d.host session

-- ---- what a crash may leave

-- a journal went on from this one, by batches of which none begins a brief account, each record
-- that it took being one of these
pub record WentHearing (heard : ℕ → List Record) (j whole : Journal) : Type 0 where
  pub more : Journal
  pub plain : HasNoBrief more
  pub all_heard : AllHeard heard (facts j) more
  pub is : whole ≡ j ++ more

-- a crash leaves the files as they read
abbrev pub IsStill : MemHostValue → Type 0
IsStill host =
    AfterCrash (λ left. left ≡ read_files (files_of (disk_files host.disk))) (host_told host)

-- ---- a call

-- The journal of a device went on, behind j: by batches that may follow, none of which begins a brief account, each record that
-- they take being one of `heard`. The files as they read stand for it, and where the device runs whatever a crash leaves of them
-- does.
pub record JournalWentOn (heard : ℕ → List Record) (j : Journal) (new : DeviceValue) : Type 0 where
  pub more : Journal
  pub allowed : GoesOn bundle_meaning (facts j) more
  pub plain : HasNoBrief more
  pub all_heard : AllHeard heard (facts j) more
  pub reads : ReadsAsJournal (j ++ more) new.host
  pub holds : is_some new.node ≡ true → HoldsAfterCrash (j ++ more) new.host

-- A call of a device: from each journal that its files held, its journal went on, and each record
-- that it took is one that its links brought by then. Whatever a crash may leave then stands for a
-- journal that goes on from each that it went on from before.
pub record DeviceRuns (old new : DeviceValue) : Type 0 where
  pub comes : (j : Journal) → HoldsAfterCrash j old.host → JournalWentOn (records_for old) j new
  pub keeps : KeepsOn (host_told old.host) (host_told new.host)
