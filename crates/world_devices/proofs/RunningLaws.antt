-- What keeps a device running.
use Rattle.std.proofs.Common.{◌≡◌, ℕ, ◌<◌, ◌≤◌, false, [], ◌∷◌, refl, sym, ◌∙◌}
use Rattle.std.proofs.Common.{subst, arith, Option, Some, None}
use Rattle.outside.specs.Files.{Two, File}
use Rattle.outside.specs.Outside.{Outside}
use Rattle.outside.specs.HostTold.{host_told}
use Rattle.outside.specs.MemDisk.{disk_files, files_of}
use Rattle.outside.specs.MemHost.{MemHostValue}
use Rattle.client_basic.specs.Bodies.{bundle_meaning}
use Rattle.sync_rules.specs.declared.entries.Entry.{Entry}
use Rattle.sync_rules.specs.Legal.{Allowed}
use Rattle.sync_rules.specs.Steps.{IsSettled}
use Rattle.sync_rules.specs.declared.limits.TheConstants.{MAX_SESSIONS}
use Rattle.sync_rules.specs.Facts.{Journal}
use Rattle.sync_store.specs.Store.{IsStore, StoreValue}
use Rattle.sync_store.specs.Ready.{IsReady}
use Rattle.sync_store.specs.Fitting.{FitsFiles}
use Rattle.sync_course.specs.Free.{IsPlain}
use Rattle.sync_node.specs.Node.{NodeValue, MayRun}
use Rattle.world_laws.specs.Worlds.{HasNoBrief}
use Rattle.world_devices.specs.Brought.{brought_on}
use Rattle.world_devices.specs.Devices.{IsAnew, IsDevice, IsReadyStore, IsRunning, IsStarted}
use Rattle.world_devices.specs.Devices.{MayAddEntry, MayBeRunning}
use Rattle.world_devices.specs.Keeping.{HoldsLaterJournal, StandsForSome, TellsSame}
use Rattle.world_devices.specs.Keeping.{WentOn}
use Rattle.world_devices.proofs.LeaveLaws.{few_begun}
use Rattle.world_devices.proofs.HostLaws.{LeavesTold, brings_none, brings_on}
use Rattle.world_devices.proofs.KeepLaws.{crash_same, fits_some}
use Rattle.world_devices.proofs.RunLaws.{run_begun, run_on}

-- over the same files, with as many links at least, a node may go on
pub may_on : (n : NodeValue) (o o' : Outside) → o'.files ≡ o.files → o'.links.dialled ≡ o.links.dialled → MayRun bundle_meaning n o → MayRun bundle_meaning n o'
may_on n o o' files dialled may = λ unclosed.
    let goes = may unclosed in
    record {
      ready = subst (λ (f : Option (Two File)). IsReady bundle_meaning n.store f) (sym files) goes.ready;
      settled = goes.settled;
      dialled = omega (arith, goes.dialled, dialled);
    }

-- ---- calls that tell the same

-- of links that it has not had the plans are the same
abbrev pub BringsSame : ℕ → MemHostValue → MemHostValue → Type 0
BringsSame links h h' = (link : ℕ) → links ≤ link → brought_on h' link ≡ brought_on h link

pub running_on : (n : NodeValue) (h h' : MemHostValue) (links : ℕ) → TellsSame (host_told h) (host_told h') → BringsSame links h h' → IsRunning n h links → IsRunning n h' links
running_on n h h' links same brings running = record {
  unclosed = running.unclosed;
  runs = run_on n (host_told h) (host_told h') same running.runs;
  may = may_on n (host_told h) (host_told h') same.files same.dialled running.may;
  limit = running.limit;
  linked = running.linked;
  dialled = omega (arith, same.dialled, running.dialled);
  attached = running.attached;
  unused = λ link past. brings link past ∙ running.unused link past;
}

maybe_on : (o : Option NodeValue) (h h' : MemHostValue) (links : ℕ) → TellsSame (host_told h) (host_told h') → BringsSame links h h' → MayBeRunning o h links → MayBeRunning o h' links
maybe_on None h h' links same brings running = tt
maybe_on (Some n) h h' links same brings running = running_on n h h' links same brings running

pub device_on : (o : Option NodeValue) (h h' : MemHostValue) (links : ℕ) → TellsSame (host_told h)
    (host_told h') → BringsSame links h h' → IsDevice o h links → IsDevice o h' links
device_on o h h' links same brings device = (
  maybe_on o h h' links same brings device.0,
  crash_same (StandsForSome (WentOn [])) (host_told h) (host_told h') same.files device.1,
  device.2,
)

pub device_told : (o : Option NodeValue) (h h' : MemHostValue) (links : ℕ) → LeavesTold h h'
    → IsDevice o h links → IsDevice o h' links
device_told o h h' links leaves device =
    device_on o h h' links leaves.same (λ link _. brings_on h h' link leaves) device

pub running_of : (o : Option NodeValue) (n : NodeValue) (h : MemHostValue) (links : ℕ) → o ≡ Some n → MayBeRunning o h links → IsRunning n h links
running_of o n h links is running = subst (λ (x : Option NodeValue). MayBeRunning x h links) is running

-- the journal that the store of a device has
pub record HasJournal (s : StoreValue) (h : MemHostValue) : Type 0 where
  pub whole : Journal
  pub fits : FitsFiles bundle_meaning s whole (files_of (disk_files h.disk))

pub journal_of : (s : StoreValue) (h : MemHostValue) → IsReady bundle_meaning s (host_told h).files
    → HasJournal s h
journal_of s h ready = let fit =
    ready.fits (files_of (disk_files h.disk)) refl in record { whole = fit.0; fits = fit.1 }

pub open_of : (n : NodeValue) (h : MemHostValue) (links : ℕ) → IsRunning n h links → IsReady bundle_meaning n.store (host_told h).files
open_of n h links running = (running.may running.unclosed).ready

-- fewer sessions of a device that runs have begun than one may have
pub begun_few : (n : NodeValue) (h : MemHostValue) (links : ℕ) → IsStore n.store
    → HoldsLaterJournal [] (host_told h) → IsRunning n h links
    → n.store.state.facts.begun < MAX_SESSIONS
begun_few n h links store keeps running =
    let has = journal_of n.store h (open_of n h links running) in
    let went = fits_some (WentOn []) has.whole (host_told h) n.store (files_of (disk_files h.disk))
    refl keeps has.fits in
    few_begun n.store has.whole store has.fits.facts_are has.fits.legal
    (subst HasNoBrief (sym went.is) went.plain)

-- on every link the same is brought
abbrev pub BringsAll : MemHostValue → MemHostValue → Type 0
BringsAll h h' = (link : ℕ) → brought_on h' link ≡ brought_on h link

-- a node over a store that was loaded and settled
pub begins_running : (n : NodeValue) (s : StoreValue) (clock : ℕ) (h : MemHostValue)
    → n ≡ record { store = s; first = s.state.facts.begun; links = []; closed = false }
    → IsStarted s h → IsAnew clock h → IsRunning n h 0
begins_running n s clock h is started anew =
    let P : NodeValue → Type 0 = λ m. IsRunning m h 0 in
    let has = journal_of s h started.ready in
    subst P (sym is) (record {
      unclosed = refl;
      runs =
          run_begun (record { store = s; first = s.state.facts.begun; links = []; closed = false })
          s (host_told h) (files_of (disk_files h.disk)) refl has.whole has.fits refl
          anew.quiet;
      may = λ _. record {
        ready = started.ready;
        settled = λ _. started.settled;
        dialled = omega (arith);
      };
      limit = started.limit;
      linked = refl;
      dialled = omega (arith, anew.dialled);
      attached = record {
        few = omega arith;
        attached = λ _. record { begun = omega arith; each = λ number l there. cc };
      };
      unused = λ link _. brings_none h link anew.silent anew.quiet;
    })

-- ---- what is added

pub may_add : (node : Option NodeValue) (s : StoreValue) (e : Entry) → IsReadyStore node s → IsPlain (e ∷ []) → (IsSettled bundle_meaning s.state.facts → Allowed bundle_meaning s.state.facts (e ∷ [])) → MayAddEntry node e
may_add None s e ready plain allowed = tt
may_add (Some n) s e ready plain allowed = record {
  allowed = λ unclosed.
      let P : StoreValue → Type 0 = λ x. Allowed bundle_meaning x.state.facts (e ∷ []) in
      let Q : StoreValue → Type 0 = λ x. IsSettled bundle_meaning x.state.facts in
      subst P ready.0 (allowed (subst Q (sym ready.0) (ready.1 unclosed)));
  plain = plain;
}
