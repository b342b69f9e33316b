-- What an added entry leaves: it stands in the journal with settling behind it, or at most that does where the disk stopped.
use Rattle.std.proofs.Common.{false, true, ◌≡◌, ◌≢◌, ℕ, ◌+◌, ◌*◌, ◌<◌, length, length-append, arith, List, [], ◌∷◌, ◌++◌, refl, sym, ap, ◌∙◌, subst, Option, Some, Result, Ok, Err}
use Rattle.std.specs.Prelude.{IsSomeAnd}
use Rattle.std.specs.Option.{option_map}
use Rattle.sync_store.specs.Commits.{needed}
use Rattle.outside.specs.Files.{Two, File}
use Rattle.outside.proofs.CallCounts.{most_more}
use Rattle.outside.specs.Outside.{Outside}
use Rattle.outside.specs.HostTold.{host_told}
use Rattle.outside.specs.MemDisk.{disk_files, files_of}
use Rattle.outside.specs.MemHost.{MemHostValue}
use Rattle.client_basic.specs.Bodies.{bundle_meaning}
use Rattle.sync_rules.specs.declared.entries.Entry.{Entry}
use Rattle.sync_rules.specs.Facts.{Facts, Journal, after_all, facts}
use Rattle.sync_rules.specs.Legal.{AllSettling}
use Rattle.sync_rules.specs.Steps.{IsSettled}
use Rattle.sync_store.specs.Fitting.{FitsFiles}
use Rattle.sync_store.specs.Moments.{LeadsTo}
use Rattle.sync_store.specs.Ready.{IsReady}
use Rattle.sync_store.specs.Runs.{AddsBatch}
use Rattle.sync_store.specs.Store.{StoreValue}
use Rattle.sync_course.specs.Acts.{batches_in, commit_acts}
use Rattle.sync_course.proofs.ActLaws.{batches_in_commits}
use Rattle.sync_node.specs.Adding.{AddsAtMost, AddsOne, AddsWithin}
use Rattle.sync_node.specs.Batches.{AddStops, Added}
use Rattle.sync_node.specs.Calls.{AddCallStops}
use Rattle.sync_node.specs.OnRuns.{ByFault}
use Rattle.sync_node.specs.declared.fault.NodeFault.{NodeFault}
use Rattle.sync_node.specs.declared.fault.NodeFault.TheVariants as node_fault
use Rattle.sync_node.specs.declared.link.Link.{Link}
use Rattle.sync_node.specs.Node.{NodeValue}
use Rattle.world_devices.specs.Devices.{DeviceValue, IsAnew, IsRunning, MayAddEntry, MayAddTo}
use Rattle.world_devices.specs.Doing.{CameAdding, DeviceAddsEntry, HoldsSettled}
use Rattle.world_devices.specs.Doing.{KeepsOwn, KeepsRest}
use Rattle.world_devices.specs.Keeping.{LeavesSome}
use Rattle.world_devices.specs.Linking.{WhenDone}
use Rattle.world_devices.specs.Running.{HoldsAfterCrash}
use Rattle.world_devices.specs.declared.stop.Ran.{Ran}
use Rattle.world_devices.specs.declared.stop.Ran.TheVariants as ran
use Rattle.world_devices.specs.declared.stop.StepFault.{StepFault}
use Rattle.world_devices.proofs.HostLaws.{anew_linked}
use Rattle.world_devices.proofs.CallLaws.{DidWell, behind}
use Rattle.world_devices.proofs.KeepLaws.{fits_here, holds_fits, leads_leave}
use Rattle.world_devices.proofs.RunningLaws.{journal_of, open_of}
use Rattle.world_devices.proofs.StartLaws.{fits_hold}
use Rattle.world_devices.proofs.TurnLaws.{BrokenBy, broken_by, broken_map, of_node}

-- ---- what its node says of a batch

abbrev pub AddedBatch : NodeValue → NodeValue → MemHostValue → MemHostValue → List Entry → Type 0
AddedBatch n n' h h' batch =
    Added bundle_meaning batch n.store n'.store (host_told h) (host_told h')

abbrev pub BatchStops : NodeValue → NodeValue → MemHostValue → MemHostValue → NodeFault
    → List Entry → Type 0
BatchStops n n' h h' x batch =
    ByFault (AddStops bundle_meaning batch n.store n'.store (host_told h) (host_told h')) x

abbrev pub LeadsBatch : NodeValue → NodeValue → MemHostValue → MemHostValue → List Entry → Type 0
LeadsBatch n n' h h' batch =
    (two : Two File) → (host_told h).files ≡ Some two → (j : Journal)
    → FitsFiles bundle_meaning n.store j two
    → LeadsTo bundle_meaning (AddsAtMost bundle_meaning j batch) (AddsAtMost bundle_meaning j batch)
    n'.store (host_told h) (host_told h')

-- an entry that may be added to a device that runs
pub may_entry : {d old : DeviceValue} → d ≡ old → (e : Entry) (n : NodeValue) → d.node ≡ Some n
    → MayAddEntry old.node e → MayAddTo n e
may_entry seen e n is may =
    subst (λ (x : Option NodeValue). MayAddEntry x e) is
    (subst (λ (x : DeviceValue). MayAddEntry x.node e) (sym seen) may)

-- ---- it was added

-- the batch stands, and what was to be settled behind it
has_one : (batch : List Entry) (more : List (List Entry)) (f : Facts) → AddsBatch bundle_meaning f batch more → more ≢ [] → (rest : List (List Entry)) × (more ≡ batch ∷ rest) × AllSettling bundle_meaning (after_all f batch) rest
has_one batch [] f adds some = absurd (some refl)
has_one batch (b ∷ rest) f adds some = (rest, ap (λ (x : List Entry). x ∷ rest) adds.0, adds.1)

has_added : (e : Entry) (s s' : StoreValue) (h h' : MemHostValue)
    → IsReady bundle_meaning s (host_told h).files
    → Added bundle_meaning (e ∷ []) s s' (host_told h) (host_told h')
    → (j : Journal) → HoldsAfterCrash j h → HoldsSettled (AddsOne bundle_meaning j (e ∷ [])) h'
has_added e s s' h h' ready added j holds =
    let has = journal_of s h ready in
    let same : has.whole ≡ j = holds_fits s j has.whole h holds has.fits in
    let whole : Journal = has.whole ++ batches_in (commit_acts added.by.more) in
    let fits =
    fits_here s' whole h'
    (added.by.did.fits has.whole (files_of (disk_files h.disk), refl, has.fits)) in
    let one = has_one (e ∷ []) added.by.more s.state.facts added.by.adds added.some in
    let f : s.state.facts ≡ facts j = sym has.fits.facts_are ∙ ap facts same in
    record {
      whole = whole;
      has = record {
        more = one.0;
        settling = subst (λ (g : Facts).
            AllSettling bundle_meaning (after_all g (e ∷ [])) one.0) f one.2;
        is =
            ap (λ (bs : Journal). has.whole ++ bs) (batches_in_commits added.by.more ∙ one.1)
            ∙ ap (λ (k : Journal). k ++ ((e ∷ []) ∷ one.0)) same;
      };
      settled =
          subst (λ (g : Facts). IsSettled bundle_meaning g) (sym fits.facts_are) added.settled;
      holds = fits_hold s' whole h' fits;
    }

abbrev links_of : Option NodeValue → Option (List Link)
links_of node = option_map (λ (n : NodeValue). n.links) node

-- and all but the journal is as it was
pub entry_added : (e : Entry) (d : DeviceValue) (n n' : NodeValue) (h' : MemHostValue)
    → DidWell d n n' h' → n'.links ≡ n.links
    → AddedBatch n n' d.host h' (e ∷ []) → ((j : Journal) → HoldsAfterCrash j d.host
    → HoldsSettled (AddsOne bundle_meaning j (e ∷ [])) h') × KeepsRest d (behind d n' h' d.links)
entry_added e d n n' h' did links added = (
  has_added e n.store n'.store d.host h' (open_of n d.host d.links did.run) added,
  record {
    node = ap (λ (l : List Link). Some l) links ∙ sym (ap links_of did.was);
    told = added.same_links;
  },
)

-- ---- it was broken off

-- a journal that fits has at most the entry behind one that was held
at_most : (e : Entry) (n n' : NodeValue) (h h' : MemHostValue) (links : ℕ)
    → LeadsBatch n n' h h' (e ∷ []) → IsRunning n h links → (j : Journal) → HoldsAfterCrash j h
    → LeavesSome (AddsAtMost bundle_meaning j (e ∷ [])) (host_told h')
at_most e n n' h h' links leads run j holds =
    let has = journal_of n.store h (open_of n h links run) in
    subst (λ (k : Journal). LeavesSome (AddsAtMost bundle_meaning k (e ∷ [])) (host_told h'))
    (holds_fits n.store j has.whole h holds has.fits)
    (leads_leave (AddsAtMost bundle_meaning has.whole (e ∷ []))
    (AddsAtMost bundle_meaning has.whole (e ∷ [])) n'.store (host_told h) (host_told h')
    (leads (files_of (disk_files h.disk)) refl has.whole has.fits))

-- where it is full the journal would pass its limit, and then its host is as before
pub entry_full : (e : Entry) (n n' : NodeValue) (node : Option NodeValue)
    (h h' new : MemHostValue) (x : NodeFault) → node ≡ Some n
    → BatchStops n n' h h' x (e ∷ []) → AddCallStops {T = Unit {0}} bundle_meaning n n' h h' (host_told h) (host_told h') (Err x)
    → x ≡ node_fault.Full → new ≡ h'
    → IsSomeAnd node (λ m. m.store.limit < needed m.store (e ∷ [])) × (new ≡ h)
entry_full e n n' maybe h h' new x was stopped stops is same =
    let full = subst (λ (y : NodeFault). BatchStops n n' h h' y (e ∷ [])) is stopped in
    let none =
    subst (λ (y : NodeFault). AddCallStops {T = Unit {0}} bundle_meaning n n' h h' (host_told h)
    (host_told h') (Err y)) is stops in
    (of_node (λ m. m.store.limit < needed m.store (e ∷ [])) n maybe was full.before, same ∙ none.undone.same_host)

-- adding came so far as that
all_long : (more : List (List Entry)) → length (batches_in (commit_acts more)) ≡ length more
all_long more = ap length (batches_in_commits more)

parts_long : (front others more : List (List Entry)) → more ≡ front ++ others
    → length (batches_in (commit_acts others) ++ batches_in (commit_acts front)) ≡ length more
parts_long front others more parts =
    let long : length more ≡ length front + length others = ap length parts ∙ length-append front others in
    omega (
      arith,
      long,
      all_long front,
      all_long others,
      length-append (batches_in (commit_acts others)) (batches_in (commit_acts front)),
    )

adds_within : (batch : List Entry) (s s' : StoreValue) (o o' : Outside) (x : NodeFault) → ByFault (AddStops bundle_meaning batch s s' o o') x
    → BrokenBy (λ by. AddsWithin bundle_meaning by batch s o o') x
adds_within batch s s' o o' node_fault.Memory by = broken_by _ false node_fault.Memory (λ is. cc) (record {
  more = by.more;
  adds = by.adds;
  calls =
      most_more (4 * length (batches_in (commit_acts by.more))) (4 * length by.more) o o'
      (omega (arith, all_long by.more)) by.did.calls;
  cut = (s'.end, by.did.appends);
})
adds_within batch s s' o o' node_fault.Full full = broken_by _ false node_fault.Full (λ is. cc) (record {
  more = [];
  adds = tt;
  calls = full.idle.did.calls;
  cut = (s'.end, full.idle.did.appends);
})
adds_within batch s s' o o' node_fault.DiskFault by = broken_by _ true node_fault.DiskFault (λ is. refl) (record {
  more = by.more;
  adds = by.adds;
  calls =
      most_more
      (4 * length (batches_in (commit_acts by.breaks.others) ++ batches_in (commit_acts by.breaks.front)))
      (4 * length by.more) o o'
      (omega (arith, parts_long by.breaks.front by.breaks.others by.more by.breaks.parts))
      by.breaks.did.calls;
  cut = by.breaks.did.breaks;
})
adds_within batch s s' o o' node_fault.Closed none = absurd none

-- adding came to this host
pub came_adding : (e : Entry) (n n' : NodeValue) (node : Option NodeValue) (h at : MemHostValue)
    (links : ℕ) (x : NodeFault) → LeadsBatch n n' h at (e ∷ []) → IsRunning n h links → node ≡ Some n
    → BatchStops n n' h at x (e ∷ []) → BrokenBy (λ by. CameAdding e node h by at) x
came_adding e n n' maybe h at links x leads run was stopped =
    broken_map (λ by. AddsWithin bundle_meaning by (e ∷ []) n.store (host_told h) (host_told at))
    (λ by. CameAdding e maybe h by at) x
    (λ by adds. (
      at_most e n n' h at links leads run,
      of_node (λ (m : NodeValue).
          AddsWithin bundle_meaning by (e ∷ []) m.store (host_told h) (host_told at)) n maybe was adds,
    )) (adds_within (e ∷ []) n.store n'.store (host_told h) (host_told at) x stopped)

-- ---- a host that is anew stays so

pub anew_kept : (clock : ℕ) (old new : DeviceValue) → KeepsRest old new → IsAnew clock old.host → IsAnew clock new.host
anew_kept clock old new rest anew = anew_linked clock old.host new.host rest.told anew

pub rest_kept : (e : Entry) (r : Result Ran StepFault) (old new : DeviceValue) → DeviceAddsEntry e r old new → WhenDone r (KeepsOwn old new × KeepsRest old new)
rest_kept e (Ok ran.Done) old new adds = (adds.0, adds.1.1)
rest_kept e (Ok ran.Crashed) old new adds = tt
rest_kept e (Err f) old new adds = tt
