-- What a call of a device comes to: how its journal goes on, and what its links bring.
use Rattle.std.proofs.Common.{◌≡◌, ◌⊎◌, ℕ, ◌+◌, ◌-◌, ◌<◌, Bool, true, false, cond, nat_eq, nat_le}
use Rattle.std.proofs.Common.{nat_lt, List, [], ◌∷◌, ◌++◌, length, length-append, suc, refl, sym}
use Rattle.std.proofs.Common.{ap, ◌∙◌, subst, inl, inr, arith, append-nil, append_assoc, Option}
use Rattle.std.proofs.Common.{◌≤◌, Some, None, is_some}
use Rattle.std.proofs.lemmas.Bool.{and_from, cases_lt, le-leb, lt-ltb}
use Rattle.outside.specs.Files.{read_files}
use Rattle.outside.specs.Runs.{answers_at, heard_bytes}
use Rattle.outside.specs.HostTold.{host_told}
use Rattle.outside.specs.MemHost.{MemHostValue, plans_of}
use Rattle.client_basic.specs.Bodies.{bundle_meaning}
use Rattle.record_grammar.specs.Laws.{FrontsHaveFronts}
use Rattle.record_grammar.specs.Stream.{items, parsed, records, records_of}
use Rattle.sync_ids.specs.declared.records.Record.{Record}
use Rattle.entry_codec.specs.Standing.{journal}
use Rattle.file_standing.specs.Standing.{stands}
use Rattle.sync_course.specs.Acts.{Act, AreQuiet, Does, Fail, Send, batches_in, event_of, events_of}
use Rattle.sync_course.specs.Events.{Break, Commit, Hear, Miss, Pass, Read}
use Rattle.sync_course.specs.Story.{heard_at}
use Rattle.sync_rules.specs.declared.entries.Session.{Session}
use Rattle.sync_rules.specs.Lists.{In}
use Rattle.sync_rules.proofs.Elements.{In-append_left}
use Rattle.sync_rules.specs.Facts.{Facts, Journal, after_all, facts, session_at}
use Rattle.std.specs.Option.{option_map}
use Rattle.std.proofs.lemmas.Bool.{eq-eqb}
use Rattle.std.specs.List.{AllByRecursion}
use Rattle.outside.specs.Links.{Planned, piece}
use Rattle.outside.specs.MemHost as host
use Rattle.outside.specs.Planned.{pieces}
use Rattle.outside.specs.Script.{planned_of}
use Rattle.outside.specs.declared.answer.Answer.{Answer}
use Rattle.outside.specs.declared.answer.Answer.TheVariants as answer_kind
use Rattle.entry_codec.specs.Spelling.{IsEntry}
use Rattle.sync_course.specs.Links.{is_sent_to}
use Rattle.sync_course.specs.declared.ends.LinkEnd.{LinkEnd}
use Rattle.sync_course.specs.declared.ends.LinkEnd.TheVariants as link_end
use Rattle.sync_rules.specs.Legal.{Legal}
use Rattle.sync_rules.specs.declared.entries.Entry.TheVariants as entry
use Rattle.sync_rules.specs.Consistency.{IsConsistent}
use Rattle.sync_rules.proofs.ConsistencyLaws.{legal_consistent}
use Rattle.sync_node.specs.declared.node.Plan.{Plan}
use Rattle.sync_node.specs.Plans.{session_of}
use Rattle.world_laws.specs.Worlds.{HasSession}
use Rattle.sync_store.specs.Store.{StoreValue}
use Rattle.sync_store.specs.Ready.{IsReady}
use Rattle.sync_node.specs.Causes.{sessions_of}
use Rattle.sync_node.specs.Node.{KeepsSessions, MayRun, NodeValue}
use Rattle.sync_node.specs.declared.link.Link.{Link}
use Rattle.sync_node.specs.Output.{heard_on, output}
use Rattle.world_devices.specs.Brought.{brought_on, bytes_of, planned_bytes}
use Rattle.world_devices.specs.Linking.{AddsLink, KeepsLinks, LinksStand, PlansMore}
use Rattle.world_devices.specs.Linking.{first_of, count_of_links}
use Rattle.world_devices.specs.Devices.{DeviceValue, IsDevice, IsReadyStore, IsRunning}
use Rattle.world_devices.specs.Devices.{MayBeRunning, links_made}
use Rattle.outside.specs.declared.limits.TheConstants.{LINKS}
use Rattle.sync_node.specs.Calls.{CallGoes}
use Rattle.world_devices.specs.Cited.{DeviceLaws}
use Rattle.world_devices.specs.Doing.{ComesOf}
use Rattle.world_devices.specs.Keeping.{KeepsOn, LeavesSome, StandsForSome, WentOn}
use Rattle.world_devices.specs.Running.{DeviceRuns, HoldsAfterCrash, IsStill, ReadsAsJournal}
use Rattle.world_devices.specs.Running.{WentHearing, is_session_of, records_for}
use Rattle.world_devices.specs.Running as running
use Rattle.world_devices.proofs.BroughtLaws.{no_more, plans_bring, told_brings, told_heard}
use Rattle.sync_course.proofs.HeardLaws.{bytes_by, bytes_of as event_bytes}
use Rattle.world_devices.proofs.HostLaws.{told_host}
use Rattle.world_devices.proofs.KeepLaws.{crash_same, fits_whole, holds_fits, holds_some}
use Rattle.world_devices.proofs.LeaveLaws.{comes_still, hears_none, still_fits}
use Rattle.world_devices.proofs.StartLaws.{comes_hears, comes_keeps, fits_hold}
use Rattle.world_devices.proofs.RunLaws.{CallDid, CallEnds, all_sent_on, call_keeps, call_takes}
use Rattle.world_devices.proofs.RunLaws.{ended_did, place_adds, run_after}
use Rattle.world_devices.proofs.RunningLaws.{BringsAll, journal_of, open_of, running_of}

-- ---- calls that leave the files

-- what files hold they read
holds_reads : (j : Journal) (h : MemHostValue) → HoldsAfterCrash j h → ReadsAsJournal j h
holds_reads j h holds = record { each = λ two is. holds.each two is (read_files two) ((host_told h).reads two is) }

pub runs_files : (old new : DeviceValue) → (host_told new.host).files ≡ (host_told old.host).files → DeviceRuns old new
runs_files old new same = record {
  comes = λ j holds.
      let kept : HoldsAfterCrash j new.host =
      crash_same (λ left. stands bundle_meaning left ≡ journal j) (host_told old.host)
      (host_told new.host) same holds in
      let whole : HoldsAfterCrash (j ++ []) new.host =
      subst (λ (k : Journal). HoldsAfterCrash k new.host) (sym (append-nil j)) kept in
      record { more = []; allowed = tt; plain = refl; all_heard = tt; reads = holds_reads (j ++ []) new.host whole; holds = λ _. whole };
  keeps = λ j. crash_same (StandsForSome (WentOn j)) (host_told old.host) (host_told new.host) same;
}

pub runs_none : (d : DeviceValue) → DeviceRuns d d
runs_none d = runs_files d d refl

-- ---- what links bring, over a turn

-- a link that was made, or one that the device has not had
known_link : (n : NodeValue) (h : MemHostValue) (links link : ℕ) → IsRunning n h links → (link < length (told_heard h)) ⊎ (planned_bytes (plans_of h.scripts link) ≡ [])
known_link n h links link run =
    let made : length (told_heard h) ≡ links_made h = (host_told h).all_heard (told_heard h) refl in
    elim (cases_lt link (length (told_heard h))) [
      | inl within ↦ inl within
      | inr past ↦ inr (no_more _ _ (run.unused link (omega (arith, past, made, run.dialled, run.linked, run.attached.few))))
    ]

call_brings : (n : NodeValue) (h h' : MemHostValue) (links : ℕ) → IsRunning n h links
    → CallDid n (host_told h) (host_told h') → BringsAll h h'
call_brings n h h' links run did link = told_brings (events_of did.acts) h h' link did.tells (known_link n h links link run)

-- ---- what is taken

no_records : records [] ≡ []
unfolding items parsed records_of
no_records = refl

of_session : (n : NodeValue) (session link : ℕ) → session ≡ n.first + link → link < length n.links → is_session_of n session ≡ true
of_session n session link on within =
    and_from (nat_le n.first session) (nat_lt session (n.first + length n.links)) (le-leb n.first session (omega (arith, on))) (lt-ltb session (n.first + length n.links) (omega (arith, on, within)))

link_of : (n : NodeValue) (session link : ℕ) → session ≡ n.first + link → session - n.first ≡ link
link_of n session link on = omega (arith, on)

-- a record that a link brings may be taken by the session of the link
may_take : (n : NodeValue) (h : MemHostValue) (links : ℕ) → IsRunning n h links → (session link : ℕ) (r : Record) → session ≡ n.first + link → In r (records (brought_on h link))
    → In r (running.records_heard (Some n) h session)
may_take n h links run session link r on inside =
    elim (cases_lt link (length n.links)) [
      | inl within ↦
          subst (λ (b : Bool). In r (cond b (records (brought_on h (session - n.first))) [])) (sym (of_session n session link on within))
          (subst (λ (k : ℕ). In r (records (brought_on h k))) (sym (link_of n session link on)) inside)
      | inr past ↦
          absurd (subst (λ (rs : List Record). In r rs) no_records
          (subst (λ (b : List ℕ). In r (records b)) (run.unused link (omega (arith, past, run.linked))) inside))
    ]

-- quiet acts bring nothing
quiet_none : (link : ℕ) (next : List Act) → AreQuiet next → event_bytes link (events_of next) ≡ []
quiet_none link [] quiet = refl
quiet_none link (Does (Commit b) ∷ next) quiet = quiet_none link next quiet.1
quiet_none link (Does Pass ∷ next) quiet = quiet_none link next quiet.1
quiet_none link (Does (Hear n reply) ∷ next) quiet = absurd quiet.0
quiet_none link (Does (Miss n) ∷ next) quiet = absurd quiet.0
quiet_none link (Does (Read n now) ∷ next) quiet = absurd quiet.0
quiet_none link (Does (Break n) ∷ next) quiet = absurd quiet.0
quiet_none link (Send n bytes ∷ next) quiet = absurd quiet.0
quiet_none link (Fail n bytes count ∷ next) quiet = absurd quiet.0

no_hear : (link : ℕ) (acts next : List Act) → AreQuiet next
    → event_bytes link (events_of (acts ++ next)) ≡ event_bytes link (events_of acts)
no_hear link [] next quiet = quiet_none link next quiet
no_hear link (a ∷ acts) next quiet =
    ap (λ (l : List ℕ). bytes_by link (event_of a) ++ l) (no_hear link acts next quiet)

-- what a place has heard is the front of what is brought
was_brought : FrontsHaveFronts → (n : NodeValue) (h h' : MemHostValue) (links : ℕ) → IsRunning n h links → (did : CallDid n (host_told h) (host_told h')) → (session link : ℕ) (r : Record) → session ≡ n.first + link
    → In r (records (heard_at did.to.at link)) → In r (running.records_heard (Some n) h session)
was_brought fronts n h h' links run did session link r on inside =
    let rest : List ℕ = planned_bytes (plans_of h'.scripts link) in
    let bytes : List ℕ = event_bytes link (events_of did.acts) in
    let none : event_bytes link (events_of (did.acts ++ did.next)) ≡ bytes = no_hear link did.acts did.next did.quiet in
    let has : heard_at did.to.at link ≡ heard_on (host_told h).links link ++ bytes =
    place_adds n h links run (did.acts ++ did.next) did.to link did.path
    ∙ ap (λ (l : List ℕ). heard_on (host_told h).links link ++ l) none in
    let whole : heard_at did.to.at link ++ rest ≡ brought_on h link =
    ap (λ (l : List ℕ). l ++ rest) has
    ∙ append_assoc (heard_on (host_told h).links link) bytes rest
    ∙ ap (λ (l : List ℕ). heard_on (host_told h).links link ++ l) (plans_bring (events_of did.acts) (plans_of h.scripts) (plans_of h'.scripts) link did.tells.planned) in
    let more = fronts (heard_at did.to.at link) rest in
    let all : In r (records (heard_at did.to.at link ++ rest)) = subst (λ (rs : List Record). In r rs) (sym more.1) (In-append_left r (records (heard_at did.to.at link)) more.0 inside) in
    may_take n h links run session link r on (subst (λ (b : List ℕ). In r (records b)) whole all)

-- ---- what calls of a node did

sessions_long : (links : List Link) → length (sessions_of links) ≡ length links
sessions_long [] = refl
sessions_long (l ∷ links) = ap suc (sessions_long links)

pub same_number : (n n' : NodeValue) → KeepsSessions n n' → length n'.links ≡ length n.links
same_number n n' kept = sym (sessions_long n'.links) ∙ ap length kept.same_sessions ∙ sessions_long n.links

pub one_longer : (links links' : List Link) → (link : Link) × (links' ≡ links ++ link ∷ []) → length links' ≡ length links + 1
one_longer links links' pushed = ap length pushed.1 ∙ length-append links (pushed.0 ∷ [])

-- ---- what calls may leave

-- what a call of its node leaves of a device: a journal that goes on from each before, and took
-- only what its links brought
pub record DeviceLeaves (node : Option NodeValue) (h at : MemHostValue) : Type 0 where
  pub keeps : KeepsOn (host_told h) (host_told at)
  pub hears : (j : Journal) → HoldsAfterCrash j h → LeavesSome
      (WentHearing (running.records_heard node h) j) (host_told at)

pub device_leaves : DeviceLaws → (node : Option NodeValue) (n : NodeValue) (h at : MemHostValue) (links : ℕ)
    → node ≡ Some n → IsRunning n h links → CallDid n (host_told h) (host_told at)
    → DeviceLeaves node h at
device_leaves laws maybe n h at links is run did =
    let taken : ℕ → List Record = running.records_heard (Some n) h in
    subst (λ (x : Option NodeValue). DeviceLeaves x h at) (sym is) (record {
      keeps = call_keeps laws n (host_told h) (host_told at) (told_host h) run.runs did;
      hears = λ j holds.
          call_takes laws n (host_told h) (host_told at) (told_host h) run.runs did taken j
          (was_brought laws.fronts n h at links run did)
          (holds_some (WentHearing taken j) j h (hears_none taken j) holds);
    })

-- and what comes of that
pub leaves_on : (node : Option NodeValue) (h at new : MemHostValue) → DeviceLeaves node h at
    → ComesOf at new → DeviceLeaves node h new
leaves_on node h at new leaves comes = record {
  keeps = λ j k. comes_keeps at new comes j (leaves.keeps j k);
  hears = λ j holds. comes_hears (running.records_heard node h) j at new comes
      (leaves.hears j holds);
}

pub leaves_come : (node : Option NodeValue) (h at : MemHostValue) → ComesOf h at
    → DeviceLeaves node h at
leaves_come node h at comes = record {
  keeps = comes_keeps h at comes;
  hears = λ j holds. comes_hears (running.records_heard node h) j h at comes
      (holds_some (WentHearing (running.records_heard node h) j) j h
      (hears_none (running.records_heard node h) j) holds);
}

pub leaves_runs : DeviceLaws → (d new : DeviceValue) → DeviceLeaves d.node d.host new.host
    → (is_some new.node ≡ true → IsStill new.host) → DeviceRuns d new
leaves_runs laws d new leaves still = record {
  comes = λ j holds. comes_still laws.legal (records_for d) j new (leaves.hears j holds) still;
  keeps = leaves.keeps;
}

-- a disk that fits a ready store is still
pub ready_still : (s : StoreValue) (h : MemHostValue) → IsReady bundle_meaning s (host_told h).files → IsStill h
ready_still s h ready = let has = journal_of s h ready in still_fits s has.whole h has.fits

-- a device behind a call of its node
abbrev pub behind : DeviceValue → NodeValue → MemHostValue → ℕ → DeviceValue
behind d n' h' links = record d { host = h'; node = Some n'; links = links }

-- the call ended
pub record DidWell (d : DeviceValue) (n n' : NodeValue) (h' : MemHostValue) : Type 0 where
  pub was : d.node ≡ Some n
  pub run : IsRunning n d.host d.links
  pub goes : CallGoes n n' (host_told d.host) (host_told h')
  pub may : MayRun bundle_meaning n' (host_told h')
  pub unclosed : n'.closed ≡ false
  pub ends : CallEnds n n' (host_told d.host) (host_told h')
  pub leaves : DeviceLeaves d.node d.host h'
  pub brings : BringsAll d.host h'

pub did_well : DeviceLaws → {d old : DeviceValue} → d ≡ old → (n n' : NodeValue) (h' : MemHostValue)
    → d.node ≡ Some n → MayBeRunning d.node d.host d.links → CallGoes n n' (host_told d.host) (host_told h')
    → MayRun bundle_meaning n' (host_told h') → (n.closed ≡ false → n'.closed ≡ false)
    → (IsRunning n d.host d.links → CallEnds n n' (host_told d.host) (host_told h'))
    → DidWell d n n' h'
did_well laws {d = d} seen n n' h' was runs goes may opened ends =
    let run = running_of d.node n d.host d.links was runs in
    let did = ended_did n n' (host_told d.host) (host_told h') (ends run) in
    record {
      was = was;
      run = run;
      goes = goes;
      may = may;
      unclosed = opened run.unclosed;
      ends = ends run;
      leaves = device_leaves laws d.node n d.host h' d.links was run did;
      brings = call_brings n d.host h' d.links run did;
    }

module _ (d : DeviceValue) (n n' : NodeValue) (h' : MemHostValue) (did : DidWell d n n' h') where
  -- it is a device then, with so many links
  pub device_well : (links : ℕ) → links ≡ length n'.links → d.links ≤ links
      → IsDevice d.node d.host d.links → links ≤ LINKS → IsDevice (Some n') h' links
  device_well links linked more device few = (
    record {
      unclosed = did.unclosed;
      runs = run_after n n' (host_told d.host) (host_told h') (told_host d.host) did.ends
          did.goes.same_first did.run.runs;
      may = did.may;
      limit = did.ends.did.limit ∙ did.run.limit;
      linked = linked;
      dialled = omega (arith, did.run.dialled, did.ends.did.goes.same_dialled);
      attached = did.goes.node;
      unused = λ link past.
          did.brings link ∙ did.run.unused link (omega (arith, past, more));
    },
    did.leaves.keeps [] device.1,
    few,
  )

  pub well_runs : DeviceLaws → (links : ℕ) → DeviceRuns d (behind d n' h' links)
  well_runs laws links =
      leaves_runs laws d (behind d n' h' links) did.leaves
      (λ _. ready_still n'.store h' (did.may did.unclosed).ready)

  -- the links of a node that a call leaves
  pub keeps_links : length n'.links ≡ length n.links → KeepsLinks d (behind d n' h' d.links)
  keeps_links number = record {
    same_first = ap (λ (k : ℕ). Some k) did.goes.same_first ∙ sym (ap first_of did.was);
    same_number = ap (λ (k : ℕ). Some k) number ∙ sym (ap count_of_links did.was);
    same_links = refl;
    brings = did.brings;
  }

-- ---- a session that began

session_new : (sessions : List Session) (s : Session) → session_at sessions s.number ≡ None → session_at (sessions ++ s ∷ []) s.number ≡ Some s
session_new [] s none = ap (λ (b : Bool). cond b (Some s) None) (eq-eqb s.number s.number refl)
session_new (y ∷ sessions) s none =
    elim (nat_eq y.number s.number) as (λ b. cond b (Some y) (session_at sessions s.number) ≡ None → cond b (Some y) (session_at (sessions ++ s ∷ []) s.number) ≡ Some s) [
      | true ↦ λ e. cc
      | false ↦ λ e. session_new sessions s e
    ] none

none_begun : (f : Facts) → IsConsistent f → (o : Option Session) → session_at f.sessions f.begun ≡ o → o ≡ None
none_begun f consistent None is = refl
none_begun f consistent (Some s) is = absurd (omega (arith, (consistent.sessions.each f.begun s is).begun))

pub holds_facts : (s : StoreValue) (j : Journal) (h : MemHostValue) → IsReady bundle_meaning s (host_told h).files → HoldsAfterCrash j h → facts j ≡ s.state.facts
holds_facts s j h ready holds =
    let has = journal_of s h ready in
    sym (ap facts (holds_fits s j has.whole h holds has.fits)) ∙ has.fits.facts_are

has_begun : (s s' : StoreValue) (h h' : MemHostValue) (session : Session) → IsReady bundle_meaning s (host_told h).files → IsReady bundle_meaning s' (host_told h').files
    → s'.state.facts ≡ after_all s.state.facts (entry.Session session ∷ []) → session.number ≡ s.state.facts.begun → (j : Journal) → HoldsAfterCrash j h' → HasSession j session.number session.contact
has_begun s s' h h' session ready ready' is numbered j holds =
    let has = journal_of s h ready in
    let consistent : IsConsistent s.state.facts = subst IsConsistent has.fits.facts_are (legal_consistent bundle_meaning has.whole has.fits.legal) in
    let none : session_at s.state.facts.sessions session.number ≡ None =
    subst (λ (n : ℕ). session_at s.state.facts.sessions n ≡ None) (sym numbered) (none_begun s.state.facts consistent (session_at s.state.facts.sessions s.state.facts.begun) refl) in
    let f : facts j ≡ after_all s.state.facts (entry.Session session ∷ []) = holds_facts s' j h' ready' holds ∙ is in
    record {
      session = session;
      known = ap (λ (g : Facts). session_at g.sessions session.number) f ∙ session_new s.state.facts.sessions session none;
      same_contact = refl;
    }

-- a link more
pub adds_link : (plan : Plan) (nonce : Option (List ℕ)) (d : DeviceValue) (n n' : NodeValue)
    (h' : MemHostValue) (session : ℕ) → DidWell d n n' h' → session ≡ n.store.state.facts.begun
    → length n'.links ≡ length n.links + 1
    → n'.store.state.facts ≡ after_all n.store.state.facts (entry.Session (session_of n.store.state.facts.begun plan nonce) ∷ [])
    → AddsLink plan.contact session d (behind d n' h' (d.links + 1))
adds_link plan nonce d n n' h' session did so one_more is =
    let begun : n.store.state.facts.begun ≡ n.first + d.links =
    omega (arith, (did.run.attached.attached did.run.unclosed).begun, did.run.linked) in
    let new : DeviceValue = behind d n' h' (d.links + 1) in
    subst (λ (k : ℕ). AddsLink plan.contact k d new) (sym so) (record {
      same_first = ap (λ (k : ℕ). Some k) did.goes.same_first ∙ sym (ap first_of did.was);
      number = ap (λ (k : ℕ). Some k) (omega (arith, one_more, did.run.linked));
      one_more = refl;
      numbered = ap (option_map (λ (m : NodeValue). m.first + d.links)) did.was
          ∙ ap (λ (k : ℕ). Some k) (sym begun);
      brings = did.brings;
      quiet = did.brings d.links ∙ did.run.unused d.links (omega arith);
      begun =
          has_begun n.store n'.store d.host h' (session_of n.store.state.facts.begun plan nonce)
          (open_of n d.host d.links did.run) (did.may did.unclosed).ready is refl;
    })

-- the store that is ready is that of a node that runs
pub ready_in : (node : Option NodeValue) (s : StoreValue) → IsReadyStore node s
    → (n : NodeValue) × (node ≡ Some n) × (s ≡ n.store)
ready_in None s ready = absurd ready
ready_in (Some n) s ready = (n, refl, ready.0)

pub ready_store : (node : Option NodeValue) (n : NodeValue) (s : StoreValue) → node ≡ Some n
    → IsReadyStore node s → s ≡ n.store
ready_store maybe n s is ready = (subst (λ (x : Option NodeValue). IsReadyStore x s) is ready).0

-- ---- what is planned

planned_both : (a b : List Planned) → planned_bytes (a ++ b) ≡ planned_bytes a ++ planned_bytes b
planned_both [] b = refl
planned_both (piece bytes ∷ a) b = ap (λ (l : List ℕ). bytes ++ l) (planned_both a b) ∙ sym (append_assoc bytes (planned_bytes a) (planned_bytes b))
planned_both (_ ∷ a) b = planned_both a b

one_piece : (bytes : List ℕ) → planned_bytes (pieces bytes) ≡ bytes
one_piece [] = refl
one_piece (byte ∷ bytes) = append-nil (byte ∷ bytes)

pub answer_planned : (answer : Answer) → planned_bytes (planned_of answer) ≡ bytes_of answer
answer_planned (answer_kind.Bytes bytes) = one_piece bytes.items
answer_planned _ = refl

pub brings_more : (h h' : MemHostValue) (link : ℕ) (answer : Answer) → h' ≡ record h { scripts = h'.scripts } → host.PlansAnswer link answer h.scripts h'.scripts
    → brought_on h' link ≡ brought_on h link ++ bytes_of answer
brings_more h h' link answer is plans =
    let heard : List ℕ = heard_bytes (answers_at (host_told h).links.heard link) in
    ap (λ (x : MemHostValue). heard_bytes (answers_at (host_told x).links.heard link) ++ planned_bytes (plans_of h'.scripts link)) is
    ∙ ap (λ (p : List Planned). heard ++ planned_bytes p) plans.more
    ∙ ap (λ (l : List ℕ). heard ++ l) (planned_both (plans_of h.scripts link) (planned_of answer) ∙ ap (λ (l : List ℕ). planned_bytes (plans_of h.scripts link) ++ l) (answer_planned answer))
    ∙ sym (append_assoc heard (planned_bytes (plans_of h.scripts link)) (bytes_of answer))

pub brings_other : (h h' : MemHostValue) (link : ℕ) (answer : Answer) → h' ≡ record h { scripts = h'.scripts } → host.PlansAnswer link answer h.scripts h'.scripts
    → (i : ℕ) → (i ≡ link → ⊥) → brought_on h' i ≡ brought_on h i
brings_other h h' link answer is plans i other =
    ap (λ (x : MemHostValue). heard_bytes (answers_at (host_told x).links.heard i) ++ planned_bytes (plans_of h'.scripts i)) is
    ∙ ap (λ (p : List Planned). heard_bytes (answers_at (host_told h).links.heard i) ++ planned_bytes p) (plans.others i other)

-- ---- what stands on links

not_failed : (stands : LinkEnd) → is_sent_to stands ≡ true → stands ≡ link_end.Failed → ⊥
not_failed stands unclosed is = let no : is_sent_to link_end.Failed ≡ true = subst (λ (e : LinkEnd). is_sent_to e ≡ true) is unclosed in cc

pub links_stand : DeviceLaws → (n : NodeValue) (d : DeviceValue) (j : Journal) → IsRunning n d.host d.links
    → HoldsAfterCrash j d.host → LinksStand n d j
links_stand laws n d j run holds =
    let ready = open_of n d.host d.links run in
    let has = journal_of n.store d.host ready in
    let same = holds_fits n.store j has.whole d.host holds has.fits in
    let f = holds_facts n.store j d.host ready holds in
    let so_far : Journal = run.runs.begin ++ batches_in run.runs.acts in
    let is : so_far ≡ j =
    fits_whole n.store so_far has.whole d.host run.runs.fits has.fits ∙ same in
    record {
      facts_are = sym f;
      legal = subst (λ (k : Journal). Legal bundle_meaning k) same has.fits.legal;
      within = subst (λ (k : Journal). AllByRecursion (λ batch. AllByRecursion IsEntry batch) k) same has.fits.within;
      counted = run.linked;
      limit = run.limit;
      known = λ link l there.
          let at = (run.attached.attached run.unclosed).each link l there in
          ap (λ (g : Facts). session_at g.sessions (n.first + link)) f
          ∙ subst (λ (k : ℕ). session_at n.store.state.facts.sessions k ≡ Some l.session) at.numbered at.known;
      sent = λ link l there unclosed.
          all_sent_on laws n (host_told d.host) run.runs link l there (not_failed l.end unclosed)
          ∙ ap (λ (k : Journal). output k (n.first + link)) is;
      unused = run.unused;
    }

-- a host in which only the scripts changed
pub own_scripts : (h h' : MemHostValue) (scripts : List (List Planned)) → h' ≡ record h { scripts = scripts } → h' ≡ record h { scripts = h'.scripts }
own_scripts h h' scripts is = is ∙ ap (λ (s : List (List Planned)). record h { scripts = s }) (sym (ap (λ (x : MemHostValue). x.scripts) is))

pub plans_one : (link : ℕ) (answer : Answer) (d old new : DeviceValue) → d ≡ old
    → new.host ≡ record d.host { scripts = new.host.scripts }
    → host.PlansAnswer link answer d.host.scripts new.host.scripts → link < d.links
    → new.node ≡ d.node → new.links ≡ d.links → PlansMore link answer old new
plans_one link answer d old new seen is plans within same links =
    subst (λ (x : DeviceValue). PlansMore link answer x new) seen (record {
      same_node = same;
      same_links = links;
      here = λ _. brings_more d.host new.host link answer is plans;
      others = λ i how.
          elim how [
            | inl other ↦ brings_other d.host new.host link answer is plans i other
            | inr past ↦ absurd (omega (arith, past, within))
          ];
    })

-- what the files of a device that runs hold
pub held_of : (n : NodeValue) (h : MemHostValue) (links : ℕ) → IsRunning n h links
    → (j : Journal) × HoldsAfterCrash j h
held_of n h links run =
    let has = journal_of n.store h (open_of n h links run) in
    (has.whole, fits_hold n.store has.whole h has.fits)
