-- What a call of the node of a device comes to: it was done, or it failed.
use Rattle.std.proofs.Common.{◌≡◌, ◌+◌, ◌<◌, ◌∙◌, ℕ, Bool, false, List, length, arith, refl, sym}
use Rattle.std.proofs.Common.{ap, subst, inl, inr, Option, None, Some, is_some, true, Result, Ok, Err}
use Rattle.std.proofs.Common.{OnOk}
use Rattle.std.specs.Prelude.{◌||◌, nat_le}
use Rattle.std.specs.Prelude.{◌⊎◌, IsSomeAnd, MatchResult}
use Rattle.std.specs.Result.{IsErrOf}
use Rattle.std.proofs.lemmas.Bool.Decides.{nat_tests}
use Rattle.outside.specs.declared.limits.TheConstants.{LINKS}
use denote.Enum.Bare.{sameb}
use Rattle.outside.specs.HostTold.{host_told}
use Rattle.outside.specs.MemHost.{MemHostValue}
use Rattle.client_basic.specs.Bodies.{bundle_meaning}
use Rattle.sync_rules.specs.declared.entries.Session.{Session}
use Rattle.sync_rules.specs.Facts.{session_at}
use Rattle.sync_node.specs.Courses.{BreaksBeginning, BreaksTurn, MakesTurn, is_still}
use Rattle.sync_node.specs.OnRuns.{BeginStopped, ByFault, RoundStopped}
use Rattle.sync_node.specs.Cuts.{is_of_disk}
use Rattle.sync_node.proofs.NodeRuns.{beginning_breaks, run_went, turn_breaks, turn_made}
use Rattle.sync_node.specs.Node.{NodeValue}
use Rattle.sync_node.specs.declared.fault.NodeFault.{NodeFault}
use Rattle.sync_node.specs.declared.fault.NodeFault.TheVariants as node_fault
use Rattle.sync_node.specs.contracts.node.Turned.{the_type}
use Rattle.sync_node.specs.declared.node.Plan.{Plan}
use Rattle.sync_node.specs.declared.node.Turned.{Turned}
use Rattle.sync_node.specs.declared.node.Turned.TheVariants as turned_kind
use Rattle.world_devices.specs.Devices.{DeviceValue, HostGoesOn}
use Rattle.world_devices.specs.Doing.{FallsAtStop, ComesOf, DeviceRestarts, GivesUp, HasBegunOnLink, HasTurned}
use Rattle.world_devices.specs.Doing.{IsAhead, KeepsOwn, OfNodes, StopsIn, next_session}
use Rattle.world_devices.specs.Cited.{DeviceLaws}
use Rattle.world_devices.specs.Linking.{IsUnlinked}
use Rattle.world_devices.specs.Refusals.{IsNotRefused, RefusedBy, refuses_link}
use Rattle.world_devices.specs.Running.{DeviceRuns, IsStill}
use Rattle.world_devices.proofs.CallLaws.{DeviceLeaves, DidWell, behind, leaves_come, leaves_on, leaves_runs}
use Rattle.world_devices.proofs.CallLaws.{well_runs}
use Rattle.world_devices.proofs.RunLaws.{BeginStops, NodeBegan, NodeTurned, TurnStops, by_any}
use Rattle.world_devices.proofs.StartLaws.{by_broken, by_done, runs_unlinked}
use Rattle.world_devices.specs.declared.stop.StepFault.{StepFault}
use Rattle.world_devices.specs.declared.stop.StepFault.TheVariants as fault

-- ---- of a device that runs

pub of_node : (P : NodeValue → Type 0) (n : NodeValue) (maybe : Option NodeValue) → maybe ≡ Some n → P n → IsSomeAnd maybe P
of_node P n maybe is holds = subst (λ (x : Option NodeValue). IsSomeAnd x P) (sym is) holds

pub of_nodes : (P : NodeValue → NodeValue → Type 0) (n n' : NodeValue) (old : Option NodeValue)
    → old ≡ Some n → P n n' → OfNodes P old (Some n')
of_nodes P n n' old was holds =
    subst (λ (x : Option NodeValue). OfNodes P x (Some n')) (sym was) holds

-- ---- by which fault a call was broken off

-- by its disk or not; it was the disk where the node says so
pub record BrokenBy (Broken : Bool → Type 0) (x : NodeFault) : Type 0 where
  pub by : Bool
  pub disk : x ≡ node_fault.DiskFault → by ≡ true
  pub broken : Broken by

pub broken_by : (Broken : Bool → Type 0) (by : Bool) (x : NodeFault)
    → (x ≡ node_fault.DiskFault → by ≡ true) → Broken by → BrokenBy Broken x
broken_by Broken by x disk broken = record { by = by; disk = disk; broken = broken }

pub broken_map : (P Q : Bool → Type 0) (x : NodeFault) → ((by : Bool) → P by → Q by)
    → BrokenBy P x → BrokenBy Q x
broken_map P Q x then broken =
    record { by = broken.by; disk = broken.disk; broken = then broken.by broken.broken }

pub broken_off : (P : _ → Type 0) (Q : Bool → Type 0) → ((e : _) → P e → Q (is_of_disk e))
    → (x : NodeFault) → ByFault P x → BrokenBy Q x
broken_off P Q each node_fault.Memory p = broken_by Q false node_fault.Memory (λ is. cc) (each _ p)
broken_off P Q each node_fault.DiskFault p = broken_by Q true node_fault.DiskFault (λ is. refl) (each _ p)
broken_off P Q each node_fault.Full p = broken_by Q false node_fault.Full (λ is. cc) (each _ p)
broken_off P Q each node_fault.Closed p = absurd p

-- ---- what a call came to

-- what each clause of a call of its node says, of this device and by its answer
module _ {R : Type 0} (Calls Links : DeviceValue → DeviceValue → Result R StepFault → Type 0) where
  pub record Comes (old new : DeviceValue) (r : Result R StepFault) : Type 0 where
    pub runs : DeviceRuns old new
    pub running : OnOk r (is_some new.node ≡ true)
    pub links : Links old new r
    pub unrefused : IsNotRefused r
    pub calls : Calls old new r

  -- it was done; or its links or its clock found no memory, or the call was passed at which its disk
  -- is to stop
  pub comes_done : DeviceLaws → {d old : DeviceValue} → d ≡ old → (n n' : NodeValue) (h' : MemHostValue)
      (links : ℕ) → DidWell d n n' h' → (r : Result R StepFault) (a : R)
      → MatchResult r (λ x. (x ≡ a) × IsAhead d.stop h') (λ e. e ≡ fault.Memory)
      → Links d (behind d n' h' links) (Ok a) → Links d (behind d n' h' links) (Err fault.Memory)
      → (KeepsOwn d (behind d n' h' links) → Calls d (behind d n' h' links) (Ok a))
      → (HostGoesOn d.host h' → Calls d (behind d n' h' links) (Err fault.Memory))
      → Comes old (behind d n' h' links) r
  comes_done laws {d = d} seen n n' h' links did r a answers linked none done starved =
      let new : DeviceValue = behind d n' h' links in
      let runs = well_runs d n n' h' did laws links in
      subst (λ (o : DeviceValue). Comes o new r) seen
      (by_done (λ x. Comes d new x) r a _ answers (λ ahead. record {
        runs = runs;
        running = refl;
        links = linked;
        unrefused = tt;
        calls =
            done (record { clock = refl; stop = refl; since = did.goes.goes.calls; ahead = ahead });
      }) (record {
        runs = runs;
        running = tt;
        links = none;
        unrefused = tt;
        calls = starved did.goes.goes.calls;
      }))

  -- its disk stopped in it; or it found no memory, or filled the journal
  pub comes_broken : DeviceLaws → {Broken : Bool → MemHostValue → Type 0} {Full : Type 0} {d old : DeviceValue}
      → d ≡ old → (new : DeviceValue) (r : Result R StepFault) (a : R)
      → (StopsIn (Broken true) d new → Calls d new (Ok a))
      → (GivesUp (λ x. (e : Bool) × Broken e x) d new → Calls d new (Err fault.Memory))
      → (Full → Calls d new (Err fault.Full)) → (IsUnlinked new → Links d new (Ok a))
      → Links d new (Err fault.Memory) → Links d new (Err fault.Full) → (f : NodeFault)
      (at : MemHostValue)
      → MatchResult r (λ x. (x ≡ a) × ((f ≡ node_fault.DiskFault) × FallsAtStop d.stop at new))
      (λ e. (e ≡ fault.Memory) ⊎ ((e ≡ fault.Full) × ((f ≡ node_fault.Full) × (new.host ≡ at))))
      → DeviceLeaves d.node d.host at → HostGoesOn d.host at
      → BrokenBy (λ e. Broken e at) f
      → (f ≡ node_fault.Full → new.host ≡ at → Full) → ComesOf at new.host
      → (is_some new.node ≡ true → IsStill new.host) → new.clock ≡ d.clock → Comes old new r
  comes_broken laws {Broken = Broken} {d = d} seen new r a stops gives filled unlinked none full f at fails left since
      broken fills comes still clock =
      let runs = leaves_runs laws d new (leaves_on d.node d.host at new.host left comes) still in
      subst (λ (o : DeviceValue). Comes o new r) seen
      (by_broken (λ x. Comes d new x) r a _ _ fails (λ off. record {
        runs = runs;
        running = runs_unlinked new off.1.crashes.unlinked;
        links = unlinked off.1.crashes.unlinked;
        unrefused = tt;
        calls = stops (record {
          at = at;
          since = since;
          broken = subst (λ (e : Bool). Broken e at) (broken.disk off.0) broken.broken;
          off = off.1;
          clock = clock;
        });
      }) (record {
        runs = runs;
        running = tt;
        links = none;
        unrefused = tt;
        calls = gives (record { at = at; since = since; broken = (broken.by, broken.broken); left = comes });
      }) (λ is. record {
        runs = runs;
        running = tt;
        links = full;
        unrefused = tt;
        calls = filled (fills is.0 is.1);
      }))

-- ---- a restart

abbrev Restarts : DeviceValue → DeviceValue → Result (Unit {0}) StepFault → Type 0
Restarts old new r = DeviceRestarts r old new

abbrev Unlinks : DeviceValue → DeviceValue → Result (Unit {0}) StepFault → Type 0
Unlinks old new r = OnOk r (IsUnlinked new)

starts_again : (d new : DeviceValue) → DeviceRuns d new → (r : Result (Unit {0}) StepFault)
    → DeviceRestarts r d new → Comes Restarts Unlinks d new r
starts_again d new runs (Ok u) came =
    let none : IsUnlinked new =
    elim came [ inl again ↦ again.unlinked | inr stops ↦ stops.off.crashes.unlinked ] in
    record {
      runs = runs;
      running = runs_unlinked new none;
      links = none;
      unrefused = tt;
      calls = came;
    }
starts_again d new runs (Err fault.Memory) came =
    record { runs = runs; running = tt; links = tt; unrefused = tt; calls = came }
starts_again d new runs (Err e) came = absurd came

pub comes_again : DeviceLaws → {d old : DeviceValue} → d ≡ old → (new : DeviceValue)
    (r : Result (Unit {0}) StepFault) → ComesOf d.host new.host
    → (is_some new.node ≡ true → IsStill new.host) → DeviceRestarts r d new
    → Comes Restarts Unlinks old new r
comes_again laws {d = d} seen new r comes still came =
    subst (λ (o : DeviceValue). Comes Restarts Unlinks o new r) seen
    (starts_again d new (leaves_runs laws d new (leaves_come d.node d.host new.host comes) still) r came)

-- ---- what the calls of a node came to on a course

-- a turn that was made
pub has_turned : (still quiet : Bool) (n n' : NodeValue) (h h' : MemHostValue) → n'.first ≡ n.first
    → quiet ≡ still → NodeTurned n n' h h' quiet → HasTurned still h h' n n'
has_turned still quiet n n' h h' first same w = record {
  same_first = first;
  turn =
      subst (λ (b : Bool). MakesTurn bundle_meaning n.first n.links n'.links n.store n'.store
      (host_told h) (host_told h') b) same
      (turn_made bundle_meaning n.first n.links n'.links n.store n'.store (host_told h)
      (host_told h') quiet w);
}

-- a session that began
pub has_begun_on : (plan : Plan) (its_nonce : Option (List ℕ)) (session : ℕ) (n n' : NodeValue)
    (h h' : MemHostValue) → session ≡ n.store.state.facts.begun
    → n.store.state.facts.begun ≡ n.first + length n.links → n'.first ≡ n.first
    → session_at n.store.state.facts.sessions n.store.state.facts.begun ≡ None
    → NodeBegan (next_session plan its_nonce n) n n' h h'
    → HasBegunOnLink plan its_nonce session h h' n n'
has_begun_on plan its_nonce session n n' h h' number next first free w = record {
  number = number;
  on_next = number ∙ next;
  same_first = first;
  has_read = w.has_read;
  runs = λ terms left heard moved still made own quiet.
      run_went bundle_meaning terms _ _ n.store n'.store (host_told h) (host_told h')
      (w.went free terms left heard moved still made quiet (next
      ∙ ap (λ (k : ℕ). k + length n.links) (sym own)));
  facts_are = w.facts;
}

pub turn_breaks_off : (n n' : NodeValue) (node : Option NodeValue) (h h' : MemHostValue)
    (x : NodeFault) → node ≡ Some n → TurnStops n n' h h' x
    → BrokenBy (λ e. IsSomeAnd node (λ (m : NodeValue).
    BreaksTurn bundle_meaning e m.first m.links m.store (host_told h) (host_told h'))) x
turn_breaks_off n n' maybe h h' x was stopped =
    broken_off (RoundStopped bundle_meaning n.first n.links n'.links n.store n'.store (host_told h)
    (host_told h')) (λ e. IsSomeAnd maybe (λ (m : NodeValue).
    BreaksTurn bundle_meaning e m.first m.links m.store (host_told h) (host_told h')))
    (λ e w. of_node (λ (m : NodeValue).
    BreaksTurn bundle_meaning (is_of_disk e) m.first m.links m.store (host_told h) (host_told h')) n maybe was
    (turn_breaks bundle_meaning n.first n.links n'.links n.store n'.store (host_told h)
    (host_told h') e w)) x stopped

pub beginning_breaks_off : (plan : Plan) (its_nonce : Option (List ℕ)) (n n' : NodeValue)
    (node : Option NodeValue) (h h' : MemHostValue)
    (x : NodeFault) → node ≡ Some n → BeginStops (next_session plan its_nonce n) n n' h h' x
    → BrokenBy (λ e. IsSomeAnd node (λ (m : NodeValue).
    BreaksBeginning bundle_meaning e (next_session plan its_nonce m) m.links m.store (host_told h)
    (host_told h'))) x
beginning_breaks_off plan its_nonce n n' maybe h h' x was stopped =
    let session = next_session plan its_nonce n in
    broken_off (BeginStopped bundle_meaning session n.links n'.links n.store n'.store (host_told h)
    (host_told h')) (λ e. IsSomeAnd maybe (λ (m : NodeValue).
    BreaksBeginning bundle_meaning e (next_session plan its_nonce m) m.links m.store (host_told h)
    (host_told h')))
    (λ e w. of_node (λ (m : NodeValue).
    BreaksBeginning bundle_meaning (is_of_disk e) (next_session plan its_nonce m) m.links m.store (host_told h)
    (host_told h')) n maybe was
    (beginning_breaks bundle_meaning session n.links n'.links n.store n'.store (host_told h)
    (host_told h') e w)) x stopped

-- ---- what is answered

-- what a device answers by the comparison of what its node answers
pub still_by : (t : Turned) (b : Bool) → b ≡ sameb the_type t turned_kind.Still → b ≡ is_still t
still_by turned_kind.Still b is = is
still_by turned_kind.Moving b is = is

-- a link that a device may have, to a contact that is known, is not refused
pub link_unrefused : (node : Option NodeValue) (n : NodeValue) (links contact : ℕ)
    (r : Result (Option ℕ) StepFault) → node ≡ Some n → links < LINKS
    → contact < n.store.state.facts.contacts → IsNotRefused r
    → RefusedBy (refuses_link node links contact) r
link_unrefused maybe n links contact r is within known unrefused =
    let both : (nat_le LINKS links || nat_le n.store.state.facts.contacts contact) ≡ false =
    grind (arith, nat_tests) in
    subst (λ (x : Option NodeValue). RefusedBy (refuses_link x links contact) r) (sym is)
    (subst (λ (b : Bool). RefusedBy b r) (sym both) unrefused)

pub never_refused : {A : Type 0} (P : Type 0) (r : Result A StepFault) → IsNotRefused r
    → IsErrOf r fault.Refused → P
never_refused P (Ok a) unrefused is = cc
never_refused P (Err fault.Refused) unrefused is = absurd unrefused
never_refused P (Err fault.Full) unrefused is = cc
never_refused P (Err fault.Memory) unrefused is = cc
