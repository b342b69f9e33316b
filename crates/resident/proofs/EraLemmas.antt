-- What stands behind a session's call.
use Rattle.std.proofs.Common.{◌≡◌, ℕ, suc, ◌+◌, ◌<◌, ◌≤◌, Bool, true, false, List, [], ◌∷◌, length}
use Rattle.std.proofs.Common.{Option, None, Some, Result, Ok, Err, refl, sym, ap, ◌∙◌, subst, arith}
use Rattle.std.specs.Prelude.{IfSome, OnOk}
use Rattle.std.proofs.lemmas.List.{length-append}
use Rattle.outside.specs.Outside.{Outside}
use Rattle.sync_rules.specs.Clients.{Meaning}
use Rattle.sync_rules.specs.Facts.{Facts}
use Rattle.sync_rules.specs.Growth.{OnlySettles}
use Rattle.sync_rules.proofs.StepKinds.{all_settling_only}
use Rattle.sync_store.specs.Ready.{IsReady}
use Rattle.sync_store.specs.Store.{StoreValue, format_meant}
use Rattle.sync_words.specs.declared.outcome.Outcome.{Outcome}
use Rattle.sync_words.specs.declared.outcome.Outcome.TheVariants as outcome
use Rattle.store_commands.specs.Commit.{SettlesAs}
use Rattle.store_commands.specs.Serving.{IsReadyToServe, IsServed, ServesOn}
use Rattle.store_commands.proofs.Serving.{ready_now}
use Rattle.sync_node.specs.declared.fault.NodeFault.{NodeFault}
use Rattle.sync_node.specs.declared.fault.NodeFault.TheVariants as fault
use Rattle.sync_node.specs.declared.link.Link.{Link}
use Rattle.sync_node.specs.Calls.{AsideGoes, AttachStops, CallAnswers, CallStops}
use Rattle.sync_node.specs.Causes.{PushesOne, sessions_of}
use Rattle.sync_node.specs.Node.{AsideValue, IsAside, KeepsSessions, MayRun, node_with}
use Rattle.sync_node.proofs.AsideLaws.{aside_over}
use Rattle.resident.specs.declared.resident.Resident.{Resident}
use Rattle.resident.specs.Sessions.{AsksLink, EraStands, GoesOnBehind, HearsLink, ReadsAndSends}
use Rattle.resident.specs.Sessions.{SendsLink, SettledStands, SettlesFirst, StopsSettling, fault_of}
use Rattle.resident.specs.Staying.{MayStay, RunsBeside, Stays}

-- ---- settling

pub only_settled : (clients : Meaning) (s s' : StoreValue) (o o' : Outside)
    (result : Result (Unit {0}) Outcome) → SettlesAs clients s s' o o' result
    → OnlySettles s.state.facts s'.state.facts
only_settled clients s s' o o' result settles =
    subst (λ (f : Facts). OnlySettles s.state.facts f) (sym settles.comes.facts)
    (all_settling_only clients s.state.facts settles.more settles.comes.settling)

-- no memory was found, or the disk failed
pub unsettled_stands : (clients : Meaning) (s : StoreValue) (o : Outside) (came : Outcome)
    → ServesOn clients s o came → SettledStands clients (Err (fault_of came)) s o
unsettled_stands clients s o outcome.Memory serves = serves
unsettled_stands clients s o _ serves = tt

-- behind that no era runs
never_full : (came : Outcome) → fault.Full ≡ fault_of came → ⊥
never_full outcome.Memory is = cc
never_full _ is = cc

never_closed : (came : Outcome) → fault.Closed ≡ fault_of came → ⊥
never_closed outcome.Memory is = cc
never_closed _ is = cc

pub unsettled_era : (T : Type 0) (clients : Meaning) (e : NodeFault) (a : AsideValue)
    (s0 s : StoreValue) (o0 o : Outside) → StopsSettling clients s0 s o0 o e
    → SettledStands clients (Err e) s o
    → (let result : Result T NodeFault = Err e in EraStands clients result a s o)
unsettled_era T clients fault.Memory a s0 s o0 o stops stands = stands
unsettled_era T clients fault.DiskFault a s0 s o0 o stops stands = tt
unsettled_era T clients fault.Full a s0 s o0 o stops stands = absurd (never_full stops.came stops.is)
unsettled_era T clients fault.Closed a s0 s o0 o stops stands =
    absurd (never_closed stops.came stops.is)

-- ---- a call of an era

-- the store that it left ready is ready to serve
ready_by : (clients : Meaning) (a a' : AsideValue) (s s' : StoreValue) (o o' : Outside)
    → IsReadyToServe clients s o → AsideGoes (node_with a s) (node_with a' s') o o'
    → IsReady clients s' o'.files → IsReadyToServe clients s' o'
ready_by clients a a' s s' o o' was goes ready =
    ready_now clients s' o' ready (goes.same_limit ∙ was.loaded.opened.limited)
    (ap format_meant goes.same_format ∙ was.short)

module _ {T H : Type 0} (clients : Meaning) (a a' : AsideValue) (s s' : StoreValue)
    (old new : H) (o o' : Outside) where
  pub era_stands : (result : Result T NodeFault) → IsReadyToServe clients s o → a.closed ≡ false
      → CallAnswers (node_with a s) (node_with a' s') old new result
      → AsideGoes (node_with a s) (node_with a' s') o o' → MayRun clients (node_with a' s') o'
      → CallStops clients (node_with a' s') o o' result
      → OnOk result (o'.links.dialled ≡ length a'.links) → EraStands clients result a' s' o'
  era_stands (Ok x) was opened answers goes may stops dialled =
      let still : a'.closed ≡ false = answers.opened opened in (
        ready_by clients a a' s s' o o' was goes (may still).ready,
        record { still_open = still; sessions = goes.aside; dialled = dialled },
      )
  era_stands (Err fault.Memory) was opened answers goes may stops dialled =
      ready_by clients a a' s s' o o' was goes stops
  era_stands (Err fault.Full) was opened answers goes may stops dialled =
      ready_by clients a a' s s' o o' was goes stops
  era_stands (Err fault.DiskFault) was opened answers goes may stops dialled = tt
  era_stands (Err fault.Closed) was opened answers goes may stops dialled =
      absurd (answers.opened opened)

-- the store and the host of an attachment that was stopped
pub attach_stops : {T H : Type 0} (clients : Meaning) (a a' : AsideValue) (s s' : StoreValue)
    (old new : H) (o o' : Outside) (result : Result T NodeFault)
    → AttachStops clients (node_with a s) (node_with a' s') old new o o' result
    → CallStops clients (node_with a' s') o o' result
attach_stops clients a a' s s' old new o o' (Ok x) stops = tt
attach_stops clients a a' s s' old new o o' (Err fault.Memory) stops = stops.ready
attach_stops clients a a' s s' old new o o' (Err fault.Full) stops = stops.ready
attach_stops clients a a' s s' old new o o' (Err fault.DiskFault) stops = stops
attach_stops clients a a' s s' old new o o' (Err fault.Closed) stops = tt

-- ---- how many links

same_long : (old new : List Link) → sessions_of old ≡ sessions_of new → length old ≡ length new
same_long [] [] same = refl
same_long [] (y ∷ new) same = cc
same_long (x ∷ old) [] same = cc
same_long (x ∷ old) (y ∷ new) same =
    let heads : x.session ∷ sessions_of old ≡ y.session ∷ sessions_of new = same in
    let tails : sessions_of old ≡ sessions_of new = cc in
    ap suc (same_long old new tails)

on_ok : {T E : Type 0} {P : Type 0} (result : Result T E) → P → OnOk result P
on_ok (Ok x) p = p
on_ok (Err e) p = tt

module _ {T : Type 0} (a a' : AsideValue) (o o' : Outside)
    (same : o'.links.dialled ≡ o.links.dialled) where
  -- as many as before
  pub dialled_kept : (s s' : StoreValue) (result : Result T NodeFault)
      → o.links.dialled ≡ length a.links → KeepsSessions (node_with a s) (node_with a' s')
      → OnOk result (o'.links.dialled ≡ length a'.links)
  dialled_kept s s' result were kept =
      on_ok result (same ∙ were ∙ sym (same_long a'.links a.links kept.same_sessions))

  -- one more
  pub dialled_pushed : (result : Result T NodeFault) → o.links.dialled ≡ length a.links + 1
      → PushesOne result a.links a'.links → OnOk result (o'.links.dialled ≡ length a'.links)
  dialled_pushed (Ok x) were pushes =
      let longer : length a'.links ≡ length a.links + 1 =
      ap (λ (ls : List Link). length ls) pushes.1 ∙ length-append a.links (pushes.0 ∷ []) in
      same ∙ were ∙ sym longer
  dialled_pushed (Err e) were pushes = tt

-- ---- the era over another store

-- its journal was settled
pub runs_settled : (a : AsideValue) (s s' : StoreValue) (o o' : Outside)
    → OnlySettles s.state.facts s'.state.facts → o'.links ≡ o.links → RunsBeside a s o
    → RunsBeside a s' o'
runs_settled a s s' o o' only links runs = record {
  still_open = runs.still_open;
  sessions = aside_over a s s' only.sessions only.begun runs.sessions;
  dialled = ap (λ ls. ls.dialled) links ∙ runs.dialled;
}

pub era_settled : (e : Option AsideValue) (s s' : StoreValue) (o o' : Outside)
    → OnlySettles s.state.facts s'.state.facts → o'.links ≡ o.links
    → IfSome e (λ a. RunsBeside a s o) → IfSome e (λ a. RunsBeside a s' o')
era_settled None s s' o o' only links runs = tt
era_settled (Some a) s s' o o' only links runs = runs_settled a s s' o o' only links runs

-- it may go on over a settled one
pub era_may : (clients : Meaning) (a : AsideValue) (s : StoreValue) (o : Outside)
    → IsServed clients s o → length a.links ≤ o.links.dialled → MayRun clients (node_with a s) o
era_may clients a s o served dialled = λ opened. record {
  ready = served.ready.loaded.opened.ready;
  settled = λ some. served.settled;
  dialled = dialled;
}

-- ---- the node behind a call

stays_none : (clients : Meaning) (r : Resident) (o : Outside) → IsReadyToServe clients r.store o
    → r.aside ≡ None → Stays clients r o
stays_none clients r o ready none = record {
  ready = ready;
  era = subst (λ (e : Option AsideValue). IfSome e (λ a. RunsBeside a r.store o)) (sym none) tt;
}

pub stays_behind : {T : Type 0} (clients : Meaning) (result : Result T NodeFault) (a : AsideValue)
    (r : Resident) (o : Outside) → EraStands clients result a r.store o
    → GoesOnBehind result a r → MayStay clients r o
stays_behind clients (Ok x) a r o stands goes = λ still_open. record {
  ready = stands.0;
  era = subst (λ (e : Option AsideValue). IfSome e (λ b. RunsBeside b r.store o)) (sym goes.0)
      stands.1;
}
stays_behind clients (Err fault.Memory) a r o stands goes = λ still_open.
    stays_none clients r o stands goes.0
stays_behind clients (Err fault.Full) a r o stands goes = λ still_open.
    stays_none clients r o stands goes.0
stays_behind clients (Err fault.DiskFault) a r o stands goes = λ still_open.
    absurd (let both : true ≡ false = sym goes.1 ∙ still_open in cc)
stays_behind clients (Err fault.Closed) a r o stands goes = absurd stands

-- its redundant links were closed
pub stays_redundant : (clients : Meaning) (r : Resident) (a a' : AsideValue) (o : Outside)
    → r.aside ≡ Some a → a' ≡ record a { links = a'.links }
    → ((s : StoreValue) → IsAside (node_with a s) → IsAside (node_with a' s))
    → length a'.links ≡ length a.links → MayStay clients r o
    → MayStay clients (record r { aside = Some a' }) o
stays_redundant clients r a a' o is rest aside same may = λ still_open.
    let stays = may still_open in
    let runs : RunsBeside a r.store o =
    subst (λ (e : Option AsideValue). IfSome e (λ b. RunsBeside b r.store o)) is stays.era in
    record {
      ready = stays.ready;
      era = record {
        still_open = ap (λ (x : AsideValue). x.closed) rest ∙ runs.still_open;
        sessions = aside r.store runs.sessions;
        dialled = runs.dialled ∙ sym same;
      };
    }

-- ---- what the calls did

-- the era that ran, as it is behind the call
pub hears : {H : Type 0} (tells : H → Outside) (clients : Meaning) (link : ℕ) (r r' : Resident)
    (s' : StoreValue) (a a' : AsideValue) (old new : H) (heard result : Result Bool NodeFault)
    → r.aside ≡ Some a → result ≡ heard → r'.store ≡ s' → GoesOnBehind heard a' r'
    → SettlesFirst tells clients r.store s' old new heard
    (λ s host. AsksLink tells clients link a a' s s' host new heard)
    → HearsLink tells clients link r r' old new result
hears tells clients link r r' s' a a' old new heard result ran same store goes did =
    let Did : StoreValue → Result Bool NodeFault → Type 0 = λ x came.
    SettlesFirst tells clients r.store x old new came
    (λ s host. AsksLink tells clients link a a' s x host new came) in
    record {
      era = a;
      ran = ran;
      left = a';
      goes_on =
          subst (λ (came : Result Bool NodeFault). GoesOnBehind came a' r') (sym same) goes;
      did =
          subst (λ (came : Result Bool NodeFault). Did r'.store came) (sym same)
          (subst (λ (x : StoreValue). Did x heard) (sym store) did);
    }

pub sends : {H : Type 0} (tells : H → Outside) (clients : Meaning) (link : ℕ) (r r' : Resident)
    (s' : StoreValue) (a a' : AsideValue) (old new : H) (sent result : Result ℕ NodeFault)
    → r.aside ≡ Some a → result ≡ sent → r'.store ≡ s' → GoesOnBehind sent a' r'
    → SettlesFirst tells clients r.store s' old new sent
    (λ s host. ReadsAndSends tells clients link a a' s s' host new sent)
    → SendsLink tells clients link r r' old new result
sends tells clients link r r' s' a a' old new sent result ran same store goes did =
    let Did : StoreValue → Result ℕ NodeFault → Type 0 = λ x came.
    SettlesFirst tells clients r.store x old new came
    (λ s host. ReadsAndSends tells clients link a a' s x host new came) in
    record {
      era = a;
      ran = ran;
      left = a';
      goes_on = subst (λ (came : Result ℕ NodeFault). GoesOnBehind came a' r') (sym same) goes;
      did =
          subst (λ (came : Result ℕ NodeFault). Did r'.store came) (sym same)
          (subst (λ (x : StoreValue). Did x sent) (sym store) did);
    }
