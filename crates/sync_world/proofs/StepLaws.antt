-- The steps of a stage, as its functions make them: by a device that stands at an index.
use Rattle.std.proofs.Common.{◌≡◌, ℕ, zero, suc, ◌<◌, ◌==◌, if◌then◌else◌, Bool, true, false, List}
use Rattle.std.proofs.Common.{[], ◌∷◌, ◌++◌, map, length, take, drop, refl, sym, ◌∙◌, ap, subst}
use Rattle.std.proofs.Common.{inl, inr, arith, Option, Some, None, is_some, Result, Ok, Err}
use Rattle.std.proofs.lemmas.Bool.{eq-eqb, ne_eqb}
use Rattle.std.proofs.lemmas.List.{length-map}
use Rattle.std.specs.Prelude.{IsErrAnd, slice_get, slice_index_or, slice_set}
use Rattle.std.proofs.lemmas.List.{length-set}
use Rattle.sync_course.proofs.LiftLaws.{get_set, set_twice}
use Rattle.world_devices.specs.Cited.{SentGrows}
use Rattle.world_devices.specs.Devices.{DeviceValue}
use Rattle.world_devices.specs.Linking.{AddsLink, DeviceLinksStand, IsUnlinked, KeepsLinks, LinksBy}
use Rattle.world_devices.specs.Linking.{LinksByAttach, LinksByTurn}
use Rattle.world_devices.specs.Refusals.{IsNotRefused}
use Rattle.world_devices.specs.Running.{DeviceRuns, ReadsAsJournal}
use Rattle.world_devices.specs.declared.stop.Ran.{Ran}
use Rattle.world_devices.specs.declared.stop.Ran.TheVariants as ran
use Rattle.world_devices.specs.declared.stop.StepFault.{StepFault}
use Rattle.world_devices.specs.declared.stop.StepFault.TheVariants as fault
use Rattle.world_laws.specs.Worlds.{World, contact_for, journal_at}
use Rattle.world_links.specs.Links.{side_end, left_by, other, side_of}
use Rattle.world_links.specs.declared.moves.Side.{Side}
use Rattle.world_links.specs.declared.moves.Side.TheVariants as side
use Rattle.world_links.specs.declared.link.Link.{Link}
use Rattle.sync_world.specs.Cited.{RecordLaws}
use Rattle.sync_world.specs.Staging.{HasFreshEnd, IsCallMade, PlansAll, SameFiles, after_ran}
use Rattle.sync_world.specs.Staging.{attached_at, attached_from, begun_with, new_link}
use Rattle.sync_world.specs.Standing.{AreRead, LeadsFromShown, IsShown, LeadsOn, is_fatal}
use Rattle.sync_world.specs.Turning.{look_link}
use Rattle.sync_world.specs.declared.stage.Stage.{Stage}
use Rattle.sync_world.proofs.GoLaws.{call_came, call_failed, crashed_leads, failed_leads}
use Rattle.sync_world.proofs.GoLaws.{holds_reads, kept_leads, leads_then, stays}
use Rattle.sync_world.proofs.LinkLaws.{attached_leads, begun_moves, get_last}
use Rattle.sync_world.proofs.LookGo.{looked_leads}
use Rattle.sync_world.proofs.PlanLaws.{far_own, holds_same, near_own}
use Rattle.sync_world.proofs.TurnLaws.{looks_others}
use Rattle.sync_world.proofs.ReachLaws.{reaches_none}
use Rattle.sync_world.proofs.WireLaws.{AllMove, LinkMoves, all_set, all_stay, end_stays, forth}
use Rattle.sync_world.proofs.WireLaws.{get_at, get_cases, link_stays}
use Rattle.client_basic.specs.Bodies.{bundle_meaning}

pub goes_then : (f : Bool) (a b c : Stage) → LeadsFromShown false a b → LeadsFromShown f b c
    → LeadsFromShown f a c
goes_then f a b c first second =
    λ w s. leads_then w f b.devices.items c.devices.items b.links.items c.links.items (first w s)
    second

pub goes_none : (a : Stage) → LeadsFromShown false a a
goes_none a = λ w s. stays w a.devices.items a.links.items s

pub unrefused_same : {A : Type 0} (e : StepFault) (old new : A) → IsNotRefused {A = Unit {0}}
    (Err e) → e ≡ fault.Refused → new ≡ old
unrefused_same fault.Refused old new kept is = absurd kept
unrefused_same fault.Full old new kept is = cc
unrefused_same fault.Memory old new kept is = cc

-- an error that was handed on
handed_on : (A : Type 0) (r : Result A StepFault) (e : StepFault) → IsErrAnd r (λ y. y ≡ e)
    → is_fatal {A = Unit {0}} (Err e) ≡ is_fatal r
handed_on A (Ok a) e is = absurd is
handed_on A (Err fault.Refused) e is =
    ap (λ (x : StepFault). is_fatal {A = Unit {0}} (Err x)) (sym is)
handed_on A (Err fault.Full) e is = ap (λ (x : StepFault). is_fatal {A = Unit {0}} (Err x)) (sym is)
handed_on A (Err fault.Memory) e is =
    ap (λ (x : StepFault). is_fatal {A = Unit {0}} (Err x)) (sym is)

pub leads_err : {A : Type 0} (r : Result A StepFault) (e : StepFault) (w : World)
    (devices : List DeviceValue) (links : List Link) → IsErrAnd r (λ y. y ≡ e)
    → LeadsOn w (is_fatal {A = Unit {0}} (Err e)) devices links
    → LeadsOn w (is_fatal r) devices links
leads_err {A} r e w devices links is leads =
    subst (λ (f : Bool). LeadsOn w f devices links) (handed_on A r e is) leads

-- a slice that was written, with as many elements
pub written : (len : ℕ) (new old : List Link) → length new ≡ length old → len ≡ length old
    → take len (new ++ drop (length new) old) ≡ new
written zero [] [] same is = refl
written (suc n) [] [] same is = absurd (omega (arith, is))
written n [] (y ∷ old) same is = absurd (omega (arith, same))
written n (x ∷ new) [] same is = absurd (omega (arith, same))
written zero (x ∷ new) (y ∷ old) same is = absurd (omega (arith, is))
written (suc n) (x ∷ new) (y ∷ old) same is =
    ap (λ (l : List Link). x ∷ l) (written n new old (omega (arith, same)) (omega (arith, is)))

-- a slice that was written once, and then looked at
pub written_twice : (len d : ℕ) (device : DeviceValue) (old new last mid : List Link)
    → length new ≡ length old → len ≡ length old
    → mid ≡ take len (new ++ drop (length new) old) → last ≡ map (look_link d device) mid
    → take len (last ++ drop (length last) (take len (new ++ drop (length new) old)))
    ≡ map (look_link d device) new
written_twice len d device old new last mid same is mid_is last_is =
    let first : take len (new ++ drop (length new) old) ≡ new = written len new old same is in
    let now : last ≡ map (look_link d device) new =
    last_is ∙ ap (λ (ls : List Link). map (look_link d device) ls) (mid_is ∙ first) in
    let long : length last ≡ length new = ap length now ∙ length-map new (look_link d device) in
    ap (λ (ls : List Link). take len (last ++ drop (length last) ls)) first
    ∙ (written len last new long (is ∙ sym same) ∙ now)

pub leads_both : (w : World) (ds ds' : List DeviceValue) (ls ls' : List Link) → ds' ≡ ds → ls' ≡ ls
    → LeadsOn w false ds ls → LeadsOn w false ds' ls'
leads_both w ds ds' ls ls' devices links leads =
    subst (λ (x : List DeviceValue). LeadsOn w false x ls') (sym devices)
    (subst (λ (x : List Link). LeadsOn w false ds x) (sym links) leads)

pub leads_links : (w : World) (f : Bool) (devices : List DeviceValue) (links links' : List Link)
    → links' ≡ links → LeadsOn w f devices links → LeadsOn w f devices links'
leads_links w f devices links links' same leads =
    subst (λ (ls : List Link). LeadsOn w f devices ls) (sym same) leads

-- ---- one device at an index

module _ (laws : RecordLaws) (grows : SentGrows) (devices : List DeviceValue) (links : List Link)
    (d : ℕ) (old new : DeviceValue)
    (within : d < length devices) (at : old ≡ slice_index_or devices d old)
    (runs : DeviceRuns old new) where
  is_at : slice_get devices d ≡ Some old
  is_at = get_at devices d old within at

  -- a call that leaves the node
  pub quiet_leads : KeepsLinks old new → new.node ≡ old.node → (w : World) → IsShown w devices links
      → LeadsOn w false (slice_set devices d new) links
  quiet_leads keeps node w s =
      kept_leads laws grows w devices links d old new s is_at runs (ap is_some node
      ∙ (s.up.each d old is_at).runs) keeps

  -- a call that fails
  pub fails_leads : (e : StepFault) → (e ≡ fault.Refused → new ≡ old) → (w : World)
      → IsShown w devices links
      → LeadsOn w (is_fatal {A = Unit {0}} (Err e)) (slice_set devices d new) links
  fails_leads e same w s = call_failed laws w devices links d old new e s is_at runs same

  -- a call behind which all fails
  pub ends_leads : (links' : List Link) (w : World) → IsShown w devices links → LeadsOn w true
      (slice_set devices d new) links'
  ends_leads links' w s = failed_leads laws w devices links links' d old new s is_at runs

  pub came_leads : (came : Ran) → is_some new.node ≡ true → LinksBy (Ok came) old new → (w : World)
      → IsShown w devices links
      → LeadsOn w false (slice_set devices d new) (after_ran came d links)
  came_leads came running by w s =
      call_came laws grows w devices links d old new came s is_at runs running by

  pub came_goes : (came : Ran) → is_some new.node ≡ true → LinksBy (Ok came) old new
      → (devices' : List DeviceValue) (links' : List Link) → devices' ≡ slice_set devices d new
      → links' ≡ after_ran came d links → (w : World) → IsShown w devices links
      → LeadsOn w false devices' links'
  came_goes came running by devices' links' is_devices is_links w s =
      subst (λ (ds : List DeviceValue). LeadsOn w false ds links') (sym is_devices)
      (subst (λ (ls : List Link). LeadsOn w false (slice_set devices d new) ls) (sym is_links)
      (came_leads came running by w s))

  pub gone_leads : is_some new.node ≡ true → IsUnlinked new → (w : World) → IsShown w devices links
      → LeadsOn w false (slice_set devices d new) (map (left_by d) links)
  gone_leads running unlinked w s =
      crashed_leads laws w devices links d old new s is_at runs running unlinked

  pub gone_goes : is_some new.node ≡ true → IsUnlinked new → (devices' : List DeviceValue)
      (links' : List Link) → devices' ≡ slice_set devices d new
      → links' ≡ map (left_by d) links → (w : World) → IsShown w devices links
      → LeadsOn w false devices' links'
  gone_goes running unlinked devices' links' is_devices is_links w s =
      subst (λ (ds : List DeviceValue). LeadsOn w false ds links') (sym is_devices)
      (subst (λ (ls : List Link). LeadsOn w false (slice_set devices d new) ls) (sym is_links)
      (gone_leads running unlinked w s))

  -- a session begins, and what was sent is looked at
  pub begins_leads : (far i session contact : ℕ) → is_some new.node ≡ true
      → AddsLink contact session old new → contact ≡ contact_for d far → DeviceLinksStand new
      → (fresh : HasFreshEnd d far i links) → (w : World) → IsShown w devices links
      → LeadsOn w false (slice_set devices d new)
      (map (look_link d new) (slice_set links i (attached_at d old.links session fresh.link)))
  begins_leads far i session contact running adds same stand fresh w s =
      leads_then w false (slice_set devices d new) (slice_set devices d new)
      (slice_set links i (attached_at d old.links session fresh.link))
      (map (look_link d new) (slice_set links i (attached_at d old.links session fresh.link)))
      (attached_leads laws grows w devices links d far i session contact old new s is_at runs
      running adds same fresh)
      (λ v shown. looked_leads laws v (slice_set devices d new)
      (slice_set links i (attached_at d old.links session fresh.link)) d new shown
      (get_set devices d new within) stand)

-- ---- fresh ends

side_same : (k : ℕ) (l l' : Link) → l'.near.device ≡ l.near.device → l'.far.device ≡ l.far.device
    → side_of k l' ≡ side_of k l
side_same k l l' near far =
    ap (λ (n : ℕ). if n == k then Some side.Near else if l'.far.device == k then Some side.Far else
    None) near
    ∙ ap (λ (n : ℕ). if l.near.device == k then Some side.Near else if n == k then Some side.Far
    else None) far

fresh_at : (k far i : ℕ) (ls : List Link) (l l' : Link) (from : Side) → LinkMoves k l l'
    → slice_get ls i ≡ Some l' → side_of k l ≡ Some from → (side_end from l).session ≡ None
    → (side_end from l).at ≡ None
    → (side_end from l).heard ≡ 0 → (side_end (other from) l).device ≡ far → HasFreshEnd k far i ls
fresh_at k far i ls l l' side.Near m there own unbegun unplaced unheard is =
    let same = m.near.own (near_own k l own) in
    record {
      link = l';
      stands = there;
      from = side.Near;
      own = side_same k l l' m.near.device m.far.device ∙ own;
      unbegun = same.session ∙ unbegun;
      unplaced = same.at ∙ unplaced;
      unheard = same.heard ∙ unheard;
      far_is = m.far.device ∙ is;
    }
fresh_at k far i ls l l' side.Far m there own unbegun unplaced unheard is =
    let same = m.far.own (far_own k l own).0 in
    record {
      link = l';
      stands = there;
      from = side.Far;
      own = side_same k l l' m.near.device m.far.device ∙ own;
      unbegun = same.session ∙ unbegun;
      unplaced = same.at ∙ unplaced;
      unheard = same.heard ∙ unheard;
      far_is = m.near.device ∙ is;
    }

fresh_moves : (k far i : ℕ) (ls ls' : List Link) → AllMove k ls ls' → HasFreshEnd k far i ls
    → HasFreshEnd k far i ls'
fresh_moves k far i ls ls' all f =
    let now = forth k ls ls' i f.link all f.stands in
    fresh_at k far i ls' f.link now.link f.from now.moves now.stands f.own f.unbegun f.unplaced
    f.unheard f.far_is

from_moves : (k d a session : ℕ) (l : Link) (o : Option Side) → (k ≡ d → ⊥) → side_of d l ≡ o
    → LinkMoves k l (attached_from a session o l)
from_moves k d a session l None apart own = link_stays k l
from_moves k d a session l (Some side.Near) apart own =
    record {
      near = begun_moves k d a session l.near (near_own d l own) apart;
      far = end_stays k l.far;
      cut = λ uncut. uncut;
    }
from_moves k d a session l (Some side.Far) apart own =
    record {
      near = end_stays k l.near;
      far = begun_moves k d a session l.far (far_own d l own).0 apart;
      cut = λ uncut. uncut;
    }

begun_all : (k d a session i : ℕ) (ls : List Link) (o : Option Link) → (k ≡ d → ⊥)
    → slice_get ls i ≡ o → AllMove k ls (begun_with d a session i o ls)
begun_all k d a session i ls None apart is = all_stay k ls
begun_all k d a session i ls (Some l) apart is =
    all_set k i ls l (attached_at d a session l) is
    (from_moves k d a session l (side_of d l) apart refl)

-- the fresh end of another device stays fresh
pub fresh_stays : (k far d a session i : ℕ) (device : DeviceValue) (ls : List Link) → (k ≡ d → ⊥)
    → HasFreshEnd k far i ls
    → HasFreshEnd k far i (map (look_link d device) (begun_with d a session i (slice_get ls i) ls))
fresh_stays k far d a session i device ls apart f =
    fresh_moves k far i (begun_with d a session i (slice_get ls i) ls)
    (map (look_link d device) (begun_with d a session i (slice_get ls i) ls))
    (looks_others k d device (begun_with d a session i (slice_get ls i) ls) apart)
    (fresh_moves k far i ls (begun_with d a session i (slice_get ls i) ls)
    (begun_all k d a session i ls (slice_get ls i) apart refl) f)

-- the ends of a link that was just made
pub near_fresh : (d e : ℕ) (ls : List Link) → HasFreshEnd d e (length ls) (ls ++ new_link d e ∷ [])
near_fresh d e ls = record {
  link = new_link d e;
  stands = get_last ls (new_link d e);
  from = side.Near;
  own =
      ap (λ b. if b then Some side.Near else if e == d then Some side.Far else None)
      (eq-eqb d d refl);
  unbegun = refl;
  unplaced = refl;
  unheard = refl;
  far_is = refl;
}

pub far_fresh : (d e : ℕ) (ls : List Link) → (d ≡ e → ⊥) → HasFreshEnd e d (length ls)
    (ls ++ new_link d e ∷ [])
far_fresh d e ls two = record {
  link = new_link d e;
  stands = get_last ls (new_link d e);
  from = side.Far;
  own =
      ap (λ b. if b then Some side.Near else if e == e then Some side.Far else None)
      (ne_eqb d e two) ∙ ap (λ b. if b then Some side.Far else None) (eq-eqb e e refl);
  unbegun = refl;
  unplaced = refl;
  unheard = refl;
  far_is = refl;
}

pub fatal_is : (e : StepFault) → IsNotRefused {A = Unit {0}} (Err e) → true ≡ is_fatal
    {A = Unit {0}} (Err e)
fatal_is fault.Refused kept = absurd kept
fatal_is fault.Full kept = refl
fatal_is fault.Memory kept = refl

-- ---- a turn: plans, and the call

read_same : (w : World) (devices : List DeviceValue) (links : List Link) (d : ℕ) (new : DeviceValue)
    → IsShown w devices links → ReadsAsJournal (journal_at w d) new.host
    → AreRead w.journals (slice_set devices d new)
read_same w devices links d new s reads = record {
  same_number = s.up.same_number ∙ sym (length-set devices d new);
  each = λ e x is.
      elim (get_cases devices d e new x is) [
        | inl (same, here) ↦ subst (λ (n : ℕ). ReadsAsJournal (journal_at w n) x.host) (sym same)
            (subst (λ (y : DeviceValue). ReadsAsJournal (journal_at w d) y.host) here reads)
        | inr (apart, was) ↦ holds_reads (journal_at w e) x.host (s.up.each e x was).holds
      ];
}

pub plan_fails : (devices : List DeviceValue) (links links' : List Link) (d : ℕ)
    (old new : DeviceValue) → d < length devices → old ≡ slice_index_or devices d old
    → SameFiles old new
    → (w : World) → IsShown w devices links → LeadsOn w true (slice_set devices d new) links'
plan_fails devices links links' d old new within at files w s =
    let is = get_at devices d old within at in
    let reads =
    holds_reads (journal_at w d) new.host
    (holds_same (journal_at w d) old new files (s.up.each d old is).holds) in
    record {
      after = w;
      reached = reaches_none bundle_meaning w;
      read = read_same w devices links d new s reads;
      shown = λ same. cc;
    }

module _ (laws : RecordLaws) (grows : SentGrows) (devices : List DeviceValue)
    (links planned : List Link) (d : ℕ) (old mid new : DeviceValue)
    (within : d < length devices) (at : old ≡ slice_index_or devices d old)
    (plans : PlansAll d old mid links planned) (runs : DeviceRuns mid new) where
  there : slice_get devices d ≡ Some old
  there = get_at devices d old within at

  mid_there : slice_get (slice_set devices d mid) d ≡ Some mid
  mid_there = get_set devices d mid within

  pub turn_fails : (e : StepFault) → IsNotRefused {A = Unit {0}} (Err e) → (links' : List Link)
      (w : World) → IsShown w devices links
      → LeadsOn w (is_fatal {A = Unit {0}} (Err e)) (slice_set devices d new) links'
  turn_fails e kept links' w s =
      subst (λ (f : Bool). LeadsOn w f (slice_set devices d new) links') (fatal_is e kept)
      (subst (λ (ds : List DeviceValue). LeadsOn w true ds links') (set_twice devices d mid new)
      (failed_leads laws w (slice_set devices d mid) planned links' d mid new
      (plans w devices there s) mid_there runs))

  pub turn_ends : (links' : List Link) (w : World) → IsShown w devices links → LeadsOn w true
      (slice_set devices d new) links'
  turn_ends links' w s =
      subst (λ (ds : List DeviceValue). LeadsOn w true ds links') (set_twice devices d mid new)
      (failed_leads laws w (slice_set devices d mid) planned links' d mid new
      (plans w devices there s) mid_there runs)

  pub turn_crashes : is_some new.node ≡ true → IsUnlinked new → (w : World)
      → IsShown w devices links
      → LeadsOn w false (slice_set devices d new) (map (left_by d) planned)
  turn_crashes running unlinked w s =
      subst (λ (ds : List DeviceValue). LeadsOn w false ds (map (left_by d) planned))
      (set_twice devices d mid new)
      (crashed_leads laws w (slice_set devices d mid) planned d mid new (plans w devices there s)
      mid_there runs running unlinked)

  pub turn_leads : is_some new.node ≡ true → KeepsLinks mid new → DeviceLinksStand new → (w : World)
      → IsShown w devices links
      → LeadsOn w false (slice_set devices d new) (map (look_link d new) planned)
  turn_leads running keeps stand w s =
      let kept : LeadsOn w false (slice_set devices d new) planned =
      subst (λ (ds : List DeviceValue). LeadsOn w false ds planned) (set_twice devices d mid new)
      (kept_leads laws grows w (slice_set devices d mid) planned d mid new (plans w devices there s)
      mid_there runs running keeps) in
      leads_then w false (slice_set devices d new) (slice_set devices d new) planned
      (map (look_link d new) planned) kept
      (λ v shown. looked_leads laws v (slice_set devices d new) planned d new shown
      (get_set devices d new within) stand)

pub plans_from : (d : ℕ) (old new : DeviceValue) (ls ms ns : List Link) → ms ≡ ls
    → PlansAll d old new ms ns → PlansAll d old new ls ns
plans_from d old new ls ms ns same plans =
    λ w devices is s.
    plans w devices is (subst (λ (x : List Link). IsShown w devices x) (sym same) s)

-- ---- by what a call answered

pub none_of : {A : Type 0} (o : Option A) → ((x : A) → o ≡ Some x → ⊥) → o ≡ None
none_of None not = refl
none_of (Some x) not = absurd (not x refl)

pub turn_kept : (o : Option Bool) (still : Bool) (old new : DeviceValue) → o ≡ Some still
    → LinksByTurn (Ok o) old new → KeepsLinks old new
turn_kept o still old new is by = subst (λ (x : Option Bool). LinksByTurn (Ok x) old new) is by

pub turn_gone : (o : Option Bool) (old new : DeviceValue) → o ≡ None → LinksByTurn (Ok o) old new
    → IsUnlinked new
turn_gone o old new is by = subst (λ (x : Option Bool). LinksByTurn (Ok x) old new) is by

pub attach_added : (contact : ℕ) (o : Option ℕ) (session : ℕ) (old new : DeviceValue)
    → o ≡ Some session → LinksByAttach contact (Ok o) old new → AddsLink contact session old new
attach_added contact o session old new is by =
    subst (λ (x : Option ℕ). LinksByAttach contact (Ok x) old new) is by

pub attach_gone : (contact : ℕ) (o : Option ℕ) (old new : DeviceValue) → o ≡ None
    → LinksByAttach contact (Ok o) old new → IsUnlinked new
attach_gone contact o old new is by =
    subst (λ (x : Option ℕ). LinksByAttach contact (Ok x) old new) is by

-- ---- a link that begins, as it was written

begun_length : (d at session i : ℕ) (o : Option Link) (ls : List Link)
    → length (begun_with d at session i o ls) ≡ length ls
begun_length d at session i None ls = refl
begun_length d at session i (Some l) ls = length-set ls i (attached_at d at session l)

pub begun_written : (len d at session i : ℕ) (device : DeviceValue)
    (items slice begun mid last : List Link) → slice ≡ items → len ≡ length items
    → begun ≡ begun_with d at session i (slice_get slice i) slice
    → mid ≡ take len (begun ++ drop (length begun) items) → last ≡ map (look_link d device) mid
    → take len (last ++ drop (length last) (take len (begun ++ drop (length begun) items)))
    ≡ map (look_link d device) (begun_with d at session i (slice_get items i) items)
begun_written len d at session i device items slice begun mid last same is begins mid_is last_is =
    let here : begun ≡ begun_with d at session i (slice_get items i) items =
    begins ∙ ap (λ (ls : List Link). begun_with d at session i (slice_get ls i) ls) same in
    let long : length begun ≡ length items = ap length here
    ∙ begun_length d at session i (slice_get items i) items in
    written_twice len d device items begun last mid long is mid_is last_is
    ∙ ap (λ (ls : List Link). map (look_link d device) ls) here

pub begun_to : (ls : List Link) (d at n session i : ℕ) (device : DeviceValue) (l : Link) → at ≡ n
    → slice_get ls i ≡ Some l
    → map (look_link d device) (begun_with d at session i (slice_get ls i) ls)
    ≡ map (look_link d device) (slice_set ls i (attached_at d n session l))
begun_to ls d at n session i device l same is =
    ap (λ (x : List Link). map (look_link d device) x)
    (ap (λ (o : Option Link). begun_with d at session i o ls) is
    ∙ ap (λ (a : ℕ). slice_set ls i (attached_at d a session l)) same)

-- ---- a link more

pub near_pushed : (d e n : ℕ) (ls ls' : List Link) → n ≡ length ls → ls' ≡ ls ++ new_link d e ∷ []
    → HasFreshEnd d e n ls'
near_pushed d e n ls ls' is pushed =
    subst (λ (x : List Link). HasFreshEnd d e n x) (sym pushed)
    (subst (λ (k : ℕ). HasFreshEnd d e k (ls ++ new_link d e ∷ [])) (sym is)
    (near_fresh d e ls))

pub far_pushed : (d e n : ℕ) (ls ls' : List Link) → (d ≡ e → ⊥) → n ≡ length ls
    → ls' ≡ ls ++ new_link d e ∷ [] → HasFreshEnd e d n ls'
far_pushed d e n ls ls' two is pushed =
    subst (λ (x : List Link). HasFreshEnd e d n x) (sym pushed)
    (subst (λ (k : ℕ). HasFreshEnd e d k (ls ++ new_link d e ∷ [])) (sym is)
    (far_fresh d e ls two))

pub was_done : (r : Ran) → r ≡ ran.Done → IsCallMade {E = StepFault} (Ok r)
was_done r is = subst (λ (x : Ran). IsCallMade {E = StepFault} (Ok x)) (sym is) tt
