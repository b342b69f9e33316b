-- What a turn of a device and a session that begins do, over plain values.
use Rattle.std.proofs.Common.{◌≡◌, ℕ, zero, suc, ◌+◌, ◌<◌, ◌≤◌, Bool, List, [], ◌∷◌}
use Rattle.std.proofs.Common.{◌++◌, map, length, refl, sym, ◌∙◌, ap, subst, inl, inr, arith}
use Rattle.std.proofs.Common.{Option, Some, None, Result, Ok, Err}
use Rattle.std.specs.Result.{IsErrAnd}
use Rattle.std.specs.Prelude.{slice_get, slice_index_or, slice_set}
use Rattle.sync_node.specs.declared.node.Plan.{Plan}
use Rattle.sync_rules.specs.declared.entries.Mode.{Mode}
use Rattle.world_devices.specs.Devices.{DeviceValue}
use Rattle.world_devices.specs.Doing.{DeviceBeginsSession, DeviceMakesTurn}
use Rattle.world_devices.specs.Linking.{DeviceLinksStand}
use Rattle.world_devices.specs.declared.stop.Ran.{Ran}
use Rattle.world_devices.specs.declared.stop.Ran.TheVariants as ran
use Rattle.world_devices.specs.declared.stop.StepFault.{StepFault}
use Rattle.world_devices.specs.declared.stop.StepFault.TheVariants as fault
use Rattle.world_laws.specs.Worlds.{contact_for}
use Rattle.world_links.specs.Links.{left_by, side_of}
use Rattle.world_links.specs.declared.link.Link.{Link}
use Rattle.sync_world.specs.Doing.{Attaches, Ground, LinksBehind, LinksTwo}
use Rattle.sync_world.specs.Doing.{TurnsOnce, hears_on_link, hears_on_links}
use Rattle.sync_world.specs.Doing.{begun_on}
use Rattle.sync_world.specs.Doing.{dialled, plan_of}
use Rattle.sync_world.specs.Naming.{nonce_of}
use Rattle.sync_world.specs.Parts.{AttachesBy, DialsBy, TurnsBy, WhenFull}
use Rattle.sync_world.specs.Staging.{begun_with, new_link}
use Rattle.sync_world.specs.Turning.{look_link}
use Rattle.sync_world.proofs.DoingLaws.{device_does, ground, handed, same_ground, when_full}

-- ---- links, one after the other

-- on the first so many links was heard, and those behind are as before
abbrev pub hears_front : ℕ → (number : ℕ) → DeviceValue → List Link → DeviceValue × List Link
hears_front zero number d ls = (d, ls)
hears_front (suc n) number d [] = (d, [])
hears_front (suc n) number d (l ∷ ls) =
    let first = hears_on_link d l (side_of number l) in
    let rest = hears_front n number first.0 ls in
    (rest.0, first.1 ∷ rest.1)

-- a device and the links, where it hears on one more, which has this place
abbrev hears_more : ℕ → (number : ℕ) → Link → DeviceValue × List Link → DeviceValue × List Link
hears_more n number l p =
    let one = hears_on_link p.0 l (side_of number l) in (one.0, slice_set p.1 n one.1)

front_more : (n d : ℕ) (old : DeviceValue) (xs : List Link) (l : Link)
    → slice_get (hears_front n d old xs).1 n ≡ Some l
    → hears_front (suc n) d old xs ≡ hears_more n d l (hears_front n d old xs)
front_more zero d old [] l there = cc
front_more zero d old (x ∷ xs) l there =
    let is : x ≡ l = cc in
    subst (λ (z : Link).
    hears_front (suc zero) d old (x ∷ xs) ≡ hears_more zero d z (old, x ∷ xs)) is refl
front_more (suc n) d old [] l there = cc
front_more (suc n) d old (x ∷ xs) l there =
    let first = hears_on_link old x (side_of d x) in
    ap (λ (p : DeviceValue × List Link). (p.0, first.1 ∷ p.1)) (front_more n d first.0 xs l there)

-- one link more
pub front_next : (n d : ℕ) (old mid new : DeviceValue) (xs ys : List Link) (l l' : Link)
    → (mid, ys) ≡ hears_front n d old xs → slice_get ys n ≡ Some l
    → (new, l') ≡ hears_on_link mid l (side_of d l)
    → (new, slice_set ys n l') ≡ hears_front (n + 1) d old xs
front_next n d old mid new xs ys l l' front there one =
    let at : slice_get (hears_front n d old xs).1 n ≡ Some l =
    sym (ap (λ (p : DeviceValue × List Link). slice_get p.1 n) front) ∙ there in
    let next : suc n ≡ n + 1 = omega arith in
    ap (λ (p : DeviceValue × Link). (p.0, slice_set ys n p.1)) one
    ∙ (ap (hears_more n d l) front
    ∙ (sym (front_more n d old xs l at) ∙ ap (λ (k : ℕ). hears_front k d old xs) next))

-- all links
pub front_all : (n d : ℕ) (old : DeviceValue) (xs : List Link) → length xs ≤ n
    → hears_front n d old xs ≡ hears_on_links d old xs
front_all zero d old [] all = refl
front_all zero d old (x ∷ xs) all = absurd (omega (arith, all))
front_all (suc n) d old [] all = refl
front_all (suc n) d old (x ∷ xs) all =
    let first = hears_on_link old x (side_of d x) in
    ap (λ (p : DeviceValue × List Link). (p.0, first.1 ∷ p.1))
    (front_all n d first.0 xs (omega (arith, all)))

-- ---- answers that are handed on

pub attaches_handed : (d link : ℕ) (plan : Plan) (nonce : Option (List ℕ))
    (r : Result Ran StepFault) (e : StepFault) (old new : Ground) → IsErrAnd r (λ y. y ≡ e)
    → WhenFull e (Attaches d link plan nonce (Err fault.Full) old new)
    → AttachesBy d link plan nonce r old new
attaches_handed d link plan nonce r e old new is when =
    handed (λ x. AttachesBy d link plan nonce x old new)
    (Attaches d link plan nonce (Err fault.Full) old new) r e (λ f w. w) is when

pub turns_handed : (d : ℕ) (r : Result (Option Bool) StepFault) (e : StepFault) (old new : Ground)
    → IsErrAnd r (λ y. y ≡ e) → WhenFull e (TurnsOnce d (Err fault.Full) old new)
    → TurnsBy d r old new
turns_handed d r e old new is when =
    handed (λ x. TurnsBy d x old new) (TurnsOnce d (Err fault.Full) old new) r e (λ f w. w) is when

-- ---- a session that begins

module _ (d link : ℕ) (plan : Plan) (nonce : Option (List ℕ)) (devices devices' : List DeviceValue)
    (links links' : List Link) (was is : DeviceValue)
    (within : d < length devices) (at : was ≡ slice_index_or devices d was)
    (now : devices' ≡ slice_set devices d is) where
  attaches : (came : Result (Option ℕ) StepFault) → DeviceBeginsSession plan nonce came was is
      → LinksBehind d is came (begun_on d link was.links came links) links'
      → Attaches d link plan nonce came (record { devices = devices; links = links })
      (record { devices = devices'; links = links' })
  attaches came did behind =
      device_does d (λ (w i : DeviceValue) (ls : List Link).
      DeviceBeginsSession plan nonce came w i
      × LinksBehind d i came (begun_on d link w.links came links) ls) devices devices' links links'
      was is within at (did, behind) now

  pub attach_done : (o : Option ℕ) (session number : ℕ) → o ≡ Some session
      → DeviceBeginsSession plan nonce (Ok o) was is → DeviceLinksStand is → number ≡ was.links
      → links' ≡ map (look_link d is)
      (begun_with d number session link (slice_get links link) links)
      → Attaches d link plan nonce (Ok (Some session)) (record { devices = devices; links = links })
      (record { devices = devices'; links = links' })
  attach_done o session number some did sent same written =
      attaches (Ok (Some session))
      (subst (λ (x : Option ℕ). DeviceBeginsSession plan nonce (Ok x) was is) some did) (
        sent,
        written
            ∙ ap (λ (n : ℕ).
            map (look_link d is) (begun_with d n session link (slice_get links link) links)) same,
      )

  pub attach_broken : (o : Option ℕ) → o ≡ None → DeviceBeginsSession plan nonce (Ok o) was is
      → links' ≡ map (left_by d) links
      → Attaches d link plan nonce (Ok None) (record { devices = devices; links = links })
      (record { devices = devices'; links = links' })
  attach_broken o none did gone =
      attaches (Ok None)
      (subst (λ (x : Option ℕ). DeviceBeginsSession plan nonce (Ok x) was is) none did) gone

  pub attach_fault : (e : StepFault) → DeviceBeginsSession plan nonce (Err e) was is
      → links' ≡ links → WhenFull e
      (Attaches d link plan nonce (Err fault.Full) (record { devices = devices; links = links })
      (record { devices = devices'; links = links' }))
  attach_fault fault.Refused did same = tt
  attach_fault fault.Full did same = attaches (Err fault.Full) did same
  attach_fault fault.Memory did same = tt

-- ---- a turn

module _ (d : ℕ) (devices devices' : List DeviceValue) (links planned_from heard links' : List Link)
    (was planned is : DeviceValue)
    (within : d < length devices) (at : was ≡ slice_index_or devices d was)
    (from : planned_from ≡ links) (hears : (planned, heard) ≡ hears_on_links d was planned_from)
    (now : devices' ≡ slice_set devices d is) where
  turns : (came : Result (Option Bool) StepFault) → DeviceMakesTurn came planned is
      → LinksBehind d is came heard links'
      → TurnsOnce d came (record { devices = devices; links = links })
      (record { devices = devices'; links = links' })
  turns came did behind =
      let here : (planned, heard) ≡ hears_on_links d was links =
      hears ∙ ap (hears_on_links d was) from in
      device_does d (λ (w i : DeviceValue) (ls : List Link).
      DeviceMakesTurn came (hears_on_links d w links).0 i
      × LinksBehind d i came (hears_on_links d w links).1 ls) devices devices' links links' was is
      within at (subst (λ (p : DeviceValue × List Link).
      DeviceMakesTurn came p.0 is × LinksBehind d is came p.1 links') here (did, behind)) now

  pub turn_made : (o came : Option Bool) → o ≡ came → DeviceMakesTurn (Ok o) planned is
      → LinksBehind d is (Ok came) heard links'
      → TurnsOnce d (Ok came) (record { devices = devices; links = links })
      (record { devices = devices'; links = links' })
  turn_made o came same did behind =
      turns (Ok came) (subst (λ (x : Option Bool). DeviceMakesTurn (Ok x) planned is) same did)
      behind

  pub turn_fault : (e : StepFault) → DeviceMakesTurn (Err e) planned is → links' ≡ heard
      → WhenFull e
      (TurnsOnce d (Err fault.Full) (record { devices = devices; links = links })
      (record { devices = devices'; links = links' }))
  turn_fault fault.Refused did same = tt
  turn_fault fault.Full did same = turns (Err fault.Full) did same
  turn_fault fault.Memory did same = tt

-- ---- a link more, and the sessions that begin on it

abbrev plan_with : ℕ → Mode → ℕ → Plan
plan_with contact mode latency = record { contact = contact; mode = mode; latency = latency }

pub plan_is : (p : Plan) (d e : ℕ) (mode : Mode) (latency : ℕ) → p.contact ≡ contact_for d e
    → p.mode ≡ mode → p.latency ≡ latency → p ≡ plan_of d e mode latency
plan_is p d e mode latency contact same late =
    ap (λ (k : ℕ). plan_with k p.mode p.latency) contact
    ∙ (ap (λ (m : Mode). plan_with (contact_for d e) m p.latency) same
    ∙ ap (λ (k : ℕ). plan_with (contact_for d e) mode k) late)

pub dials_on : (d e n : ℕ) (old : Ground) (devices : List DeviceValue) (links : List Link)
    (l : Link) → devices ≡ old.devices → links ≡ old.links ++ l ∷ [] → l ≡ new_link d e
    → n ≡ length old.links
    → DialsBy d e (Ok n) old (ground devices links)
dials_on d e n old devices links l same pushed made number = (
  number,
  same_ground old.devices devices (old.links ++ new_link d e ∷ []) links same
      (pushed ∙ ap (λ (x : Link). old.links ++ x ∷ []) made),
)

pub dials_handed : (d e : ℕ) (r : Result ℕ StepFault) (old new : Ground) → IsErrAnd r
    (λ y. y ≡ fault.Memory) → DialsBy d e r old new
dials_handed d e (Ok n) old new is = absurd is
dials_handed d e (Err f) old new is = is

module _ (d e : ℕ) (mode : Mode) (latency : ℕ) (old mid : Ground) (link : ℕ) (near : Plan)
    (nonce : Option (List ℕ)) (dials : DialsBy d e (Ok link) old mid)
    (near_is : near ≡ plan_of d e mode latency) (nonce_is : nonce ≡ nonce_of mode link) where
  -- the session of the device that dials
  near_by : (came : Result (Option ℕ) StepFault) (new : Ground) → Attaches d link near nonce came
      mid new
      → Attaches d (length old.links) (plan_of d e mode latency)
      (nonce_of mode (length old.links)) came (dialled d e old) new
  near_by came new so =
      subst (λ (g : Ground).
      Attaches d (length old.links) (plan_of d e mode latency)
      (nonce_of mode (length old.links)) came g new) dials.1
      (subst (λ (n : ℕ).
      Attaches d n (plan_of d e mode latency) (nonce_of mode n) came mid new) dials.0
      (subst (λ (o : Option (List ℕ)).
      Attaches d link (plan_of d e mode latency) o came mid new) nonce_is
      (subst (λ (p : Plan). Attaches d link p nonce came mid new) near_is so)))

  -- it is broken off
  pub near_full : (f : StepFault) (new : Ground) → WhenFull f
      (Attaches d link near nonce (Err fault.Full) mid new)
      → WhenFull f (LinksTwo d e mode latency (Err fault.Full) old new)
  near_full f new when =
      when_full (Attaches d link near nonce (Err fault.Full) mid new)
      (LinksTwo d e mode latency (Err fault.Full) old new) f
      (λ fills. inr ((λ session is. cc is), near_by (Err fault.Full) new fills)) when

  pub near_crashed : (r : Ran) (new : Ground) → r ≡ ran.Crashed → AttachesBy d link near nonce
      (Ok r) mid new → LinksTwo d e mode latency (Ok None) old new
  near_crashed r new is by =
      let crashes : Attaches d link near nonce (Ok None) mid new =
      subst (λ (x : Ran). AttachesBy d link near nonce (Ok x) mid new) is by in
      inr ((λ session is. cc is), near_by (Ok None) new crashes)

  -- both are made
  module _ (r : Ran) (between : Ground) (far : Plan) (is : r ≡ ran.Done)
      (by : AttachesBy d link near nonce (Ok r) mid between)
      (far_is : far ≡ plan_of e d mode latency) where
    both : (came : Result (Option ℕ) StepFault) (new : Ground) → Attaches e link far None came
        between new → LinksTwo d e mode latency came old new
    both came new after =
        let begins : (session : ℕ) × Attaches d link near nonce (Ok (Some session)) mid between =
        subst (λ (x : Ran). AttachesBy d link near nonce (Ok x) mid between) is by in
        inl (
          between,
          begins.0,
          near_by (Ok (Some begins.0)) between begins.1,
          subst (λ (n : ℕ). Attaches e n (plan_of e d mode latency) None came between new) dials.0
              (subst (λ (p : Plan). Attaches e link p None came between new) far_is after),
        )

    pub far_full : (f : StepFault) (new : Ground) → WhenFull f
        (Attaches e link far None (Err fault.Full) between new)
        → WhenFull f (LinksTwo d e mode latency (Err fault.Full) old new)
    far_full f new when =
        when_full (Attaches e link far None (Err fault.Full) between new)
        (LinksTwo d e mode latency (Err fault.Full) old new) f (both (Err fault.Full) new) when

    pub both_linked : (r' : Ran) (new : Ground) → AttachesBy e link far None (Ok r') between new
        → (came : Option ℕ) × LinksTwo d e mode latency (Ok came) old new
    both_linked ran.Done new after = (Some after.0, both (Ok (Some after.0)) new after.1)
    both_linked ran.Crashed new after = (None, both (Ok None) new after)
