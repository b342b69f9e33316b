-- What calls on devices and links lead to.
use Rattle.std.proofs.Common.{◌≡◌, ℕ, zero, suc, ◌+◌, ◌-◌, ◌<◌, ◌≤◌, ◌==◌, Bool, true, false, cond}
use Rattle.std.proofs.Common.{if◌then◌else◌, List, [], ◌∷◌, ◌++◌, map, length, refl, sym, ◌∙◌, ap}
use Rattle.std.proofs.Common.{subst, inl, inr, arith, append-nil, Option, Some, None, is_some, Ok}
use Rattle.std.proofs.Common.{Err}
use Rattle.std.proofs.lemmas.Bool.{and_parts, eqb-true, leb-true, ltb-true}
use Rattle.std.specs.Prelude.{nat_le, nat_lt, slice_get, slice_set}
use Rattle.std.specs.Option.{option_map}
use Rattle.std.proofs.lemmas.List.{length-set}
use Rattle.sync_course.proofs.LiftLaws.{get_within}
use Rattle.outside.specs.Files.{read_files}
use Rattle.outside.specs.HostTold.{host_told}
use Rattle.outside.specs.MemHost.{MemHostValue}
use Rattle.outside.specs.Runs.{IsFront}
use Rattle.client_basic.specs.Bodies.{bundle_meaning}
use Rattle.record_grammar.specs.Stream.{records}
use Rattle.sync_ids.specs.declared.records.Record.{Record}
use Rattle.sync_node.specs.Node.{NodeValue}
use Rattle.sync_rules.proofs.Continuing.{legal-append}
use Rattle.sync_rules.specs.Lists.{In}
use Rattle.sync_rules.specs.Facts.{ExtendsJournal, Journal}
use Rattle.sync_rules.specs.Legal.{Legal}
use Rattle.world_laws.specs.Worlds.{World, journal_at, journal_in}
use Rattle.world_devices.specs.Brought.{brought_on}
use Rattle.world_devices.specs.Cited.{SentGrows}
use Rattle.world_devices.specs.Devices.{DeviceValue}
use Rattle.world_devices.specs.Linking.{IsUnlinked, KeepsLinks, LinksBy, count_of_links}
use Rattle.world_devices.specs.declared.stop.Ran.{Ran}
use Rattle.world_devices.specs.declared.stop.Ran.TheVariants as ran
use Rattle.world_devices.specs.declared.stop.StepFault.{StepFault}
use Rattle.world_devices.specs.declared.stop.StepFault.TheVariants as fault
use Rattle.world_devices.specs.Running.{DeviceRuns, HoldsAfterCrash, ReadsAsJournal, is_session_of}
use Rattle.world_devices.specs.Running.{records_for, records_heard}
use Rattle.world_links.specs.Ends.{EndValue, input_of}
use Rattle.world_links.specs.Links.{cut, detached, left_from, left_by, with_flight}
use Rattle.world_links.specs.declared.moves.Side.TheVariants as side
use Rattle.world_links.specs.declared.link.Link.{Link}
use Rattle.sync_world.specs.Cited.{RecordLaws}
use Rattle.sync_world.specs.Shown.{IsGivenAt, MovesShown, ReachesWorld, heard_by, left_link}
use Rattle.sync_world.specs.Shown.{world_of}
use Rattle.sync_world.specs.Staging.{after_ran}
use Rattle.sync_world.specs.Standing.{AllWired, ArePlaced, AreRead, AreUp, AreWired, IsShown, IsUp}
use Rattle.sync_world.specs.Standing.{LeadsOn, is_fatal, place_in, place_on}
use Rattle.sync_world.proofs.HearLaws.{given_front_records}
use Rattle.sync_world.proofs.ReachLaws.{reaches_none, reaches_then}
use Rattle.sync_world.proofs.RunLaws.{given_heard, journal_set_other, journal_set_own, left_reached}
use Rattle.sync_world.proofs.RunLaws.{links_same, run_reached}
use Rattle.sync_world.proofs.ShownMoves.{shown_all_left, shown_at}
use Rattle.sync_world.proofs.WireLaws.{AllMove, EndMoves, LinkMoves, all_map, all_placed, all_wired}
use Rattle.sync_world.proofs.WireLaws.{eqb_not, get_cases, kept_wired, link_stays}
use Rattle.sync_world.proofs.WireLaws.{own_far, own_is, own_near, own_none, placed_end, set_back}
use Rattle.sync_world.proofs.WireLaws.{some_same}

-- ---- journals

pub holds_reads : (j : Journal) (host : MemHostValue) → HoldsAfterCrash j host
    → ReadsAsJournal j host
holds_reads j host holds =
    record {
      each = λ two told. holds.each two told (read_files two) ((host_told host).reads two told);
    }

pub up_read : (js : List Journal) (devices : List DeviceValue) → AreUp js devices
    → AreRead js devices
up_read js devices up =
    record {
      same_number = up.same_number;
      each = λ d device is. holds_reads (journal_in js d) device.host (up.each d device is).holds;
    }

pub up_set : (js : List Journal) (devices : List DeviceValue) (d : ℕ) (j : Journal)
    (device : DeviceValue) → d < length devices → AreUp js devices → IsUp j device
    → AreUp (slice_set js d j) (slice_set devices d device)
up_set js devices d j device within up one = record {
  same_number = length-set js d j ∙ (up.same_number ∙ sym (length-set devices d device));
  each = λ e other is.
      elim (get_cases devices d e device other is) [
        | inl (same, new) ↦
            let own : journal_in (slice_set js d j) e ≡ j = ap (journal_in (slice_set js d j)) same
            ∙ journal_set_own js d j (omega (arith, within, up.same_number)) in
            subst (λ (k : Journal). IsUp k other) (sym own) (subst (IsUp j) new one)
        | inr (apart, old) ↦ subst (λ (k : Journal). IsUp k other)
            (sym (journal_set_other js d j e apart)) (up.each e other old)
      ];
}

pub read_set : (js : List Journal) (devices : List DeviceValue) (d : ℕ) (j : Journal)
    (device : DeviceValue) → d < length devices → AreRead js devices → ReadsAsJournal j device.host
    → AreRead (slice_set js d j) (slice_set devices d device)
read_set js devices d j device within up one = record {
  same_number = length-set js d j ∙ (up.same_number ∙ sym (length-set devices d device));
  each = λ e other is.
      elim (get_cases devices d e device other is) [
        | inl (same, new) ↦
            let own : journal_in (slice_set js d j) e ≡ j = ap (journal_in (slice_set js d j)) same
            ∙ journal_set_own js d j (omega (arith, within, up.same_number)) in
            subst (λ (k : Journal). ReadsAsJournal k other.host) (sym own)
            (subst (λ (x : DeviceValue). ReadsAsJournal j x.host) new one)
        | inr (apart, old) ↦ subst (λ (k : Journal). ReadsAsJournal k other.host)
            (sym (journal_set_other js d j e apart)) (up.each e other old)
      ];
}

-- the wiring of all devices, where one of them changed
pub wired_set : (js : List Journal) (devices : List DeviceValue) (ls ls' : List Link) (d : ℕ)
    (j : Journal) (device : DeviceValue) → d < length js → AreWired j d device ls'
    → ((e : ℕ) (other : DeviceValue) → (e ≡ d → ⊥) → slice_get devices e ≡ Some other
    → AreWired (journal_in js e) e other ls')
    → AllWired (slice_set js d j) (slice_set devices d device) ls'
wired_set js devices ls ls' d j device within one others e other is =
    elim (get_cases devices d e device other is) [
      | inl (same, new) ↦
          let own : journal_in (slice_set js d j) e ≡ j = ap (journal_in (slice_set js d j)) same
          ∙ journal_set_own js d j within in
          subst (λ (k : Journal). AreWired k e other ls') (sym own)
          (subst (λ (n : ℕ). AreWired j n other ls') (sym same)
          (subst (λ (x : DeviceValue). AreWired j d x ls') new one))
      | inr (apart, old) ↦ subst (λ (k : Journal). AreWired k e other ls')
          (sym (journal_set_other js d j e apart)) (others e other apart old)
    ]

-- ---- what leads on

pub stays : (w : World) (devices : List DeviceValue) (links : List Link) → IsShown w devices links
    → LeadsOn w false devices links
stays w devices links s =
    record {
      after = w;
      reached = reaches_none bundle_meaning w;
      read = up_read w.journals devices s.up;
      shown = λ same. s;
    }

pub read_at_all : (w : World) (fatal : Bool) (devices : List DeviceValue) (links : List Link)
    → LeadsOn w false devices links → LeadsOn w fatal devices links
read_at_all w fatal devices links leads =
    record {
      after = leads.after;
      reached = leads.reached;
      read = leads.read;
      shown = λ same. leads.shown refl;
    }

pub leads_then : (w : World) (fatal : Bool) (ds ds' : List DeviceValue) (ls ls' : List Link)
    → LeadsOn w false ds ls
    → ((v : World) → IsShown v ds ls → LeadsOn v fatal ds' ls') → LeadsOn w fatal ds' ls'
leads_then w fatal ds ds' ls ls' first second =
    let next = second first.after (first.shown refl) in
    record {
      after = next.after;
      reached = reaches_then bundle_meaning w first.after next.after first.reached next.reached;
      read = next.read;
      shown = next.shown;
    }

-- moves of links, of which no device knows
pub moved_leads : (w : World) (devices : List DeviceValue) (ls ls' : List Link)
    → IsShown w devices ls → MovesShown bundle_meaning ls' w.links → ((k : ℕ) → AllMove k ls ls')
    → LeadsOn w false devices ls'
moved_leads w devices ls ls' s moves all =
    let to = moves.moves w.journals in
    record {
      after = world_of w.journals moves.after;
      reached = to.reached;
      read = up_read w.journals devices s.up;
      shown = λ same. record {
        up = s.up;
        shown = moves.shown;
        placed = all_placed 0 (length devices) ls ls' (all 0) s.placed;
        wired = λ d device is.
            all_wired (journal_in w.journals d) d (length devices) device ls ls' (all d) s.placed
            (s.wired d device is);
      };
    }

-- ---- what a device takes was given to its ends

seat_heard : RecordLaws → (w : World) (devices : List DeviceValue) (links : List Link) (d : ℕ)
    (old : DeviceValue) (n : NodeValue) → IsShown w devices links
    → slice_get devices d ≡ Some old → old.node ≡ Some n → (session : ℕ) (r : Record)
    → is_session_of n session ≡ true → In r (records (brought_on old.host (session - n.first)))
    → In r (heard_by d w.links session)
seat_heard laws w devices links d old n s is running session r own inside =
    let both = and_parts (nat_le n.first session) (nat_lt session (n.first + length n.links)) own in
    let from : n.first ≤ session = leb-true n.first session both.0 in
    let below : session < n.first + length n.links =
    ltb-true session (n.first + length n.links) both.1 in
    let up = s.up.each d old is in
    let wires = s.wired d old is in
    let numbered : ◌≡◌ {A = Option ℕ} (Some (length n.links)) (Some old.links) =
    sym (ap count_of_links running) ∙ up.numbered in
    let long : length n.links ≡ old.links = some_same (length n.links) old.links numbered in
    let a : ℕ = session - n.first in
    let within : session - n.first < old.links = omega (arith, from, below, long) in
    let back : n.first + (session - n.first) ≡ session = omega (arith, from) in
    let seat = wires.all (session - n.first) within in
    let placed = placed_end d seat.link (session - n.first) seat.here in
    let wire = wires.each seat.number seat.link placed.end (session - n.first) seat.stands
    placed.own placed.here in
    let on : placed.end.session ≡ Some session = wire.session
    ∙ (ap (λ (o : Option NodeValue).
    option_map (λ (m : NodeValue). m.first + (session - n.first)) o) running
    ∙ ap (λ (k : ℕ). Some k) back) in
    let front : IsFront (brought_on old.host (session - n.first)) placed.end.given =
    record { rest = input_of placed.end; whole = sym wire.brought } in
    let shown = shown_at links w.links seat.number seat.link seat.stands s.shown in
    let given : IsGivenAt d session w.links r =
    elim (own_is d seat.link placed.end placed.own).which [
      | inl near ↦
          record {
            number = seat.number;
            near = false;
            link = shown.link;
            stands = shown.stands;
            own = shown.shown.near.device ∙ near.1;
            on = shown.shown.near.session ∙ (ap (λ (e : EndValue). e.session) near.0 ∙ on);
            inside = given_front_records laws seat.link.near shown.link.near
                (brought_on old.host (session - n.first)) r shown.shown.near
                (subst (λ (e : EndValue). IsFront (brought_on old.host (session - n.first)) e.given)
                (sym near.0) front) inside;
          }
      | inr far ↦
          record {
            number = seat.number;
            near = true;
            link = shown.link;
            stands = shown.stands;
            own = shown.shown.far.device ∙ far.1.0;
            on = shown.shown.far.session ∙ (ap (λ (e : EndValue). e.session) far.0 ∙ on);
            inside = given_front_records laws seat.link.far shown.link.far
                (brought_on old.host (session - n.first)) r shown.shown.far
                (subst (λ (e : EndValue). IsFront (brought_on old.host (session - n.first)) e.given)
                (sym far.0) front) inside;
          }
    ] in
    given_heard d session w.links r given

node_heard : RecordLaws → (w : World) (devices : List DeviceValue) (links : List Link) (d : ℕ)
    (old : DeviceValue) (o : Option NodeValue) → IsShown w devices links
    → slice_get devices d ≡ Some old → old.node ≡ o → (session : ℕ) (r : Record)
    → In r (records_heard o old.host session) → In r (heard_by d w.links session)
node_heard laws w devices links d old None s is running session r inside = absurd inside
node_heard laws w devices links d old (Some n) s is running session r inside =
    elim (is_session_of n session) as (λ b. is_session_of n session ≡ b
    → In r (cond b (records (brought_on old.host (session - n.first))) [])
    → In r (heard_by d w.links session)) [
      | true ↦ λ own there. seat_heard laws w devices links d old n s is running session r own there
      | false ↦ λ own there. absurd there
    ] refl inside

-- ---- a device runs

-- its journal went on, in a world that steps lead to
pub record RanOn (w : World) (d : ℕ) (new : DeviceValue) : Type 0 where
  pub journal : Journal
  pub reached : ReachesWorld bundle_meaning w (world_of (slice_set w.journals d journal) w.links)
  pub reads : ReadsAsJournal journal new.host
  pub holds : is_some new.node ≡ true → HoldsAfterCrash journal new.host
  pub legal : Legal bundle_meaning journal
  pub extends : ExtendsJournal journal (journal_at w d)

pub device_ran : RecordLaws → (w : World) (devices : List DeviceValue) (links : List Link) (d : ℕ)
    (old new : DeviceValue) → IsShown w devices links
    → slice_get devices d ≡ Some old → DeviceRuns old new → RanOn w d new
device_ran laws w devices links d old new s is runs =
    let up = s.up.each d old is in
    let comes = runs.comes (journal_at w d) up.holds in
    let within : d < length w.journals =
    omega (arith, s.up.same_number, get_within devices d old is) in
    record {
      journal = journal_at w d ++ comes.more;
      reached = run_reached bundle_meaning d w.journals w.links w.links
          (journal_at w d ++ comes.more) comes.more (records_for old) within refl comes.allowed
          comes.plain comes.all_heard
          (λ session r inside.
          node_heard laws w devices links d old old.node s is refl session r inside)
          (links_same d (journal_at w d ++ comes.more) w.links);
      reads = comes.reads;
      holds = comes.holds;
      legal = legal-append bundle_meaning (journal_at w d) comes.more up.legal comes.allowed;
      extends = (comes.more, refl);
    }

-- a call that failed for good
pub failed_leads : RecordLaws → (w : World) (devices : List DeviceValue) (links links' : List Link)
    (d : ℕ) (old new : DeviceValue) → IsShown w devices links
    → slice_get devices d ≡ Some old → DeviceRuns old new
    → LeadsOn w true (slice_set devices d new) links'
failed_leads laws w devices links links' d old new s is runs =
    let ran = device_ran laws w devices links d old new s is runs in
    record {
      after = world_of (slice_set w.journals d ran.journal) w.links;
      reached = ran.reached;
      read = read_set w.journals devices d ran.journal new (get_within devices d old is)
          (up_read w.journals devices s.up) ran.reads;
      shown = λ same. cc;
    }

-- a call that left its links
pub kept_leads : RecordLaws → SentGrows → (w : World) (devices : List DeviceValue)
    (links : List Link) (d : ℕ) (old new : DeviceValue) → IsShown w devices links
    → slice_get devices d ≡ Some old → DeviceRuns old new → is_some new.node ≡ true
    → KeepsLinks old new → LeadsOn w false (slice_set devices d new) links
kept_leads laws grows w devices links d old new s is runs running keeps =
    let ran = device_ran laws w devices links d old new s is runs in
    let within : d < length w.journals =
    omega (arith, s.up.same_number, get_within devices d old is) in
    let up : IsUp ran.journal new =
    record {
      runs = running;
      holds = ran.holds running;
      legal = ran.legal;
      numbered = keeps.same_number
          ∙ ((s.up.each d old is).numbered ∙ ap (λ (n : ℕ). Some n) (sym keeps.same_links));
    } in
    let ups = up_set w.journals devices d ran.journal new (get_within devices d old is) s.up up in
    record {
      after = world_of (slice_set w.journals d ran.journal) w.links;
      reached = ran.reached;
      read = up_read (slice_set w.journals d ran.journal) (slice_set devices d new) ups;
      shown = λ same. record {
        up = ups;
        shown = s.shown;
        placed = subst (λ (n : ℕ). ArePlaced n links) (sym (length-set devices d new)) s.placed;
        wired = wired_set w.journals devices links links d ran.journal new within
            (kept_wired grows ran.journal (journal_at w d) d old new links ran.legal ran.extends
            keeps (s.wired d old is)) (λ e other apart there. s.wired e other there);
      };
    }

-- ---- a device that has its links no more

emptied_moves : (k : ℕ) (e : EndValue) → EndMoves k e (with_flight [] e)
emptied_moves k e = record {
  device = refl;
  within = λ within. within;
  own = λ own. record {
    at = refl;
    session = refl;
    heard = refl;
    seen = refl;
    more = [];
    given = sym (append-nil e.given);
  };
}

gone_moves : (k d : ℕ) (e : EndValue) → e.device ≡ d → (k ≡ d → ⊥) → EndMoves k e
    (with_flight [] (detached e))
gone_moves k d e is apart =
    record { device = refl; within = λ within. within; own = λ own. absurd (apart (sym own ∙ is)) }

pub left_moves : (k d : ℕ) (l : Link) → (k ≡ d → ⊥) → LinkMoves k l (left_by d l)
left_moves k d l apart =
    elim (l.near.device == d) as (λ b. (l.near.device == d) ≡ b
    → LinkMoves k l
    (left_from (if b then Some side.Near else if l.far.device == d then Some side.Far else
    None) l)) [
      | true ↦ λ near. record {
        near = gone_moves k d l.near (eqb-true l.near.device d near) apart;
        far = emptied_moves k l.far;
        cut = λ no. cc;
      }
      | false ↦ λ near.
          elim (l.far.device == d) as (λ b. (l.far.device == d) ≡ b
          → LinkMoves k l (left_from (if b then Some side.Far else None) l)) [
            | true ↦ λ far. record {
              near = emptied_moves k l.near;
              far = gone_moves k d l.far (eqb-true l.far.device d far) apart;
              cut = λ no. cc;
            }
            | false ↦ λ far. link_stays k l
          ] refl
    ] refl

pub left_place : (d : ℕ) (l : Link) → place_on d (left_by d l) ≡ None
left_place d l =
    elim (l.near.device == d) as (λ b. (l.near.device == d) ≡ b
    → place_on d
    (left_from (if b then Some side.Near else if l.far.device == d then Some side.Far else
    None) l) ≡ None) [
      | true ↦ λ near.
          ap place_in (own_near d (cut (record l { near = detached l.near }))
          (eqb-true l.near.device d near))
      | false ↦ λ near.
          elim (l.far.device == d) as (λ b. (l.far.device == d) ≡ b
          → place_on d (left_from (if b then Some side.Far else None) l) ≡ None) [
            | true ↦ λ far.
                ap place_in (own_far d (cut (record l { far = detached l.far }))
                (eqb_not l.near.device d near) (eqb-true l.far.device d far))
            | false ↦ λ far.
                ap place_in (own_none d l (eqb_not l.near.device d near)
                (eqb_not l.far.device d far))
          ] refl
    ] refl

record MapFrom (f : Link → Link) (ls : List Link) (i : ℕ) (y : Link) : Type 0 where
  link : Link
  stands : slice_get ls i ≡ Some link
  is : f link ≡ y

map_from : (f : Link → Link) (ls : List Link) (i : ℕ) (y : Link) → slice_get (map f ls) i ≡ Some y
    → MapFrom f ls i y
map_from f [] i y there = cc
map_from f (x ∷ ls) zero y there = record { link = x; stands = refl; is = some_same (f x) y there }
map_from f (x ∷ ls) (suc i) y there =
    let later = map_from f ls i y there in
    record { link = later.link; stands = later.stands; is = later.is }

placed_left : (d count : ℕ) (ls : List Link) → ArePlaced count ls → ArePlaced count
    (map (left_by d) ls)
placed_left d count ls placed =
    all_placed (suc d) count ls (map (left_by d) ls)
    (all_map (suc d) (left_by d) ls (λ l. left_moves (suc d) d l (λ same. omega arith))) placed

pub unlinked_wired : (j : Journal) (d : ℕ) (device : DeviceValue) (ls : List Link)
    → IsUnlinked device → ((i : ℕ) (l : Link) → slice_get ls i ≡ Some l → place_on d l ≡ None)
    → AreWired j d device ls
unlinked_wired j d device ls unlinked none = record {
  each = λ i l e a is own here. let no : ◌≡◌ {A = Option ℕ} (Some a) None =
      sym here ∙ (sym (ap place_in own) ∙ none i l is) in cc;
  once = λ i k l m a is there here also. let no : ◌≡◌ {A = Option ℕ} (Some a) None =
      sym here ∙ none i l is in cc;
  all = λ a below. let no : a < 0 =
      subst (λ (n : ℕ). a < n) unlinked.none below in absurd (omega (arith, no));
}

-- a call in which it crashed
pub crashed_leads : RecordLaws → (w : World) (devices : List DeviceValue) (links : List Link)
    (d : ℕ) (old new : DeviceValue) → IsShown w devices links
    → slice_get devices d ≡ Some old → DeviceRuns old new → is_some new.node ≡ true → IsUnlinked new
    → LeadsOn w false (slice_set devices d new) (map (left_by d) links)
crashed_leads laws w devices links d old new s is runs running unlinked =
    let ran = device_ran laws w devices links d old new s is runs in
    let within : d < length w.journals =
    omega (arith, s.up.same_number, get_within devices d old is) in
    let js : List Journal = slice_set w.journals d ran.journal in
    let up : IsUp ran.journal new =
    record {
      runs = running;
      holds = ran.holds running;
      legal = ran.legal;
      numbered = unlinked.unlinked ∙ ap (λ (n : ℕ). Some n) (sym unlinked.none);
    } in
    let ups = up_set w.journals devices d ran.journal new (get_within devices d old is) s.up up in
    let left = left_reached bundle_meaning d (slice_set w.journals d ran.journal) w.links in
    record {
      after = world_of (slice_set w.journals d ran.journal) (map (left_link d) w.links);
      reached =
          reaches_then bundle_meaning w (world_of (slice_set w.journals d ran.journal) w.links)
          (world_of (slice_set w.journals d ran.journal) (map (left_link d) w.links))
          ran.reached
          left.reached;
      read = up_read (slice_set w.journals d ran.journal) (slice_set devices d new) ups;
      shown = λ same. record {
        up = ups;
        shown = shown_all_left d links w.links s.shown;
        placed = subst (λ (n : ℕ). ArePlaced n (map (left_by d) links))
            (sym (length-set devices d new)) (placed_left d (length devices) links s.placed);
        wired = wired_set w.journals devices links (map (left_by d) links) d ran.journal new within
            (unlinked_wired ran.journal d new (map (left_by d) links) unlinked
            (λ i l there. let from = map_from (left_by d) links i l there in
            sym (ap (place_on d) from.is) ∙ left_place d from.link))
            (λ e other apart there.
            all_wired (journal_in w.journals e) e (length devices) other links
            (map (left_by d) links) (all_map e (left_by d) links (λ l. left_moves e d l apart))
            s.placed
            (s.wired e other there));
      };
    }

-- ---- what a call of a device answers

pub call_failed : RecordLaws → (w : World) (devices : List DeviceValue) (links : List Link) (d : ℕ)
    (old new : DeviceValue) (e : StepFault) → IsShown w devices links
    → slice_get devices d ≡ Some old → DeviceRuns old new → (e ≡ fault.Refused → new ≡ old)
    → LeadsOn w (is_fatal {A = Unit {0}} (Err e)) (slice_set devices d new) links
call_failed laws w devices links d old new fault.Refused s is runs same =
    subst (λ (ds : List DeviceValue). LeadsOn w false ds links)
    (sym (set_back devices d old new is (same refl))) (stays w devices links s)
call_failed laws w devices links d old new fault.Full s is runs same =
    failed_leads laws w devices links links d old new s is runs
call_failed laws w devices links d old new fault.Memory s is runs same =
    failed_leads laws w devices links links d old new s is runs

pub call_came : RecordLaws → SentGrows → (w : World) (devices : List DeviceValue)
    (links : List Link) (d : ℕ) (old new : DeviceValue) (came : Ran) → IsShown w devices links
    → slice_get devices d ≡ Some old → DeviceRuns old new → is_some new.node ≡ true
    → LinksBy (Ok came) old new
    → LeadsOn w false (slice_set devices d new) (after_ran came d links)
call_came laws grows w devices links d old new ran.Done s is runs running keeps =
    kept_leads laws grows w devices links d old new s is runs running keeps
call_came laws grows w devices links d old new ran.Crashed s is runs running unlinked =
    crashed_leads laws w devices links d old new s is runs running unlinked

-- nothing was done
pub same_leads : (w : World) (fatal : Bool) (devices : List DeviceValue) (links : List Link)
    → IsShown w devices links → LeadsOn w fatal devices links
same_leads w fatal devices links s = read_at_all w fatal devices links (stays w devices links s)

-- nothing was done to devices, and all fails
pub read_only : (w : World) (devices : List DeviceValue) (links links' : List Link)
    → IsShown w devices links → LeadsOn w true devices links'
read_only w devices links links' s =
    record {
      after = w;
      reached = reaches_none bundle_meaning w;
      read = up_read w.journals devices s.up;
      shown = λ same. cc;
    }
