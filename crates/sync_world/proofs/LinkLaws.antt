-- Two devices are linked, and a session begins at an end.
use Rattle.std.proofs.Common.{◌≡◌, ◌⊎◌, ℕ, zero, suc, ◌<◌, ◌==◌, Bool, true, false, if◌then◌else◌}
use Rattle.std.proofs.Common.{List, [], ◌∷◌, ◌++◌, length, drop, refl, sym, ◌∙◌, ap, subst, inl}
use Rattle.std.proofs.Common.{inr, arith, append-nil, Option, Some, None, is_some}
use Rattle.std.proofs.lemmas.Bool.{cases_eq}
use Rattle.std.specs.Prelude.{slice_get, slice_set}
use Rattle.std.proofs.lemmas.List.{length-set}
use Rattle.sync_course.proofs.LiftLaws.{get_other, get_set, get_within}
use Rattle.client_basic.specs.Bodies.{bundle_meaning}
use Rattle.sync_ids.specs.declared.records.Record.{Record}
use Rattle.sync_rules.specs.Facts.{ExtendsJournal, Journal}
use Rattle.sync_rules.specs.Legal.{Legal}
use Rattle.sync_rules.specs.Output.{sent}
use Rattle.world_laws.specs.Worlds.{HasSession, WorldLink as RecordLink, World}
use Rattle.world_laws.specs.Worlds.{contact_for, journal_at, journal_in, unused_end}
use Rattle.world_devices.specs.Cited.{SentGrows}
use Rattle.world_devices.specs.Devices.{DeviceValue}
use Rattle.world_devices.specs.Linking.{AddsLink}
use Rattle.world_devices.specs.Running.{DeviceRuns}
use Rattle.world_links.specs.Ends.{EndValue, input_of, new_end as byte_end}
use Rattle.world_links.specs.Links.{side_end, other, side_of}
use Rattle.world_links.specs.declared.link.Link.{Link}
use Rattle.world_links.specs.declared.moves.Side.{Side}
use Rattle.world_links.specs.declared.moves.Side.TheVariants as side
use Rattle.sync_world.specs.Cited.{RecordLaws}
use Rattle.sync_world.specs.Shown.{RunsLinkOfDevice, LinksRun, ReachesWorld, ShowsEnd, ShowsLink}
use Rattle.sync_world.specs.Shown.{world_of}
use Rattle.sync_world.specs.Staging.{HasFreshEnd, attached_at, attached_from, begun_end, new_link}
use Rattle.sync_world.specs.Staging.{with_end}
use Rattle.sync_world.specs.Standing.{ArePlaced, AreWired, IsLinkPlaced, IsShown, IsUp, IsEndWired}
use Rattle.sync_world.specs.Standing.{LeadsOn, own_end, place_in, place_on}
use Rattle.sync_world.proofs.GoLaws.{device_ran, up_read, up_set, wired_set}
use Rattle.sync_world.proofs.LookLaws.{shown_attached}
use Rattle.sync_world.proofs.PlanLaws.{far_own, near_own}
use Rattle.sync_world.proofs.ReachLaws.{linked_reached, reaches_one, reaches_then}
use Rattle.sync_world.proofs.RunLaws.{device_runs, end_begins, journal_set_own, link_far, link_near}
use Rattle.sync_world.proofs.RunLaws.{links_set}
use Rattle.sync_world.proofs.ShownMoves.{shown_at, shown_linked, shown_set}
use Rattle.sync_world.proofs.WireLaws.{EndMoves, LinkMoves, all_placed, all_set, all_wired}
use Rattle.sync_world.proofs.WireLaws.{end_stays, get_cases}
use Rattle.sync_world.proofs.WireLaws.{own_far, own_near, placed_end, seen_grows, session_from}
use Rattle.sync_world.proofs.WireLaws.{some_same}

-- ---- one link more

pub get_front : {A : Type 0} (xs : List A) (x : A) (i : ℕ) (y : A) → slice_get xs i ≡ Some y
    → slice_get (xs ++ x ∷ []) i ≡ Some y
get_front [] x i y is = cc
get_front (z ∷ xs) x zero y is = is
get_front (z ∷ xs) x (suc i) y is = get_front xs x i y is

pub get_last : {A : Type 0} (xs : List A) (x : A) → slice_get (xs ++ x ∷ []) (length xs) ≡ Some x
get_last [] x = refl
get_last (z ∷ xs) x = get_last xs x

pub get_push : {A : Type 0} (xs : List A) (x : A) (i : ℕ) (y : A)
    → slice_get (xs ++ x ∷ []) i ≡ Some y → (slice_get xs i ≡ Some y) ⊎ (x ≡ y)
get_push [] x zero y is = inr (some_same x y is)
get_push [] x (suc i) y is = cc
get_push (z ∷ xs) x zero y is = inl is
get_push (z ∷ xs) x (suc i) y is = get_push xs x i y is

new_place : (k d e : ℕ) → place_on k (new_link d e) ≡ None
new_place k d e =
    elim (d == k) as (λ b.
    place_in (if b then Some (byte_end d) else if e == k then Some (byte_end e) else None)
    ≡ None) [
      | true ↦ refl
      | false ↦ elim (e == k) as (λ b. place_in (if b then Some (byte_end e) else None)
          ≡ None) [ true ↦ refl | false ↦ refl ]
    ]

new_wired : (j : Journal) (k d e : ℕ) (device : DeviceValue) (ls : List Link)
    → AreWired j k device ls → AreWired j k device (ls ++ new_link d e ∷ [])
new_wired j k d e device ls w = record {
  each = λ i l x a there own here.
      elim (get_push ls (new_link d e) i l there) [
        | inl was ↦ w.each i l x a was own here
        | inr new ↦
            let no : ◌≡◌ {A = Option ℕ} (Some a) None =
            sym here ∙ (sym (ap place_in own)
            ∙ (ap (place_on k) (sym new) ∙ new_place k d e)) in
            cc
      ];
  once = λ i n l m a there there' here here'.
      elim (get_push ls (new_link d e) i l there) [
        | inl was ↦
            elim (get_push ls (new_link d e) n m there') [
              | inl was' ↦ w.once i n l m a was was' here here'
              | inr new ↦ let no : ◌≡◌ {A = Option ℕ} (Some a) None =
                  sym here' ∙ (ap (place_on k) (sym new) ∙ new_place k d e) in cc
            ]
        | inr new ↦ let no : ◌≡◌ {A = Option ℕ} (Some a) None =
            sym here ∙ (ap (place_on k) (sym new) ∙ new_place k d e) in cc
      ];
  all = λ a below.
      let seat = w.all a below in
      record {
        number = seat.number;
        link = seat.link;
        stands = get_front ls (new_link d e) seat.number seat.link seat.stands;
        here = seat.here;
      };
}

new_placed : (d e count : ℕ) (ls : List Link) → d < count → e < count → (d ≡ e → ⊥)
    → ArePlaced count ls → ArePlaced count (ls ++ new_link d e ∷ [])
new_placed d e count ls near far two placed i l there =
    elim (get_push ls (new_link d e) i l there) [
      | inl was ↦ placed i l was
      | inr new ↦
          let one : IsLinkPlaced count (new_link d e) =
          record {
            near = near;
            far = far;
            apart = two;
            near_heard = omega arith;
            far_heard = omega arith;
          } in
          subst (IsLinkPlaced count) new one
    ]

pub linked_leads : (w : World) (devices : List DeviceValue) (links : List Link) (d e : ℕ)
    → IsShown w devices links → (d ≡ e → ⊥) → d < length devices → e < length devices
    → LeadsOn w false devices (links ++ new_link d e ∷ [])
linked_leads w devices links d e s two near far = record {
  after = world_of w.journals (w.links ++ record { near = unused_end d; far = unused_end e } ∷ []);
  reached = linked_reached bundle_meaning d e w.journals w.links two;
  read = up_read w.journals devices s.up;
  shown = λ same. record {
    up = s.up;
    shown = shown_linked d e links w.links s.shown;
    placed = new_placed d e (length devices) links near far two s.placed;
    wired =
        λ k device is. new_wired (journal_in w.journals k) k d e device links (s.wired k device is);
  };
}

-- ---- a session begins

-- the end at which it begins
record Begun (d a session : ℕ) (l l' : Link) : Type 0 where
  end : EndValue
  own : own_end d l ≡ Some end
  own' : own_end d l' ≡ Some (begun_end a session end)
  at : end.at ≡ None
  heard : end.heard ≡ 0
  moves : (k : ℕ) → (k ≡ d → ⊥) → LinkMoves k l l'

pub begun_moves : (k d a session : ℕ) (e : EndValue) → e.device ≡ d → (k ≡ d → ⊥) → EndMoves k e
    (begun_end a session e)
begun_moves k d a session e is apart =
    record { device = refl; within = λ was. was; own = λ own. absurd (apart (sym own ∙ is)) }

begun_at : (d a session : ℕ) (l : Link) (from : Side) → side_of d l ≡ Some from
    → (side_end from l).at ≡ None → (side_end from l).heard ≡ 0
    → Begun d a session l (with_end from (begun_end a session (side_end from l)) l)
begun_at d a session l side.Near own at heard =
    let device = near_own d l own in
    record {
      end = l.near;
      own = own_near d l device;
      own' = own_near d (record l { near = begun_end a session l.near }) device;
      at = at;
      heard = heard;
      moves = λ k apart. record {
        near = begun_moves k d a session l.near device apart;
        far = end_stays k l.far;
        cut = λ uncut. uncut;
      };
    }
begun_at d a session l side.Far own at heard =
    let device = far_own d l own in
    record {
      end = l.far;
      own = own_far d l device.1 device.0;
      own' = own_far d (record l { far = begun_end a session l.far }) device.1 device.0;
      at = at;
      heard = heard;
      moves = λ k apart. record {
        near = end_stays k l.near;
        far = begun_moves k d a session l.far device.0 apart;
        cut = λ uncut. uncut;
      };
    }

record Shows (d : ℕ) (j : Journal) (x : RecordLink) (l' : Link) : Type 0 where
  link : RecordLink
  runs : RunsLinkOfDevice d j x link
  shown : ShowsLink l' link

begun_shown : (d a session contact far : ℕ) (j : Journal) (l : Link) (x : RecordLink) (from : Side)
    → ShowsLink l x → side_of d l ≡ Some from → (side_end from l).session ≡ None
    → (side_end (other from) l).device ≡ far → HasSession j session (contact_for d far)
    → Shows d j x (with_end from (begun_end a session (side_end from l)) l)
begun_shown d a session contact far j l x side.Near s own fresh is known =
    let at : HasSession j session (contact_for d x.far.device) =
    subst (λ (k : ℕ). HasSession j session (contact_for d k)) (sym (s.far.device ∙ is)) known in
    let new = shown_attached (Some a) session l.near x.near s.near in
    let runs = end_begins d j x.far.device session [] x.near (s.near.device
    ∙ near_own d l own) (s.near.session ∙ fresh) at (λ r inside. absurd inside) in
    record {
      link = record {
        near = record x.near { session = Some session; flight = x.near.flight ++ [] };
        far = x.far;
      };
      runs =
          link_near d j x (record x.near { session = Some session; flight = x.near.flight ++ [] })
          runs;
      shown = record {
        near =
            subst (λ (rs : List Record).
            ShowsEnd (begun_end a session l.near)
            (record x.near { session = Some session; flight = rs }))
            (sym (append-nil x.near.flight)) new;
        far = s.far;
      };
    }
begun_shown d a session contact far j l x side.Far s own fresh is known =
    let at : HasSession j session (contact_for d x.near.device) =
    subst (λ (k : ℕ). HasSession j session (contact_for d k)) (sym (s.near.device ∙ is))
    known in
    let new = shown_attached (Some a) session l.far x.far s.far in
    let runs = end_begins d j x.near.device session [] x.far (s.far.device
    ∙ (far_own d l own).0) (s.far.session ∙ fresh) at (λ r inside. absurd inside) in
    record {
      link = record {
        near = x.near;
        far = record x.far { session = Some session; flight = x.far.flight ++ [] };
      };
      runs = link_far d j x (record x.far { session = Some session; flight = x.far.flight ++ [] })
          runs;
      shown = record {
        near = s.near;
        far =
            subst (λ (rs : List Record).
            ShowsEnd (begun_end a session l.far)
            (record x.far { session = Some session; flight = rs }))
            (sym (append-nil x.far.flight)) new;
      };
    }

-- links run on by themselves, while no batch is added
pub ran_links : (d : ℕ) (js : List Journal) (xs ys : List RecordLink) → LinksRun d
    (journal_in js d) xs ys → ReachesWorld bundle_meaning (world_of js xs) (world_of js ys)
ran_links d js xs ys runs =
    reaches_one bundle_meaning (world_of js xs) (world_of js ys)
    (inl (
      d,
      device_runs bundle_meaning d (world_of js xs) (world_of js ys) [] (λ session.
          []) (sym (append-nil (journal_in js d))) tt refl (λ e apart. refl) tt (λ session r inside.
          absurd inside) runs,
    ))

drop_none : (xs : List ℕ) (n : ℕ) → n ≡ 0 → drop n xs ≡ xs
drop_none xs n is = ap (λ (k : ℕ). drop k xs) is

new_end_wired : (j : Journal) (old new : DeviceValue) (cut : Bool) (session contact : ℕ)
    (e : EndValue) → AddsLink contact session old new → e.heard ≡ 0
    → IsEndWired j new cut (begun_end old.links session e) old.links
new_end_wired j old new cut session contact e adds heard = record {
  below = omega (arith, adds.one_more);
  session = sym adds.numbered ∙ sym (session_from old.node new.node old.links adds.same_first);
  brought =
      ap (λ (g : List ℕ). g ++ drop e.heard e.given) adds.quiet ∙ drop_none e.given e.heard heard;
  seen = λ uncut number on. record {
    before = [];
    behind = sent j number;
    sends = refl;
    counted = refl;
  };
}

old_end_wired : SentGrows → (j' j : Journal) (old new : DeviceValue) (cut : Bool)
    (session contact : ℕ) (e : EndValue) (a : ℕ) → Legal bundle_meaning j' → ExtendsJournal j' j
    → AddsLink contact session old new
    → IsEndWired j old cut e a → IsEndWired j' new cut e a
old_end_wired grows j' j old new cut session contact e a legal extends adds w = record {
  below = let was : a < old.links = w.below in omega (arith, adds.one_more, was);
  session = w.session ∙ sym (session_from old.node new.node a adds.same_first);
  brought = ap (λ (g : List ℕ). g ++ input_of e) (adds.brings a) ∙ w.brought;
  seen =
      λ uncut number on. seen_grows grows j' j number e.seen legal extends (w.seen uncut number on);
}

below_not : (d : ℕ) (old : DeviceValue) (a : ℕ) (ls : List Link) (n : ℕ) (m : Link) (j : Journal)
    → AreWired j d old ls → slice_get ls n ≡ Some m → place_on d m ≡ Some a → old.links ≡ a → ⊥
below_not d old a ls n m j w there here same =
    let placed = placed_end d m a here in
    let below : a < old.links = (w.each n m placed.end a there placed.own placed.here).below in
    omega (arith, below, same)

attached_is : (d a session : ℕ) (l : Link) (from : Side) → side_of d l ≡ Some from
    → attached_at d a session l ≡ with_end from (begun_end a session (side_end from l)) l
attached_is d a session l from own = ap (λ (o : Option Side). attached_from a session o l) own

journal_own : (js : List Journal) (d : ℕ) (j : Journal) → d < length js → journal_in
    (slice_set js d j) d ≡ j
journal_own js d j within = journal_set_own js d j within

begun_wired : SentGrows → (j' j : Journal) (d session contact : ℕ) (old new : DeviceValue)
    (ls : List Link) (i : ℕ) (l l' : Link) → Legal bundle_meaning j' → ExtendsJournal j' j
    → AddsLink contact session old new → slice_get ls i ≡ Some l → Begun d old.links session l l'
    → AreWired j d old ls → AreWired j' d new (slice_set ls i l')
begun_wired grows j' j d session contact old new ls i l l' legal extends adds is b w =
    let mine : place_on d l' ≡ Some old.links = ap place_in b.own' in
    let none : place_on d l ≡ None = ap place_in b.own ∙ b.at in
    record {
      each = λ n m e a there own here.
          elim (get_cases ls i n l' m there) [
            | inl (same, link) ↦
                let own'' : own_end d l' ≡ Some e =
                subst (λ (z : Link). own_end d z ≡ Some e) (sym link) own in
                let end : begun_end old.links session b.end ≡ e =
                some_same (begun_end old.links session b.end) e (sym b.own' ∙ own'') in
                let number : old.links ≡ a =
                some_same old.links a (ap (λ (z : EndValue). z.at) end ∙ here) in
                let wired : IsEndWired j' new m.is_cut (begun_end old.links session b.end)
                old.links =
                new_end_wired j' old new m.is_cut session contact b.end adds b.heard in
                subst (λ (k : ℕ). IsEndWired j' new m.is_cut e k) number
                (subst (λ (x : EndValue). IsEndWired j' new m.is_cut x old.links) end wired)
            | inr (apart, was) ↦ old_end_wired grows j' j old new m.is_cut session contact e a legal
                extends adds (w.each n m e a was own here)
          ];
      once = λ n k m m' a there there' here here'.
          elim (get_cases ls i n l' m there) [
            | inl (same, link) ↦
                elim (get_cases ls i k l' m' there') [
                  | inl (same', link') ↦ same ∙ sym same'
                  | inr (apart', was') ↦
                      let number : old.links ≡ a =
                      some_same old.links a (sym mine ∙ (ap (place_on d) link ∙ here)) in
                      absurd (below_not d old a ls k m' j w was' here' number)
                ]
            | inr (apart, was) ↦
                elim (get_cases ls i k l' m' there') [
                  | inl (same', link') ↦
                      let number : old.links ≡ a =
                      some_same old.links a (sym mine ∙ (ap (place_on d) link' ∙ here')) in
                      absurd (below_not d old a ls n m j w was here number)
                  | inr (apart', was') ↦ w.once n k m m' a was was' here here'
                ]
          ];
      all = λ a below.
          elim (cases_eq a old.links) [
            | inl same ↦ record {
              number = i;
              link = l';
              stands = get_set ls i l' (get_within ls i l is);
              here = mine ∙ ap (λ (k : ℕ). Some k) (sym same);
            }
            | inr apart ↦
                let less : a < old.links = omega (arith, below, adds.one_more, apart) in
                let seat = w.all a less in
                elim (cases_eq seat.number i) [
                  | inl same ↦
                      let there : slice_get ls i ≡ Some seat.link =
                      subst (λ (n : ℕ). slice_get ls n ≡ Some seat.link) same seat.stands in
                      let link : l ≡ seat.link = some_same l seat.link (sym is ∙ there) in
                      let no : ◌≡◌ {A = Option ℕ} (Some a) None = sym seat.here
                      ∙ (ap (place_on d) (sym link) ∙ none) in
                      cc
                  | inr other ↦ record {
                    number = seat.number;
                    link = seat.link;
                    stands = get_other ls i seat.number l' other ∙ seat.stands;
                    here = seat.here;
                  }
                ]
          ];
    }

pub attached_leads : RecordLaws → SentGrows → (w : World) (devices : List DeviceValue)
    (links : List Link) (d far i session contact : ℕ) (old new : DeviceValue)
    → IsShown w devices links
    → slice_get devices d ≡ Some old → DeviceRuns old new → is_some new.node ≡ true
    → AddsLink contact session old new → contact ≡ contact_for d far
    → (fresh : HasFreshEnd d far i links)
    → LeadsOn w false (slice_set devices d new)
    (slice_set links i (attached_at d old.links session fresh.link))
attached_leads laws grows w devices links d far i session contact old new s is runs running adds
    same fresh =
    let ran = device_ran laws w devices links d old new s is runs in
    let within : d < length w.journals =
    omega (arith, s.up.same_number, get_within devices d old is) in
    let up : IsUp ran.journal new =
    record {
      runs = running;
      holds = ran.holds running;
      legal = ran.legal;
      numbered = adds.number ∙ ap (λ (n : ℕ). Some n) (sym adds.one_more);
    } in
    let ups = up_set w.journals devices d ran.journal new (get_within devices d old is) s.up up in
    let at = shown_at links w.links i fresh.link fresh.stands s.shown in
    let known : HasSession ran.journal session (contact_for d far) =
    subst (λ (k : ℕ). HasSession ran.journal session k) same
    (adds.begun ran.journal (ran.holds running)) in
    let shows = begun_shown d old.links session contact far ran.journal fresh.link at.link
    fresh.from at.shown fresh.own fresh.unbegun fresh.far_is known in
    let begun = begun_at d old.links session fresh.link fresh.from fresh.own fresh.unplaced
    fresh.unheard in
    let own : journal_in (slice_set w.journals d ran.journal) d ≡ ran.journal =
    journal_own w.journals d ran.journal within in
    let links_run : LinksRun d (journal_in (slice_set w.journals d ran.journal) d) w.links
    (slice_set w.links i shows.link) =
    subst (λ (k : Journal). LinksRun d k w.links (slice_set w.links i shows.link)) (sym own)
    (links_set d ran.journal i w.links at.link shows.link at.stands shows.runs) in
    let lead : LeadsOn w false (slice_set devices d new)
    (slice_set links i (with_end fresh.from
    (begun_end old.links session (side_end fresh.from fresh.link)) fresh.link)) =
    record {
      after = world_of (slice_set w.journals d ran.journal) (slice_set w.links i shows.link);
      reached =
          reaches_then bundle_meaning w (world_of (slice_set w.journals d ran.journal) w.links)
          (world_of (slice_set w.journals d ran.journal) (slice_set w.links i shows.link))
          ran.reached
          (ran_links d (slice_set w.journals d ran.journal) w.links (slice_set w.links i shows.link)
          links_run);
      read = up_read (slice_set w.journals d ran.journal) (slice_set devices d new) ups;
      shown = λ unharmed. record {
        up = ups;
        shown =
            shown_set links w.links i
            (with_end fresh.from (begun_end old.links session (side_end fresh.from fresh.link))
            fresh.link) shows.link shows.shown s.shown;
        placed =
            subst (λ (n : ℕ).
            ArePlaced n (slice_set links i
            (with_end fresh.from
            (begun_end old.links session (side_end fresh.from fresh.link)) fresh.link)))
            (sym (length-set devices d new))
            (all_placed (suc d) (length devices) links
            (slice_set links i (with_end fresh.from
            (begun_end old.links session (side_end fresh.from fresh.link)) fresh.link))
            (all_set (suc d) i links fresh.link
            (with_end fresh.from (begun_end old.links session (side_end fresh.from fresh.link))
            fresh.link) fresh.stands (begun.moves (suc d) (λ e. omega arith))) s.placed);
        wired =
            wired_set w.journals devices links
            (slice_set links i (with_end fresh.from
            (begun_end old.links session (side_end fresh.from fresh.link)) fresh.link)) d
            ran.journal new within
            (begun_wired grows ran.journal (journal_at w d) d session contact old new links i
            fresh.link (with_end fresh.from
            (begun_end old.links session (side_end fresh.from fresh.link)) fresh.link)
            ran.legal
            ran.extends adds fresh.stands begun (s.wired d old is))
            (λ e x apart there.
            all_wired (journal_in w.journals e) e (length devices) x links
            (slice_set links i (with_end fresh.from
            (begun_end old.links session (side_end fresh.from fresh.link)) fresh.link))
            (all_set e i links fresh.link
            (with_end fresh.from (begun_end old.links session (side_end fresh.from fresh.link))
            fresh.link) fresh.stands (begun.moves e apart)) s.placed (s.wired e x there));
      };
    } in
    subst (λ (z : Link). LeadsOn w false (slice_set devices d new) (slice_set links i z))
    (sym (attached_is d old.links session fresh.link fresh.from fresh.own)) lead
