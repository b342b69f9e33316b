-- What links show, and how their ends are wired, after a look at what a device sent in its turn.
use Rattle.std.proofs.Common.{◌≡◌, ℕ, zero, suc, ◌+◌, ◌<◌, ◌≤◌, ◌==◌, Bool, true, false, not}
use Rattle.std.proofs.Common.{if◌then◌else◌, List, [], ◌∷◌, ◌++◌, map, length, refl, sym, ◌∙◌, ap}
use Rattle.std.proofs.Common.{subst, subst₂, arith, eqb-true, append-nil, Option, Some, None}
use Rattle.std.specs.Prelude.{slice_get}
use Rattle.std.specs.Option.{option_and_then, option_map}
use Rattle.std.specs.List.{AllByRecursion}
use Rattle.std.proofs.lemmas.Bool.{false≢true}
use Rattle.std.proofs.lemmas.List.{length-map}
use Rattle.client_basic.specs.Bodies.{bundle_meaning}
use Rattle.record_grammar.specs.Spelling.{spelled}
use Rattle.sync_ids.specs.Records.{IsRecord}
use Rattle.sync_rules.specs.Output.{sent}
use Rattle.sync_rules.specs.Facts.{Journal}
use Rattle.sync_node.specs.declared.link.Link.{Link as NodeLink}
use Rattle.sync_node.specs.Node.{NodeValue}
use Rattle.sync_node.specs.Output.{output}
use Rattle.world_laws.specs.Worlds.{End, WorldLink as RecordLink}
use Rattle.world_devices.specs.Brought.{sent_by_host}
use Rattle.world_devices.specs.Devices.{DeviceValue}
use Rattle.world_devices.specs.Linking.{LinksStand, end_at, is_shut}
use Rattle.world_links.specs.Ends.{EndValue, flight_behind}
use Rattle.world_links.specs.Links.{cut}
use Rattle.world_links.specs.declared.link.Link.{Link}
use Rattle.world_links.specs.declared.moves.Side.TheVariants as side
use Rattle.sync_world.specs.Cited.{RecordLaws}
use Rattle.sync_world.specs.Shown.{IsWithinJournal, ShownEndRuns, ShownLinkRuns, ShownLinksRun}
use Rattle.sync_world.specs.Shown.{ShowsEnd, ShowsLink, ShowsLinks, looked}
use Rattle.sync_world.specs.Standing.{ArePlaced, AreWired, IsEndWired, SeenBy, own_end, place_in}
use Rattle.sync_world.specs.Standing.{place_on}
use Rattle.sync_world.specs.Turning.{cut_if, look_at, look_link, look_side, shut_at}
use Rattle.sync_world.proofs.LookLaws.{looked_end, sent_limits, shown_looked_cut}
use Rattle.sync_world.proofs.OutputLaws.{output_is}
use Rattle.sync_world.proofs.RunLaws.{end_same}
use Rattle.sync_world.proofs.ShownRuns.{link_drops_far, link_drops_near, link_runs_far}
use Rattle.sync_world.proofs.ShownRuns.{link_runs_near, link_stays, links_each, sent_on_end}
use Rattle.sync_world.proofs.WireLaws.{AllMove, EndMoves, LinkMoves, LinkWired, all_map, all_placed}
use Rattle.sync_world.proofs.WireLaws.{eqb_not, own_far, own_near, some_same}

-- ---- lists

pub map_get : {A B : Type 0} (f : A → B) (xs : List A) (i : ℕ) (x : A) → slice_get xs i ≡ Some x
    → slice_get (map f xs) i ≡ Some (f x)
map_get f [] i x is = cc
map_get f (y ∷ xs) zero x is = ap (λ z. Some (f z)) (some_same y x is)
map_get f (y ∷ xs) (suc i) x is = map_get f xs i x is

record MappedFrom {A B : Type 0} (f : A → B) (xs : List A) (i : ℕ) (y : B) : Type 0 where
  of : A
  stands : slice_get xs i ≡ Some of
  made : f of ≡ y

map_back : {A B : Type 0} (f : A → B) (xs : List A) (i : ℕ) (y : B)
    → slice_get (map f xs) i ≡ Some y → MappedFrom f xs i y
map_back f [] i y is = cc
map_back f (x ∷ xs) zero y is = record { of = x; stands = refl; made = some_same (f x) y is }
map_back f (x ∷ xs) (suc i) y is = let later =
    map_back f xs i y is in record { of = later.of; stands = later.stands; made = later.made }

-- ---- ends

-- a look at what the session of an end sent: what was not seen yet is in flight too; on a link that
-- is cut nothing is
end_sees : RecordLaws → (d : ℕ) (j : Journal) (other number : ℕ) (is_cut : Bool) (e : EndValue)
    (x : End) → IsWithinJournal bundle_meaning j → e.device ≡ d
    → e.session ≡ Some number → (is_cut ≡ false → SeenBy j number e.seen) → ShowsEnd e x
    → ShownEndRuns d j other (looked is_cut (output j number) e) x
end_sees laws d j other number true e x is own on seen s =
    record {
      after = x;
      shown = shown_looked_cut (output j number) (length (output j number)) e x s;
      runs = end_same d j other x;
    }
end_sees laws d j other number false e x is own on seen s =
    let by = seen refl in
    let parts : output j number ≡ spelled (by.before ++ by.behind) = output_is j number
    ∙ ap spelled by.sends in
    let within : AllByRecursion IsRecord (by.before ++ by.behind) =
    subst (AllByRecursion IsRecord) by.sends (sent_limits laws bundle_meaning j number is) in
    record {
      after = record x { flight = x.flight ++ by.behind };
      shown =
          subst (λ (bytes : List ℕ).
          ShowsEnd (looked false bytes e) (record x { flight = x.flight ++ by.behind }))
          (sym parts)
          (looked_end laws by.before by.behind e x (length (spelled (by.before ++ by.behind)))
          within by.counted s);
      runs = sent_on_end d j other number by.behind by.before e x own on by.sends s;
    }

-- ---- a link of the node

get_some : {A : Type 0} (xs : List A) (i : ℕ) → i < length xs → (x : A) × (slice_get xs i ≡ Some x)
get_some [] i within = absurd (omega arith)
get_some (x ∷ xs) zero within = (x, refl)
get_some (x ∷ xs) (suc i) within = get_some xs i (omega (arith, within))

-- whether the device closed a link that it has, and where it did not, what was sent there
record StandsAt (n : NodeValue) (device : DeviceValue) (j : Journal) (a : ℕ) : Type 0 where
  shut : Bool
  is : shut_at device (Some a) ≡ shut
  sent : shut ≡ false → sent_by_host device.host a ≡ output j (n.first + a)

not_false : (b : Bool) → not b ≡ false → b ≡ true
not_false true e = refl
not_false false e = cc

stands_at : (n : NodeValue) (device : DeviceValue) (j : Journal) (a : ℕ) → device.node ≡ Some n
    → LinksStand n device j → a < device.links → StandsAt n device j a
stands_at n device j a runs stand below =
    let within : a < length n.links = subst (λ (k : ℕ). a < k) stand.counted below in
    let has = get_some n.links a within in
    record {
      shut = is_shut (Some has.0.end);
      is = ap (λ (o : Option NodeValue). is_shut (option_and_then (λ (m : NodeValue).
          option_map (λ (l : NodeLink). l.end) (slice_get m.links a)) o)) runs
          ∙ ap (λ (o : Option NodeLink). is_shut (option_map (λ (l : NodeLink). l.end) o)) has.1;
      sent = λ unshut. stand.sent a has.0 has.1 (not_false _ unshut);
    }

-- the session of an end that is wired
session_number : (n : NodeValue) (device : DeviceValue) (j : Journal) (is_cut : Bool) (e : EndValue)
    (a : ℕ) → device.node ≡ Some n → IsEndWired j device is_cut e a
    → e.session ≡ Some (n.first + a)
session_number n device j is_cut e a runs w =
    w.session ∙ ap (λ (o : Option NodeValue). option_map (λ (m : NodeValue). m.first + a) o) runs

-- ---- what stays of a link that was looked at

record KeepsEnd (e e' : EndValue) : Type 0 where
  device : e'.device ≡ e.device
  at : e'.at ≡ e.at
  session : e'.session ≡ e.session
  heard : e'.heard ≡ e.heard
  given : e'.given ≡ e.given

-- only at the end of the device is more seen than before
record Looks (d : ℕ) (l l' : Link) : Type 0 where
  near : KeepsEnd l.near l'.near
  far : KeepsEnd l.far l'.far
  near_seen : (l.near.device ≡ d → ⊥) → l'.near.seen ≡ l.near.seen
  far_seen : (l.far.device ≡ d → ⊥) → l'.far.seen ≡ l.far.seen
  uncut : l'.is_cut ≡ false → l.is_cut ≡ false

keeps_end : (e : EndValue) (flight : List (List ℕ)) (seen : ℕ) → KeepsEnd e
    (record e { flight = flight; seen = seen })
keeps_end e flight seen =
    record { device = refl; at = refl; session = refl; heard = refl; given = refl }

looks_not : (d : ℕ) (l : Link) → Looks d l l
looks_not d l = record {
  near = keeps_end l.near l.near.flight l.near.seen;
  far = keeps_end l.far l.far.flight l.far.seen;
  near_seen = λ other. refl;
  far_seen = λ other. refl;
  uncut = λ uncut. uncut;
}

near_if : (d : ℕ) (l : Link) (shut : Bool) (flight : List (List ℕ)) (seen : ℕ) → l.near.device ≡ d
    → Looks d l (cut_if shut (record l { near = record l.near { flight = flight; seen = seen } }))
near_if d l true flight seen own = record {
  near = keeps_end l.near [] seen;
  far = keeps_end l.far [] l.far.seen;
  near_seen = λ other. absurd (other own);
  far_seen = λ other. refl;
  uncut = λ uncut. absurd (false≢true (sym uncut));
}
near_if d l false flight seen own = record {
  near = keeps_end l.near flight seen;
  far = keeps_end l.far l.far.flight l.far.seen;
  near_seen = λ other. absurd (other own);
  far_seen = λ other. refl;
  uncut = λ uncut. uncut;
}

far_if : (d : ℕ) (l : Link) (shut : Bool) (flight : List (List ℕ)) (seen : ℕ) → l.far.device ≡ d
    → Looks d l (cut_if shut (record l { far = record l.far { flight = flight; seen = seen } }))
far_if d l true flight seen own = record {
  near = keeps_end l.near [] l.near.seen;
  far = keeps_end l.far [] seen;
  near_seen = λ other. refl;
  far_seen = λ other. absurd (other own);
  uncut = λ uncut. absurd (false≢true (sym uncut));
}
far_if d l false flight seen own = record {
  near = keeps_end l.near l.near.flight l.near.seen;
  far = keeps_end l.far flight seen;
  near_seen = λ other. refl;
  far_seen = λ other. absurd (other own);
  uncut = λ uncut. uncut;
}

near_keeps : (d : ℕ) (device : DeviceValue) (l : Link) (at : Option ℕ) → l.near.device ≡ d
    → Looks d l (cut_if (shut_at device at) (record l { near = look_at device l.is_cut at l.near }))
near_keeps d device l None own = looks_not d l
near_keeps d device l (Some a) own =
    near_if d l (is_shut (end_at device a))
    (flight_behind l.is_cut (sent_by_host device.host a) l.near)
    (length (sent_by_host device.host a)) own

far_keeps : (d : ℕ) (device : DeviceValue) (l : Link) (at : Option ℕ) → l.far.device ≡ d
    → Looks d l (cut_if (shut_at device at) (record l { far = look_at device l.is_cut at l.far }))
far_keeps d device l None own = looks_not d l
far_keeps d device l (Some a) own =
    far_if d l (is_shut (end_at device a))
    (flight_behind l.is_cut (sent_by_host device.host a) l.far)
    (length (sent_by_host device.host a)) own

side_keeps : (d : ℕ) (device : DeviceValue) (l : Link) (near far : Bool)
    → (l.near.device == d) ≡ near → (l.far.device == d) ≡ far
    → Looks d l (look_side device l
    (if near then Some side.Near else if far then Some side.Far else None))
side_keeps d device l true far is_near is_far =
    near_keeps d device l l.near.at (eqb-true l.near.device d is_near)
side_keeps d device l false true is_near is_far =
    far_keeps d device l l.far.at (eqb-true l.far.device d is_far)
side_keeps d device l false false is_near is_far = looks_not d l

link_keeps : (d : ℕ) (device : DeviceValue) (l : Link) → Looks d l (look_link d device l)
link_keeps d device l = side_keeps d device l (l.near.device == d) (l.far.device == d) refl refl

-- the number that it has at a device
place_by : (near far : Bool) (e f : EndValue)
    → place_in (if near then Some e else if far then Some f else None)
    ≡ (if near then e.at else if far then f.at else None)
place_by true far e f = refl
place_by false true e f = refl
place_by false false e f = refl

place_kept : (k d : ℕ) (l l' : Link) → Looks d l l' → place_on k l' ≡ place_on k l
place_kept k d l l' looks =
    place_by (l'.near.device == k) (l'.far.device == k) l'.near l'.far
    ∙ ((λ i. if looks.near.device i == k then looks.near.at i else if looks.far.device i == k then
    looks.far.at i else None)
    ∙ sym (place_by (l.near.device == k) (l.far.device == k) l.near l.far))

-- another device does not see that
end_moves : (k d : ℕ) (e e' : EndValue) → (k ≡ d → ⊥) → KeepsEnd e e'
    → ((e.device ≡ d → ⊥) → e'.seen ≡ e.seen) → EndMoves k e e'
end_moves k d e e' apart keeps seen = record {
  device = keeps.device;
  within = λ within. subst₂ (λ (h : ℕ) (g : List ℕ). h ≤ length g) (sym keeps.heard)
      (sym keeps.given) within;
  own = λ own. record {
    at = keeps.at;
    session = keeps.session;
    heard = keeps.heard;
    seen = seen (λ same. apart (sym own ∙ same));
    more = [];
    given = keeps.given ∙ sym (append-nil e.given);
  };
}

link_moves : (k d : ℕ) (l l' : Link) → (k ≡ d → ⊥) → Looks d l l' → LinkMoves k l l'
link_moves k d l l' apart looks = record {
  near = end_moves k d l.near l'.near apart looks.near looks.near_seen;
  far = end_moves k d l.far l'.far apart looks.far looks.far_seen;
  cut = looks.uncut;
}

pub looks_others : (k d : ℕ) (device : DeviceValue) (ls : List Link) → (k ≡ d → ⊥) → AllMove k ls
    (map (look_link d device) ls)
looks_others k d device ls apart =
    all_map k (look_link d device) ls (λ l.
    link_moves k d l (look_link d device l) apart (link_keeps d device l))

pub looks_placed : (d count : ℕ) (device : DeviceValue) (ls : List Link) → ArePlaced count ls
    → ArePlaced count (map (look_link d device) ls)
looks_placed d count device ls placed =
    all_placed (suc d) count ls (map (look_link d device) ls)
    (looks_others (suc d) d device ls (λ same. omega (arith, same))) placed

-- ---- what a link shows

module _ (laws : RecordLaws) (d : ℕ) (j : Journal) (n : NodeValue) (device : DeviceValue)
    (runs : device.node ≡ Some n) (stand : LinksStand n device j) where
  limits : IsWithinJournal bundle_meaning j
  limits = record { legal = stand.legal; within = stand.within }

  sees : (other a : ℕ) (is_cut : Bool) (e : EndValue) (x : End) → e.device ≡ d
      → IsEndWired j device is_cut e a → sent_by_host device.host a ≡ output j (n.first + a)
      → ShowsEnd e x
      → ShownEndRuns d j other (looked is_cut (sent_by_host device.host a) e) x
  sees other a is_cut e x own w sent s =
      let on : e.session ≡ Some (n.first + a) = session_number n device j is_cut e a runs w in
      subst (λ (bytes : List ℕ). ShownEndRuns d j other (looked is_cut bytes e) x) (sym sent)
      (end_sees laws d j other (n.first + a) is_cut e x limits own on (λ uncut.
      w.seen uncut (n.first + a) on) s)

  near_by : (a : ℕ) (l : Link) (x : RecordLink) (shut : Bool) → l.near.device ≡ d
      → IsEndWired j device l.is_cut l.near a
      → (shut ≡ false → sent_by_host device.host a ≡ output j (n.first + a)) → ShowsLink l x
      → ShownLinkRuns d j (cut_if shut
      (record l { near = looked l.is_cut (sent_by_host device.host a) l.near })) x
  near_by a l x true own w sent s =
      link_drops_near d j (flight_behind l.is_cut (sent_by_host device.host a) l.near)
      (length (sent_by_host device.host a)) l x s
  near_by a l x false own w sent s =
      link_runs_near d j l (looked l.is_cut (sent_by_host device.host a) l.near) x s
      (sees l.far.device a l.is_cut l.near x.near own w (sent refl) s.near)

  far_by : (a : ℕ) (l : Link) (x : RecordLink) (shut : Bool) → l.far.device ≡ d
      → IsEndWired j device l.is_cut l.far a
      → (shut ≡ false → sent_by_host device.host a ≡ output j (n.first + a)) → ShowsLink l x
      → ShownLinkRuns d j (cut_if shut
      (record l { far = looked l.is_cut (sent_by_host device.host a) l.far })) x
  far_by a l x true own w sent s =
      link_drops_far d j (flight_behind l.is_cut (sent_by_host device.host a) l.far)
      (length (sent_by_host device.host a)) l x s
  far_by a l x false own w sent s =
      link_runs_far d j l (looked l.is_cut (sent_by_host device.host a) l.far) x s
      (sees l.near.device a l.is_cut l.far x.far own w (sent refl) s.far)

  near_shows : (at : Option ℕ) (l : Link) (x : RecordLink) → l.near.device ≡ d
      → ((a : ℕ) → at ≡ Some a → IsEndWired j device l.is_cut l.near a) → ShowsLink l x
      → ShownLinkRuns d j (cut_if (shut_at device at)
      (record l { near = look_at device l.is_cut at l.near })) x
  near_shows None l x own wired s = link_stays d j l x s
  near_shows (Some a) l x own wired s =
      let w = wired a refl in
      let stands = stands_at n device j a runs stand w.below in
      subst (λ (b : Bool).
      ShownLinkRuns d j
      (cut_if b (record l { near = looked l.is_cut (sent_by_host device.host a) l.near })) x)
      (sym stands.is)
      (near_by a l x stands.shut own w stands.sent s)

  far_shows : (at : Option ℕ) (l : Link) (x : RecordLink) → l.far.device ≡ d
      → ((a : ℕ) → at ≡ Some a → IsEndWired j device l.is_cut l.far a) → ShowsLink l x
      → ShownLinkRuns d j (cut_if (shut_at device at)
      (record l { far = look_at device l.is_cut at l.far })) x
  far_shows None l x own wired s = link_stays d j l x s
  far_shows (Some a) l x own wired s =
      let w = wired a refl in
      let stands = stands_at n device j a runs stand w.below in
      subst (λ (b : Bool).
      ShownLinkRuns d j
      (cut_if b (record l { far = looked l.is_cut (sent_by_host device.host a) l.far })) x)
      (sym stands.is)
      (far_by a l x stands.shut own w stands.sent s)

  -- by where the device stands
  side_shows : (near far : Bool) (l : Link) (x : RecordLink) → (l.near.device == d) ≡ near
      → (l.far.device == d) ≡ far → LinkWired j d device l → ShowsLink l x
      → ShownLinkRuns d j (look_side device l
      (if near then Some side.Near else if far then Some side.Far else None)) x
  side_shows true far l x is_near is_far wired s =
      let own : l.near.device ≡ d = eqb-true l.near.device d is_near in
      near_shows l.near.at l x own (λ a here. wired l.near a (own_near d l own) here) s
  side_shows false true l x is_near is_far wired s =
      let own : l.far.device ≡ d = eqb-true l.far.device d is_far in
      far_shows l.far.at l x own (λ a here.
      wired l.far a (own_far d l (eqb_not l.near.device d is_near) own) here) s
  side_shows false false l x is_near is_far wired s = link_stays d j l x s

  link_shows : (l : Link) (x : RecordLink) → LinkWired j d device l → ShowsLink l x
      → ShownLinkRuns d j (look_link d device l) x
  link_shows l x wired s = side_shows (l.near.device == d) (l.far.device == d) l x refl refl wired s

  -- what the links show that were looked at
  pub looks_run : (ls : List Link) (xs : List RecordLink) → AreWired j d device ls
      → ShowsLinks ls xs → ShownLinksRun d j (map (look_link d device) ls) xs
  looks_run ls xs w s =
      links_each d j ls (map (look_link d device) ls) xs (length-map ls (look_link d device))
      (λ i l l' x is there shown.
      let made : look_link d device l ≡ l' =
      some_same (look_link d device l) l' (sym (map_get (look_link d device) ls i l is)
      ∙ there) in
      subst (λ (k : Link). ShownLinkRuns d j k x) made
      (link_shows l x (λ e a own here. w.each i l e a is own here) shown)) s

  -- ---- how its ends are wired

  seen_all : (a number : ℕ) → number ≡ n.first + a
      → sent_by_host device.host a ≡ output j (n.first + a)
      → SeenBy j number (length (sent_by_host device.host a))
  seen_all a number same sent_is = record {
    before = sent j number;
    behind = [];
    sends = sym (append-nil (sent j number));
    counted = ap length (sent_is ∙ (ap (output j) (sym same) ∙ output_is j number));
  }

  seen_wired : (a : ℕ) (is_cut : Bool) (e : EndValue) → IsEndWired j device is_cut e a
      → sent_by_host device.host a ≡ output j (n.first + a)
      → IsEndWired j device is_cut (looked is_cut (sent_by_host device.host a) e) a
  seen_wired a is_cut e w sent_is = record {
    below = w.below;
    session = w.session;
    brought = w.brought;
    seen = λ uncut number on.
        let both : ◌≡◌ {A = Option ℕ} (Some number) (Some (n.first + a)) =
        sym on ∙ session_number n device j is_cut e a runs w in
        seen_all a number (some_same number (n.first + a) both) sent_is;
  }

  shut_wired : (a seen : ℕ) (is_cut : Bool) (e : EndValue) → IsEndWired j device is_cut e a
      → IsEndWired j device true (record e { flight = []; seen = seen }) a
  shut_wired a seen is_cut e w =
      record {
        below = w.below;
        session = w.session;
        brought = w.brought;
        seen = λ uncut. absurd (false≢true (sym uncut));
      }

  near_wired : (a : ℕ) (l : Link) (shut : Bool) → IsEndWired j device l.is_cut l.near a
      → (shut ≡ false → sent_by_host device.host a ≡ output j (n.first + a))
      → IsEndWired j device
      (cut_if shut (record l { near = looked l.is_cut (sent_by_host device.host a) l.near })).is_cut
      (cut_if shut (record l { near = looked l.is_cut (sent_by_host device.host a) l.near })).near a
  near_wired a l true w sent_is =
      shut_wired a (length (sent_by_host device.host a)) l.is_cut l.near w
  near_wired a l false w sent_is = seen_wired a l.is_cut l.near w (sent_is refl)

  far_wired : (a : ℕ) (l : Link) (shut : Bool) → IsEndWired j device l.is_cut l.far a
      → (shut ≡ false → sent_by_host device.host a ≡ output j (n.first + a))
      → IsEndWired j device
      (cut_if shut (record l { far = looked l.is_cut (sent_by_host device.host a) l.far })).is_cut
      (cut_if shut (record l { far = looked l.is_cut (sent_by_host device.host a) l.far })).far a
  far_wired a l true w sent_is = shut_wired a (length (sent_by_host device.host a)) l.is_cut l.far w
  far_wired a l false w sent_is = seen_wired a l.is_cut l.far w (sent_is refl)

  -- the end of the device is this one
  one_wired : (l : Link) (e : EndValue) (a : ℕ) → own_end d l ≡ Some e → e.at ≡ Some a
      → IsEndWired j device l.is_cut e a → LinkWired j d device l
  one_wired l e a own here w e' a' own' here' =
      let same : e ≡ e' = some_same e e' (sym own ∙ own') in
      let place : a ≡ a' = some_same a a' (sym here ∙ (ap (λ (x : EndValue). x.at) same ∙ here')) in
      subst₂ (λ (x : EndValue) (k : ℕ). IsEndWired j device l.is_cut x k) same place w

  near_stays_wired : (a : ℕ) (l : Link) (shut : Bool) → l.near.device ≡ d → l.near.at ≡ Some a
      → IsEndWired j device l.is_cut l.near a
      → (shut ≡ false → sent_by_host device.host a ≡ output j (n.first + a))
      → LinkWired j d device
      (cut_if shut (record l { near = looked l.is_cut (sent_by_host device.host a) l.near }))
  near_stays_wired a l true own here w sent_is =
      let l' : Link =
      cut (record l { near = looked l.is_cut (sent_by_host device.host a) l.near }) in
      one_wired l' l'.near a (own_near d l' own) here (near_wired a l true w sent_is)
  near_stays_wired a l false own here w sent_is =
      let l' : Link = record l { near = looked l.is_cut (sent_by_host device.host a) l.near } in
      one_wired l' l'.near a (own_near d l' own) here (near_wired a l false w sent_is)

  far_stays_wired : (a : ℕ) (l : Link) (shut : Bool) → (l.near.device ≡ d → ⊥) → l.far.device ≡ d
      → l.far.at ≡ Some a → IsEndWired j device l.is_cut l.far a
      → (shut ≡ false → sent_by_host device.host a ≡ output j (n.first + a))
      → LinkWired j d device
      (cut_if shut (record l { far = looked l.is_cut (sent_by_host device.host a) l.far }))
  far_stays_wired a l true other own here w sent_is =
      let l' : Link = cut (record l { far = looked l.is_cut (sent_by_host device.host a) l.far }) in
      one_wired l' l'.far a (own_far d l' other own) here (far_wired a l true w sent_is)
  far_stays_wired a l false other own here w sent_is =
      let l' : Link = record l { far = looked l.is_cut (sent_by_host device.host a) l.far } in
      one_wired l' l'.far a (own_far d l' other own) here (far_wired a l false w sent_is)

  near_looks_wired : (at : Option ℕ) (l : Link) → l.near.at ≡ at → l.near.device ≡ d
      → LinkWired j d device l
      → LinkWired j d device
      (cut_if (shut_at device at) (record l { near = look_at device l.is_cut at l.near }))
  near_looks_wired None l here own wired = wired
  near_looks_wired (Some a) l here own wired =
      let w = wired l.near a (own_near d l own) here in
      let stands = stands_at n device j a runs stand w.below in
      subst (λ (b : Bool).
      LinkWired j d device
      (cut_if b (record l { near = looked l.is_cut (sent_by_host device.host a) l.near })))
      (sym stands.is)
      (near_stays_wired a l stands.shut own here w stands.sent)

  far_looks_wired : (at : Option ℕ) (l : Link) → l.far.at ≡ at → (l.near.device ≡ d → ⊥)
      → l.far.device ≡ d → LinkWired j d device l
      → LinkWired j d device
      (cut_if (shut_at device at) (record l { far = look_at device l.is_cut at l.far }))
  far_looks_wired None l here other own wired = wired
  far_looks_wired (Some a) l here other own wired =
      let w = wired l.far a (own_far d l other own) here in
      let stands = stands_at n device j a runs stand w.below in
      subst (λ (b : Bool).
      LinkWired j d device
      (cut_if b (record l { far = looked l.is_cut (sent_by_host device.host a) l.far })))
      (sym stands.is)
      (far_stays_wired a l stands.shut other own here w stands.sent)

  side_wired : (near far : Bool) (l : Link) → (l.near.device == d) ≡ near
      → (l.far.device == d) ≡ far → LinkWired j d device l
      → LinkWired j d device
      (look_side device l (if near then Some side.Near else if far then Some side.Far else
      None))
  side_wired true far l is_near is_far wired =
      near_looks_wired l.near.at l refl (eqb-true l.near.device d is_near) wired
  side_wired false true l is_near is_far wired =
      far_looks_wired l.far.at l refl (eqb_not l.near.device d is_near)
      (eqb-true l.far.device d is_far) wired
  side_wired false false l is_near is_far wired = wired

  link_wired : (l : Link) → LinkWired j d device l → LinkWired j d device (look_link d device l)
  link_wired l wired = side_wired (l.near.device == d) (l.far.device == d) l refl refl wired

  -- the ends of the device on the links that were looked at
  pub looks_wired : (ls : List Link) → AreWired j d device ls → AreWired j d device
      (map (look_link d device) ls)
  looks_wired ls w = record {
    each = λ i l' e a is own here.
        let from = map_back (look_link d device) ls i l' is in
        let wired : LinkWired j d device l' =
        subst (LinkWired j d device) from.made
        (link_wired from.of (λ f b own here. w.each i from.of f b from.stands own here)) in
        wired e a own here;
    once = λ i k l' m' a is there here also.
        let first = map_back (look_link d device) ls i l' is in
        let second = map_back (look_link d device) ls k m' there in
        w.once i k first.of second.of a first.stands second.stands
        (sym (place_kept d d first.of l'
        (subst (Looks d first.of) first.made (link_keeps d device first.of))) ∙ here)
        (sym (place_kept d d second.of m'
        (subst (Looks d second.of) second.made (link_keeps d device second.of))) ∙ also);
    all = λ a below.
        let seat = w.all a below in
        record {
          number = seat.number;
          link = look_link d device seat.link;
          stands = map_get (look_link d device) ls seat.number seat.link seat.stands;
          here = place_kept d d seat.link (look_link d device seat.link)
              (link_keeps d device seat.link) ∙ seat.here;
        };
  }
