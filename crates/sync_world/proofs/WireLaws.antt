-- What stays of the wiring of ends where links change.
use Rattle.std.proofs.Common.{◌≡◌, ◌⊎◌, ℕ, zero, suc, ◌+◌, ◌<◌, ◌≤◌, ◌==◌, Bool, true, false}
use Rattle.std.proofs.Common.{if◌then◌else◌, List, [], ◌∷◌, ◌++◌, map, length, drop, refl, sym, ◌∙◌}
use Rattle.std.proofs.Common.{ap, subst, inl, inr, arith, append_assoc, append-nil, Option, Some}
use Rattle.std.proofs.Common.{None}
use Rattle.std.proofs.lemmas.Bool.{cases_eq, eq-eqb, eqb-true, ne_eqb, false≢true}
use Rattle.std.specs.Prelude.{slice_get, slice_index_or, slice_set}
use Rattle.std.specs.Option.{option_map}
use Rattle.std.proofs.lemmas.List.{length-set}
use Rattle.std.proofs.lemmas.Option.{slice_get-get_or}
use Rattle.sync_course.proofs.LiftLaws.{get_other, get_set, get_within}
use Rattle.sync_node.specs.Node.{NodeValue}
use Rattle.sync_rules.specs.Facts.{ExtendsJournal, Journal}
use Rattle.sync_rules.specs.Legal.{Legal}
use Rattle.client_basic.specs.Bodies.{bundle_meaning}
use Rattle.sync_ids.specs.declared.records.Record.{Record}
use Rattle.world_devices.specs.Brought.{brought_on}
use Rattle.world_devices.specs.Cited.{SentGrows}
use Rattle.world_devices.specs.Devices.{DeviceValue}
use Rattle.world_devices.specs.Linking.{KeepsLinks, first_of}
use Rattle.world_links.specs.Ends.{EndValue, input_of}
use Rattle.world_links.specs.declared.link.Link.{Link}
use Rattle.sync_world.specs.Standing.{ArePlaced, AreWired, IsLinkPlaced, IsSeated, IsEndWired}
use Rattle.sync_world.specs.Standing.{SeenBy, own_end, place_in, place_on}

-- ---- lists

pub some_same : {A : Type 0} (x y : A) → ◌≡◌ {A = Option A} (Some x) (Some y) → x ≡ y
some_same x y same = cc

pub get_at : {A : Type 0} (xs : List A) (i : ℕ) (x : A) → i < length xs → x ≡ slice_index_or xs i x
    → slice_get xs i ≡ Some x
get_at xs i x within is = slice_get-get_or xs i x within ∙ ap (λ z. Some z) (sym is)

pub set_back : {A : Type 0} (xs : List A) (i : ℕ) (x y : A) → slice_get xs i ≡ Some x → y ≡ x
    → slice_set xs i y ≡ xs
set_back [] i x y is same = refl
set_back (z ∷ xs) zero x y is same = ap (λ t. t ∷ xs) (same ∙ sym (some_same z x is))
set_back (z ∷ xs) (suc i) x y is same = ap (λ t. z ∷ t) (set_back xs i x y is same)

-- what stands in a list in which one place was set: the new one, or what stood there
pub get_cases : {A : Type 0} (xs : List A) (i k : ℕ) (x y : A)
    → slice_get (slice_set xs i x) k ≡ Some y
    → ((k ≡ i) × (x ≡ y)) ⊎ ((k ≡ i → ⊥) × (slice_get xs k ≡ Some y))
get_cases xs i k x y is =
    elim (cases_eq k i) [
      | inl same ↦
          let there : slice_get (slice_set xs i x) i ≡ Some y =
          subst (λ (n : ℕ). slice_get (slice_set xs i x) n ≡ Some y) same is in
          let within : i < length xs =
          omega (arith, length-set xs i x, get_within (slice_set xs i x) i y there) in
          inl (same, some_same x y (sym (get_set xs i x within) ∙ there))
      | inr other ↦ inr (other, sym (get_other xs i k x other) ∙ is)
    ]

-- ---- the end of a device

-- where the end of a device is
pub record OwnIs (d : ℕ) (l : Link) (e : EndValue) : Type 0 where
  pub which : ((l.near ≡ e) × (l.near.device ≡ d))
      ⊎ ((l.far ≡ e) × ((l.far.device ≡ d) × (l.near.device ≡ d → ⊥)))

pub eqb_not : (a b : ℕ) → (a == b) ≡ false → a ≡ b → ⊥
eqb_not a b is same = false≢true (sym is ∙ eq-eqb a b same)

pub own_is : (d : ℕ) (l : Link) (e : EndValue) → own_end d l ≡ Some e → OwnIs d l e
own_is d l e is =
    elim (l.near.device == d) as (λ b. (l.near.device == d) ≡ b
    → (if b then Some l.near else if l.far.device == d then Some l.far else None) ≡ Some e
    → OwnIs d l e) [
      | true ↦ λ near here.
          record { which = inl (some_same l.near e here, eqb-true l.near.device d near) }
      | false ↦ λ near here.
          elim (l.far.device == d) as (λ b. (l.far.device == d) ≡ b
          → (if b then Some l.far else None) ≡ Some e → OwnIs d l e) [
            | true ↦ λ far there.
                record {
                  which = inr (
                    some_same l.far e there,
                    (eqb-true l.far.device d far, eqb_not l.near.device d near),
                  );
                }
            | false ↦ λ far there. cc
          ] refl here
    ] refl is

pub own_near : (d : ℕ) (l : Link) → l.near.device ≡ d → own_end d l ≡ Some l.near
own_near d l same =
    ap (λ b. if b then Some l.near else if l.far.device == d then Some l.far else None)
    (eq-eqb l.near.device d same)

pub own_far : (d : ℕ) (l : Link) → (l.near.device ≡ d → ⊥) → l.far.device ≡ d
    → own_end d l ≡ Some l.far
own_far d l other same =
    ap (λ b. if b then Some l.near else if l.far.device == d then Some l.far else None)
    (ne_eqb l.near.device d other)
    ∙ ap (λ b. if b then Some l.far else None) (eq-eqb l.far.device d same)

pub own_none : (d : ℕ) (l : Link) → (l.near.device ≡ d → ⊥) → (l.far.device ≡ d → ⊥)
    → own_end d l ≡ None
own_none d l near far =
    ap (λ b. if b then Some l.near else if l.far.device == d then Some l.far else None)
    (ne_eqb l.near.device d near)
    ∙ ap (λ b. if b then Some l.far else None) (ne_eqb l.far.device d far)

pub record PlacedEnd (d : ℕ) (l : Link) (a : ℕ) : Type 0 where
  pub end : EndValue
  pub own : own_end d l ≡ Some end
  pub here : end.at ≡ Some a

placed_in : (d : ℕ) (l : Link) (o : Option EndValue) (a : ℕ) → own_end d l ≡ o → place_in o ≡ Some a
    → PlacedEnd d l a
placed_in d l None a own here = cc
placed_in d l (Some e) a own here = record { end = e; own = own; here = here }

pub placed_end : (d : ℕ) (l : Link) (a : ℕ) → place_on d l ≡ Some a → PlacedEnd d l a
placed_end d l a here = placed_in d l (own_end d l) a refl here

-- ---- ends and links that change

-- an end that its device k would not know from before, but that it may have been given more
pub record SameEnd (e e' : EndValue) : Type 0 where
  pub at : e'.at ≡ e.at
  pub session : e'.session ≡ e.session
  pub heard : e'.heard ≡ e.heard
  pub seen : e'.seen ≡ e.seen
  pub more : List ℕ
  pub given : e'.given ≡ e.given ++ more

pub record EndMoves (k : ℕ) (e e' : EndValue) : Type 0 where
  pub device : e'.device ≡ e.device
  pub within : e.heard ≤ length e.given → e'.heard ≤ length e'.given
  pub own : e.device ≡ k → SameEnd e e'

-- a link changes, but not for this device
pub record LinkMoves (k : ℕ) (l l' : Link) : Type 0 where
  pub near : EndMoves k l.near l'.near
  pub far : EndMoves k l.far l'.far
  pub cut : l'.is_cut ≡ false → l.is_cut ≡ false

-- its ends of one link are wired
abbrev pub LinkWired : Journal → ℕ → DeviceValue → Link → Type 0
LinkWired j d device l =
    (e : EndValue) (a : ℕ) → own_end d l ≡ Some e → e.at ≡ Some a → IsEndWired j device l.is_cut e a

drop_more : (n : ℕ) (xs more : List ℕ) → n ≤ length xs → drop n (xs ++ more) ≡ drop n xs ++ more
drop_more zero xs more within = refl
drop_more (suc n) [] more within = absurd (omega arith)
drop_more (suc n) (x ∷ xs) more within = drop_more n xs more (omega (arith, within))

same_wired : (j : Journal) (device : DeviceValue) (cut cut' : Bool) (e e' : EndValue) (a : ℕ)
    → SameEnd e e' → e.heard ≤ length e.given → (cut' ≡ false → cut ≡ false)
    → IsEndWired j device cut e a → IsEndWired j device cut' e' a
same_wired j device cut cut' e e' a same within uncut_was w = record {
  below = w.below;
  session = same.session ∙ w.session;
  brought =
      let input : input_of e' ≡ input_of e ++ same.more =
      ap (λ (n : ℕ). drop n e'.given) same.heard
      ∙ (ap (λ (g : List ℕ). drop e.heard g) same.given
      ∙ drop_more e.heard e.given same.more within) in
      ap (λ (g : List ℕ). brought_on device.host a ++ g) input
      ∙ (sym (append_assoc (brought_on device.host a) (input_of e) same.more)
      ∙ (ap (λ (g : List ℕ). g ++ same.more) w.brought ∙ sym same.given));
  seen = λ uncut number on.
      subst (λ (n : ℕ). SeenBy j number n) (sym same.seen)
      (w.seen (uncut_was uncut) number (sym same.session ∙ on));
}

record Moved (k : ℕ) (l l' : Link) (e' : EndValue) : Type 0 where
  end : EndValue
  own : own_end k l ≡ Some end
  same : SameEnd end e'
  within : (count : ℕ) → IsLinkPlaced count l → end.heard ≤ length end.given

moved_from : (k : ℕ) (l l' : Link) (e' : EndValue) → LinkMoves k l l' → own_end k l' ≡ Some e'
    → Moved k l l' e'
moved_from k l l' e' m is =
    elim (own_is k l' e' is).which [
      | inl near ↦
          let own : l.near.device ≡ k = sym m.near.device ∙ near.1 in
          record {
            end = l.near;
            own = own_near k l own;
            same = subst (λ (x : EndValue). SameEnd l.near x) near.0 (m.near.own own);
            within = λ count placed. placed.near_heard;
          }
      | inr far ↦
          let own : l.far.device ≡ k = sym m.far.device ∙ far.1.0 in
          record {
            end = l.far;
            own = own_far k l (λ (here : l.near.device ≡ k). far.1.1 (m.near.device ∙ here)) own;
            same = subst (λ (x : EndValue). SameEnd l.far x) far.0 (m.far.own own);
            within = λ count placed. placed.far_heard;
          }
    ]

pub moves_wired : (j : Journal) (k count : ℕ) (device : DeviceValue) (l l' : Link)
    → LinkMoves k l l' → IsLinkPlaced count l → LinkWired j k device l → LinkWired j k device l'
moves_wired j k count device l l' m placed w e' a own here =
    let from = moved_from k l l' e' m own in
    same_wired j device l.is_cut l'.is_cut from.end e' a from.same (from.within count placed) m.cut
    (w from.end a from.own (sym from.same.at ∙ here))

place_moved : (k : ℕ) (l l' : Link) (o : Option EndValue) → LinkMoves k l l' → own_end k l' ≡ o
    → place_in o ≡ place_on k l
place_moved k l l' None m own =
    let near : l.near.device ≡ k → ⊥ = λ (here : l.near.device ≡ k).
    let e : ◌≡◌ {A = Option EndValue} (Some l'.near) None =
    sym (own_near k l' (m.near.device ∙ here)) ∙ own in cc in
    let far : l.far.device ≡ k → ⊥ =
    λ (here : l.far.device ≡ k). let e : ◌≡◌ {A = Option EndValue} (Some l'.far) None =
    sym (own_far k l' (λ (n : l'.near.device ≡ k). near (sym m.near.device ∙ n)) (m.far.device
    ∙ here)) ∙ own in cc in
    sym (ap place_in (own_none k l near far))
place_moved k l l' (Some e') m own =
    let from = moved_from k l l' e' m own in
    from.same.at ∙ sym (ap place_in from.own)

pub moves_place : (k : ℕ) (l l' : Link) → LinkMoves k l l' → place_on k l' ≡ place_on k l
moves_place k l l' m = place_moved k l l' (own_end k l') m refl

pub moves_placed : (k count : ℕ) (l l' : Link) → LinkMoves k l l' → IsLinkPlaced count l
    → IsLinkPlaced count l'
moves_placed k count l l' m p = record {
  near = subst (λ (d : ℕ). d < count) (sym m.near.device) p.near;
  far = subst (λ (d : ℕ). d < count) (sym m.far.device) p.far;
  apart = λ same. p.apart (sym m.near.device ∙ (same ∙ m.far.device));
  near_heard = m.near.within p.near_heard;
  far_heard = m.far.within p.far_heard;
}

-- ---- several links

abbrev pub AllMove : ℕ → List Link → List Link → Type 0
AllMove k [] [] = Unit {0}
AllMove k [] (y ∷ ys) = ⊥
AllMove k (x ∷ xs) [] = ⊥
AllMove k (x ∷ xs) (y ∷ ys) = LinkMoves k x y × AllMove k xs ys

pub record MovedAt (k : ℕ) (l : Link) (ls : List Link) (i : ℕ) : Type 0 where
  pub link : Link
  pub stands : slice_get ls i ≡ Some link
  pub moves : LinkMoves k l link

pub record MovedTo (k : ℕ) (l' : Link) (ls : List Link) (i : ℕ) : Type 0 where
  pub link : Link
  pub stands : slice_get ls i ≡ Some link
  pub moves : LinkMoves k link l'

pub forth : (k : ℕ) (xs ys : List Link) (i : ℕ) (x : Link) → AllMove k xs ys
    → slice_get xs i ≡ Some x → MovedAt k x ys i
forth k [] ys i x all is = cc
forth k (z ∷ xs) [] i x all is = absurd all
forth k (z ∷ xs) (y ∷ ys) zero x all is =
    record {
      link = y;
      stands = refl;
      moves = subst (λ (l : Link). LinkMoves k l y) (some_same z x is) all.0;
    }
forth k (z ∷ xs) (y ∷ ys) (suc i) x all is =
    let later = forth k xs ys i x all.1 is in
    record { link = later.link; stands = later.stands; moves = later.moves }

pub back : (k : ℕ) (xs ys : List Link) (i : ℕ) (y : Link) → AllMove k xs ys
    → slice_get ys i ≡ Some y → MovedTo k y xs i
back k xs [] i y all is = cc
back k [] (z ∷ ys) i y all is = absurd all
back k (x ∷ xs) (z ∷ ys) zero y all is =
    record {
      link = x;
      stands = refl;
      moves = subst (λ (l : Link). LinkMoves k x l) (some_same z y is) all.0;
    }
back k (x ∷ xs) (z ∷ ys) (suc i) y all is =
    let later = back k xs ys i y all.1 is in
    record { link = later.link; stands = later.stands; moves = later.moves }

pub same_end : (e : EndValue) → SameEnd e e
same_end e = record {
  at = refl;
  session = refl;
  heard = refl;
  seen = refl;
  more = [];
  given = sym (append-nil e.given);
}

pub end_stays : (k : ℕ) (e : EndValue) → EndMoves k e e
end_stays k e = record { device = refl; within = λ within. within; own = λ own. same_end e }

pub link_stays : (k : ℕ) (l : Link) → LinkMoves k l l
link_stays k l = record { near = end_stays k l.near; far = end_stays k l.far; cut = λ uncut. uncut }

pub all_stay : (k : ℕ) (ls : List Link) → AllMove k ls ls
all_stay k [] = tt
all_stay k (l ∷ ls) = (link_stays k l, all_stay k ls)

pub all_map : (k : ℕ) (f : Link → Link) (ls : List Link) → ((l : Link) → LinkMoves k l (f l))
    → AllMove k ls (map f ls)
all_map k f [] each = tt
all_map k f (l ∷ ls) each = (each l, all_map k f ls each)

pub all_set : (k i : ℕ) (ls : List Link) (l l' : Link) → slice_get ls i ≡ Some l → LinkMoves k l l'
    → AllMove k ls (slice_set ls i l')
all_set k i [] l l' is moves = tt
all_set k zero (x ∷ ls) l l' is moves =
    (subst (λ (z : Link). LinkMoves k z l') (sym (some_same x l is)) moves, all_stay k ls)
all_set k (suc i) (x ∷ ls) l l' is moves = (link_stays k x, all_set k i ls l l' is moves)

pub all_placed : (k count : ℕ) (xs ys : List Link) → AllMove k xs ys → ArePlaced count xs
    → ArePlaced count ys
all_placed k count xs ys all placed i y is =
    let from = back k xs ys i y all is in
    moves_placed k count from.link y from.moves (placed i from.link from.stands)

pub all_wired : (j : Journal) (k count : ℕ) (device : DeviceValue) (xs ys : List Link)
    → AllMove k xs ys → ArePlaced count xs → AreWired j k device xs → AreWired j k device ys
all_wired j k count device xs ys all placed w = record {
  each = λ i y e a is own here.
      let from = back k xs ys i y all is in
      moves_wired j k count device from.link y from.moves (placed i from.link from.stands)
      (λ e a own here. w.each i from.link e a from.stands own here) e a own here;
  once = λ i n l m a is there here also.
      let first = back k xs ys i l all is in
      let second = back k xs ys n m all there in
      w.once i n first.link second.link a first.stands second.stands
      (sym (moves_place k first.link l first.moves)
      ∙ here) (sym (moves_place k second.link m second.moves) ∙ also);
  all = λ a below.
      let seat = w.all a below in
      let now = forth k xs ys seat.number seat.link all seat.stands in
      record {
        number = seat.number;
        link = now.link;
        stands = now.stands;
        here = moves_place k seat.link now.link now.moves ∙ seat.here;
      };
}

-- ---- one link set, of which an end of the device changed

record WasAt (d : ℕ) (ls : List Link) (n : ℕ) (m : Link) : Type 0 where
  link : Link
  stands : slice_get ls n ≡ Some link
  place : place_on d link ≡ place_on d m

was_at : (d : ℕ) (ls : List Link) (i : ℕ) (l l' : Link) (n : ℕ) (m : Link) → slice_get ls i ≡ Some l
    → place_on d l' ≡ place_on d l
    → slice_get (slice_set ls i l') n ≡ Some m → WasAt d ls n m
was_at d ls i l l' n m is place there =
    elim (get_cases ls i n l' m there) [
      | inl (same, new) ↦ record {
        link = l;
        stands = ap (slice_get ls) same ∙ is;
        place = sym place ∙ ap (place_on d) new;
      }
      | inr (other, old) ↦ record { link = m; stands = old; place = refl }
    ]

pub set_once : (j : Journal) (d : ℕ) (device : DeviceValue) (ls : List Link) (i : ℕ) (l l' : Link)
    → slice_get ls i ≡ Some l → place_on d l' ≡ place_on d l → AreWired j d device ls
    → (n k : ℕ) (m m' : Link) (a : ℕ) → slice_get (slice_set ls i l') n ≡ Some m
    → slice_get (slice_set ls i l') k ≡ Some m' → place_on d m ≡ Some a → place_on d m' ≡ Some a
    → n ≡ k
set_once j d device ls i l l' is place w n k m m' a there there' here here' =
    let first = was_at d ls i l l' n m is place there in
    let second = was_at d ls i l l' k m' is place there' in
    w.once n k first.link second.link a first.stands second.stands (first.place
    ∙ here) (second.place ∙ here')

pub set_seat : (j : Journal) (d : ℕ) (device : DeviceValue) (ls : List Link) (i : ℕ) (l l' : Link)
    → slice_get ls i ≡ Some l → place_on d l' ≡ place_on d l → AreWired j d device ls
    → (a : ℕ) → a < device.links → IsSeated d (slice_set ls i l') a
set_seat j d device ls i l l' is place w a below =
    let seat = w.all a below in
    elim (cases_eq seat.number i) [
      | inl same ↦
          let there : slice_get ls i ≡ Some seat.link =
          subst (λ (n : ℕ). slice_get ls n ≡ Some seat.link) same seat.stands in
          let link : l ≡ seat.link = some_same l seat.link (sym is ∙ there) in
          record {
            number = i;
            link = l';
            stands = get_set ls i l' (get_within ls i l is);
            here = place ∙ subst (λ (z : Link). place_on d z ≡ Some a) (sym link) seat.here;
          }
      | inr other ↦ record {
        number = seat.number;
        link = seat.link;
        stands = get_other ls i seat.number l' other ∙ seat.stands;
        here = seat.here;
      }
    ]

-- ---- the device changes

pub session_from : (a b : Option NodeValue) (k : ℕ) → first_of b ≡ first_of a → option_map
    (λ (n : NodeValue). n.first + k) b ≡ option_map (λ (n : NodeValue). n.first + k) a
session_from None None k same = refl
session_from None (Some n) k same = cc
session_from (Some m) None k same = cc
session_from (Some m) (Some n) k same =
    ap (λ (f : ℕ). Some (f + k)) (some_same n.first m.first same)

pub seen_grows : SentGrows → (j' j : Journal) (number seen : ℕ) → Legal bundle_meaning j'
    → ExtendsJournal j' j → SeenBy j number seen → SeenBy j' number seen
seen_grows grows j' j number seen legal extends s =
    let g = grows bundle_meaning j' j number extends legal in
    record {
      before = s.before;
      behind = s.behind ++ g.more;
      sends = g.goes_on ∙ (ap (λ (rs : List Record). rs ++ g.more) s.sends
          ∙ append_assoc s.before s.behind g.more);
      counted = s.counted;
    }

-- its journal went on, and it has the links that it had
pub kept_wired : SentGrows → (j' j : Journal) (d : ℕ) (old new : DeviceValue) (ls : List Link)
    → Legal bundle_meaning j' → ExtendsJournal j' j → KeepsLinks old new
    → AreWired j d old ls → AreWired j' d new ls
kept_wired grows j' j d old new ls legal extends keeps w = record {
  each = λ i l e a is own here.
      let was = w.each i l e a is own here in
      record {
        below = subst (λ (n : ℕ). a < n) (sym keeps.same_links) was.below;
        session = was.session ∙ sym (session_from old.node new.node a keeps.same_first);
        brought = ap (λ (g : List ℕ). g ++ input_of e) (keeps.brings a) ∙ was.brought;
        seen = λ uncut number on.
            seen_grows grows j' j number e.seen legal extends (was.seen uncut number on);
      };
  once = w.once;
  all = λ a below. w.all a (subst (λ (n : ℕ). a < n) keeps.same_links below);
}
