-- Plans of what links are to answer: what was shown is shown still.
use Rattle.std.proofs.Common.{◌≡◌, ℕ, zero, suc, ◌+◌, ◌<◌, ◌≤◌, ◌==◌, Bool, true, false}
use Rattle.std.proofs.Common.{if◌then◌else◌, List, [], ◌∷◌, ◌++◌, length, drop, take, refl, sym}
use Rattle.std.proofs.Common.{◌∙◌, ap, subst, inl, inr, arith, append_assoc, append-nil, Option}
use Rattle.std.proofs.Common.{Some, None, is_some}
use Rattle.std.proofs.lemmas.Bool.{eqb-true}
use Rattle.std.proofs.lemmas.List.{take-append-drop}
use Rattle.std.specs.Prelude.{slice_get, slice_set}
use Rattle.std.specs.Option.{option_map}
use Rattle.std.proofs.lemmas.List.{length-set}
use Rattle.sync_course.proofs.LiftLaws.{get_set, get_within, set_twice}
use Rattle.outside.specs.Planned.{pieces}
use Rattle.outside.specs.Script.{planned_of}
use Rattle.outside.specs.declared.answer.Answer.{Answer}
use Rattle.outside.specs.declared.answer.Answer.TheVariants as answer
use Rattle.sync_node.specs.Node.{NodeValue}
use Rattle.world_devices.specs.Brought.{brought_on, bytes_of, planned_bytes}
use Rattle.world_devices.specs.Devices.{DeviceValue}
use Rattle.world_devices.specs.Linking.{PlansMore, count_of_links}
use Rattle.world_devices.specs.Running.{HoldsAfterCrash}
use Rattle.world_laws.specs.Worlds.{WorldLink as RecordLink, World, journal_at, journal_in}
use Rattle.world_laws.specs.Worlds.{link_in}
use Rattle.world_links.specs.Ends.{EndValue, answer_to, input_of}
use Rattle.world_links.specs.Links.{side_end, side_of}
use Rattle.world_links.specs.declared.end.TheConstants.{PIECE_LEN}
use Rattle.world_links.specs.declared.link.Link.{Link}
use Rattle.world_links.specs.declared.moves.Side.{Side}
use Rattle.world_links.specs.declared.moves.Side.TheVariants as side
use Rattle.sync_world.specs.Shown.{ShowsLink, ShowsLinks}
use Rattle.sync_world.specs.Staging.{BringsNextBytes, HearsMore, PlansAll, PlansAt, PlansLink}
use Rattle.sync_world.specs.Staging.{SameFiles, with_end}
use Rattle.sync_world.specs.Standing.{ArePlaced, AreUp, AreWired, IsShown, IsUp, IsEndWired, SeenBy}
use Rattle.sync_world.specs.Standing.{own_end, place_in, place_on, session_on}
use Rattle.sync_world.proofs.LookLaws.{shown_same}
use Rattle.sync_world.proofs.ShownMoves.{shown_at, shown_set}
use Rattle.sync_world.proofs.WireLaws.{EndMoves, LinkMoves, all_placed, all_set, all_wired}
use Rattle.sync_world.proofs.WireLaws.{end_stays, eqb_not, get_cases, own_far}
use Rattle.sync_world.proofs.WireLaws.{own_near, set_back, set_once}
use Rattle.sync_world.proofs.WireLaws.{set_seat, some_same}
use Rattle.sync_rules.specs.Facts.{Journal}

-- ---- bytes

pieces_all : (bytes : List ℕ) → planned_bytes (pieces bytes) ≡ bytes
pieces_all [] = refl
pieces_all (byte ∷ bytes) = append-nil (byte ∷ bytes)

planned_all : (a : Answer) → planned_bytes (planned_of a) ≡ bytes_of a
planned_all (answer.Bytes bytes) = pieces_all bytes.items
planned_all answer.Idle = refl
planned_all answer.End = refl
planned_all answer.Fail = refl

take_none : (n : ℕ) → take {A = ℕ} n [] ≡ []
take_none zero = refl
take_none (suc n) = refl

answer_all : (cut : Bool) (input : List ℕ) → planned_bytes
    (answer_to cut input) ≡ take PIECE_LEN input
answer_all true [] = sym (take_none PIECE_LEN)
answer_all false [] = sym (take_none PIECE_LEN)
answer_all true (byte ∷ bytes) = append-nil (take PIECE_LEN (byte ∷ bytes))
answer_all false (byte ∷ bytes) = append-nil (take PIECE_LEN (byte ∷ bytes))

-- the bytes of what an end is to hear are the first of its input
pub answer_bytes : (a : Answer) (cut : Bool) (input : List ℕ) → planned_of a ≡ answer_to cut input
    → bytes_of a ≡ take PIECE_LEN input
answer_bytes a cut input is = sym (planned_all a) ∙ (ap planned_bytes is ∙ answer_all cut input)

-- ---- one end

pub plans_at : (a : ℕ) (old new : DeviceValue) (e e' : EndValue) (asked : Answer) (cut : Bool)
    → e.at ≡ Some a → planned_of asked ≡ answer_to cut (input_of e)
    → PlansMore a asked old new → input_of e' ≡ drop PIECE_LEN (input_of e)
    → e' ≡ record e { heard = e'.heard } → e'.heard ≤ length e'.given → PlansAt old new e e'
plans_at a old new e e' asked cut here is more input rest within = record {
  number = a;
  here = here;
  brings = record {
    same_node = more.same_node;
    same_links = more.same_links;
    here = λ below. more.here below
        ∙ ap (λ (g : List ℕ). brought_on old.host a ++ g) (answer_bytes asked cut (input_of e) is);
    others = λ i apart. more.others i (inl apart);
    hears = record { is = rest; input = input; within = within };
  };
}

-- ---- one link

pub near_own : (d : ℕ) (l : Link) → side_of d l ≡ Some side.Near → l.near.device ≡ d
near_own d l is =
    elim (l.near.device == d) as (λ b. (l.near.device == d) ≡ b
    → (if b then Some side.Near else if l.far.device == d then Some side.Far else None)
    ≡ Some side.Near → l.near.device ≡ d) [
      | true ↦ λ near e. eqb-true l.near.device d near
      | false ↦ λ near e.
          elim (l.far.device == d) as (λ b. (if b then Some side.Far else None) ≡ Some side.Near
          → l.near.device ≡ d) [ true ↦ λ no. cc | false ↦ λ no. cc ] e
    ] refl is

pub far_own : (d : ℕ) (l : Link) → side_of d l ≡ Some side.Far
    → (l.far.device ≡ d) × (l.near.device ≡ d → ⊥)
far_own d l is =
    elim (l.near.device == d) as (λ b. (l.near.device == d) ≡ b
    → (if b then Some side.Near else if l.far.device == d then Some side.Far else None)
    ≡ Some side.Far → (l.far.device ≡ d) × (l.near.device ≡ d → ⊥)) [
      | true ↦ λ near e. cc
      | false ↦ λ near e.
          elim (l.far.device == d) as (λ b. (l.far.device == d) ≡ b
          → (if b then Some side.Far else None) ≡ Some side.Far
          → (l.far.device ≡ d) × (l.near.device ≡ d → ⊥)) [
            | true ↦ λ far no. (eqb-true l.far.device d far, eqb_not l.near.device d near)
            | false ↦ λ far no. cc
          ] refl e
    ] refl is

-- what plans make of a link, by the side of the device
record Planned (d a : ℕ) (old new : DeviceValue) (l l' : Link) : Type 0 where
  end : EndValue
  end' : EndValue
  own : own_end d l ≡ Some end
  own' : own_end d l' ≡ Some end'
  here : end.at ≡ Some a
  brings : BringsNextBytes a old new end end'
  cut : l'.is_cut ≡ l.is_cut
  moves : (k : ℕ) → (k ≡ d → ⊥) → LinkMoves k l l'
  shows : (x : RecordLink) → ShowsLink l x → ShowsLink l' x

hears_device : (e e' : EndValue) → HearsMore e e' → e'.device ≡ e.device
hears_device e e' h = ap (λ (x : EndValue). x.device) h.is

gone_on : (k d : ℕ) (e e' : EndValue) → HearsMore e e' → e.device ≡ d → (k ≡ d → ⊥)
    → EndMoves k e e'
gone_on k d e e' h is apart =
    record {
      device = hears_device e e' h;
      within = λ was. h.within;
      own = λ own. absurd (apart (sym own ∙ is));
    }

planned_side : (d : ℕ) (old new : DeviceValue) (l l' : Link) (from : Side)
    (p : PlansAt old new (side_end from l) (side_end from l')) → side_of d l ≡ Some from
    → l' ≡ with_end from (side_end from l') l → Planned d p.number old new l l'
planned_side d old new l l' side.Near p own rest =
    let h = p.brings.hears in
    let device : l.near.device ≡ d = near_own d l own in
    let far : l'.far ≡ l.far = ap (λ (z : Link). z.far) rest in
    record {
      end = l.near;
      end' = l'.near;
      own = own_near d l device;
      own' = own_near d l' (hears_device l.near l'.near h ∙ device);
      here = p.here;
      brings = p.brings;
      cut = ap (λ (z : Link). z.is_cut) rest;
      moves = λ k apart. record {
        near = gone_on k d l.near l'.near h device apart;
        far = subst (λ (z : EndValue). EndMoves k l.far z) (sym far) (end_stays k l.far);
        cut = λ uncut. sym (ap (λ (z : Link). z.is_cut) rest) ∙ uncut;
      };
      shows = λ x s. record {
        near = shown_same l.near l'.near x.near (hears_device l.near l'.near h)
            (ap (λ (z : EndValue). z.session) h.is) (ap (λ (z : EndValue). z.flight) h.is)
            (ap (λ (z : EndValue). z.given) h.is) s.near;
        far = shown_same l.far l'.far x.far (ap (λ (z : EndValue). z.device) far)
            (ap (λ (z : EndValue). z.session) far) (ap (λ (z : EndValue). z.flight) far)
            (ap (λ (z : EndValue). z.given) far) s.far;
      };
    }
planned_side d old new l l' side.Far p own rest =
    let h = p.brings.hears in
    let device = far_own d l own in
    let near : l'.near ≡ l.near = ap (λ (z : Link). z.near) rest in
    record {
      end = l.far;
      end' = l'.far;
      own = own_far d l device.1 device.0;
      own' = own_far d l' (λ (n : l'.near.device ≡ d).
          device.1 (sym (ap (λ (z : EndValue). z.device) near) ∙ n)) (hears_device l.far l'.far h
          ∙ device.0);
      here = p.here;
      brings = p.brings;
      cut = ap (λ (z : Link). z.is_cut) rest;
      moves = λ k apart. record {
        near = subst (λ (z : EndValue). EndMoves k l.near z) (sym near) (end_stays k l.near);
        far = gone_on k d l.far l'.far h device.0 apart;
        cut = λ uncut. sym (ap (λ (z : Link). z.is_cut) rest) ∙ uncut;
      };
      shows = λ x s. record {
        near = shown_same l.near l'.near x.near (ap (λ (z : EndValue). z.device) near)
            (ap (λ (z : EndValue). z.session) near) (ap (λ (z : EndValue). z.flight) near)
            (ap (λ (z : EndValue). z.given) near) s.near;
        far = shown_same l.far l'.far x.far (hears_device l.far l'.far h)
            (ap (λ (z : EndValue). z.session) h.is) (ap (λ (z : EndValue). z.flight) h.is)
            (ap (λ (z : EndValue). z.given) h.is) s.far;
      };
    }

-- ---- the device and all links

link_back : (xs : List RecordLink) (i : ℕ) (x : RecordLink) → link_in xs i ≡ Some x
    → slice_set xs i x ≡ xs
link_back [] i x is = refl
link_back (y ∷ xs) zero x is = ap (λ (z : RecordLink). z ∷ xs) (sym (some_same y x is))
link_back (y ∷ xs) (suc i) x is = ap (λ (zs : List RecordLink). y ∷ zs) (link_back xs i x is)

same_session : (old new : DeviceValue) (a : ℕ) → new.node ≡ old.node
    → session_on new a ≡ session_on old a
same_session old new a same =
    ap (λ (o : Option NodeValue). option_map (λ (n : NodeValue). n.first + a) o) same

pub holds_same : (j : Journal) (old new : DeviceValue) → SameFiles old new
    → HoldsAfterCrash j old.host → HoldsAfterCrash j new.host
holds_same j old new files holds =
    record { each = λ two told left image. holds.each two (sym files ∙ told) left image }

up_same : (j : Journal) (old new : DeviceValue) → SameFiles old new → new.node ≡ old.node
    → new.links ≡ old.links → IsUp j old → IsUp j new
up_same j old new files node links up = record {
  runs = ap is_some node ∙ up.runs;
  holds = holds_same j old new files up.holds;
  legal = up.legal;
  numbered = ap count_of_links node ∙ (up.numbered ∙ ap (λ (n : ℕ). Some n) (sym links));
}

pub up_device : (js : List Journal) (devices : List DeviceValue) (d : ℕ) (new : DeviceValue)
    → AreUp js devices → IsUp (journal_in js d) new → AreUp js (slice_set devices d new)
up_device js devices d new up one = record {
  same_number = up.same_number ∙ sym (length-set devices d new);
  each = λ e other is.
      elim (get_cases devices d e new other is) [
        | inl (same, here) ↦ subst (λ (n : ℕ). IsUp (journal_in js n) other) (sym same)
            (subst (IsUp (journal_in js d)) here one)
        | inr (apart, was) ↦ up.each e other was
      ];
}

brought_more : (b t r g g' : List ℕ) → b ++ (t ++ r) ≡ g → g' ≡ g → (b ++ t) ++ r ≡ g'
brought_more b t r g g' is same = append_assoc b t r ∙ (is ∙ sym same)

-- the end that was asked
asked_wired : (j : Journal) (old new : DeviceValue) (cut cut' : Bool) (e e' : EndValue) (a : ℕ)
    → BringsNextBytes a old new e e' → cut' ≡ cut → IsEndWired j old cut e a
    → IsEndWired j new cut' e' a
asked_wired j old new cut cut' e e' a b same w = record {
  below = subst (λ (n : ℕ). a < n) (sym b.same_links) w.below;
  session =
      ap (λ (z : EndValue). z.session) b.hears.is
      ∙ (w.session ∙ sym (same_session old new a b.same_node));
  brought =
      ap (λ (g : List ℕ). g ++ input_of e') (b.here w.below)
      ∙ (ap (λ (r : List ℕ). (brought_on old.host a ++ take PIECE_LEN (input_of e)) ++ r)
      b.hears.input
      ∙ brought_more (brought_on old.host a) (take PIECE_LEN (input_of e))
      (drop PIECE_LEN (input_of e)) e.given e'.given
      (ap (λ (g : List ℕ). brought_on old.host a ++ g) (take-append-drop PIECE_LEN (input_of e))
      ∙ w.brought) (ap (λ (z : EndValue). z.given) b.hears.is));
  seen = λ uncut number on.
      subst (λ (n : ℕ). SeenBy j number n) (sym (ap (λ (z : EndValue). z.seen) b.hears.is))
      (w.seen (sym same ∙ uncut) number (sym (ap (λ (z : EndValue). z.session) b.hears.is) ∙ on));
}

-- another end
left_wired : (j : Journal) (old new : DeviceValue) (cut : Bool) (e : EndValue) (a b : ℕ)
    (x x' : EndValue) → BringsNextBytes b old new x x' → (a ≡ b → ⊥) → IsEndWired j old cut e a
    → IsEndWired j new cut e a
left_wired j old new cut e a b x x' brings apart w = record {
  below = subst (λ (n : ℕ). a < n) (sym brings.same_links) w.below;
  session = w.session ∙ sym (same_session old new a brings.same_node);
  brought = ap (λ (g : List ℕ). g ++ input_of e) (brings.others a apart) ∙ w.brought;
  seen = w.seen;
}

plan_wired : (j : Journal) (d a : ℕ) (old new : DeviceValue) (ls : List Link) (i : ℕ) (l l' : Link)
    → slice_get ls i ≡ Some l → Planned d a old new l l' → AreWired j d old ls
    → AreWired j d new (slice_set ls i l')
plan_wired j d a old new ls i l l' is p w =
    let at : p.end'.at ≡ Some a = ap (λ (z : EndValue). z.at) p.brings.hears.is ∙ p.here in
    let place : place_on d l' ≡ place_on d l = ap place_in p.own'
    ∙ (at ∙ (sym p.here ∙ sym (ap place_in p.own))) in
    record {
      each = λ n m e b there own here.
          elim (get_cases ls i n l' m there) [
            | inl (same, link) ↦
                let own' : own_end d l' ≡ Some e =
                subst (λ (z : Link). own_end d z ≡ Some e) (sym link) own in
                let end : p.end' ≡ e = some_same p.end' e (sym p.own' ∙ own') in
                let number : a ≡ b =
                some_same a b (sym at ∙ (ap (λ (z : EndValue). z.at) end ∙ here)) in
                let wired : IsEndWired j new l'.is_cut p.end' a =
                asked_wired j old new l.is_cut l'.is_cut p.end p.end' a p.brings p.cut
                (w.each i l p.end a is p.own p.here) in
                subst (λ (k : ℕ). IsEndWired j new m.is_cut e k) number
                (subst (λ (x : EndValue). IsEndWired j new m.is_cut x a) end
                (subst (λ (z : Link). IsEndWired j new z.is_cut p.end' a) link wired))
            | inr (other, was) ↦
                left_wired j old new m.is_cut e b a p.end p.end' p.brings
                (λ same.
                other (w.once n i m l a was is (ap place_in own
                ∙ (here ∙ ap (λ (k : ℕ). Some k) same)) (ap place_in p.own ∙ p.here)))
                (w.each n m e b was own here)
          ];
      once = set_once j d old ls i l l' is place w;
      all = λ b below. set_seat j d old ls i l l' is place w b
          (subst (λ (n : ℕ). b < n) p.brings.same_links below);
    }

shown_on : (w : World) (devices : List DeviceValue) (links : List Link) (d a i : ℕ)
    (old new : DeviceValue) (l l' : Link) → slice_get devices d ≡ Some old
    → slice_get links i ≡ Some l → SameFiles old new
    → Planned d a old new l l' → IsShown w devices links
    → IsShown w (slice_set devices d new) (slice_set links i l')
shown_on w devices links d a i old new l l' is there files p s =
    let at = shown_at links w.links i l there s.shown in
    let moves : (k : ℕ) → (k ≡ d → ⊥)
    → _ = λ k apart. all_set k i links l l' there (p.moves k apart) in
    record {
      up =
          up_device w.journals devices d new s.up
          (up_same (journal_at w d) old new files p.brings.same_node p.brings.same_links
          (s.up.each d old is));
      shown = subst (λ (xs : List RecordLink). ShowsLinks (slice_set links i l') xs)
          (link_back w.links i at.link at.stands)
          (shown_set links w.links i l' at.link (p.shows at.link at.shown) s.shown);
      placed =
          subst (λ (n : ℕ). ArePlaced n (slice_set links i l')) (sym (length-set devices d new))
          (all_placed (suc d) (length devices) links (slice_set links i l')
          (all_set (suc d) i links l l' there (p.moves (suc d) (λ same. omega arith)))
          s.placed);
      wired = λ e other got.
          elim (get_cases devices d e new other got) [
            | inl (same, here) ↦
                subst (λ (n : ℕ). AreWired (journal_at w n) n other (slice_set links i l'))
                (sym same)
                (subst (λ (x : DeviceValue). AreWired (journal_at w d) d x (slice_set links i l'))
                here (plan_wired (journal_at w d) d a old new links i l l' there p
                (s.wired d old is)))
            | inr (apart, was) ↦
                all_wired (journal_at w e) e (length devices) other links (slice_set links i l')
                (all_set e i links l l' there (p.moves e apart)) s.placed (s.wired e other was)
          ];
    }

pub plan_on : (d i : ℕ) (old new : DeviceValue) (links : List Link) (l l' : Link)
    → slice_get links i ≡ Some l → SameFiles old new → PlansLink d old new l l'
    → PlansAll d old new links (slice_set links i l')
plan_on d i old new links l l' there files plans = λ w devices is s.
    elim plans [
      | inl (same, link) ↦
          subst (λ (ds : List DeviceValue). IsShown w ds (slice_set links i l'))
          (sym (set_back devices d old new is same))
          (subst (λ (ls : List Link). IsShown w devices ls) (sym (set_back links i l l' there link))
          s)
      | inr side ↦ shown_on w devices links d side.plans.number i old new l l' is there files
          (planned_side d old new l l' side.from side.plans side.own side.rest) s
    ]

pub plans_none : (d : ℕ) (old : DeviceValue) (links : List Link) → PlansAll d old old links links
plans_none d old links =
    λ w devices is s. subst (λ (ds : List DeviceValue). IsShown w ds links)
    (sym (set_back devices d old old is refl)) s

pub plans_then : (d : ℕ) (a b c : DeviceValue) (ls ms ns : List Link) → PlansAll d a b ls ms
    → PlansAll d b c ms ns → PlansAll d a c ls ns
plans_then d a b c ls ms ns first second = λ w devices is s.
    subst (λ (ds : List DeviceValue). IsShown w ds ns) (set_twice devices d b c)
    (second w (slice_set devices d b) (get_set devices d b (get_within devices d a is))
    (first w devices is s))
