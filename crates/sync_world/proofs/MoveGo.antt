-- Moves and cuts of links, as steps.
use Rattle.std.proofs.Common.{◌≡◌, ℕ, true, false, if◌then◌else◌, List, [], refl, sym, subst, arith}
use Rattle.std.proofs.Common.{append-nil, length-append, Option, Some, None, Result, Ok, Err}
use Rattle.std.specs.Prelude.{slice_get}
use Rattle.client_basic.specs.Bodies.{bundle_meaning}
use Rattle.world_devices.specs.Devices.{DeviceValue}
use Rattle.world_devices.specs.declared.stop.StepFault.{StepFault}
use Rattle.world_devices.specs.declared.stop.StepFault.TheVariants as fault
use Rattle.world_laws.specs.Worlds.{World}
use Rattle.record_grammar.specs.Spelling.{joined}
use Rattle.world_links.specs.Ends.{EndValue}
use Rattle.world_links.specs.Links.{cut, side_end, given_too, moved, side_of, with_flight}
use Rattle.world_links.specs.Moves.{flight_after, given_by, is_possible}
use Rattle.world_links.specs.declared.link.Link.{Link}
use Rattle.world_links.specs.declared.moves.Move.{Move}
use Rattle.world_links.specs.declared.moves.Side.{Side}
use Rattle.world_links.specs.declared.moves.Side.TheVariants as side
use Rattle.sync_world.specs.Cited.{WorldLaws}
use Rattle.sync_world.specs.Moving.{MakesOfLink, link_cut, link_moved, moved_from}
use Rattle.sync_world.specs.Standing.{IsShown, LeadsOn, is_fatal}
use Rattle.sync_world.proofs.BecomeLaws.{cut_becomes_shown, move_becomes_shown}
use Rattle.sync_world.proofs.GoLaws.{moved_leads, read_at_all}
use Rattle.sync_world.proofs.WireLaws.{AllMove, EndMoves, LinkMoves, all_set, all_stay, some_same}

given_moves : (k : ℕ) (e : EndValue) (rs : List (List ℕ)) → EndMoves k e (given_too rs e)
given_moves k e rs = record {
  device = refl;
  within = λ was. omega (arith, was, length-append e.given (joined rs));
  own = λ own. record {
    at = refl;
    session = refl;
    heard = refl;
    seen = refl;
    more = joined rs;
    given = refl;
  };
}

flight_moves : (k : ℕ) (e : EndValue) (rs : List (List ℕ)) → EndMoves k e (with_flight rs e)
flight_moves k e rs = record {
  device = refl;
  within = λ was. was;
  own = λ own. record {
    at = refl;
    session = refl;
    heard = refl;
    seen = refl;
    more = [];
    given = sym (append-nil e.given);
  };
}

moved_moves : (k : ℕ) (how : Move) (from : Side) (l : Link) → LinkMoves k l (moved how from l)
moved_moves k how side.Near l =
    record {
      near = flight_moves k l.near (flight_after how l.near.flight);
      far = given_moves k l.far (given_by how l.near.flight);
      cut = λ uncut. uncut;
    }
moved_moves k how side.Far l =
    record {
      near = given_moves k l.near (given_by how l.far.flight);
      far = flight_moves k l.far (flight_after how l.far.flight);
      cut = λ uncut. uncut;
    }

cut_moves : (k : ℕ) (l : Link) → LinkMoves k l (cut l)
cut_moves k l =
    record { near = flight_moves k l.near []; far = flight_moves k l.far []; cut = λ no. cc }

record WasThere (k : ℕ) (o : Option Link) (l' : Link) : Type 0 where
  link : Link
  there : o ≡ Some link
  moves : LinkMoves k link l'

was_side : (k : ℕ) (how : Move) (l l' : Link) (o : Option Side) → moved_from how l o ≡ Some l'
    → LinkMoves k l l'
was_side k how l l' None is = cc
was_side k how l l' (Some from) is =
    elim (is_possible how (side_end from l).flight) as (λ b.
    (if b then Some (moved how from l) else None) ≡ Some l' → LinkMoves k l l') [
      | true ↦ λ e. subst (LinkMoves k l) (some_same (moved how from l) l' e)
          (moved_moves k how from l)
      | false ↦ λ e. cc
    ] is

was_moved : (k : ℕ) (how : Move) (d : ℕ) (o : Option Link) (l' : Link)
    → link_moved how d o ≡ Some l' → WasThere k o l'
was_moved k how d None l' is = cc
was_moved k how d (Some l) l' is =
    record { link = l; there = refl; moves = was_side k how l l' (side_of d l) is }

was_cut : (k : ℕ) (o : Option Link) (l' : Link) → link_cut o ≡ Some l' → WasThere k o l'
was_cut k None l' is = cc
was_cut k (Some l) l' is =
    elim l.is_cut as (λ b. (if b then None else Some (cut l)) ≡ Some l' → WasThere k (Some l) l') [
      | true ↦ λ e. cc
      | false ↦ λ e. record {
        link = l;
        there = refl;
        moves = subst (LinkMoves k l) (some_same (cut l) l' e) (cut_moves k l);
      }
    ] is

same_all : (k : ℕ) (old new : List Link) → new ≡ old → AllMove k old new
same_all k old new same = subst (λ (ls : List Link). AllMove k old ls) (sym same) (all_stay k old)

becomes_all : (k : ℕ) (o : Option Link) (i : ℕ) (old new : List Link)
    (result : Result (Unit {0}) StepFault)
    → ((l' : Link) → o ≡ Some l' → WasThere k (slice_get old i) l')
    → MakesOfLink o i old new result → AllMove k old new
becomes_all k None i old new (Ok u) was b = absurd b
becomes_all k None i old new (Err fault.Refused) was b = same_all k old new b
becomes_all k None i old new (Err fault.Full) was b = absurd b
becomes_all k None i old new (Err fault.Memory) was b = same_all k old new b
becomes_all k (Some l') i old new (Ok u) was b =
    let w = was l' refl in
    subst (λ (ls : List Link). AllMove k old ls) (sym b) (all_set k i old w.link l' w.there w.moves)
becomes_all k (Some l') i old new (Err fault.Refused) was b = absurd b
becomes_all k (Some l') i old new (Err fault.Full) was b = absurd b
becomes_all k (Some l') i old new (Err fault.Memory) was b = same_all k old new b

pub move_leads : WorldLaws → (how : Move) (d i : ℕ) (devices : List DeviceValue)
    (old new : List Link) (result : Result (Unit {0}) StepFault)
    → MakesOfLink (link_moved how d (slice_get old i)) i old new result → (w : World)
    → IsShown w devices old → LeadsOn w (is_fatal result) devices new
move_leads laws how d i devices old new result becomes w s =
    read_at_all w (is_fatal result) devices new
    (moved_leads w devices old new s
    (move_becomes_shown laws bundle_meaning how d i old new result w.links becomes s.shown)
    (λ k. becomes_all k (link_moved how d (slice_get old i)) i old new result (λ l' is.
    was_moved k how d (slice_get old i) l' is) becomes))

pub cut_leads : WorldLaws → (i : ℕ) (devices : List DeviceValue) (old new : List Link)
    (result : Result (Unit {0}) StepFault)
    → MakesOfLink (link_cut (slice_get old i)) i old new result → (w : World)
    → IsShown w devices old → LeadsOn w (is_fatal result) devices new
cut_leads laws i devices old new result becomes w s =
    read_at_all w (is_fatal result) devices new
    (moved_leads w devices old new s
    (cut_becomes_shown laws bundle_meaning i old new result w.links becomes s.shown)
    (λ k. becomes_all k (link_cut (slice_get old i)) i old new result (λ l' is.
    was_cut k (slice_get old i) l' is) becomes))
