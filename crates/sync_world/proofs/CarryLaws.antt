-- All that is in flight on links arrives: no device sees more of that than that an end was given
-- more.
use Rattle.std.proofs.Common.{◌≡◌, ℕ, ◌+◌, Bool, true, false, if◌then◌else◌, List, [], ◌++◌, map}
use Rattle.std.proofs.Common.{length, refl, arith, length-append}
use Rattle.client_basic.specs.Bodies.{bundle_meaning}
use Rattle.world_devices.specs.Devices.{DeviceValue}
use Rattle.world_laws.specs.Worlds.{World}
use Rattle.record_grammar.specs.Spelling.{joined}
use Rattle.world_links.specs.Ends.{EndValue}
use Rattle.world_links.specs.Links.{all_carried, given_too, with_flight}
use Rattle.world_links.specs.declared.link.Link.{Link}
use Rattle.world_links.specs.declared.moves.Side.TheVariants as side
use Rattle.sync_world.specs.Cited.{WorldLaws}
use Rattle.sync_world.specs.Shown.{link_arrived}
use Rattle.sync_world.specs.Standing.{IsShown, LeadsOn}
use Rattle.sync_world.proofs.GoLaws.{moved_leads}
use Rattle.sync_world.proofs.ReachLaws.{all_arrived_shown}
use Rattle.sync_world.proofs.WireLaws.{AllMove, EndMoves, LinkMoves, all_map, link_stays}

end_given : (k : ℕ) (e : EndValue) (more : List (List ℕ)) → EndMoves k e
    (with_flight [] (given_too more e))
end_given k e more = record {
  device = refl;
  within = λ within. let longer : length (e.given ++ joined more)
      ≡ length e.given + length (joined more) =
      length-append e.given (joined more) in omega (arith, within, longer);
  own = λ own. record {
    at = refl;
    session = refl;
    heard = refl;
    seen = refl;
    more = joined more;
    given = refl;
  };
}

arrived_if : (k : ℕ) (is_cut : Bool) (l : Link) → LinkMoves k l
    (if is_cut then l else all_carried side.Far (all_carried side.Near l))
arrived_if k true l = link_stays k l
arrived_if k false l =
    record {
      near = end_given k l.near l.far.flight;
      far = end_given k l.far l.near.flight;
      cut = λ uncut. uncut;
    }

pub arrived_others : (k : ℕ) (ls : List Link) → AllMove k ls (map link_arrived ls)
arrived_others k ls = all_map k link_arrived ls (λ l. arrived_if k l.is_cut l)

-- from a world that is shown to one that is shown
pub arrived_leads : WorldLaws → (w : World) (devices : List DeviceValue) (ls : List Link)
    → IsShown w devices ls → LeadsOn w false devices (map link_arrived ls)
arrived_leads laws w devices ls s =
    moved_leads w devices ls (map link_arrived ls) s
    (all_arrived_shown laws bundle_meaning ls w.links s.shown) (λ k. arrived_others k ls)
