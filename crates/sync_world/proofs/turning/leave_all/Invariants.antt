use Rattle.std.proofs.Common.{◌≡◌, ◌++◌, drop, map, take}
use Rattle.world_links.specs.Links.{left_by}
use Rattle.sync_world.proofs.turning.leave_all.Given as goal

abbrev pub invariant-links : goal.invariant-links
invariant-links l =
    l.links ≡ map (left_by l.number) (take l.link-index l.initial.links)
    ++ drop l.link-index l.initial.links
