use Rattle.std.proofs.Common.{◌≡◌, ◌++◌, drop, map, take}
use Rattle.sync_world.specs.Turning.{look_link}
use Rattle.sync_world.proofs.turning.look_all.Given as goal

abbrev pub invariant-links : goal.invariant-links
invariant-links l =
    l.links ≡ map (look_link l.number l.device) (take l.link-index l.initial.links)
    ++ drop l.link-index l.initial.links
