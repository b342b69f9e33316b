use Rattle.std.proofs.Common.{◌≡◌, ◌++◌, drop, map, take}
use Rattle.std.specs.List.{list_any}
use Rattle.sync_world.specs.Shown.{link_arrived}
use Rattle.sync_world.specs.Turning.{is_moving}
use Rattle.sync_world.proofs.turning.carry_all.Given as goal

abbrev pub invariant-links : goal.invariant-links
invariant-links l = record {
  some : l.some ≡ list_any is_moving (take l.link-index l.initial.links);
  carried : l.links ≡ map link_arrived
      (take l.link-index l.initial.links) ++ drop l.link-index l.initial.links;
}
