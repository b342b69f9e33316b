use Rattle.std.proofs.Common.{◌≡◌, ◌++◌, drop, false, length, map, take}
use Rattle.world_devices.specs.Doing.{clocked}
use Rattle.sync_world.specs.Standing.{LeadsFromShown}
use Rattle.sync_world.proofs.stage.Stage.set_clock.Given as goal

-- what was shown before is shown still, with as many devices; the clocks of the first ones were
-- set, and nothing else changed
abbrev pub invariant-devices : goal.invariant-devices
invariant-devices l = record {
  fault : l.self.fault ≡ l.initial.self.fault;
  number : length l.self.devices.items ≡ length l.initial.self.devices.items;
  goes : LeadsFromShown false l.initial.self l.self;
  clocks : l.self.devices.items ≡ map (clocked l.at)
      (take l.d l.initial.self.devices.items) ++ drop l.d l.initial.self.devices.items;
  links : l.self.links.items ≡ l.initial.self.links.items;
  groups : l.self.groups ≡ l.initial.self.groups;
  posts : l.self.posts.items ≡ l.initial.self.posts.items;
}
