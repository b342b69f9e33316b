use Rattle.std.proofs.Common.{◌≡◌, ◌-◌, length}
use Rattle.std.specs.List.{AllByRecursion}
use Rattle.world_devices.specs.Linking.{IsNewDevice}
use Rattle.sync_world.proofs.stage.Stage.new.Given as goal

-- so many devices were made, and each is new
abbrev pub invariant-devices : goal.invariant-devices
invariant-devices l =
    record {
      counted : length l.all.items ≡ l._device;
      new : AllByRecursion (IsNewDevice (l.devices - 1) 1000) l.all.items;
    }
