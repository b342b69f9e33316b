use Rattle.std.proofs.Common.{◌≡◌, ℕ, ◌<◌, Some}
use Rattle.std.specs.Prelude.{slice_get}
use Rattle.world_devices.specs.Devices.{DeviceValue}
use Rattle.world_devices.specs.Linking.{DeviceLinksStand}
use Rattle.sync_world.proofs.world.links_stand_on.Given as goal

-- so it is of the devices before this one
abbrev pub invariant-devices : goal.invariant-devices
invariant-devices l =
    (d : ℕ) (device : DeviceValue) → d < l.d → slice_get l.devices d ≡ Some device
    → DeviceLinksStand device
