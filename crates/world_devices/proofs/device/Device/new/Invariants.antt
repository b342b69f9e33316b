use Rattle.std.proofs.Common.{◌≡◌, None}
use Rattle.world_devices.specs.Devices.{IsAnew}
use Rattle.world_devices.specs.Linking.{IsUnlinked, new_journal}
use Rattle.world_devices.specs.Running.{HoldsAfterCrash}
use Rattle.world_devices.proofs.device.Device.new.Given as goal

-- so many contacts were added, and nothing else was done
abbrev pub invariant-contacts : goal.invariant-contacts
invariant-contacts l = record {
  journal : HoldsAfterCrash (new_journal l._added) l.device.host;
  unlinked : IsUnlinked l.device;
  clock : l.device.clock ≡ l.clock;
  anew : IsAnew l.clock l.device.host;
  unstopped : l.device.stop ≡ None;
}
