use Rattle.std.proofs.Common.{subst}
use Rattle.world_devices.specs.Linking.{DeviceLinksStand}
use Rattle.world_devices.proofs.CallLaws.{held_of, links_stand}
use Rattle.world_devices.proofs.RunningLaws.{running_of}
use Rattle.world_devices.proofs.device.Device.links_stand.Goals as goal

pub returns : goal.returns
returns c =
    subst DeviceLinksStand c.self.view_is (record {
      holds = λ n is. held_of n _ _ (running_of _ n _ _ is c.self.invariant.0);
      each = λ n is j. links_stand c.cite_laws.ensures n _ j (running_of _ n _ _ is c.self.invariant.0);
    })
