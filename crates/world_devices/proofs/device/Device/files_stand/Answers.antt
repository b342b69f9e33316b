use Rattle.std.proofs.Common.{[], subst}
use Rattle.client_basic.specs.Bodies.{bundle_meaning}
use Rattle.outside.specs.HostTold.{host_told}
use Rattle.sync_rules.specs.Legal.{Legal}
use Rattle.world_devices.specs.Devices.{DeviceValue}
use Rattle.world_devices.specs.Keeping.{StandsForSome, StandsLegal, WentOn}
use Rattle.world_devices.proofs.KeepLaws.{crash_so}
use Rattle.world_devices.proofs.device.Device.files_stand.Goals as goal

pub returns : goal.returns
returns c =
    subst (λ (d : DeviceValue). StandsLegal (host_told d.host)) c.self.view_is
    (crash_so (StandsForSome (WentOn [])) (StandsForSome (Legal bundle_meaning))
    (host_told c.self.inside.host) (λ left stood. record {
      whole = stood.whole;
      has = c.cite_laws.ensures.legal bundle_meaning left stood.whole stood.stands_for;
      stands_for = stood.stands_for;
    }) c.self.invariant.1)
