use Rattle.std.proofs.Common.{◌≡◌}
use Rattle.outside.specs.HostTold.{host_told}
use Rattle.world_devices.specs.Devices.{LeavesDisk, links_made}
use Rattle.world_devices.specs.Keeping.{AreLinksQuiet}
use Rattle.world_devices.proofs.starting.dial_all.Given as goal

abbrev pub invariant-links : goal.invariant-links
invariant-links l = record {
  made : links_made l.host ≡ l._link;
  quiet : AreLinksQuiet (host_told l.host);
  scripts : l.host.scripts ≡ l.initial.host.scripts;
  disk : LeavesDisk l.initial.host l.host;
}
