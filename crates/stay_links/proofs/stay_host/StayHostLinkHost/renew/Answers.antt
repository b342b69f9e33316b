use Rattle.std.proofs.Common.{refl}
use Rattle.stay_links.proofs.Counts.{zeros}
use Rattle.stay_links.proofs.stay_host.StayHostLinkHost.renew.Goals as goal

pub returns-clause-links : goal.returns-clause-links
returns-clause-links g c = record {
  none_left = refl;
  unfailed = zeros 256;
  told = refl;
  heard = refl;
  same_readings = refl;
  same_planned = refl;
  same_upcoming = refl;
}
