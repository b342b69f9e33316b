use Rattle.std.proofs.Common.{◌≡◌, length}
use Rattle.sync_world.specs.Staging.{PlansAll, SameFiles}
use Rattle.sync_world.proofs.TurningLaws.{hears_front}
use Rattle.sync_world.proofs.turning.plan_all.Given as goal

-- what was shown before is shown with the links that were asked so far
abbrev pub invariant-links : goal.invariant-links
invariant-links l = record {
  files : SameFiles l.initial.device l.device;
  number : length l.links ≡ length l.initial.links;
  planned : PlansAll l.number l.initial.device l.device l.initial.links l.links;
  exact : (l.device, l.links) ≡ hears_front l.i l.number l.initial.device l.initial.links;
}
