use Rattle.sync_rules.specs.Facts.{facts}
use Rattle.sync_rules.proofs.Sound.{held_at-In}
use Rattle.sync_rules.proofs.Coming.{has_origin}
use Rattle.sync_rules.proofs.laws.origin.Goals as goal

pub returns : goal.returns
returns c = λ clients j legal id h at. has_origin clients j legal h (held_at-In (facts j).held id h at)
