-- The levels are known where each Level entry's group is.
use Rattle.std.proofs.Common.{◌≡◌, ◌↔◌, Bool, true, sym, subst}
use Rattle.sync_rules.specs.Facts.{facts}
use Rattle.sync_rules.specs.Views.{KnowsShown}
use Rattle.plain_rules.proofs.KnownLevels.{knows_shown}
use Rattle.plain_rules.proofs.levels.knows_levels.Goals as goal

pub returns : goal.returns
returns c =
    subst (λ (b : Bool). (b ≡ true) ↔ KnowsShown (facts c.args.j.now)) (sym c.are_all_known.ensures) (knows_shown c.args.j.now)
