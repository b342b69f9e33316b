-- The wait doubles, and what is left is the sum that stops at 2^64 - 1.
use Rattle.std.proofs.Common.{◌*◌, ◌-◌, ◌^◌, min, ◌∙◌, ap}
use Rattle.plain_rules.proofs.RowScans.{doubled}
use Rattle.plain_rules.proofs.rows.expiry_of.Goals as goal

pub loop-tried-preserved : goal.loop-tried-preserved
loop-tried-preserved c =
    c.saturating_mul-wait.ensures
    ∙ (ap (λ w. min (w * 2) (2 ^ 64 - 1)) c.loop-tried.invariant ∙ doubled (2 * c.args.latency) c.loop-tried.tried c.loop-tried.auto.tried)
