-- The wait is doubled with each try but the first, and stops at 2^64 - 1.
use Rattle.std.proofs.Common.{◌≡◌, ◌*◌, ◌-◌, ◌^◌, min}
use Rattle.plain_rules.proofs.rows.expiry_of.Given as goal

abbrev pub invariant-loop-tried : goal.invariant-loop-tried
invariant-loop-tried l = l.wait ≡ min (2 * l.latency * 2 ^ (l.tried - 1)) (2 ^ 64 - 1)
