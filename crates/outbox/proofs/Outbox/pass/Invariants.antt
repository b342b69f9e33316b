use Rattle.std.proofs.Common.{◌≡◌, ◌≤◌, length, drop}
use Rattle.outbox.proofs.Outbox.pass.Given as goal

abbrev pub invariant-chunks : goal.invariant-chunks
invariant-chunks l = (l.left ≤ length l.self) × (drop l.left l.self ≡ drop l.count l.initial.self)

abbrev pub decreases-chunks : goal.decreases-chunks
decreases-chunks l = l.left
