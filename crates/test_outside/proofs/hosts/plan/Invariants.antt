use Rattle.std.proofs.Common.{◌≡◌}
use Rattle.outside.specs.MemHost.{links_of}
use Rattle.test_outside.proofs.hosts.plan.Given as goal

abbrev pub invariant-loop-planned : goal.invariant-loop-planned
invariant-loop-planned g l = links_of l.host.disk ≡ links_of l.initial.host.disk
