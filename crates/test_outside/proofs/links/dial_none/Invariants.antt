use Rattle.std.proofs.Common.{◌≡◌}
use Rattle.test_outside.proofs.links.dial_none.Given as goal

abbrev pub invariant-loop-spec : goal.invariant-loop-spec
invariant-loop-spec g l = (g.H.Disk.tells l.host).links.dialled ≡ (g.H.Disk.tells l.initial.host).links.dialled
