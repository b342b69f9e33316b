use Rattle.std.proofs.Common.{◌<◌}
use Rattle.test_outside.proofs.hosts.hear_all.Given as goal

abbrev pub invariant-loop-hearing : goal.invariant-loop-hearing
invariant-loop-hearing g l = 0 < (g.H.Disk.tells l.host).links.dialled
