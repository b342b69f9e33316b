use Rattle.std.proofs.Common.{◌≡◌, [], replicate}
use Rattle.outside.proofs.mem_host.no_scripts.Given as goal

abbrev pub invariant-loop-i : goal.invariant-loop-i
invariant-loop-i l = l.scripts.items ≡ replicate l.i []
