use Rattle.std.proofs.Common.{◌≡◌, vec_len}
use Rattle.stay_links.proofs.stay_host.no_lines.Given as goal

abbrev pub invariant-loop-i : goal.invariant-loop-i
invariant-loop-i l = vec_len l.places ≡ l.i
