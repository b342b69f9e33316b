-- The kept one is the first greatest so far.
use Rattle.session_core.proofs.Greatest.{IsBest}
use Rattle.session_core.proofs.links.keep.Given as goal

abbrev pub invariant-loop-place : goal.invariant-loop-place
invariant-loop-place l = IsBest l.nonces l.place l.kept
