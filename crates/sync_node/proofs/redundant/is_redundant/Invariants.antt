use Rattle.sync_node.proofs.CourseRuns.{NoneSoFar}
use Rattle.sync_node.proofs.redundant.is_redundant.Given as goal

-- none of the links so far is kept rather than this one
abbrev pub invariant-rivals : goal.invariant-rivals
invariant-rivals l = NoneSoFar l.links l.place l.other
