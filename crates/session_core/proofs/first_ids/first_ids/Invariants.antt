-- What was gathered of the ids so far, and what the set has of them.
use Rattle.session_core.proofs.First.{IsGathered}
use Rattle.session_core.proofs.first_ids.first_ids.Given as goal

abbrev pub invariant-loop-id : goal.invariant-loop-id
invariant-loop-id l = IsGathered l.counts.items l.ids l.id-index l.known.keys l.distinct.items
