-- The ids so far are counted in their slots.
use Rattle.session_core.proofs.Counting.{IsCounted}
use Rattle.session_core.proofs.first_ids.count_slots.Given as goal

abbrev pub invariant-loop-id : goal.invariant-loop-id
invariant-loop-id l = IsCounted l.slots l.ids l.id-index l.counts.items
