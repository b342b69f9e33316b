use Rattle.retry_table.specs.Queues.{is_timely}
use Rattle.retry_table.proofs.Listing.{AreFound}
use Rattle.retry_table.proofs.places.timely_places.Given as goal
use Rattle.sync_ids.specs.declared.lists.TheConstants.{MAX_IDS}

abbrev pub invariant-loop-i : goal.invariant-loop-i
invariant-loop-i l = AreFound (is_timely l.times l.bound) l.rows MAX_IDS l.places.items l.from l._i
