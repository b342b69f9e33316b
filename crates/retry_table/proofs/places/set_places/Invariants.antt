use Rattle.retry_table.proofs.Listing.{AreFound}
use Rattle.retry_table.proofs.places.set_places.Given as goal
use Rattle.sync_ids.specs.declared.lists.TheConstants.{MAX_IDS}

abbrev pub invariant-loop-i : goal.invariant-loop-i
invariant-loop-i l = AreFound (λ is_in. is_in) l.set MAX_IDS l.places.items l.from l._i
