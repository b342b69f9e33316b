use Rattle.retry_table.specs.Queues.{is_sought}
use Rattle.retry_table.specs.Turns.{shown}
use Rattle.retry_table.proofs.Listing.{AreFound}
use Rattle.retry_table.proofs.contact_rows.ContactRows.all_sought.Given as goal
use Rattle.sync_ids.specs.declared.lists.TheConstants.{MAX_IDS}

abbrev pub invariant-loop-i : goal.invariant-loop-i
invariant-loop-i l = AreFound (is_sought l.sought) (shown l.released l.self.turns.entries l.self.queues) MAX_IDS l.places.items l.from l._i
