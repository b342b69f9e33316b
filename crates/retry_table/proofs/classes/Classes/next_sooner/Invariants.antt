-- What was found is the first of those that were tried less often than the queues that were searched.
use Rattle.std.proofs.Common.{◌≡◌, drop}
use Rattle.std.specs.List.{position_from}
use Rattle.retry_table.specs.Queues.{is_sooner_below}
use Rattle.retry_table.proofs.classes.Classes.next_sooner.Given as goal

abbrev pub invariant-loop-tries : goal.invariant-loop-tries
invariant-loop-tries l = l.first ≡ position_from (is_sooner_below l.latency l.now l.tries) l.from (drop l.from l.rows)
