use Rattle.retry_table.specs.Queues.{IsUntimely}
use Rattle.retry_table.proofs.blocks.next_in_block.Given as goal

abbrev pub invariant-loop-n : goal.invariant-loop-n
invariant-loop-n l = IsUntimely l.times l.bound l.rows l.from l.n
