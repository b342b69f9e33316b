use Rattle.std.proofs.Common.{sym}
use Rattle.retry_table.proofs.blocks.is_timely.Goals as goal

pub returns-then-not-may_be_timely : goal.returns-then-not-may_be_timely
returns-then-not-may_be_timely c = sym (c.may_be_timely.ensures c.if-not-may_be_timely.true)
