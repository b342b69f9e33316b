use Rattle.std.proofs.Common.{sym}
use Rattle.message_graph.proofs.Marks.{none_clear}
use Rattle.message_graph.proofs.states.first_in.Goals as goal

pub returns-then-not-is_used : goal.returns-then-not-is_used
returns-then-not-is_used c = sym (none_clear c.args.ready.now (c.requires c.if-not-is_used.true))
