use Rattle.std.proofs.Common.{arith}
use Rattle.outside.proofs.ScriptSteps.{behind_part, behind_all}
use Rattle.outside.proofs.script.behind.Goals as goal

pub returns-then-room-left_in-clause-script : goal.returns-then-room-left_in-clause-script
returns-then-room-left_in-clause-script c =
    (behind_part c.args.answers.now c.args.next c.args.at c.args.room c.index-answers-next.result c.requires (omega arith) c.index-answers-next.is (omega (arith, c.left_in.ensures))).script

pub returns-then-room-left_in-clause-ready : goal.returns-then-room-left_in-clause-ready
returns-then-room-left_in-clause-ready c =
    (behind_part c.args.answers.now c.args.next c.args.at c.args.room c.index-answers-next.result c.requires (omega arith) c.index-answers-next.is (omega (arith, c.left_in.ensures))).ready

pub returns-else-room-left_in-clause-ready : goal.returns-else-room-left_in-clause-ready
returns-else-room-left_in-clause-ready c =
    (behind_all c.args.answers.now c.args.next c.args.at c.args.room c.index-answers-next.result c.requires (omega arith) c.index-answers-next.is (omega (arith, c.left_in.ensures))).ready

pub returns-else-room-left_in-clause-script : goal.returns-else-room-left_in-clause-script
returns-else-room-left_in-clause-script c =
    (behind_all c.args.answers.now c.args.next c.args.at c.args.room c.index-answers-next.result c.requires (omega arith) c.index-answers-next.is (omega (arith, c.left_in.ensures))).script
