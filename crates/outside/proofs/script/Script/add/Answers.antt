use Rattle.outside.proofs.ScriptSteps.{added}
use Rattle.outside.proofs.script.Script.add.Goals as goal

pub returns-in_ok-push-clause-ok : goal.returns-in_ok-push-clause-ok
returns-in_ok-push-clause-ok c =
    added c.self.inside.answers.items c.push.new.self.items c.self.inside.next c.self.inside.at c.args.answer c.args.self.now c.self.invariant c.in_ok-push.ensures.items c.self.view_is
