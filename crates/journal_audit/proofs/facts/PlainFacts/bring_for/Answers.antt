use Rattle.journal_audit.proofs.Brought.{brought_then}
use Rattle.journal_audit.proofs.facts.PlainFacts.bring_for.Goals as goal

pub returns : goal.returns
returns c = brought_then c.args.self.now c.bring_to.new.self c.pass_for.new.self c.in_ok-bring_to.ensures c.pass_for.ensures
