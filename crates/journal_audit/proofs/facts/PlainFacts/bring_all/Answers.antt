use Rattle.journal_audit.proofs.Brought.{brought_then}
use Rattle.journal_audit.proofs.facts.PlainFacts.bring_all.Goals as goal

pub loop-preserved : goal.loop-preserved
loop-preserved c = brought_then c.args.self.now c.loop.self c.bring.new.self c.loop.invariant c.in_ok-bring.ensures
