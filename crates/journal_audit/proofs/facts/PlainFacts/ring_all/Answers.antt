use Rattle.journal_audit.proofs.Brought.{brought_then}
use Rattle.journal_audit.proofs.facts.PlainFacts.ring_all.Goals as goal

pub loop-time-preserved : goal.loop-time-preserved
loop-time-preserved c = brought_then c.args.self.now c.loop-time.self c.ring.new.self c.loop-time.invariant c.in_ok-ring.ensures
