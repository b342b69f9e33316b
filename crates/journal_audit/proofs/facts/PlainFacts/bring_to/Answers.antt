use Rattle.journal_audit.proofs.Brought.{brought_then}
use Rattle.journal_audit.proofs.facts.PlainFacts.bring_to.Goals as goal

pub returns : goal.returns
returns c =
    brought_then c.args.self.now c.turn_to.new.self c.bring_all.new.self c.turn_to.ensures
    (brought_then c.turn_to.new.self c.ring_all.new.self c.bring_all.new.self c.in_ok-ring_all.ensures c.in_ok-bring_all.ensures)
