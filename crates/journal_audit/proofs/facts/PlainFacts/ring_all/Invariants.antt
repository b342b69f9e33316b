-- What rang changes no facts.
use Rattle.journal_audit.specs.Changes.{BecomesFacts}
use Rattle.journal_audit.specs.Plain.{facts_of}
use Rattle.journal_audit.proofs.facts.PlainFacts.ring_all.Given as goal

abbrev pub invariant-loop-time : goal.invariant-loop-time
invariant-loop-time l = BecomesFacts l.initial.self l.self (facts_of l.initial.self)
