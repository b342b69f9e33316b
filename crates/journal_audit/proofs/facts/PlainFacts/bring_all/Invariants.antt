-- What was brought changes no facts.
use Rattle.journal_audit.specs.Changes.{BecomesFacts}
use Rattle.journal_audit.specs.Plain.{facts_of}
use Rattle.journal_audit.proofs.facts.PlainFacts.bring_all.Given as goal

abbrev pub invariant-loop : goal.invariant-loop
invariant-loop l = BecomesFacts l.initial.self l.self (facts_of l.initial.self)
