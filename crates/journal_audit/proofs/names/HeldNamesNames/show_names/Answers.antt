use Rattle.std.proofs.Common.{subst}
use Rattle.entry_codec.specs.Naming.{AreNames}
use Rattle.entry_codec.specs.Payloads.{names_of}
use Rattle.journal_audit.specs.declared.facts.PlainFacts.{PlainFacts}
use Rattle.journal_audit.specs.Plain.{facts_of}
use Rattle.journal_audit.proofs.names.HeldNamesNames.show_names.Goals as goal

pub returns : goal.returns
returns c = subst (λ (p : PlainFacts). AreNames (names_of (facts_of p))) c.self.view_is c.self.invariant
