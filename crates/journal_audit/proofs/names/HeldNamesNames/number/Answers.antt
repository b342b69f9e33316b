use Rattle.std.proofs.Common.{ap, ◌∙◌, is_some}
use Rattle.entry_codec.specs.Naming.{place_in}
use Rattle.entry_codec.specs.Payloads.{names_of}
use Rattle.sync_rules.specs.Lists.{is_among}
use Rattle.journal_audit.specs.declared.facts.PlainFacts.{PlainFacts}
use Rattle.journal_audit.specs.Plain.{facts_of}
use Rattle.journal_audit.specs.Lines.{held_in}
use Rattle.journal_audit.proofs.Named.{placed_among, same_place}
use Rattle.journal_audit.proofs.names.HeldNamesNames.number.Goals as goal

pub returns-clause-place : goal.returns-clause-place
returns-clause-place c =
    c.find.ensures.place ∙ (same_place (held_in c.self.inside.facts.now.messages.lines) c.args.id.now
    ∙ ap (λ (p : PlainFacts). place_in (names_of (facts_of p)) c.args.id.now) c.self.view_is)

pub returns-clause-known : goal.returns-clause-known
returns-clause-known c =
    ap is_some (c.find.ensures.place ∙ same_place (held_in c.self.inside.facts.now.messages.lines) c.args.id.now)
    ∙ (placed_among (names_of (facts_of c.self.inside.facts.now)) c.args.id.now
    ∙ ap (λ (p : PlainFacts). is_among (names_of (facts_of p)) c.args.id.now) c.self.view_is)
