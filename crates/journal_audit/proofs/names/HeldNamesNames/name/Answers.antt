use Rattle.std.proofs.Common.{ap, sym, ◌∙◌}
use Rattle.std.specs.List.{slice_get}
use Rattle.std.specs.Option.{option_copied}
use Rattle.entry_codec.specs.Payloads.{names_of}
use Rattle.journal_audit.specs.declared.facts.PlainFacts.{PlainFacts}
use Rattle.journal_audit.specs.Plain.{facts_of}
use Rattle.journal_audit.proofs.Named.{id_there, none_there}
use Rattle.journal_audit.proofs.names.HeldNamesNames.name.Goals as goal

pub returns-in_err-get : goal.returns-in_err-get
returns-in_err-get c =
    c.from_residual.ensures ∙ (none_there c.self.inside.facts.now.messages.lines c.args.n (sym c.get.ensures ∙ ap option_copied c.in_err-get.was)
    ∙ ap (λ (p : PlainFacts). slice_get (names_of (facts_of p)) c.args.n) c.self.view_is)

pub returns : goal.returns
returns c =
    id_there c.self.inside.facts.now.messages.lines c.args.n c.in_ok-get.field-0.now (sym c.get.ensures ∙ ap option_copied c.in_ok-get.was)
    ∙ ap (λ (p : PlainFacts). slice_get (names_of (facts_of p)) c.args.n) c.self.view_is
