use Rattle.std.proofs.Common.{sym, ◌∙◌, arith}
use Rattle.entry_codec.specs.Payloads.{names_of}
use Rattle.journal_migration.proofs.FirstIds.{first_there, id_there, none_there, past_there}
use Rattle.journal_migration.proofs.first_names.FirstNamesNames.name.Goals as goal

pub returns-then-n-self : goal.returns-then-n-self
returns-then-n-self c =
    sym (past_there c.args.self.now.count (names_of c.args.self.now.state.now.facts) c.args.n
    (omega (arith, c.if-n-self.true)))

pub returns-then-n-held : goal.returns-then-n-held
returns-then-n-held c =
    sym c.id_at.ensures ∙ id_there c.args.self.now.state.now.facts.held c.args.n
    ∙ sym (first_there c.args.self.now.count (names_of c.args.self.now.state.now.facts) c.args.n
    (omega (arith, c.if-n-self.false)))

pub returns-else-n-held : goal.returns-else-n-held
returns-else-n-held c =
    sym (first_there c.args.self.now.count (names_of c.args.self.now.state.now.facts) c.args.n
    (omega (arith, c.if-n-self.false))
    ∙ none_there c.args.self.now.state.now.facts.held c.args.n
    (omega (arith, c.held.ensures, c.if-n-held.false)))
