use Rattle.std.proofs.Common.{arith, sym, ◌∙◌}
use Rattle.journal_migration.proofs.FirstIds.{id_there, none_there}
use Rattle.sync_store.proofs.formats.HeldNamesNames.name.Goals as goal

pub returns-then-n-held : goal.returns-then-n-held
returns-then-n-held c = sym c.id_at.ensures ∙ id_there c.args.self.now.state.now.facts.held c.args.n

pub returns-else-n-held : goal.returns-else-n-held
returns-else-n-held c =
    sym (none_there c.args.self.now.state.now.facts.held c.args.n
    (omega (arith, c.held.ensures, c.if-n-held.false)))
