use Rattle.std.proofs.Common.{ap, ◌∙◌}
use Rattle.std.specs.Option.{is_some}
use Rattle.entry_codec.specs.Payloads.{names_of}
use Rattle.journal_migration.proofs.FirstIds.{placed_among, same_place}
use Rattle.sync_store.proofs.formats.HeldNamesNames.number.Goals as goal

pub returns-clause-place : goal.returns-clause-place
returns-clause-place c =
    c.find.ensures.place ∙ same_place c.args.self.now.state.now.facts.held c.args.id.now

pub returns-clause-known : goal.returns-clause-known
returns-clause-known c =
    ap is_some (c.find.ensures.place
    ∙ same_place c.args.self.now.state.now.facts.held c.args.id.now)
    ∙ placed_among (names_of c.args.self.now.state.now.facts) c.args.id.now
