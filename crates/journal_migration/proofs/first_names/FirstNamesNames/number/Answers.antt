use Rattle.std.proofs.Common.{take, sym, ap, ◌∙◌, arith}
use Rattle.std.specs.Option.{is_some}
use Rattle.entry_codec.specs.Payloads.{names_of}
use Rattle.journal_migration.proofs.FirstIds.{place_first, place_none, place_past, placed_among}
use Rattle.journal_migration.proofs.FirstIds.{same_place}
use Rattle.journal_migration.proofs.first_names.FirstNamesNames.number.Goals as goal

pub returns-in_err-number-clause-place : goal.returns-in_err-number-clause-place
returns-in_err-number-clause-place c =
    let ids = names_of c.args.self.now.state.now.facts in
    c.from_residual.ensures
    ∙ sym (place_none c.args.self.now.count ids c.args.id.now
    (sym (same_place c.args.self.now.state.now.facts.held c.args.id.now)
    ∙ sym c.in_err-number.ensures.place))

pub returns-in_err-number-clause-known : goal.returns-in_err-number-clause-known
returns-in_err-number-clause-known c =
    let ids = names_of c.args.self.now.state.now.facts in
    ap is_some
    (c.from_residual.ensures
    ∙ sym (place_none c.args.self.now.count ids c.args.id.now
    (sym (same_place c.args.self.now.state.now.facts.held c.args.id.now)
    ∙ sym c.in_err-number.ensures.place)))
    ∙ placed_among (take c.args.self.now.count ids) c.args.id.now

pub returns-then-number-self-clause-place : goal.returns-then-number-self-clause-place
returns-then-number-self-clause-place c =
    let ids = names_of c.args.self.now.state.now.facts in
    sym (place_first c.args.self.now.count ids c.args.id.now c.in_ok-number.number
    (sym (same_place c.args.self.now.state.now.facts.held c.args.id.now)
    ∙ sym c.in_ok-number.ensures.place) (omega (arith, c.if-number-self.true)))

pub returns-then-number-self-clause-known : goal.returns-then-number-self-clause-known
returns-then-number-self-clause-known c =
    let ids = names_of c.args.self.now.state.now.facts in
    ap is_some
    (sym (place_first c.args.self.now.count ids c.args.id.now c.in_ok-number.number
    (sym (same_place c.args.self.now.state.now.facts.held c.args.id.now)
    ∙ sym c.in_ok-number.ensures.place) (omega (arith, c.if-number-self.true))))
    ∙ placed_among (take c.args.self.now.count ids) c.args.id.now

pub returns-else-number-self-clause-place : goal.returns-else-number-self-clause-place
returns-else-number-self-clause-place c =
    let ids = names_of c.args.self.now.state.now.facts in
    sym (place_past c.args.self.now.count ids c.args.id.now c.in_ok-number.number
    (sym (same_place c.args.self.now.state.now.facts.held c.args.id.now)
    ∙ sym c.in_ok-number.ensures.place) (omega (arith, c.if-number-self.false)))

pub returns-else-number-self-clause-known : goal.returns-else-number-self-clause-known
returns-else-number-self-clause-known c =
    let ids = names_of c.args.self.now.state.now.facts in
    ap is_some
    (sym (place_past c.args.self.now.count ids c.args.id.now c.in_ok-number.number
    (sym (same_place c.args.self.now.state.now.facts.held c.args.id.now)
    ∙ sym c.in_ok-number.ensures.place) (omega (arith, c.if-number-self.false))))
    ∙ placed_among (take c.args.self.now.count ids) c.args.id.now
