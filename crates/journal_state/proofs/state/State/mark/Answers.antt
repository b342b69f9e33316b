use Rattle.std.proofs.Common.{◌≡◌, ℕ, Option, subst, ◌∙◌}
use Rattle.sync_rules.specs.Facts.{change_row}
use Rattle.sync_rules.specs.Views.{IsFound, IsPlace}
use Rattle.journal_state.specs.Marks.{marked}
use Rattle.journal_state.specs.Whole.{id_at}
use Rattle.journal_state.proofs.Listed.{id_there}
use Rattle.journal_state.proofs.state.State.mark.Goals as goal

pub mark_at-requires-clause-held : goal.mark_at-requires-clause-held
mark_at-requires-clause-held c =
    let place : IsPlace c.args.self.now.facts.held c.args.id.now c.unwrap-number.result =
    subst (λ (o : Option ℕ). IsFound c.args.self.now.facts.held c.args.id.now o) c.unwrap-number.ensures c.find.ensures.found in
    place.within

pub returns-clause-facts : goal.returns-clause-facts
returns-clause-facts c =
    let old = c.args.self.now.facts in
    let place : IsPlace old.held c.args.id.now c.unwrap-number.result = subst (λ (o : Option ℕ). IsFound old.held c.args.id.now o) c.unwrap-number.ensures c.find.ensures.found in
    let same : id_at old.held c.unwrap-number.result ≡ c.args.id.now = id_there old.held c.unwrap-number.result place.message place.stands ∙ place.named in
    c.mark_at.ensures.facts ∙ (λ i. record old { rows = change_row old.rows c.args.contact (same i) (marked c.args.mark) })
