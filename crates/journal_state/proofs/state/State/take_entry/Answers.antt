use Rattle.std.proofs.Common.{sym, ap, subst, ◌∙◌}
use Rattle.journal_state.specs.Taking.{CanTake}
use Rattle.journal_state.specs.Whole.{StateValue}
use Rattle.journal_state.proofs.CanTaken.{can_noted}
use Rattle.journal_state.proofs.Started.{never_empty}
use Rattle.journal_state.proofs.Took.{noted_takes}
use Rattle.journal_state.proofs.state.State.take_entry.Goals as goal

pub take_noted-requires-clause-can : goal.take_noted-requires-clause-can
take_noted-requires-clause-can c =
    subst (λ (s : StateValue). CanTake s c.args.entry) (sym c.note.ensures) (can_noted c.args.self.now c.args.entry c.requires.can)

pub take_noted-requires-clause-started : goal.take_noted-requires-clause-started
take_noted-requires-clause-started c = λ empty.
    never_empty c.args.self.now.facts.start c.args.entry (ap (λ (s : StateValue). s.facts.start) (sym c.note.ensures) ∙ empty)

pub returns : goal.returns
returns c = noted_takes c.args.self.now c.note.new.self c.take_noted.new.self c.args.entry c.note.ensures c.take_noted.ensures
