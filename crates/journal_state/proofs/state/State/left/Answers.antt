use Rattle.std.proofs.Common.{sym, ap, ◌∙◌}
use Rattle.sync_rules.specs.Left.{left_of}
use Rattle.journal_state.specs.Whole.{StateValue}
use Rattle.journal_state.specs.Inside.{parts}
use Rattle.journal_state.proofs.Fated.{all_left}
use Rattle.journal_state.proofs.state.State.left.Goals as goal

pub returns-clause-count : goal.returns-clause-count
returns-clause-count c = c.left.ensures.count ∙ (sym (all_left (parts c.self.inside) c.self.invariant.state) ∙ ap (λ (v : StateValue). left_of v.facts) c.self.view_is)
