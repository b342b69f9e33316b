use Rattle.std.proofs.Common.{subst}
use Rattle.journal_state.specs.Whole.{StateValue}
use Rattle.journal_state.specs.Inside.{parts}
use Rattle.journal_state.specs.Lent.{StandsForRows}
use Rattle.journal_state.proofs.Lending.{rows_lent}
use Rattle.journal_state.proofs.state.State.retry.Goals as goal

pub returns : goal.returns
returns c = subst (λ (v : StateValue). StandsForRows v c.self.inside.retry) c.self.view_is (rows_lent (parts c.self.inside) c.self.invariant.state)
