use Rattle.std.proofs.Common.{subst}
use Rattle.std.specs.List.{AllByRecursion}
use Rattle.journal_state.specs.Holding.{Holding, IsOwnId}
use Rattle.journal_state.proofs.OwnIds.{own_kept}
use Rattle.journal_state.proofs.messages.Messages.show_named.Goals as goal

pub returns : goal.returns
returns c = subst (λ (m : Holding). AllByRecursion IsOwnId m.held) c.self.view_is (own_kept c.self.inside.kept.items)
