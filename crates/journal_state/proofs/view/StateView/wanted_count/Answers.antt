use Rattle.std.proofs.Common.{List, length, sym, ap, ◌∙◌}
use Rattle.sync_rules.specs.Facts.{Id, wanted_from}
use Rattle.journal_state.specs.Whole.{StateValue}
use Rattle.journal_state.proofs.Wants.{wants_found}
use Rattle.journal_state.proofs.view.StateView.wanted_count.Goals as goal

pub returns : goal.returns
returns c =
    c.wanted_count.ensures
    ∙ (ap (λ (ids : List Id). length ids) (sym (wants_found c.self.inside.retry c.self.inside.table.contacts c.args.contact c.self.invariant.state.free_wants))
    ∙ ap (λ (v : StateValue). length (wanted_from v.facts.wanted c.args.contact)) c.self.view_is)
