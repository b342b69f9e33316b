use Rattle.std.proofs.Common.{List, sym, ap, ◌∙◌}
use Rattle.sync_rules.specs.Lists.{is_among}
use Rattle.sync_rules.specs.Facts.{Id, wanted_from}
use Rattle.journal_state.specs.Whole.{StateValue}
use Rattle.journal_state.proofs.Wants.{wants_found}
use Rattle.journal_state.proofs.view.StateView.is_wanted.Goals as goal

pub returns : goal.returns
returns c =
    c.is_wanted.ensures
    ∙ (ap (λ (ids : List Id). is_among ids c.args.id.now) (sym (wants_found c.self.inside.retry c.self.inside.table.contacts c.args.contact c.self.invariant.state.free_wants))
    ∙ ap (λ (v : StateValue). is_among (wanted_from v.facts.wanted c.args.contact) c.args.id.now) c.self.view_is)
