use Rattle.std.proofs.Common.{List, sym, ap, subst, ◌∙◌}
use Rattle.sync_rules.specs.declared.entries.Entry.{Entry}
use Rattle.sync_rules.specs.Facts.{after_all}
use Rattle.session_core.specs.Known.{IsOfAll}
use Rattle.journal_state.specs.Taking.{CanTakeAll}
use Rattle.journal_state.proofs.CanTaken.{can_batch}
use Rattle.journal_state.proofs.state.State.take_batch.Goals as goal

pub take_all-requires-clause-can : goal.take_all-requires-clause-can
take_all-requires-clause-can c =
    subst (λ (es : List Entry). CanTakeAll c.args.self.now es) (sym c.into_entries.ensures.value)
    (can_batch c.requires.allowed.0 c.args.self.now c.args.batch c.requires.allowed.1 c.requires.kind c.requires.plain c.requires.room
    c.requires.numbers c.show_sound.ensures.distinct c.show_sound.ensures.fresh)

pub take_all-requires-clause-named : goal.take_all-requires-clause-named
take_all-requires-clause-named c = subst (IsOfAll c.args.id) (sym c.into_entries.ensures.value) c.requires.named

pub returns-clause-facts : goal.returns-clause-facts
returns-clause-facts c = c.take_all.ensures.facts ∙ ap (after_all c.args.self.now.facts) c.into_entries.ensures.value

pub returns-clause-knows : goal.returns-clause-knows
returns-clause-knows c = c.take_all.ensures.knows
