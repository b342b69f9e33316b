use Rattle.std.proofs.Common.{List, ap, not, ◌∙◌, rules}
use Rattle.std.proofs.lemmas.Fn.{filter_same}
use Rattle.sync_rules.specs.Facts.{Id}
use Rattle.sync_rules.specs.Lists.{same_id, without}
use Rattle.journal_audit.proofs.WantedLists.{without-filter}
use Rattle.journal_audit.proofs.wants.WantedIds.remove.Goals as goal

pub returns : goal.returns
returns c =
    filter_same _ (λ (x : Id). not (same_id x c.args.id.now)) _ (λ x b f' k. search rules) _ _ c.retain.ensures.filtered
    ∙ without-filter c.args.id.now c.self.inside.ids.items
    ∙ ap (λ (l : List Id). without c.args.id.now l) c.self.view_is
