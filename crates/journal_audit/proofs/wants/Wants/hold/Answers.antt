use Rattle.std.proofs.Common.{ap, ◌∙◌, rules}
use Rattle.std.specs.FinMap as fin_map
use Rattle.std.specs.Ordering.{nat_cmp}
use Rattle.std.proofs.lemmas.Map.Made.{map_same_pairs}
use Rattle.sync_rules.specs.Facts.{Wants, wanted_by_none}
use Rattle.sync_rules.specs.Lists.{without}
use Rattle.journal_audit.proofs.WantedLists.{held_by_none}
use Rattle.journal_audit.proofs.wants.Wants.hold.Goals as goal

pub returns : goal.returns
returns c =
    ap (λ es. fin_map.from_entries {R = nat_cmp} es) (map_same_pairs _ (without c.args.id.now) _ (λ k v b w f' t. search rules) _ _ c.retain.ensures.filtered)
    ∙ held_by_none c.self.inside.wants.entries c.args.id.now
    ∙ ap (λ (wants : Wants). wanted_by_none wants c.args.id.now) c.self.view_is
