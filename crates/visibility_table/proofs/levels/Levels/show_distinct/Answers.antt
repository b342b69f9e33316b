use Rattle.std.proofs.Common.{◌≡◌, false, subst}
use Rattle.sync_rules.specs.Consistency.{ids_of_groups}
use Rattle.sync_rules.specs.Lists.{has_repeat}
use Rattle.visibility_table.specs.Table.{TableOfLevels}
use Rattle.visibility_table.proofs.Distinct.{keys_distinct}
use Rattle.visibility_table.proofs.levels.Levels.show_distinct.Goals as goal

pub returns : goal.returns
returns c =
    subst (λ (t : TableOfLevels). has_repeat (ids_of_groups t.groups) ≡ false) c.self.view_is
    (keys_distinct c.self.inside.groups.entries c.len-groups.ensures.unique)
