-- The keys of a table of groups are the ids of its groups, no two of which are the same.
use Rattle.std.proofs.Common.{◌≡◌, false, ◌||◌, List, [], ◌∷◌, map, refl, ◌∙◌, ap}
use Rattle.std.specs.List.{AllByRecursion, IsDistinct}
use Rattle.std.specs.Map.{keys_of}
use Rattle.std.specs.Cmp.Lexicographic.{pointwise}
use Rattle.std.specs.Prelude.{nat_eq}
use Rattle.std.proofs.lemmas.Cmp.{nat_list_eq_equiv}
use Rattle.sync_ids.specs.Values.{GroupValue}
use Rattle.sync_rules.specs.Consistency.{ids_of_groups}
use Rattle.sync_rules.specs.Facts.{Id}
use Rattle.sync_rules.specs.Lists.{has_repeat, is_among}
use Rattle.visibility_table.specs.Table.{known}

not_among : (id : Id) (es : List (Id × GroupValue)) → AllByRecursion (λ y. pointwise nat_eq id y ≡ false) (keys_of es)
    → is_among (ids_of_groups (map known es)) id ≡ false
not_among id [] all = refl
not_among id (e ∷ es) all =
    ap (λ b. b || is_among (ids_of_groups (map known es)) id) (nat_list_eq_equiv.symm e.0 id ∙ all.0) ∙ not_among id es all.1

pub keys_distinct : (es : List (Id × GroupValue)) → IsDistinct (pointwise nat_eq) (keys_of es) → has_repeat (ids_of_groups (map known es)) ≡ false
unfolding IsDistinct
keys_distinct [] d = refl
keys_distinct (e ∷ es) d =
    ap (λ b. b || has_repeat (ids_of_groups (map known es))) (not_among e.0 es d.0) ∙ keys_distinct es d.1
