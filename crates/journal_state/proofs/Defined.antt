-- The definition of the group of an id, by the group's number.
use Rattle.std.proofs.Common.{◌≡◌, List, refl, sym, ◌∙◌, ap, Option, Some, None, slice_get, ℕ}
use Rattle.std.specs.Option.{option_map}
use Rattle.sync_ids.specs.Values.{GroupValue}
use Rattle.sync_rules.specs.Facts.{Id, Known, group_at}
use Rattle.sync_rules.specs.Scans.{def_at}

mapped : (o : Option Known) → option_map (λ (g : Known). g.def) o ≡ def_at o
mapped None = refl
mapped (Some g) = refl

pub defined : (groups : List Known) (id : Id) (n : ℕ) (def : GroupValue) → slice_get groups n ≡ group_at groups id
    → option_map (λ g. g.def) (slice_get groups n) ≡ Some def → Some def ≡ def_at (group_at groups id)
defined groups id n def at is = sym is ∙ (mapped (slice_get groups n) ∙ ap def_at at)
