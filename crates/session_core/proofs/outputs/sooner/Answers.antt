-- The list is of at most MAX_IDS ids.
use Rattle.std.proofs.Common.{◌≡◌, ℕ, ◌≤◌, min, List, length, take, sym, subst, arith}
use Rattle.std.proofs.lemmas.List.{length-take}
use Rattle.sync_ids.specs.declared.lists.TheConstants.{MAX_IDS}
use Rattle.sync_rules.specs.Facts.{Id}
use Rattle.session_core.proofs.outputs.sooner.Goals as goal

few : (n : ℕ) (ids : List Id) → length (take n ids) ≤ n
few n ids = let e : length (take n ids) ≡ min n (length ids) = length-take n ids in omega (arith, e)

pub id_list-requires : goal.id_list-requires
id_list-requires g c = subst (λ (ids : List Id). length ids ≤ MAX_IDS) (sym c.in_ok-ids.ensures) (few MAX_IDS _)
