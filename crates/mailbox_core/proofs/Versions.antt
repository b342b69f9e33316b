-- A record closes its link where its list of versions lacks that of this node.
use Rattle.std.proofs.Common.{◌≡◌, ℕ, Bool, true, false, cond, List, refl, sym, ap}
use Rattle.std.specs.Prelude.{◌↔◌, IsTrue, not}
use Rattle.std.specs.List.{Contains}
use Rattle.std.proofs.lemmas.Bool.{false≢true}
use Rattle.sync_course.specs.Links.{has_zero}
use Rattle.sync_course.proofs.LinkLaws.{contains_zero, zero_contained}

-- a list is foreign where it lacks that version
pub foreign_is : (versions : List ℕ) (b : Bool) → (IsTrue b ↔ Contains versions 0) → not b ≡ cond
    (has_zero versions)
    false true
foreign_is versions true has =
    ap (λ z. cond z false true) (sym (contains_zero versions (has.0 refl)))
foreign_is versions false has = by (has_zero versions) refl
  where
    by : (z : Bool) → has_zero versions ≡ z → true ≡ cond z false true
    by true is = absurd (false≢true (has.1 (zero_contained versions is)))
    by false is = refl
