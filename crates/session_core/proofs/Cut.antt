-- A list that is cut has at most as many elements as it was cut at.
use Rattle.std.proofs.Common.{◌≡◌, ℕ, ◌≤◌, List, length, take, ap, arith}
use Rattle.std.proofs.Math.ListN.{length-take}

pub cut_short : {A : Type 0} (most : ℕ) (whole ids : List A) → ids ≡ take most whole → length ids ≤ most
cut_short most whole ids cut = omega (arith, ap length cut, length-take most whole)
