-- Counts that begin at 0.
use Rattle.std.proofs.Common.{◌≡◌, ℕ, zero, suc, refl, replicate}
use Rattle.std.specs.Prelude.{slice_index}

pub zeros : (n i : ℕ) → slice_index (replicate n 0) i ≡ 0
zeros zero i = refl
zeros (suc n) zero = refl
zeros (suc n) (suc i) = zeros n i
