-- Which of several links is kept.
use Rattle.std.specs.Prelude.{◌≡◌, ◌≢◌, ℕ, ◌<◌, List, [], length, slice_index_or}
use Rattle.std.specs.Ordering.{nat_cmp}
use Rattle.std.specs.declared.cmp.Ordering.{Ordering}
use Rattle.std.specs.declared.cmp.Ordering.TheVariants as ordering
use Rattle.std.specs.Cmp.Lexicographic.{slice_cmp}

-- how the nonces at two places compare, by their bytes
abbrev pub compared : List (List ℕ) → ℕ → ℕ → Ordering
compared nonces a b = slice_cmp nat_cmp (slice_index_or nonces a []) (slice_index_or nonces b [])

-- the place of the first greatest: no nonce is greater, and each before it is less
pub record IsFirstGreatest (nonces : List (List ℕ)) (place : ℕ) : Type 0 where
  pub within : place < length nonces
  pub greatest : (other : ℕ) → other < length nonces → compared nonces other place ≢ ordering.Greater
  pub first : (other : ℕ) → other < place → compared nonces other place ≡ ordering.Less
