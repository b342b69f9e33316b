-- The output of a request.
use Rattle.std.specs.Prelude.{◌≡◌, ℕ, List, ◌++◌, Some, Result, MatchResult}
use Rattle.outside.specs.Streams.{Stream}

-- what was written, and how often a write found no memory
pub record OutputValue : Type 0 where
  pub bytes : List ℕ
  pub faults : ℕ

abbrev pub output_told : OutputValue → Stream
output_told o = record { bytes = Some o.bytes; faults = o.faults }

-- all of these bytes were written, or none
abbrev pub PutsBytes : {T E : Type 0} → List ℕ → (old new : List ℕ) → Result T E → Type 0
PutsBytes bytes old new result = MatchResult result (λ _. new ≡ old ++ bytes) (λ _. new ≡ old)
