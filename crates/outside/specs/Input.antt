-- What reading an input whole leaves, by its answer.
use Rattle.std.specs.Prelude.{◌≡◌, ℕ, ◌≤◌, List, [], ◌∷◌, ◌++◌, length, Option, Result, Ok, Err}
use Rattle.std.specs.Io.KnownBytes.{Consumes, IsAtEnd}
use Rattle.outside.specs.Streams.{Stream}
use Rattle.outside.specs.declared.input.InputFault.{InputFault}
use Rattle.outside.specs.declared.input.InputFault.TheVariants.{Memory, ReadFault, TooMuch}

-- read to the end: all bytes, which are not over the limit
pub record ReadsAll (limit : ℕ) (old new : Option (List ℕ)) (to : List ℕ) : Type 0 where
  pub consumed : Consumes old new to
  pub at_end : IsAtEnd new
  pub within : length to ≤ limit

-- one byte more than the limit was read, and all but that byte kept
pub record ReadsTooMuch (limit : ℕ) (old new : Option (List ℕ)) (to : List ℕ) : Type 0 where
  pub byte : ℕ
  pub consumed : Consumes old new (to ++ byte ∷ [])
  pub full : length to ≡ limit

-- all bytes that were read are kept, and they are not over the limit
pub record ReadsPart (limit : ℕ) (old new : Option (List ℕ)) (to : List ℕ) : Type 0 where
  pub consumed : Consumes old new to
  pub within : length to ≤ limit

abbrev pub ReadsInput : ℕ → (old new : Stream) → List ℕ → Result (Unit {0}) InputFault → Type 0
ReadsInput limit old new to (Ok _) = ReadsAll limit old.bytes new.bytes to
ReadsInput limit old new to (Err TooMuch) = ReadsTooMuch limit old.bytes new.bytes to
ReadsInput limit old new to (Err ReadFault) = ReadsPart limit old.bytes new.bytes to
ReadsInput limit old new to (Err Memory) = ReadsPart limit old.bytes new.bytes to
