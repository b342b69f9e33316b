-- The digest of several parts, each told apart by its length.
use Rattle.std.specs.Prelude.{◌≡◌, ℕ, ◌^◌, ◌<◌, List, [], ◌++◌, length}
use Rattle.std.specs.Int.{w32, to_be_bytes}
use Rattle.std.specs.List.{AllByRecursion, flat_map}
use Rattle.bramble_hash.specs.Blake2b.{State, Holds, blake2b}

-- a part as it is hashed: its length in four bytes, and its bytes
abbrev pub with_length : List ℕ → List ℕ
with_length part = to_be_bytes w32 (length part) ++ part

-- the bytes that are hashed for a list of parts
abbrev pub preimage : List (List ℕ) → List ℕ
preimage parts = flat_map with_length parts

-- the digest of 32 bytes of a list of parts
unfoldable pub hash : List (List ℕ) → List ℕ
hash parts = blake2b 32 [] (preimage parts)

-- the state has been given these parts, in this order
pub record HoldsParts (s : State) (parts : List (List ℕ)) : Type 0 where
  pub taken : Holds 32 s [] (preimage parts)

-- a part whose length fits four bytes
abbrev pub IsPart : List ℕ → Type 0
IsPart part = length part < 2 ^ 32

-- lists of parts that have one preimage are one list
abbrev pub PreimagesDiffer : Type 0
PreimagesDiffer =
    (parts others : List (List ℕ)) → AllByRecursion IsPart parts → AllByRecursion IsPart others
    → preimage parts ≡ preimage others → parts ≡ others
