-- What sources and sinks tell, and what calls leave of them.
use Rattle.std.specs.Prelude.{◌≡◌, ◌⊎◌, ℕ, List, ◌++◌, Option}
use Rattle.std.specs.Io.KnownBytes.{Appends}
use Rattle.outside.specs.Faults.{CountRose}

-- A stream: the bytes left of a source, or those written to a sink, where they are told; and how often a call of it
-- failed, a count that never falls and stands still at 2^64 - 1.
pub record Stream : Type 0 where
  pub bytes : Option (List ℕ)
  pub faults : ℕ

-- nothing was read or written, and no call was made that failed
pub record IsIdle (old new : Stream) : Type 0 where
  pub same : new.bytes ≡ old.bytes
  pub same_faults : new.faults ≡ old.faults

-- a sink got a front of the text
pub record GetsFront (old new : Stream) (text : List ℕ) : Type 0 where
  pub got : List ℕ
  pub rest : List ℕ
  pub front : text ≡ got ++ rest
  pub appended : Appends old.bytes new.bytes got

-- a sink got a front of the text, and the whole of it unless one of its calls failed
abbrev pub GetsText : (old new : Stream) → List ℕ → Type 0
GetsText old new text = GetsFront old new text × (Appends old.bytes new.bytes text ⊎ CountRose old.faults new.faults)
