-- The frame that is found at a place of a file's bytes.
use Rattle.std.specs.Prelude.{◌≡◌, ℕ, ◌+◌, ◌≤◌, List, length, take, drop}
use Rattle.outside.specs.Frames.{broken, closed, frame_at, framed}
use Rattle.journal_audit.specs.declared.frames.Gate.{Gate}
use Rattle.journal_audit.specs.declared.frames.Gate.TheVariants as gate

-- a frame whose payload has this length
pub record IsOpenAt (bytes : List ℕ) (place size : ℕ) : Type 0 where
  pub whole : place + 5 + size ≤ length bytes
  pub frame : frame_at bytes place ≡ framed (take size (drop (place + 5) bytes))

-- what stands at a place
abbrev pub IsGateAt : List ℕ → ℕ → Gate → Type 0
IsGateAt bytes place gate.Closed = frame_at bytes place ≡ closed
IsGateAt bytes place gate.Broken = frame_at bytes place ≡ broken
IsGateAt bytes place (gate.Open size) = IsOpenAt bytes place size
