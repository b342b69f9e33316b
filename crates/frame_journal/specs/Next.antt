-- What reading the next frame answers.
use Rattle.std.specs.Prelude.{◌≡◌, ℕ, ◌+◌, ◌-◌, ◌≤◌, Bool, true, false, List, ◌∷◌, ◌++◌, length, take, drop, Option, None, Some, is_some, Result, Ok, Err, IfOk}
use Rattle.outside.specs.declared.failed.Failed.{Failed}
use Rattle.outside.specs.Outside.{Outside, MakesJust, MakesAtMost}
use Rattle.std.specs.Int.{w32, to_be_bytes}
use Rattle.outside.specs.declared.limits.TheConstants.{MAX_FRAME, MAX_JOURNAL}
use Rattle.outside.specs.Frames.{frame_at, frame_of, closed, broken, framed}
use Rattle.frame_journal.specs.declared.frame.Gate.{Gate}
use Rattle.frame_journal.specs.declared.frame.Gate.TheVariants as gate
use Rattle.frame_journal.specs.declared.fault.FrameFault.{FrameFault}
use Rattle.frame_journal.specs.declared.fault.FrameFault.TheVariants as fault
use Rattle.frame_journal.specs.Journal.{JournalValue}

-- an open gate with a length that a frame may have
pub record IsOpenGate (bytes : List ℕ) (place size : ℕ) : Type 0 where
  pub frame : frame_at bytes place ≡ framed (take size (drop (place + 5) bytes))
  pub whole : place + 5 + size ≤ length bytes
  pub head : take 5 (drop place bytes) ≡ 1 ∷ to_be_bytes w32 size

-- what stands at a place
abbrev pub IsGate : List ℕ → ℕ → Gate → Type 0
IsGate bytes place gate.Closed = frame_at bytes place ≡ closed
IsGate bytes place gate.Broken = frame_at bytes place ≡ broken
IsGate bytes place (gate.Open size) = IsOpenGate bytes place size

-- a size that an open gate answers
abbrev pub HasSize : ℕ → Gate → Type 0
HasSize place gate.Closed = Unit {0}
HasSize place gate.Broken = Unit {0}
HasSize place (gate.Open size) = (1 ≤ size) × (size ≤ MAX_FRAME) × (place + 6 + size ≤ MAX_JOURNAL)

-- what was read of a frame at a place
pub record FrameRead (bytes : List ℕ) (place : ℕ) (to : List ℕ) : Type 0 where
  pub frame : frame_at bytes place ≡ framed to
  pub behind : List ℕ
  pub spelled : drop place bytes ≡ frame_of to ++ behind

abbrev pub IsNextAt : List ℕ → ℕ → ℕ → List ℕ → Result (Option ℕ) FrameFault → Type 0
IsNextAt bytes file place to (Ok None) = frame_at bytes place ≡ closed
IsNextAt bytes file place to (Ok (Some size)) = FrameRead bytes place to
IsNextAt bytes file place to (Err (fault.Damaged at)) = (frame_at bytes place ≡ broken) × (at.file ≡ file) × (at.at ≡ place)
IsNextAt bytes file place to (Err fault.DiskFault) = Unit {0}
IsNextAt bytes file place to (Err fault.Memory) = Unit {0}

-- the length of a payload that was read
abbrev pub IsSizeOf : ℕ → ℕ → Option ℕ → Type 0
IsSizeOf place long None = Unit {0}
IsSizeOf place long (Some size) = (long ≡ size) × (1 ≤ size) × (size ≤ MAX_FRAME) × (place + 6 + size ≤ MAX_JOURNAL)

-- the next frame was read: the bytes from its gate on are that frame and what lies behind it
pub record NextFrame (bytes : List ℕ) (old new : JournalValue) (to : List ℕ) : Type 0 where
  pub frame : frame_at bytes (old.end - 1) ≡ framed to
  pub moved : new ≡ record old { end = old.end + 5 + length to; last = old.end - 1 }
  pub behind : List ℕ
  pub spelled : drop (old.end - 1) bytes ≡ frame_of to ++ behind

abbrev pub IsNextFrame : List ℕ → JournalValue → JournalValue → List ℕ → Result Bool FrameFault → Type 0
IsNextFrame bytes old new to (Ok true) = NextFrame bytes old new to
IsNextFrame bytes old new to (Ok false) = (frame_at bytes (old.end - 1) ≡ closed) × (new ≡ old)
IsNextFrame bytes old new to (Err (fault.Damaged place)) = (frame_at bytes (old.end - 1) ≡ broken) × (place.file ≡ old.file) × (place.at ≡ old.end - 1) × (new ≡ old)
IsNextFrame bytes old new to (Err fault.DiskFault) = new ≡ old
IsNextFrame bytes old new to (Err fault.Memory) = new ≡ old

-- whatever the disk tells: how far the reader moved, and that it did not at another answer
abbrev pub MovesReader : JournalValue → JournalValue → Result Bool FrameFault → Type 0
MovesReader old new (Ok true) = (new.file ≡ old.file) × (new.len ≡ old.len) × (new.last ≡ old.end - 1) × (old.end + 6 ≤ new.end) × (new.end ≤ old.end + 5 + MAX_FRAME) × (new.format ≡ old.format) × (new.generation ≡ old.generation)
    × (new.end ≤ MAX_JOURNAL)
MovesReader old new (Ok false) = new ≡ old
MovesReader old new (Err _) = new ≡ old

-- a fact where the answer is a frame
abbrev pub OnTrue : Result Bool FrameFault → Type 0 → Type 0
OnTrue (Ok true) P = P
OnTrue (Ok false) P = Unit {0}
OnTrue (Err _) P = Unit {0}

-- ---- how many calls of the disk it takes: one for the gate, and one more for the payload behind an open one

abbrev pub GateCalls : Gate → Outside → Outside → Type 0
GateCalls gate.Closed old new = MakesJust 1 old new
GateCalls gate.Broken old new = MakesAtMost 1 old new
GateCalls (gate.Open size) old new = MakesJust 1 old new

pub record ReadsGate (result : Result Gate Failed) (old new : Outside) : Type 0 where
  pub just : IfOk result (λ gate. GateCalls gate old new)
  pub most : MakesAtMost 1 old new

abbrev pub FrameCalls : Bool → Outside → Outside → Type 0
FrameCalls true old new = MakesJust 2 old new
FrameCalls false old new = MakesJust 1 old new

pub record ReadsFrame (result : Result (Option ℕ) FrameFault) (old new : Outside) : Type 0 where
  pub just : IfOk result (λ size. FrameCalls (is_some size) old new)
  pub most : MakesAtMost 2 old new

pub record ReadsNext (result : Result Bool FrameFault) (old new : Outside) : Type 0 where
  pub just : IfOk result (λ more. FrameCalls more old new)
  pub most : MakesAtMost 2 old new
