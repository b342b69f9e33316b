-- What adding a frame leaves of a file.
use Rattle.std.specs.Prelude.{◌≡◌, ◌⊎◌, ℕ, ◌+◌, ◌-◌, List, [], ◌∷◌, ◌++◌, length, take, drop}
use Rattle.std.specs.Int.{w32, to_be_bytes}
use Rattle.outside.specs.Files.{Two, File, file_of, with_file, settled}
use Rattle.outside.specs.Disk.{overwritten}
use Rattle.outside.specs.Frames.{IsPayload, HasFrames, IsAtRest, end_of}
use Rattle.outside.specs.Steps.{other_of}

-- the payload within a frame that is to be added
abbrev pub payload_of : List ℕ → List ℕ
payload_of framed = take (length framed - 5) (drop 4 framed)

-- a payload's length in four bytes, the payload, and a zero byte
abbrev pub framed_of : List ℕ → List ℕ
framed_of payload = to_be_bytes w32 (length payload) ++ payload ++ 0 ∷ []

-- bytes that frame a payload of a length that a frame may have
pub record IsFramed (framed : List ℕ) : Type 0 where
  pub fits : IsPayload (payload_of framed)
  pub spelled : framed ≡ framed_of (payload_of framed)

-- the bytes of a file after a write at `end` and the byte 1 before it
abbrev pub appended : List ℕ → ℕ → List ℕ → List ℕ
appended bytes end framed = overwritten (overwritten bytes end framed) (end - 1) (1 ∷ [])

-- What a crash may leave while bytes are written behind a gate, and then the gate is opened: the file up to the gate is
-- as it was, or all of the bytes stand behind it, whatever the gate is.
abbrev pub Gated : List ℕ → ℕ → List ℕ → List ℕ → Type 0
Gated bytes end framed left =
    (take end left ≡ take end bytes)
    ⊎ ((gate : ℕ) × (left ≡ take (end - 1) bytes ++ gate ∷ (framed ++ drop (end + length framed) bytes)))

-- bytes were written behind a gate, and the gate was opened
abbrev pub WritesAndOpensGate : ℕ → ℕ → List ℕ → Two File → Two File → Type 0
WritesAndOpensGate file end framed old new = new ≡ with_file old file (settled (appended (file_of old file).now end framed))

-- The file has the new frame behind its frames, and nothing is pending in it; the other file is as before.
pub record AppendsFrame (file end : ℕ) (framed : List ℕ) (old new : Two File) : Type 0 where
  pub bytes : file_of new file ≡ settled (appended (file_of old file).now end framed)
  pub other : other_of new file ≡ other_of old file
  pub frames : (header : List ℕ) (payloads : List (List ℕ)) → HasFrames (file_of old file).now header payloads → end ≡ end_of payloads
      → HasFrames (file_of new file).now header (payloads ++ payload_of framed ∷ [])
  pub at_rest : IsAtRest new file (end + length framed)

-- The frames are those that the bytes had, or those with the new one whole.
abbrev pub BeforeOrWith : List ℕ → ℕ → List ℕ → List ℕ → Type 0
BeforeOrWith bytes end framed left =
    (header : List ℕ) (payloads : List (List ℕ)) → HasFrames bytes header payloads → end ≡ end_of payloads
    → HasFrames left header payloads ⊎ HasFrames left header (payloads ++ payload_of framed ∷ [])
