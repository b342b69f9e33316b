-- A file emptied for a journal, and a journal begun in it.
use Rattle.std.specs.Prelude.{◌≡◌, ◌≢◌, ◌⊎◌, ◌≤◌, ℕ, true, false, List, [], ◌∷◌, ◌++◌, take, drop}
use Rattle.std.specs.Prelude.{slice_index}
use Rattle.std.specs.Int.{w64, to_be_bytes}
use Rattle.outside.specs.Files.{Two, File, file_of, is_written, settled, NothingPending}
use Rattle.outside.specs.Frames.{is_open, header_of, HasFrames, IsAtRest}
use Rattle.outside.specs.Steps.{other_of}

-- the file is one byte long, which is no open gate, and nothing is pending in it
pub record IsCleared (files : Two File) (file : ℕ) : Type 0 where
  pub gate : ℕ
  pub closed : gate ≢ 1
  pub bytes : file_of files file ≡ settled (gate ∷ [])

-- the file as it was, or one with no open header
abbrev pub BeforeOrShut : List ℕ → List ℕ → Type 0
BeforeOrShut bytes left = (left ≡ bytes) ⊎ (is_open left ≡ false)

-- a header but for its gate, and a closed gate
abbrev pub behind_gate : ℕ → ℕ → List ℕ
behind_gate format generation =
    66 ∷ 83 ∷ 80 ∷ 74 ∷ format ∷ (to_be_bytes w64 generation ++ 0 ∷ [])

-- A file is prepared: it has some frames and all of an open header but the gate, which is closed, and nothing is
-- pending in it.
pub record IsPrepared (files : Two File) (file : ℕ) : Type 0 where
  pub settled : NothingPending files file
  pub gate : ℕ
  pub marked : List ℕ
  pub payloads : List (List ℕ)
  pub closed : gate ≢ 1
  pub header : is_open (1 ∷ marked) ≡ true
  pub frames : HasFrames (file_of files file).now (gate ∷ marked) payloads

-- All of a journal with no frame but the gate of its header, and nothing pending in its file; the other file is as
-- before. Frames may be added to it, and its gate may be opened.
pub record PreparesJournal (file format generation : ℕ) (old new : Two File) : Type 0 where
  pub gate : ℕ
  pub closed : gate ≢ 1
  pub bytes : file_of new file ≡ settled (gate ∷ behind_gate format generation)
  pub other : other_of new file ≡ other_of old file
  pub at_rest : IsAtRest new file 15
  pub prepared : IsPrepared new file

-- these bytes with an open gate in the place of their first
abbrev pub opened : List ℕ → List ℕ
opened bytes = 1 ∷ drop 1 bytes

-- The gate of a file's header is open, and nothing is pending in the file; the other file is as before. What frames it
-- had it has.
pub record PublishesHeader (file : ℕ) (old new : Two File) : Type 0 where
  pub bytes : file_of new file ≡ settled (opened (file_of old file).now)
  pub other : other_of new file ≡ other_of old file
  pub header : is_open (file_of new file).now ≡ true
  pub at_rest : (end : ℕ) → IsAtRest old file end → IsAtRest new file end

-- no open header, or the bytes with an open gate
abbrev pub ShutOrOpened : List ℕ → List ℕ → Type 0
ShutOrOpened bytes left = (is_open left ≡ false) ⊎ (left ≡ opened bytes)

-- the bytes of a journal with no frame
abbrev pub begun_bytes : ℕ → ℕ → List ℕ
begun_bytes format generation = header_of format generation ++ 0 ∷ []

-- A journal with no frame, and nothing pending in its file; the other file is as before.
pub record CreatesJournal (file format generation : ℕ) (old new : Two File) : Type 0 where
  pub bytes : file_of new file ≡ settled (begun_bytes format generation)
  pub other : other_of new file ≡ other_of old file
  pub at_rest : IsAtRest new file 15

-- no open header, or the journal that was asked for
abbrev pub ShutOrBegun : ℕ → ℕ → List ℕ → Type 0
ShutOrBegun format generation left =
    (is_open left ≡ false) ⊎ (left ≡ begun_bytes format generation)

-- the first byte of a file is there and is no open gate
pub record HasShutGate (bytes : List ℕ) : Type 0 where
  pub gate : ℕ
  pub rest : List ℕ
  pub closed : gate ≢ 1
  pub shape : bytes ≡ gate ∷ rest

-- A file whose header no crash opens: its first byte is there and is no open gate, was so at the
-- last sync, and no write or cut since then has reached it.
pub record StaysClosed (f : File) : Type 0 where
  pub reads : HasShutGate f.now
  pub synced : slice_index f.synced 0 ≢ 1
  pub unwritten : is_written f.written 0 ≡ false
  pub uncut : 1 ≤ f.least

-- whatever was answered: where no crash would open the file's header none does; the other file is
-- as before
pub record LeavesClosed (file : ℕ) (old new : Two File) : Type 0 where
  pub closed : StaysClosed (file_of old file) → StaysClosed (file_of new file)
  pub other : other_of new file ≡ other_of old file

-- a file reads as its first byte alone; the other file is as before
pub record IsCutBack (file : ℕ) (old new : Two File) : Type 0 where
  pub reads : (file_of new file).now ≡ take 1 (file_of old file).now
  pub other : other_of new file ≡ other_of old file

-- a file is one byte long, which is no open gate, with nothing pending in it; the other file is as
-- before
pub record IsClearedAgain (file : ℕ) (old new : Two File) : Type 0 where
  pub cleared : IsCleared new file
  pub other : other_of new file ≡ other_of old file

-- a file's first byte becomes or stays a closed gate; where nothing was pending in it nothing is
pub record ShutsGate (file : ℕ) (old new : Two File) : Type 0 where
  pub shut : HasShutGate (file_of new file).now
  pub still : NothingPending old file → NothingPending new file
  pub other : other_of new file ≡ other_of old file

-- a file is cut to its first byte
pub record CutsToFirstByte (file : ℕ) (old new : Two File) : Type 0 where
  pub reads : (file_of new file).now ≡ take 1 (file_of old file).now
  pub still : NothingPending old file → NothingPending new file
  pub other : other_of new file ≡ other_of old file

-- The file reads as one byte, which is no open gate; where nothing was pending in it, it is cleared.
pub record ClearsFile (file : ℕ) (old new : Two File) : Type 0 where
  pub gate : ℕ
  pub closed : gate ≢ 1
  pub reads : (file_of new file).now ≡ gate ∷ []
  pub cleared : NothingPending old file → IsCleared new file
  pub other : other_of new file ≡ other_of old file
