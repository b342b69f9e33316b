-- What is heard of an input that comes in pieces.
use Rattle.std.specs.Prelude.{◌≡◌, ℕ, ◌-◌, ◌^◌, ◌<◌, ◌≤◌, List, [], ◌∷◌, ◌++◌, length, take, drop}
use Rattle.std.specs.Prelude.{slice_range}
use Rattle.std.specs.Prelude.{Option, Result, Ok, Err}
use Rattle.std.specs.Io.KnownBytes.{Consumes, IsAtEnd, Keeps}
use Rattle.outside.specs.Faults.{CountRose}
use Rattle.outside.specs.Streams.{Stream}
use Rattle.outside.specs.declared.failed.Failed.{Failed}
use Rattle.request_frames.specs.Laws.{HasRead, KeepsOf}
use Rattle.request_frames.specs.Reading.{Awaits, KeepsMost, LeavesAt, ReaderState, ReadsOn}
use Rattle.request_frames.specs.Reading.{asked_at, asked_from}
use Rattle.request_frames.specs.Requests.{Request, ending, requests}
use Rattle.request_frames.specs.declared.reader.Ending.TheVariants as ends
use Rattle.request_frames.specs.declared.reader.Next.{Next}
use Rattle.request_frames.specs.declared.reader.Stage.{Stage}
use Rattle.request_frames.specs.declared.reader.Stage.TheVariants as stage
use Rattle.node_service.specs.declared.ear.Came.{Came}
use Rattle.node_service.specs.declared.ear.Came.TheVariants as came
use Rattle.node_service.specs.declared.ear.Ear.{Ear}
use Rattle.node_service.specs.declared.ear.Turn.{Turn}
use Rattle.node_service.specs.declared.ear.Turn.TheVariants as turn

-- ---- an ear

-- its places are within its piece, which has room for a byte
pub record IsEar (e : Ear) : Type 0 where
  pub at : e.at ≤ e.len
  pub len : e.len ≤ length e.piece.items
  pub some : 0 < length e.piece.items

-- what is left of its piece
abbrev pub rest_of : Ear → List ℕ
rest_of e = slice_range e.piece.items e.at e.len

-- of all bytes that were read so far these requests were told, and this rest was not heard yet
pub record StandsBehind (read : List ℕ) (told : List Request) (reader : ReaderState)
    (rest : List ℕ) : Type 0 where
  pub heard : List ℕ
  pub has : HasRead heard told reader
  pub read_is : read ≡ heard ++ rest

abbrev pub EarStands : (read : List ℕ) (told : List Request) → Ear → Type 0
EarStands read told e = StandsBehind read told e.reader (rest_of e)

-- ---- what it hears

-- one request more was told, whose words and input are those that the reader has
pub record TellsNext (read : List ℕ) (told : List Request) (new : Ear) : Type 0 where
  pub request : Request
  pub stands : EarStands read (told ++ request ∷ []) new
  pub words : request.words ≡ new.reader.front
  pub keeps : KeepsOf request new.reader.at new.reader.kept

-- the requests of the bytes that were read are those told, and perhaps more
pub record HasTold (read : List ℕ) (told : List Request) : Type 0 where
  pub later : List Request
  pub requests_are : requests read ≡ told ++ later

-- all of them were told, and what follows is no request
abbrev pub EndsInFault : (read : List ℕ) (told : List Request) → Type 0
EndsInFault read told = (requests read ≡ told) × (ending read ≡ ends.Fault)

-- where more is wanted, all of the rest was heard
abbrev pub WaitsAt : Turn → Ear → Type 0
WaitsAt turn.More e = (rest_of e ≡ []) × Awaits e.reader
WaitsAt _ e = Unit {0}

-- what was heard of the rest of a piece
abbrev pub TurnBy : (read : List ℕ) (told : List Request) (new : Ear) → Turn → Type 0
TurnBy read told new turn.Request = TellsNext read told new
TurnBy read told new turn.More = EarStands read told new
TurnBy read told new turn.Fault = EndsInFault read told

-- what was heard of the input, of which so many bytes were read in this call
abbrev pub CameBy : (read : List ℕ) (told : List Request) (more : ℕ) (input input' : Stream)
    (new : Ear) → Came → Type 0
CameBy read told more input input' new came.Request = TellsNext read told new
CameBy read told more input input' new (came.End how) =
    (requests read ≡ told) × (ending read ≡ how) × IsAtEnd input'.bytes
CameBy read told more input input' new came.Fault = EndsInFault read told
CameBy read told more input input' new came.ReadFault =
    (requests read ≡ told) × CountRose input.faults input'.faults
CameBy read told more input input' new came.TooMuch = HasTold read told × (2 ^ 64 - 1 ≤ more)

-- an ear read these bytes more, and behind what it had heard came this
pub record HearsOn (input input' : Stream) (old new : Ear) (c : Came) : Type 0 where
  pub more : List ℕ
  pub consumed : Consumes input.bytes input'.bytes more
  pub later : input.faults ≤ input'.faults
  pub by : (read : List ℕ) (told : List Request) → EarStands read told old
      → CameBy (read ++ more) told (length more) input input' new c

-- ---- its parts

-- a piece was read, which is the rest then
abbrev pub ReadsPiece : (input input' : Option (List ℕ)) (old new : Ear) → Result ℕ Failed → Type 0
ReadsPiece input input' old new (Ok n) =
    (new.reader ≡ old.reader) × Consumes input input' (rest_of new) × (length (rest_of new) ≡ n)
    × (n ≡ 0 → IsAtEnd input')
ReadsPiece input input' old new (Err e) = (new.reader ≡ old.reader) × Keeps input input'

-- some of the rest was heard
pub record HearsSome (old new : Ear) (n : Next) : Type 0 where
  pub used : ℕ
  pub reads : ReadsOn (take used (rest_of old)) old.reader n new.reader
  pub rest : rest_of new ≡ drop used (rest_of old)
  pub within : used ≤ length (rest_of old)
  pub left : LeavesAt n used (length (rest_of old)) new.reader
  pub asked : asked_at new.reader.at ≡ asked_from old.reader.at

-- the input of a request comes
abbrev pub IsInInput : Stage → Type 0
IsInInput (stage.Input size most came) = Unit {0}
IsInInput _ = ⊥

-- it was said how much of the input that comes is kept
pub record AsksOn (old new : Ear) : Type 0 where
  pub most : ℕ
  pub keeps : KeepsMost most old.reader new.reader
  pub rest : rest_of new ≡ rest_of old
  pub input : IsInInput new.reader.at
