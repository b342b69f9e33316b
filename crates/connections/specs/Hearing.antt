-- What is heard on a connection.
use Rattle.std.specs.Prelude.{◌≡◌, ◌⊎◌, ℕ, Bool, true, false, List, [], ◌∷◌, ◌++◌, length, take, drop, IsSome}
use Rattle.request_frames.specs.Laws.{KeepsOf}
use Rattle.request_frames.specs.Reading.{Awaits, KeepsMost, LeavesAt, ReadsOn, asked_at, asked_from}
use Rattle.request_frames.specs.Requests.{Request}
use Rattle.request_frames.specs.declared.reader.Next.{Next}
use Rattle.request_frames.specs.declared.reader.Stage.TheVariants as stage
use Rattle.node_service.specs.Ears.{EndsInFault, IsInInput, StandsBehind}
use Rattle.node_service.specs.Lives.{fault_answer}
use Rattle.connections.specs.declared.connection.Standing.{Standing}
use Rattle.connections.specs.declared.connection.Standing.TheVariants as standing
use Rattle.connections.specs.declared.connection.Asked.{Asked}
use Rattle.connections.specs.Connections.{ConnectionValue, asks_since}

-- of all bytes that were brought so far these requests were told, and what it holds was not heard yet
abbrev pub ConnectionStands : (brought : List ℕ) (told : List Request) → ConnectionValue → Type 0
ConnectionStands brought told c = StandsBehind brought told c.reader c.rest

-- one request more is there whole, whose words and input are those that the reader has
pub record AsksNext (brought : List ℕ) (told : List Request) (c : ConnectionValue) : Type 0 where
  pub request : Request
  pub stands : ConnectionStands brought (told ++ request ∷ []) c
  pub words : request.words ≡ c.reader.front
  pub keeps : KeepsOf request c.reader.at c.reader.kept

-- By where it stands then: no request more was told; or one, the next; or all were, and what follows is no
-- request.
abbrev pub HeardTo : (brought : List ℕ) (told : List Request) → ConnectionValue → Standing → Type 0
HeardTo brought told c (standing.Asks since) = AsksNext brought told c
HeardTo brought told c standing.Fault = EndsInFault brought told
HeardTo brought told c _ = ConnectionStands brought told c

-- what was heard, of whatever was brought
abbrev pub Hears : (old new : ConnectionValue) → Type 0
Hears old new = (brought : List ℕ) (told : List Request) → ConnectionStands brought told old
    → HeardTo brought told new new.standing

-- where it goes on hearing, all that was brought was heard, and no request stands whole in it
abbrev pub HeardAll : ConnectionValue → Standing → Type 0
HeardAll c standing.Hears = (c.rest ≡ []) × Awaits c.reader
HeardAll c _ = Unit {0}

-- what waits to go out: as before, and where what came is no request perhaps that that is so
abbrev pub TellsFault : Standing → (old new : List ℕ) → Type 0
TellsFault standing.Fault old new = (new ≡ old) ⊎ (new ≡ old ++ fault_answer)
TellsFault _ old new = new ≡ old

-- Some of what was brought was heard, and nothing else has changed but what tells a fault.
pub record HearsOn (old new : ConnectionValue) : Type 0 where
  pub hears : Hears old new
  pub all : HeardAll new new.standing
  pub told : TellsFault new.standing old.waits new.waits
  pub has_ended : new.has_ended ≡ old.has_ended
  pub watch : new.watch ≡ old.watch
  pub most_out : new.most_out ≡ old.most_out

-- it was heard on where that could be, and else nothing has changed
abbrev pub HearsWhere : Bool → (old new : ConnectionValue) → Type 0
HearsWhere true old new = HearsOn old new
HearsWhere false old new = new ≡ old

-- ---- what is asked

-- the request that is there whole: its words, what its head says of its input, how much of that was to be
-- kept, and what was
pub record IsAskedOn (c : ConnectionValue) (a : Asked) : Type 0 where
  pub asks : IsSome (asks_since c.standing)
  pub at : c.reader.at ≡ stage.Whole a.size a.most
  pub words : a.words.now ≡ c.reader.front
  pub kept : a.kept.now ≡ c.reader.kept

-- ---- its parts

-- some of what was brought was heard by the reader, up to what there is to tell
pub record HearsSome (old new : ConnectionValue) (n : Next) : Type 0 where
  pub used : ℕ
  pub reads : ReadsOn (take used old.rest) old.reader n new.reader
  pub rest : new.rest ≡ drop used old.rest
  pub left : LeavesAt n used (length old.rest) new.reader
  pub asked : asked_at new.reader.at ≡ asked_from old.reader.at
  pub same : new ≡ record old { reader = new.reader; rest = new.rest }

-- it was said how much of the input that comes is kept
pub record AsksFor (old new : ConnectionValue) : Type 0 where
  pub most : ℕ
  pub keeps : KeepsMost most old.reader new.reader
  pub input : IsInInput new.reader.at
  pub same : new ≡ record old { reader = new.reader }

-- that what came is no request was told, or nothing was
pub record FaultTold (old new : ConnectionValue) : Type 0 where
  pub waits : (new.waits ≡ old.waits) ⊎ (new.waits ≡ old.waits ++ fault_answer)
  pub same : new ≡ record old { standing = standing.Fault; waits = new.waits }
