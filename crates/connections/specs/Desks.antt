-- All connections of a node that stays, and who is answered and told.
use Rattle.std.specs.Prelude.{◌≡◌, ◌⊎◌, ℕ, ◌≤◌, Bool, List, [], ◌∷◌, All, IfSome, Option, Some, None, Result, slice_get, slice_set, nat_le, if◌then◌else◌}
use Rattle.std.specs.declared.alloc.AllocError.{AllocError}
use Rattle.request_frames.specs.Laws.{KeepsOf}
use Rattle.request_frames.specs.Requests.{Request}
use Rattle.sync_words.specs.declared.outcome.Outcome.{Outcome}
use Rattle.connections.specs.declared.desk.Done.{Done}
use Rattle.connections.specs.declared.desk.Place.{Place}
use Rattle.connections.specs.declared.connection.Standing.TheVariants as standing
use Rattle.connections.specs.Connections.{ConnectionValue, asks_since, can_hear, wants_lines}
use Rattle.connections.specs.Hearing.{HearsWhere}
use Rattle.connections.specs.Telling.{GetsAnswer, TellsLines}

-- ---- whose turn it is

-- nobody asks
abbrev pub NobodyAsks : {S : Type 0} → List (Place S) → Type 0
NobodyAsks {S} places = All (λ (p : Place S). asks_since p.connection.standing ≡ None) places

-- the one at this place asks since this time, and nobody for longer
pub record AsksFirst {S : Type 0} (places : List (Place S)) (at since : ℕ) : Type 0 where
  pub place : Place S
  pub is : slice_get places at ≡ Some place
  pub asks : place.connection.standing ≡ standing.Asks since
  pub longest : All (λ (p : Place S). IfSome (asks_since p.connection.standing) (λ time. since ≤ time)) places

-- whose request waits for longest, where anybody asks
abbrev pub IsFirstToAsk : {S : Type 0} → List (Place S) → Option ℕ → Type 0
IsFirstToAsk places None = NobodyAsks places
IsFirstToAsk places (Some at) = (since : ℕ) × AsksFirst places at since

-- the earlier of what was found, with its time, and this one
abbrev pub earlier_of : Option (ℕ × ℕ) → (at since : ℕ) → Option (ℕ × ℕ)
earlier_of None at since = Some (at, since)
earlier_of (Some (before, time)) at since = if nat_le time since then Some (before, time) else Some (at, since)

-- ---- who is answered

-- it watches the inbox from this place on, where one is said
abbrev pub watching : Option ℕ → ConnectionValue → ConnectionValue
watching None c = c
watching (Some from) c = record c { watch = Some from }

-- how requests are answered
abbrev pub Saying : Type 0 → Type 1
Saying N = N → Request → N → Outcome → (out : List ℕ) → (watch : Option ℕ) → Type 0

-- The request that is there whole was answered, and that answer told: what is answered to whatever request has
-- the words and the input that the connection has waits on it, and it hears on.
pub record AnswersOn {N : Type 0} (says : Saying N) (n n' : N) (old new : ConnectionValue)
    (came : Outcome) (told : Result (Unit {0}) AllocError) : Type 0 where
  pub out : List ℕ
  pub watch : Option ℕ
  pub says_so : (request : Request) → request.words ≡ old.reader.front
      → KeepsOf request old.reader.at old.reader.kept → says n request n' came out watch
  pub heard : ConnectionValue
  pub gets : GetsAnswer came out old heard told
  pub watches : new ≡ watching watch heard

-- the connection that has asked for longest was answered, and no other was touched
pub record AnswersAt {S N : Type 0} (says : Saying N) (n n' : N) (places places' : List (Place S))
    (done : Done) : Type 0 where
  pub since : ℕ
  pub first : AsksFirst places done.at since
  pub connection : ConnectionValue
  pub others : places' ≡ slice_set places done.at (record first.place { connection = connection })
  pub answers : AnswersOn says n n' first.place.connection connection done.reply.came done.told

abbrev pub AnswersOne : {S N : Type 0} → Saying N → (n n' : N) → (places places' : List (Place S))
    → Option Done → Type 0
AnswersOne says n n' places places' None = NobodyAsks places × (places' ≡ places) × (n' ≡ n)
AnswersOne says n n' places places' (Some done) = AnswersAt says n n' places places' done

-- ---- what is done on each

-- of each only the connection was touched, in this way
abbrev pub EachBy : {S : Type 0} → (ConnectionValue → ConnectionValue → Type 0)
    → (places places' : List (Place S)) → Type 0
EachBy R [] [] = Unit {0}
EachBy R [] (q ∷ places') = ⊥
EachBy R (p ∷ places) [] = ⊥
EachBy R (p ∷ places) (q ∷ places') =
    (q ≡ record p { connection = q.connection }) × R p.connection q.connection × EachBy R places places'

-- it was heard on where it could be; a long input was begun or not
abbrev pub HeardOnce : (old new : ConnectionValue) → Type 0
HeardOnce old new = (may_be_long : Bool) × HearsWhere (can_hear old may_be_long) old new

-- how lines of the inbox from a place on are given
abbrev pub Giving : Type 0 → Type 1
Giving N = N → (from : ℕ) → N → (lines : List ℕ) → Type 0

-- where it wants lines, those were told that were given from the place on that it watches
pub record ToldGiven {N : Type 0} (gives : Giving N) (delivered : ℕ) (old new : ConnectionValue) : Type 0 where
  pub from : ℕ
  pub wants : wants_lines old delivered ≡ Some from
  pub n : N
  pub n' : N
  pub lines : List ℕ
  pub given : gives n from n' lines
  pub tells : TellsLines lines old new

abbrev pub ToldNext : {N : Type 0} → Giving N → ℕ → (old new : ConnectionValue) → Type 0
ToldNext gives delivered old new = (new ≡ old) ⊎ ToldGiven gives delivered old new
