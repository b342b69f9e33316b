-- What the steps of reading and of writing a file do, each of which gathers its batches; they are put
-- together into what `Reading` and `Sending` say of the whole.
use Rattle.std.specs.Prelude.{◌≡◌, ◌⊎◌, ℕ, ◌+◌, ◌<◌, true, false, Bool, List, [], ◌∷◌, ◌++◌, length}
use Rattle.std.specs.Prelude.{Option, Some, None, Result, Ok, Err}
use Rattle.outside.specs.Outside.{Outside}
use Rattle.record_grammar.specs.Spelling.{spelled}
use Rattle.record_grammar.specs.Stream.{ending, items}
use Rattle.record_stream.specs.Reading.{ReaderState}
use Rattle.sync_ids.specs.declared.records.Record.{Record}
use Rattle.sync_rules.specs.declared.entries.Entry.{Entry}
use Rattle.sync_rules.specs.declared.entries.Out.{Out}
use Rattle.sync_rules.specs.declared.entries.Session.{Session}
use Rattle.sync_rules.specs.Clients.{Meaning}
use Rattle.sync_rules.specs.Facts.{Facts, session_at, takes_of}
use Rattle.sync_rules.specs.Growth.{output_of}
use Rattle.sync_rules.specs.Legal.{IsDue}
use Rattle.sync_rules.specs.Steps.{IsSettled}
use Rattle.sync_rules.specs.Hearing.{take_batch, batch_session}
use Rattle.sync_store.specs.declared.fault.StoreFault.{StoreFault}
use Rattle.sync_store.specs.declared.fault.StoreFault.TheVariants as fault
use Rattle.sync_store.specs.Commits.{needed}
use Rattle.sync_store.specs.Groups.{IsGathering}
use Rattle.sync_store.specs.Store.{StoreValue}
use Rattle.mailbox_core.specs.Together.{ComesInGroups, ComesBehind}
use Rattle.sync_course.specs.LinkTurns.{out_batch}
use Rattle.mailbox_core.specs.declared.ends.BoxEnd.{BoxEnd}
use Rattle.mailbox_core.specs.declared.ends.BoxEnding.{BoxEnding}
use Rattle.mailbox_core.specs.Files.{ending_behind, records_to_take}
use Rattle.mailbox_core.specs.Reading.{ReadsSo}
use Rattle.mailbox_core.specs.Sending.{IsSessionQuiet, SendsAll, SendsSome, SendsUntilFull}
use Rattle.mailbox_core.specs.Sending.{WritesSo}
use Rattle.mailbox_core.specs.Taking.{AllTaken, NoRoomFor, SomeTaken, TakesRecord, TakesTo}
use Rattle.mailbox_core.specs.Taking.{first_batch}

-- a settled store that gathers and has this session
pub record IsOpenFor (clients : Meaning) (session : Session) (s : StoreValue)
    (o : Outside) : Type 0 where
  pub gathering : IsGathering clients s o.files
  pub settled : IsSettled clients s.state.facts
  pub found : session_at s.state.facts.sessions session.number ≡ Some session

-- ---- a session begins

abbrev pub BeginsSo : ℕ → ℕ → Facts → StoreValue → List (List Entry) → Result Session StoreFault
    → Type 0
BeginsSo contact latency f s more (Ok session) =
    (s.closed ≡ false) × (more ≡ first_batch (batch_session f.begun contact latency) ∷ [])
    × (session.number ≡ f.begun)
BeginsSo contact latency f s more (Err fault.Closed) = ⊥
BeginsSo contact latency f s more (Err fault.Full) =
    (s.closed ≡ false) × (more ≡ [])
    × (s.limit < needed s (first_batch (batch_session f.begun contact latency)))
BeginsSo contact latency f s more (Err fault.Memory) = (s.closed ≡ false) × (more ≡ [])
BeginsSo contact latency f s more (Err fault.DiskFault) = (s.closed ≡ true) × (more ≡ [])

-- a session was begun, as far as the answer says
pub record HasBegunSession (clients : Meaning) (contact latency : ℕ) (s s' : StoreValue)
    (result : Result Session StoreFault)
    (o o' : Outside) : Type 0 where
  pub more : List (List Entry)
  pub comes : ComesBehind clients s s' o o' more
  pub answer : BeginsSo contact latency s.state.facts s' more result

-- ---- one record

-- the number of the next record on a session
abbrev pub next_on : StoreValue → ℕ → ℕ
next_on s session = takes_of s.state.facts.takes session

abbrev pub TakesSo : Meaning → ℕ → Record → StoreValue → StoreValue → List (List Entry)
    → Result (Unit {0}) StoreFault
    → Type 0
TakesSo clients session r s s' more (Ok _) =
    (s'.closed ≡ false) × IsSettled clients s'.state.facts
    × TakesRecord clients s.state.facts session (next_on s session) r more
    × (next_on s' session ≡ next_on s session + 1)
TakesSo clients session r s s' more (Err fault.Closed) = ⊥
TakesSo clients session r s s' more (Err fault.Full) =
    (s'.closed ≡ false) × IsSettled clients s'.state.facts × (more ≡ [])
    × (s'.limit < needed s' (take_batch s'.state.facts session (next_on s session) r))
TakesSo clients session r s s' more (Err fault.Memory) =
    (s'.closed ≡ false) × ((more ≡ [])
    ⊎ TakesRecord clients s.state.facts session (next_on s session) r more)
TakesSo clients session r s s' more (Err fault.DiskFault) =
    (s'.closed ≡ true) × ((more ≡ [])
    ⊎ TakesRecord clients s.state.facts session (next_on s session) r more)

-- a record was taken on a session, and the journal settled behind it, as far as the answer says
pub record HasTakenRecord (clients : Meaning) (session : ℕ) (r : Record) (s s' : StoreValue)
    (result : Result (Unit {0}) StoreFault)
    (o o' : Outside) : Type 0 where
  pub more : List (List Entry)
  pub comes : ComesBehind clients s s' o o' more
  pub answer : TakesSo clients session r s s' more result

-- ---- what is left of a file

-- the records that are to be taken, and how the reading ends
pub record RecordsLeft : Type 0 where
  pub records : List Record
  pub ending : BoxEnding

-- what is left in a reader and in the bytes that are to come
abbrev pub left_of : ReaderState → List ℕ → RecordsLeft
left_of r piece = record {
  records = records_to_take (items r.place (r.bytes ++ (piece ++ [])));
  ending =
      ending_behind (items r.place (r.bytes ++ (piece ++ [])))
      (ending r.place (r.bytes ++ (piece ++ [])));
}

-- by the fault that ended the taking of records
abbrev pub StopsSo : Meaning → ℕ → StoreValue → StoreValue → List Record → List (List Entry)
    → StoreFault → Type 0
StopsSo clients session s s' rs more fault.Closed = ⊥
StopsSo clients session s s' rs more fault.Full =
    (s'.closed ≡ false) × IsSettled clients s'.state.facts
    × TakesTo clients session (NoRoomFor session s') s.state.facts (next_on s session) rs more
StopsSo clients session s s' rs more fault.Memory =
    (s'.closed ≡ false) × TakesTo clients session (SomeTaken clients session) s.state.facts
    (next_on s session) rs more
StopsSo clients session s s' rs more fault.DiskFault =
    (s'.closed ≡ true) × TakesTo clients session (SomeTaken clients session) s.state.facts
    (next_on s session) rs more

-- the place with these facts, this number of the next record and these records left
abbrev pub IsAt : Facts → ℕ → List Record → Facts → ℕ → List Record → List (List Entry) → Type 0
IsAt g l qs f k rs more = (f ≡ g) × (k ≡ l) × (rs ≡ qs) × (more ≡ [])

-- Where there is no answer yet, an item was read, and taken where it is a record; else how the
-- reading ends, with all records taken.
abbrev pub NextSo : Meaning → ℕ → StoreValue → StoreValue → RecordsLeft → RecordsLeft
    → List (List Entry) → Result (Option BoxEnding)
    StoreFault → Type 0
NextSo clients session s s' left left' more (Ok None) =
    (s'.closed ≡ false)
    × TakesTo clients session (IsAt s'.state.facts (next_on s' session) left'.records) s.state.facts
    (next_on s session)
    left.records more
    × (left.ending ≡ left'.ending)
NextSo clients session s s' left left' more (Ok (Some e)) =
    (s'.closed ≡ false)
    × TakesTo clients session AllTaken s.state.facts (next_on s session) left.records more
    × (next_on s' session ≡ next_on s session + length left.records) × (e ≡ left.ending)
NextSo clients session s s' left left' more (Err e) =
    StopsSo clients session s s' left.records more e

-- the next item of a file was read
pub record HasReadItem (clients : Meaning) (session : ℕ) (s s' : StoreValue)
    (left left' : RecordsLeft)
    (result : Result (Option BoxEnding) StoreFault) (o o' : Outside) : Type 0 where
  pub more : List (List Entry)
  pub comes : ComesBehind clients s s' o o' more
  pub answer : NextSo clients session s s' left left' more result

abbrev pub RestSo : Meaning → ℕ → StoreValue → StoreValue → RecordsLeft → List (List Entry)
    → Result BoxEnd StoreFault → Type 0
RestSo clients session s s' left more (Ok end) =
    (s'.closed ≡ false) × IsSettled clients s'.state.facts
    × TakesTo clients session AllTaken s.state.facts (next_on s session) left.records more
    × (end.taken ≡ length left.records) × (end.ending ≡ left.ending)
RestSo clients session s s' left more (Err e) = StopsSo clients session s s' left.records more e

-- what was left of a file was read
pub record HasReadRest (clients : Meaning) (session : ℕ) (s s' : StoreValue) (left : RecordsLeft)
    (result : Result BoxEnd StoreFault)
    (o o' : Outside) : Type 0 where
  pub more : List (List Entry)
  pub comes : ComesBehind clients s s' o o' more
  pub answer : RestSo clients session s s' left more result

-- a file was read; what was taken of it waits
pub record HasGatheredBox (clients : Meaning) (contact : ℕ) (bytes : List ℕ) (s s' : StoreValue)
    (result : Result BoxEnd StoreFault)
    (o o' : Outside) : Type 0 where
  pub more : List (List Entry)
  pub comes : ComesBehind clients s s' o o' more
  pub answer : ReadsSo clients contact bytes s.state.facts s' more result

-- ---- one output

-- this output is due, and its batch is made
pub record CommitsDue (clients : Meaning) (f : Facts) (session now : ℕ)
    (more : List (List Entry)) : Type 0 where
  pub what : Out
  pub due : IsDue clients f (session_at f.sessions session) now what
  pub is : more ≡ out_batch session now what ∷ []

-- this output is due, and there is no room for it in a store of these facts
pub record LacksRoomForOut (clients : Meaning) (session now : ℕ) (s : StoreValue) : Type 0 where
  pub next : Out
  pub due : IsDue clients s.state.facts (session_at s.state.facts.sessions session) now next
  pub over : s.limit < needed s (out_batch session now next)

abbrev pub PutsSo : Meaning → ℕ → ℕ → StoreValue → StoreValue → List (List Entry) → List ℕ → List ℕ
    → Result Bool StoreFault → Type 0
PutsSo clients session now s s' more to to' (Ok true) =
    (s'.closed ≡ false) × CommitsDue clients s.state.facts session now more ×
    (to' ≡ to ++ spelled (output_of s.state.facts session more))
PutsSo clients session now s s' more to to' (Ok false) =
    (s'.closed ≡ false) × IsSessionQuiet clients s'.state.facts session now × (more ≡ [])
    × (to' ≡ to)
PutsSo clients session now s s' more to to' (Err fault.Closed) = ⊥
PutsSo clients session now s s' more to to' (Err fault.Full) =
    (s'.closed ≡ false) × IsSettled clients s'.state.facts × (more ≡ [])
    × LacksRoomForOut clients session now s'
PutsSo clients session now s s' more to to' (Err fault.Memory) = (s'.closed ≡ false) × (more ≡ [])
PutsSo clients session now s s' more to to' (Err fault.DiskFault) =
    (s'.closed ≡ true) × (more ≡ [])

-- what is due was gathered, as far as the answer says, and its bytes appended
pub record HasPut (clients : Meaning) (session now : ℕ) (s s' : StoreValue) (to to' : List ℕ)
    (result : Result Bool StoreFault)
    (o o' : Outside) : Type 0 where
  pub more : List (List Entry)
  pub comes : ComesBehind clients s s' o o' more
  pub answer : PutsSo clients session now s s' more to to' result

abbrev pub PutsAllSo : Meaning → ℕ → ℕ → ℕ → StoreValue → StoreValue → List (List Entry) → List ℕ
    → List ℕ
    → Result ℕ StoreFault → Type 0
PutsAllSo clients session now most s s' more to to' (Ok made) =
    (s'.closed ≡ false) × IsSettled clients s'.state.facts
    × SendsAll clients s.state.facts s'.state.facts session now most made more
    × (to' ≡ to ++ spelled (output_of s.state.facts session more))
PutsAllSo clients session now most s s' more to to' (Err fault.Closed) = ⊥
PutsAllSo clients session now most s s' more to to' (Err fault.Full) =
    (s'.closed ≡ false) × IsSettled clients s'.state.facts
    × SendsUntilFull clients s.state.facts s' session now most more
PutsAllSo clients session now most s s' more to to' (Err fault.Memory) =
    (s'.closed ≡ false) × SendsSome clients s.state.facts session now most more
PutsAllSo clients session now most s s' more to to' (Err fault.DiskFault) =
    (s'.closed ≡ true) × SendsSome clients s.state.facts session now most more

-- all that is due was gathered, at most so many outputs, as far as the answer says
pub record HasPutAll (clients : Meaning) (session now most : ℕ) (s s' : StoreValue)
    (to to' : List ℕ)
    (result : Result ℕ StoreFault)
    (o o' : Outside) : Type 0 where
  pub more : List (List Entry)
  pub comes : ComesBehind clients s s' o o' more
  pub answer : PutsAllSo clients session now most s s' more to to' result

-- ---- a file that is written

-- by the answer, as a file is written behind no bytes; after a fault nothing is said of the bytes
abbrev pub PutsBoxSo : Meaning → ℕ → ℕ → ℕ → ℕ → Facts → StoreValue → List (List Entry) → List ℕ
    → Result ℕ StoreFault → Type 0
PutsBoxSo clients contact latency now count f s more to (Ok made) =
    WritesSo clients contact latency now count f s more [] to (Ok made)
PutsBoxSo clients contact latency now count f s more to (Err e) =
    WritesSo clients contact latency now count f s more [] [] (Err e)

-- the session began and what is due was gathered, as far as the answer says
pub record HasPutBox (clients : Meaning) (contact latency now count : ℕ) (s s' : StoreValue)
    (to : List ℕ)
    (result : Result ℕ StoreFault) (o o' : Outside) : Type 0 where
  pub more : List (List Entry)
  pub comes : ComesBehind clients s s' o o' more
  pub answer : PutsBoxSo clients contact latency now count s.state.facts s' more to result

-- and all of it was added to the journal
pub record HasAddedBox (clients : Meaning) (contact latency now count : ℕ) (s s' : StoreValue)
    (to : List ℕ)
    (result : Result ℕ StoreFault) (o o' : Outside) : Type 0 where
  pub more : List (List Entry)
  pub adds : ComesInGroups clients s s' o o' more
  pub answer : PutsBoxSo clients contact latency now count s.state.facts s' more to result
