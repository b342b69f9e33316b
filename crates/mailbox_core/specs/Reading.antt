-- What the reading of a file answers, and what stands after each answer.
use Rattle.std.specs.Prelude.{◌≡◌, ◌⊎◌, ℕ, ◌<◌, true, false, List, [], length, Result, Ok, Err}
use Rattle.outside.specs.Outside.{Outside}
use Rattle.sync_ids.specs.declared.records.Record.{Record}
use Rattle.sync_rules.specs.declared.entries.Entry.{Entry}
use Rattle.sync_rules.specs.Clients.{Meaning}
use Rattle.sync_rules.specs.Facts.{Facts, takes_of}
use Rattle.sync_rules.specs.Steps.{IsSettled}
use Rattle.sync_store.specs.declared.fault.StoreFault.{StoreFault}
use Rattle.sync_store.specs.declared.fault.StoreFault.TheVariants as fault
use Rattle.sync_store.specs.Commits.{needed}
use Rattle.sync_store.specs.Store.{StoreValue}
use Rattle.mailbox_laws.specs.Boxes.{box_session}
use Rattle.mailbox_core.specs.declared.ends.BoxEnd.{BoxEnd}
use Rattle.mailbox_core.specs.Files.{box_ending, box_records}
use Rattle.mailbox_core.specs.Together.{ComesInGroups}
use Rattle.mailbox_core.specs.Taking.{AllTaken, BeginsThen, NoRoomFor, SomeTaken, TakesTo}
use Rattle.mailbox_core.specs.Taking.{first_batch}

-- Behind a journal of these facts the session of a file begins, and its records are taken up to a
-- place that has P. A session that
-- has not begun has taken nothing, in every legal journal.
abbrev pub ReadsTo : Meaning → ℕ → (Facts → ℕ → List Record → List (List Entry) → Type 0) → Facts
    → List Record
    → List (List Entry) → Type 0
ReadsTo clients contact P f records more =
    BeginsThen f (box_session f.begun contact) more
    (λ g rest. TakesTo clients f.begun P g (takes_of f.takes f.begun) records rest)

-- nothing is done, or the session begins and some records are taken, the last of them with some of
-- its settling
abbrev pub ReadsSome : Meaning → ℕ → Facts → List Record → List (List Entry) → Type 0
ReadsSome clients contact f records more =
    (more ≡ []) ⊎ ReadsTo clients contact (SomeTaken clients f.begun) f records more

-- there is no room for the session, or it begins, and there is none for some record behind those
-- that are taken
abbrev pub ReadsUntilFull : Meaning → ℕ → Facts → StoreValue → List Record → List (List Entry)
    → Type 0
ReadsUntilFull clients contact f s records more =
    ((more ≡ []) × (s.limit < needed s (first_batch (box_session f.begun contact))))
    ⊎ ReadsTo clients contact (NoRoomFor f.begun s) f records more

-- By the answer: the batches behind a journal of facts `f`, and the store then. It is not closed
-- but after DiskFault; then the batches of the last group may stand in the files or not.
abbrev pub ReadsSo : Meaning → ℕ → List ℕ → Facts → StoreValue → List (List Entry)
    → Result BoxEnd StoreFault → Type 0
ReadsSo clients contact bytes f s more (Ok end) =
    (s.closed ≡ false) × IsSettled clients s.state.facts
    × ReadsTo clients contact AllTaken f (box_records bytes) more
    × (end.taken ≡ length (box_records bytes)) × (end.ending ≡ box_ending bytes)
ReadsSo clients contact bytes f s more (Err fault.Closed) = ⊥
ReadsSo clients contact bytes f s more (Err fault.Full) =
    (s.closed ≡ false) × IsSettled clients s.state.facts
    × ReadsUntilFull clients contact f s (box_records bytes) more
ReadsSo clients contact bytes f s more (Err fault.Memory) =
    (s.closed ≡ false) × ReadsSome clients contact f (box_records bytes) more
ReadsSo clients contact bytes f s more (Err fault.DiskFault) =
    (s.closed ≡ true) × ReadsSome clients contact f (box_records bytes) more

-- a file of these bytes was read into a store that is not closed: its batches were added in as few
-- groups as their frames take
pub record HasReadBox (clients : Meaning) (contact : ℕ) (bytes : List ℕ) (s s' : StoreValue)
    (result : Result BoxEnd StoreFault)
    (o o' : Outside) : Type 0 where
  pub more : List (List Entry)
  pub adds : ComesInGroups clients s s' o o' more
  pub answer : ReadsSo clients contact bytes s.state.facts s' more result
