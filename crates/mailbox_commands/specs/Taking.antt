-- What `mailbox in` does: it takes the records of its input, and prints how many.
use Rattle.std.specs.Prelude.{◌≡◌, ◌⊎◌, ℕ, ◌+◌, ◌≤◌, List, [], ◌∷◌, ◌++◌, codes, length, Result, Ok, Some}
use Rattle.std.specs.Prelude.{Err}
use Rattle.std.specs.Fmt.{decimal}
use Rattle.std.specs.Global.{Vec}
use Rattle.std.specs.Io.KnownBytes.{Consumes, IsAtEnd}
use Rattle.outside.specs.Faults.{CountRose}
use Rattle.outside.specs.Outside.{DiskRun, Outside}
use Rattle.outside.specs.Streams.{Stream}
use Rattle.sync_ids.specs.declared.records.Record.{Record}
use Rattle.sync_rules.specs.declared.entries.Entry.{Entry}
use Rattle.sync_rules.specs.Clients.{Meaning}
use Rattle.sync_rules.specs.Facts.{Facts, after_batches}
use Rattle.sync_rules.specs.Hearing.{take_batch}
use Rattle.mailbox_laws.specs.Boxes.{box_session}
use Rattle.mailbox_core.specs.declared.ends.BoxEnd.{BoxEnd}
use Rattle.mailbox_core.specs.declared.ends.BoxEnding.{BoxEnding}
use Rattle.mailbox_core.specs.declared.ends.BoxEnding.TheVariants as box
use Rattle.mailbox_core.specs.Files.{box_ending, box_records}
use Rattle.mailbox_core.specs.Reading.{ReadsSome, ReadsTo}
use Rattle.mailbox_core.specs.Taking.{AllTaken, first_batch}
use Rattle.sync_words.specs.declared.outcome.Outcome.{Outcome}
use Rattle.sync_words.specs.declared.outcome.Outcome.TheVariants as outcome
use Rattle.mailbox_commands.specs.declared.taking.TheConstants.{MAX_MAIL}
use Rattle.store_commands.specs.Stopping.{InputStops, StopsEarly}
use Rattle.store_commands.specs.Errands.{Errand, running}
use Rattle.mailbox_commands.specs.Tests.{mailbox_test}
use Rattle.store_commands.specs.Works.{DoesWork}

-- ---- the errand

-- by how the reading of a file ended
abbrev pub outcome_at : BoxEnding → Outcome
outcome_at box.Clean = outcome.Done
outcome_at (box.Inside place) = outcome.Inside place
outcome_at (box.Bad place why) = outcome.Bad place why
outcome_at (box.NoVersion place) = outcome.NoVersion place

-- how many records were taken
abbrev pub taken_text : ℕ → List ℕ
taken_text n = codes "taken " ++ (decimal n ++ 10 ∷ [])

-- nothing more is done, and this batch is the next record's, by the facts of the journal then
abbrev pub IsNextTake : Facts → ℕ → List Entry → Facts → ℕ → List Record → List (List Entry)
    → Type 0
IsNextTake last session next f k [] more = ⊥
IsNextTake last session next f k (r ∷ rs) more = (more ≡ [])
    × (next ≡ take_batch last session k r)

-- the next batch of the reading of records: that with which the session begins, or the next
-- record's
abbrev pub ReadsNextBatch : Meaning → ℕ → List Record → Facts → List (List Entry) → List Entry
    → Type 0
ReadsNextBatch clients contact records f more next =
    ((more ≡ []) × (next ≡ first_batch (box_session f.begun contact)))
    ⊎ ReadsTo clients contact (IsNextTake (after_batches f more) f.begun next) f records more

-- the records of a file are taken on a session of their own, in order, with settling behind each
abbrev pub in_errand : Meaning → ℕ → List ℕ → Errand
in_errand clients contact bytes = record {
  some = λ f more. ReadsSome clients contact f (box_records bytes) more;
  whole = λ f more. ReadsTo clients contact AllTaken f (box_records bytes) more;
  next = λ f more next. ReadsNextBatch clients contact (box_records bytes) f more next;
  comes = outcome_at (box_ending bytes);
  text = λ settled more. taken_text (length (box_records bytes));
}

-- how many records were taken, and how the reading ended
abbrev pub TellsEnd : List ℕ → BoxEnd → Type 0
TellsEnd bytes end = (end.taken ≡ length (box_records bytes)) × (end.ending ≡ box_ending bytes)

-- ---- the input

-- these bytes are the whole input, which is not too long
pub record IsMail (input input' : Stream) (bytes : List ℕ) : Type 0 where
  pub consumed : Consumes input.bytes input'.bytes bytes
  pub at_end : IsAtEnd input'.bytes
  pub within : length bytes ≤ MAX_MAIL

-- one byte more than the greatest length was read
pub record IsTooMuch (input input' : Stream) : Type 0 where
  pub read : List ℕ
  pub consumed : Consumes input.bytes input'.bytes read
  pub past : length read ≡ MAX_MAIL + 1

-- what the reading of the input answers
abbrev pub IsInput : (input input' : Stream) → Result (Vec ℕ) Outcome → Type 0
IsInput input input' (Ok bytes) = IsMail input input' bytes.items
IsInput input input' (Err outcome.TooMuch) = IsTooMuch input input'
IsInput input input' (Err outcome.ReadFault) = CountRose input.faults input'.faults
IsInput input input' (Err outcome.Memory) = Unit {0}
IsInput input input' (Err came) = ⊥

-- ---- the command

-- the input was read whole, and its records were taken as far as the outcome says
pub record TakesMail (clients : Meaning) (contact : ℕ) (old new : Outside)
    (input input' out out' : Stream) (came : Outcome)
    : Type 0 where
  pub bytes : List ℕ
  pub reads : IsMail input input' bytes
  pub run : DiskRun old new
  pub did : DoesWork clients (λ f. mailbox_test f contact) (outcome_at (box_ending bytes))
      (λ f. running clients (in_errand clients contact bytes)) old new out out' came

-- The records of a file are taken; or the command stopped before, and nothing was. The input is
-- read once the tests hold.
abbrev pub HasTakenMail : Meaning → ℕ → (old new : Outside) → (input input' out out' : Stream)
    → Outcome → Type 0
HasTakenMail clients contact old new input input' out out' came =
    StopsEarly clients (λ f. mailbox_test f contact)
    (InputStops (IsTooMuch input input') input input') old new out out' came
    ⊎ TakesMail clients contact old new input input' out out' came

-- ---- over bytes that lie in memory

-- a stream of which these bytes are left, and of which no call failed
abbrev pub lying : List ℕ → Stream
lying bytes = record { bytes = Some bytes; faults = 0 }

-- the command did what it does over an input of these bytes, of which no read failed
pub record HasTakenBytes (clients : Meaning) (contact : ℕ) (bytes : List ℕ) (old new : Outside)
    (out out' : Stream) (came : Outcome) : Type 0 where
  pub input' : Stream
  pub unfailing : input'.faults ≡ 0
  pub taken : HasTakenMail clients contact old new (lying bytes) input' out out' came
