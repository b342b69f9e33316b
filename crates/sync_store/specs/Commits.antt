-- What a commit answers, and what stands after each answer.
use Rattle.std.specs.Prelude.{◌≡◌, ℕ, ◌+◌, ◌<◌, ◌≤◌, true, false, List, length, Result, Ok, Err}
use Rattle.std.specs.List.{AllByRecursion}
use Rattle.frame_journal.specs.Append.{IsFramed, payload_of}
use Rattle.sync_rules.specs.declared.entries.Entry.{Entry}
use Rattle.sync_rules.specs.Clients.{Meaning}
use Rattle.sync_rules.specs.Facts.{after_all}
use Rattle.sync_rules.specs.Legal.{Allowed}
use Rattle.entry_codec.specs.Payloads.{payload, payload_len}
use Rattle.entry_codec.specs.Spelling.{IsEntry, IsOfFormat}
use Rattle.entry_codec.specs.Standing.{room_of}
use Rattle.outside.specs.declared.limits.TheConstants.{MAX_JOURNAL}
use Rattle.sync_store.specs.Store.{StoreValue, written_in}
use Rattle.sync_store.specs.declared.fault.StoreFault.{StoreFault}
use Rattle.sync_store.specs.declared.fault.StoreFault.TheVariants as fault

-- The length that the journal needs with a batch: the batch's frame is added, and room is counted
-- for all that settling may then add.
abbrev pub needed : StoreValue → List Entry → ℕ
needed s batch =
    s.end + 5 + payload_len (written_in s) batch
    + room_of (written_in s) (after_all s.state.facts batch)

-- all that contracts ask of a store is as before
pub record KeepsStore (old new : StoreValue) : Type 0 where
  pub facts : new.state.facts ≡ old.state.facts
  pub answers : new.state.answers ≡ old.state.answers
  pub file : new.file ≡ old.file
  pub format : new.format ≡ old.format
  pub generation : new.generation ≡ old.generation
  pub end : new.end ≡ old.end
  pub waiting : new.waiting ≡ old.waiting
  pub limit : new.limit ≡ old.limit
  pub closed : new.closed ≡ old.closed

-- the store has the batch
pub record GainsBatch (old new : StoreValue) (batch : List Entry) : Type 0 where
  pub facts : new.state.facts ≡ after_all old.state.facts batch
  pub file : new.file ≡ old.file
  pub format : new.format ≡ old.format
  pub generation : new.generation ≡ old.generation
  pub end : new.end ≡ old.end + 5 + payload_len (written_in old) batch
  pub limit : new.limit ≡ old.limit
  pub closed : new.closed ≡ false

-- A batch that may be added to a store: it is allowed, its entries are of kinds that the format has
-- and within their limits, and these bytes frame it.
pub record MayAdd (clients : Meaning) (s : StoreValue) (batch : List Entry)
    (framed : List ℕ) : Type 0 where
  pub allowed : Allowed clients s.state.facts batch
  pub kinds : AllByRecursion (IsOfFormat (written_in s)) batch
  pub within : AllByRecursion IsEntry batch
  pub is_framed : IsFramed framed
  pub payload_is : payload_of framed ≡ payload (written_in s) s.state.facts batch
  pub roomy : s.end + room_of (written_in s) s.state.facts ≤ MAX_JOURNAL
  pub still_roomy : s.end + length framed + room_of (written_in s)
      (after_all s.state.facts batch) ≤ MAX_JOURNAL

-- Closed comes exactly where the store was closed, and Full exactly where it was not and the
-- journal would pass the limit; the others come only behind these. After any error all is as
-- before, but that the store is closed after DiskFault.
abbrev pub AnswersCommit : StoreValue → StoreValue → List Entry → Result (Unit {0}) StoreFault
    → Type 0
AnswersCommit old new batch (Ok _) =
    (old.closed ≡ false) × (needed old batch ≤ old.limit) × GainsBatch old new batch
AnswersCommit old new batch (Err fault.Closed) = (old.closed ≡ true) × KeepsStore old new
AnswersCommit old new batch (Err fault.Full) =
    (old.closed ≡ false) × (old.limit < needed old batch) × KeepsStore old new
AnswersCommit old new batch (Err fault.Memory) =
    (old.closed ≡ false) × (needed old batch ≤ old.limit) × KeepsStore old new
AnswersCommit old new batch (Err fault.DiskFault) =
    (old.closed ≡ false) × (needed old batch ≤ old.limit)
    × KeepsStore (record old { closed = true }) new

-- the disk is as before after an error for which no call on it was made, whether it tells its files
-- or not
abbrev pub UnaskedDisk : {D : Type 0} → Result (Unit {0}) StoreFault → D → D → Type 0
UnaskedDisk (Err fault.Closed) old new = new ≡ old
UnaskedDisk (Err fault.Full) old new = new ≡ old
UnaskedDisk (Err fault.Memory) old new = new ≡ old
UnaskedDisk _ old new = Unit {0}
