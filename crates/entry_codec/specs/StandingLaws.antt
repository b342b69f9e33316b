-- What holds of batches as payloads, and of what files stand for.
use Rattle.std.specs.Prelude.{◌≡◌, ℕ, ◌+◌, ◌^◌, ◌<◌, ◌≤◌, List, length, slice_index, Some}
use Rattle.std.specs.List.{AllByRecursion}
use Rattle.sync_rules.specs.declared.entries.Entry.{Entry}
use Rattle.sync_rules.specs.Clients.{Meaning}
use Rattle.sync_rules.specs.Facts.{Facts, after_all, facts, nothing, takes_of}
use Rattle.sync_rules.specs.Legal.{Allowed, Legal}
use Rattle.outside.specs.Files.{Two, file_of}
use Rattle.outside.specs.Frames.{HasFrames, format_in, journal_file}
use Rattle.entry_codec.specs.declared.naming.Format.{Format}
use Rattle.entry_codec.specs.Naming.{AreNames, IsNamed, format_of}
use Rattle.entry_codec.specs.Spelling.{EntryNames, IsEntry, IsOfFormat, MayBeWritten}
use Rattle.entry_codec.specs.Payloads.{batch_of, journal_end, names_of, payload, payloads}
use Rattle.entry_codec.specs.Standing.{journal, room_of}
use Rattle.entry_codec.specs.ReadingFiles.{read_standing}
use Rattle.outside.specs.declared.limits.TheConstants.{MAX_JOURNAL}

-- a batch whose entries are of kinds that the format has, are within their limits, and name as held only what the format can
-- name behind these facts
pub record IsWritable (format : Format) (f : Facts) (batch : List Entry) : Type 0 where
  pub kinds : AllByRecursion (IsOfFormat format) batch
  pub within : AllByRecursion IsEntry batch
  pub named : AllByRecursion (EntryNames (IsNamed format (names_of f))) batch

-- the batch of a payload is the batch that was written
abbrev pub BatchesReadBack : Type 0
BatchesReadBack = (format : Format) (f : Facts) → AreNames (names_of f) → (batch : List Entry) → IsWritable format f batch → 1 ≤ length batch
    → batch_of format f (payload format f batch) ≡ Some batch

-- a batch has one payload in each format, and it could be written
abbrev pub PayloadsSpellOnce : Type 0
PayloadsSpellOnce = (format : Format) (f : Facts) → AreNames (names_of f) → (bytes : List ℕ) (batch : List Entry)
    → ((place : ℕ) → slice_index bytes place < 256) → batch_of format f bytes ≡ Some batch
    → (bytes ≡ payload format f batch) × IsWritable format f batch

-- the ids of the messages held behind a legal journal can be names, where they are few enough
abbrev pub LegalHasNames : Type 0
LegalHasNames = (clients : Meaning) (j : List (List Entry)) → Legal clients j → length (facts j).held ≤ 2 ^ 32 → AreNames (names_of (facts j))

-- in a batch that may follow a journal each session has a latency of at least 1, and each row may be stated
abbrev pub AllowedMayBeWritten : Type 0
AllowedMayBeWritten = (clients : Meaning) (f : Facts) (batch : List Entry) → Allowed clients f batch → AllByRecursion MayBeWritten batch

-- a batch that may follow a journal adds one message at most, and one session to the list of those that began
abbrev pub AllowedAddOne : Type 0
AllowedAddOne = (clients : Meaning) (f : Facts) (batch : List Entry) → Allowed clients f batch
    → (length (after_all f batch).held ≤ length f.held + 1) × (length (after_all f batch).sessions ≤ length f.sessions + 1)

-- and takes one record at most on a session
abbrev pub AllowedTakeOne : Type 0
AllowedTakeOne = (clients : Meaning) (f : Facts) (batch : List Entry) (session : ℕ) → Allowed clients f batch
    → takes_of (after_all f batch).takes session ≤ takes_of f.takes session + 1

-- The journal's file has the frames of this journal, which is legal and within the limits of its entries, and there is room
-- for what settling may add to it. Its format is this one, which has the kinds of its entries.
pub record HoldsJournal (clients : Meaning) (files : Two (List ℕ)) (file : ℕ) (format : Format) (j : List (List Entry)) : Type 0 where
  pub found : journal_file files ≡ Some file
  pub format_is : format_of (format_in (file_of files file)) ≡ Some format
  pub header : List ℕ
  pub frames : HasFrames (file_of files file) header (payloads format nothing j)
  pub legal : Legal clients j
  pub kinds : AllByRecursion (AllByRecursion (IsOfFormat format)) j
  pub within : AllByRecursion (AllByRecursion IsEntry) j
  pub bounded : journal_end format j + room_of format (facts j) ≤ MAX_JOURNAL

-- files that hold a journal stand for it
abbrev pub JournalsStand : Type 0
JournalsStand = (clients : Meaning) (files : Two (List ℕ)) (file : ℕ) (format : Format) (j : List (List Entry)) → HoldsJournal clients files file format j
    → read_standing clients files ≡ journal j

-- a journal that files stand for is legal
abbrev pub StandingIsLegal : Type 0
StandingIsLegal = (clients : Meaning) (files : Two (List ℕ)) (j : List (List Entry)) → read_standing clients files ≡ journal j → Legal clients j
