-- What `compact` does: it migrates the journal and settles it, writes it anew as its brief account,
-- and prints where it ended before and where it ends then.
use Rattle.std.specs.Prelude.{◌≡◌, ◌⊎◌, ℕ, ◌+◌, ◌-◌, ◌^◌, ◌<◌, ◌≤◌, false, List, Option, Some}
use Rattle.std.specs.Prelude.{None, Result, Ok, Err}
use Rattle.outside.specs.declared.limits.TheConstants.{MAX_JOURNAL}
use Rattle.outside.specs.Disk.{RelatesTold}
use Rattle.outside.specs.Files.{Two, File, file_of, read_files}
use Rattle.outside.specs.Frames.{generation_in, is_open}
use Rattle.outside.specs.Outside.{Outside}
use Rattle.outside.specs.Streams.{Stream}
use Rattle.sync_rules.specs.declared.entries.Entry.{Entry}
use Rattle.sync_rules.specs.Clients.{Meaning}
use Rattle.sync_rules.specs.Facts.{facts}
use Rattle.sync_rules.specs.Hearing.{SettlesJournal}
use Rattle.brief_account.specs.Brief.{brief}
use Rattle.entry_codec.specs.declared.naming.Format.{Format}
use Rattle.entry_codec.specs.declared.naming.Format.TheVariants as kind
use Rattle.entry_codec.specs.Payloads.{journal_end}
use Rattle.entry_codec.specs.Standing.{journal, room_of}
use Rattle.file_standing.specs.Standing.{stands}
use Rattle.journal_migration.specs.Migrating.{KeepsFile}
use Rattle.sync_store.specs.Compactions.{IsOrBrief, IsTooLong, ShortensJournal}
use Rattle.sync_store.specs.Fitting.{FitsFiles}
use Rattle.sync_store.specs.Moments.{LeadsTo}
use Rattle.sync_store.specs.Store.{StoreValue}
use Rattle.sync_words.specs.EntryTexts.{compacted_text}
use Rattle.sync_words.specs.declared.outcome.Outcome.{Outcome}
use Rattle.sync_words.specs.declared.outcome.Outcome.TheVariants as outcome
use Rattle.store_commands.specs.Commit.{IsInFormat, IsMoved, OnceSettled, StandsSynced}
use Rattle.store_commands.specs.Commit.{short_generation}
use Rattle.store_commands.specs.Works.{HasWorked, RunsWork, Work}

-- ---- journals

-- the journal goes on by settling alone, or in its place stands the brief account of it with all of
-- its settling
abbrev pub GoesBrief : Meaning → (j whole : List (List Entry)) → Type 0
GoesBrief clients j whole =
    SettlesJournal clients j whole ⊎ OnceSettled clients j (λ settled. whole ≡ brief settled)

-- The length that the brief account of a settled journal needs in format 2, in which it is written:
-- room is counted for all that settling may yet add.
abbrev pub brief_len : List (List Entry) → ℕ
brief_len settled = journal_end kind.Short (brief settled) + room_of kind.Short (facts settled)

-- No generation is left for the brief account of the journal of two files: once that is in format 2
-- it has the last one.
pub record LacksGeneration (files : Two (List ℕ)) : Type 0 where
  pub format : Format
  pub known : IsInFormat format files
  pub last : 2 ^ 64 - 1 ≤ short_generation format (generation_in (file_of files known.file))

-- where files are told, one is left
abbrev pub MayRenew : Option (Two File) → Type 0
MayRenew files = (two : Two File) → files ≡ Some two → LacksGeneration (read_files two) → ⊥

-- Files of which this one alone has an open header stand for this journal: of two files it has what
-- they have of it.
abbrev pub StandsAlone : Meaning → (file : ℕ) → Two File → List (List Entry) → Type 0
StandsAlone clients file two j =
    (left : Two (List ℕ)) → file_of left file ≡ (file_of two file).now
    → is_open (file_of left (1 - file)) ≡ false → stands clients left ≡ journal j

-- The files stand for the brief account of a settled journal, for which there was room. The other
-- file still has that journal, as it was. P is so of the line of the two ends.
pub record AreFilesCompacted (clients : Meaning) (two : Two File) (P : List ℕ → Type 0)
    (settled : List (List Entry)) : Type 0 where
  pub roomy : brief_len settled ≤ MAX_JOURNAL
  pub stands : StandsSynced clients two (brief settled)
  pub old : StandsAlone clients (1 - stands.short.file) two settled
  pub printed : P
      (compacted_text (journal_end kind.Short settled) (journal_end kind.Short (brief settled)))

-- The files, which read so before, stand for a settled journal, which was moved by a migration alone,
-- and there is no room for its brief account, or no generation was left.
pub record IsUncompacted (clients : Meaning) (before : Two (List ℕ)) (two : Two File)
    (settled : List (List Entry)) : Type 0 where
  pub stands : StandsSynced clients two settled
  pub moved : IsMoved 0 before two
  pub over : (MAX_JOURNAL < brief_len settled) ⊎ LacksGeneration before

-- ---- the command

-- the work of writing a journal anew as its brief account; without a generation nothing is written
-- anew
abbrev pub compacting : Meaning → Work
compacting clients = record {
  goes_on = GoesBrief clients;
  full = IsUncompacted clients;
  done = AreFilesCompacted clients;
  spent = LacksGeneration;
  anew = 1;
}

-- a command that writes a journal anew as its brief account, which no test refuses
abbrev pub HasCompacted : Meaning → (old new : Outside) → (out out' : Stream) → Outcome → Type 0
HasCompacted clients = HasWorked clients (λ f. None) (λ f. compacting clients)

-- ---- the store alone

-- the journal once it was written anew, if it was
abbrev pub brief_where : List (List Entry) → Result (Unit {0}) Outcome → List (List Entry)
brief_where j (Ok _) = brief j
brief_where j (Err _) = j

-- what compacting leaves of a store, by the answer: at Full there was no room or no generation, and
-- all is as before
abbrev pub CompactedBy : Meaning → StoreValue → StoreValue → Result (Unit {0}) Outcome → Type 0
CompactedBy clients s s' (Ok _) = ShortensJournal clients s s'
CompactedBy clients s s' (Err outcome.Full) = IsTooLong clients s × (s' ≡ s)
CompactedBy clients s s' (Err outcome.Memory) = Unit {0}
CompactedBy clients s s' (Err outcome.DiskFault) = Unit {0}
CompactedBy clients s s' (Err _) = ⊥

-- the file that the store's journal was in is as before
abbrev pub OwnBy : StoreValue → (old new : Outside) → Result (Unit {0}) Outcome → Type 0
OwnBy s old new (Err outcome.DiskFault) = Unit {0}
OwnBy s old new _ = RelatesTold (KeepsFile s.file) old.files new.files

-- A settled store in format 2 was compacted as far as the answer says: at each moment the files
-- stand for its journal or for the brief account of that, and in the end, unless the store is
-- closed, the disk fits it with the one that the answer says. The file that the journal was in is as
-- before, but where a call on the disk failed.
pub record CompactsAs (clients : Meaning) (s s' : StoreValue) (old new : Outside)
    (result : Result (Unit {0}) Outcome) : Type 0 where
  pub leads : (two : Two File) → old.files ≡ Some two → (j : List (List Entry))
      → FitsFiles clients s j two
      → LeadsTo clients (IsOrBrief j) (λ whole. whole ≡ brief_where j result) s' old new
  pub answer : CompactedBy clients s s' result
  pub own : OwnBy s old new result

-- a store was migrated, settled and compacted, and the line printed
abbrev pub MakesBrief : Meaning → StoreValue → (old new : Outside) → (out out' : Stream) → Outcome
    → Type 0
MakesBrief clients = RunsWork clients outcome.Done (compacting clients)
