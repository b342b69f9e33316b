-- A store whose journal is replaced by its brief account.
use Rattle.std.specs.Prelude.{◌≡◌, ◌⊎◌, ◌+◌, ◌-◌, ◌^◌, ◌<◌, ◌≤◌, true, false, List, ◌++◌, Some}
use Rattle.std.specs.Prelude.{Result, Ok, Err}
use Rattle.outside.specs.Files.{Two, File}
use Rattle.outside.specs.Outside.{Outside}
use Rattle.sync_rules.specs.declared.entries.Entry.{Entry}
use Rattle.sync_rules.specs.Clients.{Meaning}
use Rattle.sync_rules.specs.Steps.{IsSettled}
use Rattle.brief_account.specs.Account.{brief_of}
use Rattle.brief_account.specs.Brief.{brief, without_sessions}
use Rattle.entry_codec.specs.declared.naming.Format.TheVariants as kind
use Rattle.entry_codec.specs.Payloads.{journal_end}
use Rattle.journal_compaction.specs.Compacting.{compacted_len}
use Rattle.sync_store.specs.Store.{StoreValue}
use Rattle.sync_store.specs.Fitting.{FitsFiles}
use Rattle.sync_store.specs.Migrations.{KeepsOwnFile}
use Rattle.sync_store.specs.Moments.{IsBetween, LeadsTo}
use Rattle.sync_store.specs.declared.fault.StoreFault.{StoreFault}
use Rattle.sync_store.specs.declared.fault.StoreFault.TheVariants as fault

-- no further generation is left for the journal, or its brief account passes the limit with the
-- room for settling
abbrev pub IsTooLong : Meaning → StoreValue → Type 0
IsTooLong clients s = (s.generation ≡ 2 ^ 64 - 1) ⊎ (s.limit < compacted_len clients s.state.facts)

-- a further generation is left, and the brief account is within the limit with the room for
-- settling
pub record MayShorten (clients : Meaning) (s : StoreValue) : Type 0 where
  pub generation : s.generation < 2 ^ 64 - 1
  pub roomy : compacted_len clients s.state.facts ≤ s.limit

-- The journal is the brief account, which is in the other file, in format 2 and with the next
-- generation. No session goes on, no step is left, and all else that contracts see of the store is
-- as before.
pub record ShortensJournal (clients : Meaning) (old new : StoreValue) : Type 0 where
  pub may : MayShorten clients old
  pub facts : new.state.facts ≡ without_sessions old.state.facts
  pub settled : IsSettled clients new.state.facts
  pub answers : new.state.answers ≡ old.state.answers
  pub file : new.file ≡ 1 - old.file
  pub format : new.format ≡ 2
  pub generation : new.generation ≡ old.generation + 1
  pub end : new.end ≡ journal_end kind.Short (brief_of clients old.state.facts)
  pub limit : new.limit ≡ old.limit
  pub closed : new.closed ≡ false

-- Full comes exactly where the brief account is too long or has no generation, but that memory may
-- be wanting before that is known. After both all is as before, and after DiskFault too, but that
-- the store is closed then.
abbrev pub AnswersCompact : Meaning → StoreValue → StoreValue → Result (Unit {0}) StoreFault
    → Type 0
AnswersCompact clients old new (Ok _) = ShortensJournal clients old new
AnswersCompact clients old new (Err fault.Closed) = ⊥
AnswersCompact clients old new (Err fault.Full) = IsTooLong clients old × (new ≡ old)
AnswersCompact clients old new (Err fault.Memory) = (old.generation < 2 ^ 64 - 1) × (new ≡ old)
AnswersCompact clients old new (Err fault.DiskFault) =
    MayShorten clients old × (new ≡ record old { closed = true })

-- the journal by the answer
abbrev pub compacted_by : List (List Entry) → Result (Unit {0}) StoreFault → List (List Entry)
compacted_by j (Ok _) = brief j
compacted_by j (Err _) = j

-- this journal, or its brief account
abbrev pub IsOrBrief : List (List Entry) → List (List Entry) → Type 0
IsOrBrief j whole = (whole ≡ j) ⊎ (whole ≡ brief j)

-- this journal with a front of some further batches, or the brief account of it with all of them
abbrev pub IsBetweenOrBrief : List (List Entry) → List (List Entry) → List (List Entry) → Type 0
IsBetweenOrBrief j more whole = IsBetween j more whole ⊎ (whole ≡ brief (j ++ more))

-- whatever journal the disk fits: at each moment the files stand for it or for its brief account,
-- and in the end, unless the store is closed, the disk fits the store with the one of the answer
abbrev pub LeadsToBrief : Meaning → StoreValue → StoreValue → Result (Unit {0}) StoreFault → Outside
    → Outside → Type 0
LeadsToBrief clients old new result o o' =
    (two : Two File) → o.files ≡ Some two → (j : List (List Entry)) → FitsFiles clients old j two
    → LeadsTo clients (IsOrBrief j) (λ whole. whole ≡ compacted_by j result) new o o'

-- A store that is not closed was compacted, as far as the answer says. The file that its journal was
-- in is neither read nor written.
pub record StoreHasCompacted (clients : Meaning) (old new : StoreValue)
    (result : Result (Unit {0}) StoreFault) (o o' : Outside) : Type 0 where
  pub answer : AnswersCompact clients old new result
  pub leads : LeadsToBrief clients old new result o o'
  pub own : KeepsOwnFile old o.files o'.files result
