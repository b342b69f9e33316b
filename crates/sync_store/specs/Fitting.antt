-- The disk fits a store: its files stand for a journal that has the store's facts.
use Rattle.std.specs.Prelude.{◌≡◌, ℕ, ◌+◌, ◌≤◌, List, Option, Some}
use Rattle.std.specs.List.{AllByRecursion}
use Rattle.outside.specs.Files.{Two, File, IsImage, file_of, read_files, NothingPending}
use Rattle.outside.specs.Frames.{HasFrames, format_in, generation_in, journal_file}
use Rattle.sync_rules.specs.declared.entries.Entry.{Entry}
use Rattle.sync_rules.specs.Clients.{Meaning}
use Rattle.sync_rules.specs.Facts.{facts, nothing}
use Rattle.sync_rules.specs.Legal.{Legal}
use Rattle.entry_codec.specs.Naming.{format_of}
use Rattle.entry_codec.specs.Payloads.{journal_end, payloads}
use Rattle.entry_codec.specs.Spelling.{IsEntry, IsOfFormat}
use Rattle.entry_codec.specs.Standing.{journal, room_of}
use Rattle.file_standing.specs.Standing.{stands}
use Rattle.outside.specs.declared.limits.TheConstants.{MAX_JOURNAL}
use Rattle.sync_store.specs.Store.{NoneWaits, StoreValue, written_in}

pub record FitsFiles (clients : Meaning) (s : StoreValue) (j : List (List Entry))
    (two : Two File) : Type 0 where
  -- no frame waits, and nothing is pending in either file
  pub none_waits : NoneWaits s
  pub first_settled : NothingPending two 0
  pub second_settled : NothingPending two 1
  -- they stand for the journal, which has the store's facts
  pub stands_for : stands clients (read_files two) ≡ journal j
  pub facts_are : facts j ≡ s.state.facts
  pub legal : Legal clients j
  -- the journal's file is the store's, and so are its generation and its format, which is one of
  -- the two
  pub file_is : journal_file (read_files two) ≡ Some s.file
  pub format_is : format_in (file_of two s.file).now ≡ s.format
  pub format_known : format_of s.format ≡ Some (written_in s)
  pub generation_is : generation_in (file_of two s.file).now ≡ s.generation
  -- its frames are the journal's batches, up to the closed gate, which is before the store's end
  pub header : List ℕ
  pub frames : HasFrames (file_of two s.file).now header (payloads (written_in s) nothing j)
  pub end_is : s.end ≡ journal_end (written_in s) j
  -- its entries are of kinds that the format has, and within their limits
  pub kinds : AllByRecursion (AllByRecursion (IsOfFormat (written_in s))) j
  pub within : AllByRecursion (AllByRecursion IsEntry) j

-- where the files are told they fit the store with some journal
abbrev pub FitsSome : Meaning → StoreValue → Option (Two File) → Type 0
FitsSome clients s files =
    (two : Two File) → files ≡ Some two → (j : List (List Entry)) × FitsFiles clients s j two

-- whatever a crash leaves of a disk that fits a store stands for the journal
abbrev pub ImagesStand : Type 0
ImagesStand =
    (clients : Meaning) (s : StoreValue) (j : List (List Entry)) (two : Two File)
    (left : Two (List ℕ)) → FitsFiles clients s j two
    → s.end + room_of (written_in s) s.state.facts ≤ MAX_JOURNAL → IsImage two left
    → stands clients left ≡ journal j
