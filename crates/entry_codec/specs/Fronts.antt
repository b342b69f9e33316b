-- How far a reader has come in the journal of two files, and when a frame fits the file.
use Rattle.std.specs.Prelude.{◌≡◌, ℕ, ◌+◌, ◌-◌, ◌≤◌, List, ◌++◌, length, take, drop, Some, All}
use Rattle.std.specs.List.{AllByRecursion, flat_map}
use Rattle.sync_rules.specs.declared.entries.Entry.{Entry}
use Rattle.sync_rules.specs.Clients.{Meaning}
use Rattle.sync_rules.specs.Facts.{nothing}
use Rattle.sync_rules.specs.Legal.{Legal}
use Rattle.outside.specs.declared.limits.TheConstants.{MAX_FRAME, MAX_JOURNAL}
use Rattle.outside.specs.Files.{Two, file_of}
use Rattle.outside.specs.Frames.{IsPayload, format_in, frame_of, journal_file}
use Rattle.entry_codec.specs.declared.naming.Format.{Format}
use Rattle.entry_codec.specs.Naming.{format_of}
use Rattle.entry_codec.specs.Spelling.{IsEntry, IsOfFormat}
use Rattle.entry_codec.specs.Payloads.{journal_end, payloads}
use Rattle.entry_codec.specs.ReadingFiles.{read_standing, rest_from}

-- ---- frames

-- a frame that is there fits the file
pub record FitsFile (bytes : List ℕ) (place : ℕ) (to : List ℕ) : Type 0 where
  pub some : 1 ≤ length to
  pub few : length to ≤ MAX_FRAME
  pub there : place + 5 + length to ≤ length bytes
  pub bounded : place + 6 + length to ≤ MAX_JOURNAL

-- ---- a reader in the journal of two files
-- A reader has come to the gate before `end`: these batches are before it. They are legal and within their limits, and what
-- the files stand for is what the rest of the file gives behind them. The file has this format, which has their kinds.
pub record Front (clients : Meaning) (files : Two (List ℕ)) (file : ℕ) (format : Format) (done : List (List Entry)) (end : ℕ) : Type 0 where
  pub found : journal_file files ≡ Some file
  pub format_is : format_of (format_in (file_of files file)) ≡ Some format
  pub going : read_standing clients files ≡ rest_from clients format file (file_of files file) (end - 1) done
  pub legal : Legal clients done
  pub kinds : AllByRecursion (AllByRecursion (IsOfFormat format)) done
  pub within : AllByRecursion (AllByRecursion IsEntry) done
  pub long : length (take 14 (file_of files file)) ≡ 14
  pub whole : file_of files file ≡ take 14 (file_of files file) ++ flat_map frame_of (payloads format nothing done) ++ drop (end - 1) (file_of files file)
  pub payloads_fit : All IsPayload (payloads format nothing done)
  pub end_is : end ≡ journal_end format done
