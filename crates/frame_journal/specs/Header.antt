-- What a read of a header answers, and which file a journal is found in.
use Rattle.std.specs.Prelude.{◌≡◌, ℕ, true, false, List, length, Option, None, Some, Result, Ok, Err}
use Rattle.outside.specs.Files.{Two, file_of}
use Rattle.outside.specs.Frames.{is_open, format_in, generation_in, journal_file}
use Rattle.frame_journal.specs.declared.header.Header.{Header}
use Rattle.frame_journal.specs.declared.fault.StartFault.{StartFault}
use Rattle.frame_journal.specs.declared.fault.StartFault.TheVariants as start
use Rattle.frame_journal.specs.Journal.{JournalValue, is_format}

-- the header of these bytes: none where it is not open
abbrev pub IsHeaderOf : List ℕ → Option Header → Type 0
IsHeaderOf bytes None = is_open bytes ≡ false
IsHeaderOf bytes (Some header) = (is_open bytes ≡ true) × (header.format ≡ format_in bytes) × (header.generation ≡ generation_in bytes)

-- the reader of a journal begins behind this header of a file
abbrev pub begun_at : ℕ → List ℕ → JournalValue
begun_at file bytes = record { file = file; format = format_in bytes; generation = generation_in bytes; end = 15; len = length bytes; last = 0 }

-- The journal of two files begins behind the header of the journal's file, where its format is one
-- that a journal may have; else the file is damaged there, and where no header is open there is no
-- journal.
abbrev pub StartsJournal : Two (List ℕ) → Result JournalValue StartFault → Type 0
StartsJournal files (Ok journal) =
    (journal_file files ≡ Some journal.file)
    × (is_format (format_in (file_of files journal.file)) ≡ true)
    × (journal ≡ begun_at journal.file (file_of files journal.file))
StartsJournal files (Err start.NoStore) = journal_file files ≡ None
StartsJournal files (Err (start.Damaged place)) =
    (journal_file files ≡ Some place.file)
    × (is_format (format_in (file_of files place.file)) ≡ false)
    × (place.at ≡ 5)
StartsJournal files (Err start.DiskFault) = Unit {0}
