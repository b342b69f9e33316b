-- What the calls of an audit leave of two files, and what they read of them.
use Rattle.std.specs.Prelude.{◌≡◌, false, true, ℕ, List, Option, None, Some, Result, Ok, Err}
use Rattle.outside.specs.Files.{Two, file_of}
use Rattle.outside.specs.Frames.{format_in, generation_in, is_open, journal_file}
use Rattle.journal_audit.specs.declared.fault.AuditFault.{AuditFault}
use Rattle.journal_audit.specs.declared.fault.AuditFault.TheVariants as fault
use Rattle.journal_audit.specs.declared.files.Header.{Header}

-- the header of these bytes: none where it is not open
abbrev pub IsHeaderOf : List ℕ → Option Header → Type 0
IsHeaderOf bytes None = is_open bytes ≡ false
IsHeaderOf bytes (Some header) = (is_open bytes ≡ true) × (header.format ≡ format_in bytes) × (header.generation ≡ generation_in bytes)

-- the journal's file and its format were found, or no header is open
abbrev pub IsFileFound : Two (List ℕ) → Result (ℕ × ℕ) AuditFault → Type 0
IsFileFound files (Ok found) = (journal_file files ≡ Some found.0) × (format_in (file_of files found.0) ≡ found.1)
IsFileFound files (Err fault.Memory) = ⊥
IsFileFound files (Err fault.NoStore) = journal_file files ≡ None
IsFileFound files (Err (fault.Damaged place)) = ⊥
IsFileFound files (Err fault.DiskFault) = Unit {0}
