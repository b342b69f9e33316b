-- How far a reader has come in a journal's file.
use Rattle.std.specs.Prelude.{◌≡◌, ℕ, ◌<◌, ◌≤◌, List, [], length, Result, Ok, Err}
use Rattle.outside.specs.declared.limits.TheConstants.{MAX_JOURNAL}
use Rattle.outside.specs.Frames.{closed, frame_at}
use Rattle.entry_codec.specs.declared.naming.Format.{Format}
use Rattle.entry_codec.specs.Standing.{Standing, damaged, journal}
use Rattle.entry_codec.specs.ReadingFiles.{rest_from}
use Rattle.sync_rules.specs.Clients.{Meaning}
use Rattle.sync_rules.specs.Facts.{entries_of}
use Rattle.journal_audit.specs.declared.fault.AuditFault.{AuditFault}
use Rattle.journal_audit.specs.declared.fault.AuditFault.TheVariants as fault
use Rattle.journal_audit.specs.declared.reading.Played.{Played}
use Rattle.journal_audit.specs.Playing.{IsOfLegal}

-- what the frames of a file stand for
abbrev pub whole_of : Meaning → ℕ → Format → List ℕ → Standing
whole_of clients file format bytes = rest_from clients format file bytes 14 []

-- the facts are those of the batches before a place, and the file stands for what its rest gives behind them
pub record ReadSoFar (clients : Meaning) (file : ℕ) (format : Format) (bytes : List ℕ) (p : Played) : Type 0 where
  pub of : IsOfLegal clients p.facts
  pub going : whole_of clients file format bytes ≡ rest_from clients format file bytes p.place of.done
  pub batches : p.batches ≡ length of.done
  pub entries : p.entries ≡ length (entries_of of.done)
  pub behind : 14 ≤ p.place
  pub within : p.place < MAX_JOURNAL

-- a damaged place was found, where something was
abbrev pub IsDamage : Standing → AuditFault → Type 0
IsDamage whole fault.Memory = Unit {0}
IsDamage whole fault.NoStore = ⊥
IsDamage whole (fault.Damaged place) = whole ≡ damaged place.file place.at
IsDamage whole fault.DiskFault = ⊥

-- one more frame was read, behind this place
abbrev pub ReadsOne : Meaning → ℕ → Format → List ℕ → ℕ → Played → Result (Unit {0}) AuditFault → Type 0
ReadsOne clients file format bytes size new (Ok _) = ReadSoFar clients file format bytes new × (size ≤ new.place)
ReadsOne clients file format bytes size new (Err e) = IsDamage (whole_of clients file format bytes) e

-- the frames of a file are read to a closed gate
abbrev pub ReadsFrames : Meaning → ℕ → Format → List ℕ → Result Played AuditFault → Type 0
ReadsFrames clients file format bytes (Ok p) = ReadSoFar clients file format bytes p × (frame_at bytes p.place ≡ closed)
ReadsFrames clients file format bytes (Err e) = IsDamage (whole_of clients file format bytes) e

-- a journal was read, which leaves the room that it needs
pub record IsJournalRead (clients : Meaning) (whole : Standing) (p : Played) : Type 0 where
  pub of : IsOfLegal clients p.facts
  pub stands_for : whole ≡ journal of.done
  pub batches : p.batches ≡ length of.done
  pub entries : p.entries ≡ length (entries_of of.done)

abbrev pub ReadsStanding : Meaning → Standing → Result Played AuditFault → Type 0
ReadsStanding clients whole (Ok p) = IsJournalRead clients whole p
ReadsStanding clients whole (Err e) = IsDamage whole e
