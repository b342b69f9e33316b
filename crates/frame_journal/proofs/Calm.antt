-- Syncs leave the files as they read.
use Rattle.std.proofs.Common.{◌≡◌, ℕ, zero, suc, Option, None, Some, Result, Ok, Err, refl, ap, ◌∙◌}
use Rattle.outside.specs.declared.failed.Failed.{Failed}
use Rattle.outside.specs.Files.{File, ReadsSame, Two, read_files}
use Rattle.outside.specs.Disk.{RelatesTold, SyncsFile}

-- a sync leaves the files as they read
sync_reads : (file : ℕ) (result : Result (Unit {0}) Failed) (old new : Two File) → SyncsFile file result old new → read_files new ≡ read_files old
sync_reads zero (Ok _) old new synced = ap read_files synced
sync_reads (suc _) (Ok _) old new synced = ap read_files synced
sync_reads file (Err _) old new synced = ap read_files synced

pub reads_none : (o : Option (Two File)) → RelatesTold ReadsSame o o
reads_none None = tt
reads_none (Some two) = refl

pub reads_sync : (o0 o o' : Option (Two File)) (file : ℕ) (result : Result (Unit {0}) Failed) → RelatesTold ReadsSame o0 o → RelatesTold (SyncsFile file result) o o' → RelatesTold ReadsSame o0 o'
reads_sync None None None file result reads becomes = tt
reads_sync None None (Some new) file result reads becomes = becomes
reads_sync None (Some mid) o' file result reads becomes = absurd reads
reads_sync (Some old) None o' file result reads becomes = absurd reads
reads_sync (Some old) (Some mid) None file result reads becomes = becomes
reads_sync (Some old) (Some mid) (Some new) file result reads becomes = sync_reads file result mid new becomes ∙ reads
