-- A group between a reader and a writer.
use Rattle.std.proofs.Common.{◌≡◌, ℕ, List, [], ◌∷◌, length, refl, sym, ap, subst}
use Rattle.std.proofs.Common.{◌∙◌, arith}
use Rattle.std.specs.Option.{ForSome}
use Rattle.outside.specs.Disk.{RelatesTold}
use Rattle.outside.specs.Outside.{DiskRun, Outside}
use Rattle.outside.proofs.CallSteps.{looks_none}
use Rattle.frame_journal.specs.Group.{AppendsFrames, IsGroup, flushed}
use Rattle.frame_journal.specs.Journal.{JournalValue}
use Rattle.frame_journal.proofs.GroupSteps.{flushed_moved}
use Rattle.frame_journal.proofs.Waiting.{flushed_rests, gathers_flushed, waits_none}
use Rattle.journal_migration.specs.Copying.{AreBothShut, IsGathering, IsPair, IsSamePair}
use Rattle.journal_migration.proofs.Shut.{works_gathered}

-- no frame waits
pub gathering_none : (r n : JournalValue) (g : List ℕ) → g ≡ 0 ∷ [] → IsPair r n
    → IsGathering r n g
gathering_none r n g is pair = record {
  waits = subst IsGroup (sym is) waits_none;
  behind = omega (arith, pair.behind, ap length is);
}

-- and behind a flush
pub pair_flushed : (r n n' : JournalValue) (g : List ℕ) → IsPair r n → IsGathering r n g
    → n' ≡ flushed n g → IsPair r n'
pair_flushed r n n' g pair waits is =
    let moved = flushed_moved n n' g is in
    record {
      reads = pair.reads;
      writes = moved.file_is ∙ pair.writes;
      begun = pair.begun;
      behind = omega (arith, moved.end_is, waits.behind);
      bounded = pair.bounded;
    }

pub same_flushed : (r r1 n n1 n2 : JournalValue) (g : List ℕ) → IsSamePair r r1 n n1
    → n2 ≡ flushed n1 g → IsSamePair r r1 n n2
same_flushed r r1 n n1 n2 g same is =
    let moved = flushed_moved n1 n2 g is in
    record {
      reader_file = same.reader_file;
      reader_generation = same.reader_generation;
      writer_file = moved.file_is ∙ same.writer_file;
      writer_format = moved.format_is ∙ same.writer_format;
      writer_generation = moved.generation_is ∙ same.writer_generation;
    }

pub works_flushed : (r n n' : JournalValue) (g : List ℕ) (o o' : Outside) → IsPair r n
    → IsGathering r n g → ForSome o.files (AreBothShut r n) → DiskRun o o' → n' ≡ flushed n g
    → RelatesTold (AppendsFrames n.file n.end g) o.files o'.files
    → ForSome o'.files (AreBothShut r n')
works_flushed r n n' g o o' pair waits works run is becomes =
    works_gathered r r n n' g (0 ∷ []) [] o o o' pair waits.waits works (looks_none o) run
    (gathers_flushed n n' g o.files o'.files is becomes)
    (flushed_rests n n' g o.files o'.files is becomes) refl refl
