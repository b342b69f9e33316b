-- All frames copied, one behind the other.
use Rattle.std.proofs.Common.{◌≡◌, ℕ, ◌+◌, ◌-◌, List, [], ◌∷◌, Some, Result, Ok, Err, Option, None}
use Rattle.std.proofs.Common.{append-nil, ap, sym, subst, ◌∙◌}
use Rattle.outside.specs.Disk.{RelatesTold}
use Rattle.outside.specs.Files.{Two, File, file_of, read_files}
use Rattle.outside.specs.Frames.{frame_at}
use Rattle.outside.specs.Links.{sent_of}
use Rattle.outside.specs.Outside.{DiskRun, MomentsAre, Outside}
use Rattle.outside.specs.Steps.{PassedMoments, other_of}
use Rattle.outside.proofs.CallSteps.{becomes_told, looks_none}
use Rattle.frame_journal.specs.Gathering.{GathersFrames}
use Rattle.frame_journal.specs.Group.{AppendsFrames, BeforeOrWithAll, flushed}
use Rattle.frame_journal.specs.Journal.{JournalValue}
use Rattle.frame_journal.proofs.Waiting.{flushed_rests, gathers_flushed}
use Rattle.sync_rules.specs.declared.entries.Entry.{Entry}
use Rattle.sync_rules.specs.Clients.{Meaning}
use Rattle.sync_rules.specs.Facts.{Facts}
use Rattle.journal_migration.specs.Copying.{CopiesAll, CopiesAllSo, GathersAll, GathersAllSo}
use Rattle.journal_migration.specs.Copying.{GathersBatches, GathersNext, GathersSo, GathersWhole}
use Rattle.journal_migration.specs.Copying.{IsPair, IsSamePair, OwesFrames, counted_to}
use Rattle.journal_migration.specs.Migrating.{HoldsFirst, KeepsJournal, StandsStill}
use Rattle.journal_migration.specs.declared.fault.MigrationFault.{MigrationFault}
use Rattle.journal_migration.specs.declared.fault.MigrationFault.TheVariants as fault
use Rattle.journal_migration.proofs.Copied.{gathered_owes, owes_copies, written_still}
use Rattle.journal_migration.proofs.Keeping.{keeps_looks, keeps_map, keeps_then}
use Rattle.journal_migration.proofs.Shut.{own_still}
use Rattle.journal_migration.proofs.Sides.{read_file}

-- no frame yet
pub copied_none : (clients : Meaning) (f : Facts) (generation : ℕ) (j : List (List Entry))
    (r n : JournalValue) (g : List ℕ) (count : ℕ) (o : Outside) (two : Two File)
    → o.files ≡ Some two → IsPair r n
    → GathersBatches clients f generation j r n g count two
    → KeepsJournal clients j (GathersBatches clients f generation j r n g count) o o
copied_none clients f generation j r n g count o two told pair copies =
    keeps_map clients j (λ t. t ≡ two) (GathersBatches clients f generation j r n g count) o o
    (λ t is. subst (GathersBatches clients f generation j r n g count) (sym is) copies)
    (keeps_looks clients j r.file generation o o two pair.reads copies.owes.holds told
    (looks_none o))

pub pair_still : (r n : JournalValue) → IsSamePair r r n n
pair_still r n = search

pub pair_on : (r r1 r2 n n1 n2 : JournalValue) → IsSamePair r r1 n n1 → IsSamePair r1 r2 n1 n2
    → IsSamePair r r2 n n2
pair_on r r1 r2 n n1 n2 first second = record {
  reader_file = second.reader_file ∙ first.reader_file;
  reader_generation = second.reader_generation ∙ first.reader_generation;
  writer_file = second.writer_file ∙ first.writer_file;
  writer_format = second.writer_format ∙ first.writer_format;
  writer_generation = second.writer_generation ∙ first.writer_generation;
}

-- what stands behind a fault at a frame
fault_so : (clients : Meaning) (f : Facts) (generation : ℕ) (j : List (List Entry)) (file own : ℕ)
    (r n : JournalValue) (g : List ℕ) (count : ℕ) (e : MigrationFault) (two : Two File)
    → own ≡ file
    → GathersSo clients f generation j own r n g count (Err e) two
    → GathersAllSo clients generation j file r n g (Err e) two
fault_so clients f generation j file own r n g count fault.Memory two same so =
    subst (λ (k : ℕ). HoldsFirst clients k generation j two) same so
fault_so clients f generation j file own r n g count fault.DiskFault two same so = tt

module _ (clients : Meaning) (f : Facts) (generation : ℕ) (j : List (List Entry))
    (r r1 r2 n n1 n2 : JournalValue) (g1 g2 : List ℕ) (count : ℕ) (o0 o1 o2 : Outside)
    (two : Two File) (told : o0.files ≡ Some two)
    (run : DiskRun o0 o1) (same : IsSamePair r r1 n n1)
    (so_far : KeepsJournal clients j (GathersBatches clients f generation j r1 n1 g1 count) o0
    o1) where
  abbrev pub Later : Result (Option ℕ) MigrationFault → Type 0
  Later result =
      (mid : Two File) → o1.files ≡ Some mid
      → GathersBatches clients f generation j r1 n1 g1 count mid
      → GathersNext clients f generation j r1.file r2 n2 g2 count o1 o2 result

  further : (result : Result (Option ℕ) MigrationFault) → Later result → KeepsJournal clients j
      (GathersSo clients f generation j r1.file r2 n2 g2 count result) o0 o2
  further result later =
      keeps_then clients j (GathersBatches clients f generation j r1 n1 g1 count)
      (GathersSo clients f generation j r1.file r2 n2 g2 count result) o0 o1 o2 two told run so_far
      later

  -- a frame failed
  pub all_failed : (e : MigrationFault) → Later (Err e)
      → (result : Result (Unit {0}) MigrationFault) → result ≡ Err e
      → GathersAll clients generation j r.file r2 n2 g2 o0 o2 result
  all_failed e later result is =
      subst (λ (x : Result (Unit {0}) MigrationFault).
      GathersAll clients generation j r.file r2 n2 g2 o0 o2 x) (sym is)
      (keeps_map clients j (GathersSo clients f generation j r1.file r2 n2 g2 count (Err e))
      (GathersAllSo clients generation j r.file r2 n2 g2 (Err e)) o0 o2
      (λ t so. fault_so clients f generation j r.file r1.file r2 n2 g2 count e t same.reader_file
      so)
      (further (Err e) later))

  -- the closed gate
  pub all_done : Later (Ok None) → GathersAll clients generation j r.file r2 n2 g2 o0 o2 (Ok tt)
  all_done later =
      keeps_map clients j (GathersSo clients f generation j r1.file r2 n2 g2 count (Ok None))
      (GathersAllSo clients generation j r.file r2 n2 g2 (Ok tt)) o0 o2
      (λ t so. record { f = f; count = count; gathers = so.0; at_end = so.1 })
      (further (Ok None) later)

  -- a frame more
  pub all_further : (brought new : ℕ) → new ≡ counted_to (count + brought)
      → Later (Ok (Some brought))
      → KeepsJournal clients j (GathersBatches clients f generation j r2 n2 g2 new) o0 o2
  all_further brought new is later =
      subst (λ (k : ℕ). KeepsJournal clients j (GathersBatches clients f generation j r2 n2 g2 k)
      o0 o2)
      (sym is) (further (Ok (Some brought)) later)

-- ---- those that still wait

gathered_fault : (clients : Meaning) (generation : ℕ) (j : List (List Entry)) (file : ℕ)
    (r n : JournalValue) (g : List ℕ) (e : MigrationFault) (two : Two File)
    → GathersAllSo clients generation j file r n g (Err e) two
    → CopiesAllSo clients generation j file r n (Err e) two
gathered_fault clients generation j file r n g fault.Memory two so = so
gathered_fault clients generation j file r n g fault.DiskFault two so = tt

-- not all came
pub gather_failed : (clients : Meaning) (generation : ℕ) (j : List (List Entry)) (file : ℕ)
    (r n : JournalValue) (g : List ℕ) (o o' : Outside) (e : MigrationFault)
    → GathersAll clients generation j file r n g o o' (Err e)
    → (result : Result (Unit {0}) MigrationFault) → result ≡ Err e
    → CopiesAll clients generation j file r n o o' result
gather_failed clients generation j file r n g o o' e gathers result is =
    subst (λ (x : Result (Unit {0}) MigrationFault).
    CopiesAll clients generation j file r n o o' x) (sym is)
    (keeps_map clients j (GathersAllSo clients generation j file r n g (Err e))
    (CopiesAllSo clients generation j file r n (Err e)) o o'
    (λ t so. gathered_fault clients generation j file r n g e t so) gathers)

module _ (clients : Meaning) (generation : ℕ) (j : List (List Entry)) (file : ℕ)
    (r n n' : JournalValue) (g g' : List ℕ) (o0 o1 o2 : Outside) (two : Two File)
    (told : o0.files ≡ Some two) (run : DiskRun o0 o1) (pair : IsPair r n)
    (gathers : GathersAll clients generation j file r n g o0 o1 (Ok tt))
    (passed : (t : Two File) → o1.files ≡ Some t
    → PassedMoments t o1 o2 n.file (BeforeOrWithAll (file_of t n.file).now n.end g)) where
  flush_still : (mid : Two File) → o1.files ≡ Some mid
      → GathersWhole clients generation j r n g mid
      → MomentsAre o1 o2 (StandsStill clients j (sent_of o1.links.told))
  flush_still mid at whole =
      written_still clients whole.f generation j r n whole.count mid pair.reads pair.writes
      whole.gathers.waiting whole.gathers.owes g o1 o2 whole.gathers.joined (passed mid at)

  -- they were not written, or that is not known
  pub flush_failed : (result : Result (Unit {0}) MigrationFault) → result ≡ Err fault.DiskFault
      → CopiesAll clients generation j file r n' o0 o2 result
  flush_failed result is =
      subst (λ (x : Result (Unit {0}) MigrationFault).
      CopiesAll clients generation j file r n' o0 o2 x) (sym is)
      (keeps_then clients j (GathersAllSo clients generation j file r n g (Ok tt))
      (CopiesAllSo clients generation j file r n' (Err fault.DiskFault)) o0 o1 o2 two told run
      gathers
      (λ mid at whole. record {
        moments = flush_still mid at whole;
        ends = λ t end. tt;
      }))

  -- all are written
  pub flush_done : n' ≡ flushed n g → g' ≡ 0 ∷ []
      → RelatesTold (AppendsFrames n.file n.end g) o1.files o2.files
      → CopiesAll clients generation j file r n' o0 o2 (Ok tt)
  flush_done is empty becomes =
      let more : GathersFrames n n' g g' [] o1.files o2.files =
      subst (λ (l : List ℕ). GathersFrames n n' g l [] o1.files o2.files) (sym empty)
      (gathers_flushed n n' g o1.files o2.files is becomes) in
      let rests = flushed_rests n n' g o1.files o2.files is becomes in
      keeps_then clients j (GathersAllSo clients generation j file r n g (Ok tt))
      (CopiesAllSo clients generation j file r n' (Ok tt)) o0 o1 o2 two told run gathers
      (λ mid at whole. record {
        moments = flush_still mid at whole;
        ends = λ t end.
            let waiting = whole.gathers.waiting in
            let owes = subst (λ (l : List (List ℕ)).
            OwesFrames clients whole.f generation j r n l whole.count mid)
            (sym (append-nil waiting)) whole.gathers.owes in
            let new = becomes_told (AppendsFrames n.file n.end g) o1.files o2.files mid at becomes in
            let both : Some new.0 ≡ Some t = sym new.1 ∙ end in
            let one : new.0 ≡ t = cc in
            let other : other_of t (1 - r.file) ≡ other_of mid (1 - r.file) =
            subst (λ (k : ℕ). other_of t k ≡ other_of mid k) pair.writes
            (subst (λ (x : Two File). other_of x n.file ≡ other_of mid n.file) one new.2.other) in
            let reads : file_of (read_files t) r.file ≡ file_of (read_files mid) r.file =
            read_file t r.file
            ∙ ap (λ (x : File). x.now) (own_still mid t r.file pair.reads other)
            ∙ sym (read_file mid r.file) in
            record {
              f = whole.f;
              count = whole.count;
              copies =
                  owes_copies clients whole.f generation j r n' g' whole.count t empty
                  (gathered_owes clients whole.f generation j r n n' g g' waiting [] whole.count
                  o1.files o2.files mid t pair.reads pair.writes whole.gathers.joined owes more
                  rests at end);
              at_end = ap (λ (b : List ℕ). frame_at b (r.end - 1)) reads ∙ whole.at_end;
            };
      })
