-- The other file begun, call by call, and taken back.
use Rattle.std.proofs.Common.{◌≡◌, ℕ, ◌<◌, false, Option, Some, take, sym, ap, subst}
use Rattle.std.proofs.Common.{◌∙◌, inr}
use Rattle.std.specs.Option.{ForSome}
use Rattle.outside.specs.Disk.{RelatesTold}
use Rattle.outside.specs.Files.{Two, File, NothingPending, file_of, settled}
use Rattle.outside.specs.Frames.{is_open}
use Rattle.outside.specs.Outside.{DiskRun, Outside}
use Rattle.outside.specs.Steps.{PassedMoments, other_of}
use Rattle.outside.proofs.CallSteps.{becomes_then, becomes_told}
use Rattle.frame_journal.specs.Create.{BeforeOrShut, CutsToFirstByte, IsCleared, LeavesClosed}
use Rattle.frame_journal.specs.Create.{PreparesJournal, ShutsGate, StaysClosed}
use Rattle.frame_journal.proofs.ClearSteps.{becomes_new, passed_then}
use Rattle.frame_journal.proofs.Closed.{closed_settled}
use Rattle.journal_migration.specs.Starting.{EndsOrStays, IsSettledBoth, IsShutAndSettled}
use Rattle.journal_migration.specs.Starting.{StaysShut}
use Rattle.journal_migration.proofs.Sides.{settled_one}

-- ---- the header

-- what a clearing leaves
cut_cleared : (file : ℕ) (two two1 : Two File) → IsShutAndSettled file two
    → CutsToFirstByte file two two1 → IsCleared two1 file
cut_cleared file two two1 shut cut = record {
  gate = shut.shut.gate;
  closed = shut.shut.closed;
  bytes = cut.still shut.settled
      ∙ ap settled (cut.reads ∙ ap (take 1) shut.shut.shape);
}

pub cleared_behind : (file : ℕ) (o o' : Option (Two File)) → ForSome o (IsShutAndSettled file)
    → RelatesTold (CutsToFirstByte file) o o' → ForSome o' (λ two. IsCleared two file)
cleared_behind file o o' shut cuts two told =
    let from = becomes_new (CutsToFirstByte file) o o' two told cuts in
    cut_cleared file from.0 two (shut from.0 from.1) from.2

-- a file prepared behind calls that left the other
pub prepared_behind : (file generation : ℕ) (step : Two File → Two File → Type 0)
    (o0 o1 o2 : Option (Two File))
    → ((a b : Two File) → step a b → other_of b file ≡ other_of a file) → RelatesTold step o0 o1
    → RelatesTold (PreparesJournal file 2 generation) o1 o2
    → RelatesTold (PreparesJournal file 2 generation) o0 o2
prepared_behind file generation step o0 o1 o2 leaves =
    becomes_then step (PreparesJournal file 2 generation) (PreparesJournal file 2 generation) o0 o1
    o2 (λ a b c x y. record {
      gate = y.gate;
      closed = y.closed;
      bytes = y.bytes;
      other = y.other ∙ leaves a b x;
      at_rest = y.at_rest;
      prepared = y.prepared;
    })

-- at each moment of both the file has no open header
pub shut_both : (file : ℕ) (step : Two File → Two File → Type 0) (o0 o1 o2 : Outside)
    → ((a b : Two File) → step a b → other_of b file ≡ other_of a file)
    → RelatesTold step o0.files o1.files → DiskRun o0 o1 → StaysShut file o0 o1
    → StaysShut file o1 o2 → StaysShut file o0 o2
shut_both file step o0 o1 o2 leaves becomes run first second two told =
    let mid = becomes_told step o0.files o1.files two told becomes in
    passed_then two mid.0 o0 o1 o2 file (λ left. is_open left ≡ false) (λ left. is_open left ≡ false)
    (first two told) run.same_links (leaves two mid.0 mid.2) (λ left closed. closed)
    (second mid.0 mid.1)

-- the gate was shut, and nothing is pending
pub shut_settled : (file : ℕ) (o o' : Option (Two File)) → file < 2 → ForSome o IsSettledBoth
    → RelatesTold (ShutsGate file) o o' → ForSome o' (IsShutAndSettled file)
shut_settled file o o' few settled shuts two told =
    let from = becomes_new (ShutsGate file) o o' two told shuts in
    let both = settled from.0 from.1 in
    record {
      settled = from.2.still (settled_one from.0 file few both.first both.second);
      shut = from.2.shut;
    }

pub shut_closed : (file : ℕ) (two : Two File) → IsShutAndSettled file two
    → StaysClosed (file_of two file)
shut_closed file two shut =
    subst StaysClosed (sym shut.settled) (closed_settled (file_of two file).now shut.shut)

pub closed_behind : (file : ℕ) (o o' : Option (Two File)) → ForSome o (IsShutAndSettled file)
    → RelatesTold (LeavesClosed file) o o' → ForSome o' (λ two. StaysClosed (file_of two file))
closed_behind file o o' shut leaves two told =
    let from = becomes_new (LeavesClosed file) o o' two told leaves in
    from.2.closed (shut_closed file from.0 (shut from.0 from.1))

-- ---- a file begun

module _ (file : ℕ) (o0 o1 o2 : Outside) (few : file < 2) (both : ForSome o0.files IsSettledBoth)
    (shuts : RelatesTold (ShutsGate file) o0.files o1.files) (run : DiskRun o0 o1)
    (first : (two : Two File) → o0.files ≡ Some two → NothingPending two file
    → PassedMoments two o0 o1 file (BeforeOrShut (file_of two file).now))
    (run1 : DiskRun o1 o2) (stays : StaysShut file o1 o2) where
  pub begun_shut : EndsOrStays file o0 o2
  begun_shut two told =
      let mid = becomes_told (ShutsGate file) o0.files o1.files two told shuts in
      let settled = both two told in
      passed_then two mid.0 o0 o1 o2 file (BeforeOrShut (file_of two file).now)
      (λ left. is_open left ≡ false)
      (first two told (settled_one two file few settled.first settled.second)) run.same_links
      mid.2.other (λ left closed. inr closed) (stays mid.0 mid.1)

  pub begun_back : (o3 : Outside) → RelatesTold (LeavesClosed file) o1.files o2.files
      → StaysShut file o2 o3 → EndsOrStays file o0 o3
  begun_back o3 leaves back two told =
      let mid = becomes_told (ShutsGate file) o0.files o1.files two told shuts in
      let next = becomes_told (LeavesClosed file) o1.files o2.files mid.0 mid.1 leaves in
      passed_then two next.0 o0 o2 o3 file (BeforeOrShut (file_of two file).now)
      (λ left. is_open left ≡ false) (begun_shut two told)
      (run1.same_links ∙ run.same_links) (next.2.other ∙ mid.2.other)
      (λ left closed. inr closed) (back next.0 next.1)
