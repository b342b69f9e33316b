-- A writer of frames: what it adds, and that its file has no open header at any moment.
use Rattle.std.proofs.Common.{◌≡◌, ℕ, ◌≤◌, Bool, false, List, [], ◌∷◌, ◌++◌, length, Option}
use Rattle.std.proofs.Common.{Some, inl}
use Rattle.std.proofs.Common.{inr, refl, sym, ap, subst, ◌∙◌, append-nil, arith}
use Rattle.std.specs.Prelude.{◌==◌}
use Rattle.std.specs.Option.{ForSome}
use Rattle.std.proofs.lemmas.Bool.{eqb-false}
use Rattle.outside.specs.Disk.{RelatesTold}
use Rattle.outside.specs.Files.{Two, File, IsFileImage, file_of}
use Rattle.outside.specs.Frames.{HasFrames, IsAtRest, is_open}
use Rattle.outside.specs.Links.{Links, sent_of}
use Rattle.outside.specs.Outside.{DiskRun, Moment, MomentsAre, Outside}
use Rattle.outside.specs.Steps.{FileMoment, PassedMoments, other_of}
use Rattle.outside.proofs.CallSteps.{becomes_told}
use Rattle.outside.proofs.CallSteps.{image_file, image_other}
use Rattle.outside.proofs.CallSteps.{moments_map, moments_none, moments_then, now_images, told_back}
use Rattle.frame_journal.specs.Append.{IsFramed, framed_of, payload_of}
use Rattle.frame_journal.specs.Create.{LeavesClosed, StaysClosed}
use Rattle.frame_journal.specs.Gathering.{AppendsPayloads, Gathered, GathersFrames}
use Rattle.frame_journal.specs.Gathering.{WritesPayloads}
use Rattle.frame_journal.specs.Group.{AppendsFrames, BeforeOrWithAll, IsGroup, flushed}
use Rattle.frame_journal.specs.Journal.{JournalValue}
use Rattle.frame_journal.proofs.ClearSteps.{becomes_new}
use Rattle.frame_journal.proofs.Closed.{closed_settled}
use Rattle.frame_journal.proofs.Framed.{framed_as, payload_framed}
use Rattle.frame_journal.proofs.Waiting.{flushed_rests, frames_long, gathers_flushed}
use Rattle.frame_journal.proofs.Waiting.{gathers_then, gathers_whole}
use Rattle.journal_migration.specs.Starting.{StaysShut}
use Rattle.journal_migration.proofs.Copied.{shut_header}
use Rattle.journal_migration.proofs.Sides.{image_only}
use Rattle.journal_compaction.specs.Writing.{IsFileIdle}
use Rattle.journal_compaction.specs.Writing.{IsWriterShut}

-- ---- what is added

-- a frame more
pub gathers_one : (n n' : JournalValue) (g g' p framed : List ℕ) (o o' : Option (Two File))
    → framed ≡ framed_of p → GathersFrames n n' g g' (payload_of framed ∷ []) o o'
    → GathersFrames n n' g g' (p ∷ []) o o'
gathers_one n n' g g' p framed o o' is =
    subst (λ (q : List ℕ). GathersFrames n n' g g' (q ∷ []) o o')
    (ap payload_of is ∙ payload_framed p)

-- ---- the writer's file

pub idle_so : (n : JournalValue) (two : Two File) → IsWriterShut n two → IsFileIdle n.file two
idle_so n two works = record {
  settled = works.at_rest.settled;
  shut =
      shut_header (file_of two n.file).now works.shut.gate works.shut.behind works.shut.payloads
      works.shut.frames
      works.shut.closed;
}

pub idle_works : (n : JournalValue) (o : Option (Two File)) → ForSome o (IsWriterShut n)
    → ForSome o (IsFileIdle n.file)
idle_works n o works two told = idle_so n two (works two told)

works_more : (n n' : JournalValue) (written : List (List ℕ)) (two two' : Two File)
    → IsWriterShut n two → WritesPayloads n n' written (Some two) (Some two')
    → IsAtRest two' n'.file n'.end → IsWriterShut n' two'
works_more n n' written two two' works writes rest =
    let header = works.shut.gate ∷ works.shut.behind in
    record {
      at_rest = rest;
      shut = record {
        gate = works.shut.gate;
        behind = works.shut.behind;
        payloads = works.shut.payloads ++ written;
        closed = works.shut.closed;
        header = works.shut.header;
        frames =
            subst (λ (t : ℕ). HasFrames (file_of two' t).now header
            (works.shut.payloads ++ written)) (sym writes.grows.file_is)
            (writes.adds.frames header works.shut.payloads works.shut.frames works.shut.end_is);
        end_is = omega (
          arith,
          writes.grows.end_is,
          works.shut.end_is,
          frames_long works.shut.payloads written,
        );
      };
    }

pub some_bytes : (n : ℕ) (t : Bool) → t ≡ (n == 0) → t ≡ false → 1 ≤ n
some_bytes n t is some = omega (arith, eqb-false n 0 (sym is ∙ some))

pub framed_is : (p framed : List ℕ) → framed ≡ framed_of p → 1 ≤ length p → length p ≤ 65536
    → IsFramed framed
framed_is p framed is some few = framed_as p framed is (some, few)

-- what was told of the files before frames were gathered is told behind it
pub works_gathered : (n n' : JournalValue) (g g' : List ℕ) (added : List (List ℕ))
    (o o' : Outside) → IsGroup g → DiskRun o o' → GathersFrames n n' g g' added o.files o'.files
    → ForSome o'.files (λ x. IsAtRest x n'.file n'.end) → ForSome o.files (IsWriterShut n)
    → ForSome o'.files (IsWriterShut n')
works_gathered n n' g g' added o o' waits run gathers rests works x told =
    let before = told_back o o' x run.same_told told in
    let all = waits.payloads ++ added in
    let at : Gathered n n' g' all (Some before.0) (Some x) =
    subst (λ (y : Option (Two File)). Gathered n n' g' all (Some before.0) y) told
    (subst (λ (y : Option (Two File)). Gathered n n' g' all y o'.files) before.1
    (gathers.each waits.payloads waits.joined)) in
    works_more n n' at.written before.0 x (works before.0 before.1) at.writes (rests x told)

-- what was written of them
pub written_of : (n n' : JournalValue) (g g' : List ℕ) (added : List (List ℕ))
    (o o' : Option (Two File)) (waits : IsGroup g)
    (gathers : GathersFrames n n' g g' added o o')
    → WritesPayloads n n' (gathers.each waits.payloads waits.joined).written o o'
written_of n n' g g' added o o' waits gathers =
    (gathers.each waits.payloads waits.joined).writes

-- ---- those that still wait

pub works_flushed : (n n' : JournalValue) (g : List ℕ) (o o' : Outside) → IsGroup g
    → DiskRun o o' → n' ≡ flushed n g → RelatesTold (AppendsFrames n.file n.end g) o.files o'.files
    → ForSome o.files (IsWriterShut n) → ForSome o'.files (IsWriterShut n')
works_flushed n n' g o o' waits run is becomes works =
    works_gathered n n' g (0 ∷ []) [] o o' waits run
    (gathers_flushed n n' g o.files o'.files is becomes)
    (flushed_rests n n' g o.files o'.files is becomes) works

-- all that was gathered where none waited
pub whole_written : (n0 n1 n2 : JournalValue) (g0 g1 : List ℕ) (added : List (List ℕ))
    (o0 o1 o2 : Option (Two File)) → g0 ≡ 0 ∷ [] → GathersFrames n0 n1 g0 g1 added o0 o1
    → n2 ≡ flushed n1 g1 → RelatesTold (AppendsFrames n1.file n1.end g1) o1 o2
    → WritesPayloads n0 n2 added o0 o2
whole_written n0 n1 n2 g0 g1 added o0 o1 o2 none gathers is becomes =
    let first : GathersFrames n0 n1 (0 ∷ []) g1 added o0 o1 =
    subst (λ (l : List ℕ). GathersFrames n0 n1 l g1 added o0 o1) none gathers in
    let all = gathers_then n0 n1 n2 (0 ∷ []) g1 (0 ∷ []) added [] o0 o1 o2 first
    (gathers_flushed n1 n2 g1 o1 o2 is becomes) in
    subst (λ (ps : List (List ℕ)). WritesPayloads n0 n2 ps o0 o2) (append-nil added)
    (gathers_whole n0 n2 (added ++ []) o0 o2 all)

-- ---- moments

-- no call was made
pub shut_none : (file : ℕ) (o : Outside) → ForSome o.files (IsFileIdle file) → StaysShut file o o
shut_none file o idle two told =
    let Q : List ℕ → Type 0 = λ left. is_open left ≡ false in
    moments_none o (FileMoment Q two (sent_of o.links.told) file)
    (λ m now.
    let at = now_images o o two told refl m now in
    record {
      this = ap is_open
          (image_only two file (file_of m.files file) (idle two told).settled
          (image_file two m.files file at.image))
          ∙ (idle two told).shut;
      other = image_other two m.files file at.image;
      nothing_sent = at.sent;
    })

-- those that waited were written, or were not
pub shut_one : (n : JournalValue) (g : List ℕ) (o o' : Outside) → IsGroup g
    → ForSome o.files (IsWriterShut n)
    → ((two : Two File) → o.files ≡ Some two
    → PassedMoments two o o' n.file (BeforeOrWithAll (file_of two n.file).now n.end g))
    → StaysShut n.file o o'
shut_one n g o o' waits works passed two told =
    let w = works two told in
    let bytes = (file_of two n.file).now in
    let sent = sent_of o.links.told in
    moments_map o o' (FileMoment (BeforeOrWithAll bytes n.end g) two sent n.file)
    (FileMoment (λ left. is_open left ≡ false) two sent n.file)
    (λ m moment. record {
      this =
          elim (moment.this waits.payloads (w.shut.gate ∷ w.shut.behind) w.shut.payloads
          waits.joined w.shut.frames w.shut.end_is) [
            | inl before ↦ shut_header (file_of m.files n.file) w.shut.gate w.shut.behind _ before
                w.shut.closed
            | inr with_it ↦ shut_header (file_of m.files n.file) w.shut.gate w.shut.behind _ with_it
                w.shut.closed
          ];
      other = moment.other;
      nothing_sent = moment.nothing_sent;
    }) (passed two told)

-- a moment in words of the files before, where the other file is as it was
moment_before : (Q : List ℕ → Type 0) (two mid : Two File) (sent : List (List ℕ)) (file : ℕ)
    (m : Moment)
    → other_of mid file ≡ other_of two file → FileMoment Q mid sent file m
    → FileMoment Q two sent file m
moment_before Q two mid sent file m same moment = record {
  this = moment.this;
  other = subst (λ (f : File). IsFileImage f (other_of m.files file)) same moment.other;
  nothing_sent = moment.nothing_sent;
}

pub passed_before : (Q : List ℕ → Type 0) (two mid : Two File) (file : ℕ) (o0 o1 o2 : Outside)
    → other_of mid file ≡ other_of two file → o1.links ≡ o0.links → PassedMoments mid o1 o2 file Q
    → MomentsAre o1 o2 (FileMoment Q two (sent_of o0.links.told) file)
passed_before Q two mid file o0 o1 o2 same links passed =
    let there : MomentsAre o1 o2 (FileMoment Q two (sent_of o1.links.told) file) =
    moments_map o1 o2 (FileMoment Q mid (sent_of o1.links.told) file)
    (FileMoment Q two (sent_of o1.links.told) file)
    (λ m x. moment_before Q two mid (sent_of o1.links.told) file m same x) passed in
    subst (λ (l : Links). MomentsAre o1 o2 (FileMoment Q two (sent_of l.told) file)) links there

pub shut_then : (n n' : JournalValue) (added : List (List ℕ)) (o0 o1 o2 : Outside)
    → StaysShut n.file o0 o1
    → DiskRun o0 o1 → WritesPayloads n n' added o0.files o1.files → StaysShut n'.file o1 o2
    → StaysShut n.file o0 o2
shut_then n n' added o0 o1 o2 first run adding second two told =
    let Q : List ℕ → Type 0 = λ left. is_open left ≡ false in
    let mid = becomes_told (AppendsPayloads n.file n.end added) o0.files o1.files two told
    adding.adds in
    let there : StaysShut n.file o1 o2 =
    subst (λ (k : ℕ). StaysShut k o1 o2) adding.grows.file_is second in
    moments_then o0 o1 o2 (FileMoment Q two (sent_of o0.links.told) n.file) (first two told)
    (passed_before Q two mid.0 n.file o0 o1 o2 mid.2.other run.same_links (there mid.0 mid.1))

-- ---- what was written is taken back

-- a writer's file
writer_closed : (n : JournalValue) (two : Two File) → IsWriterShut n two
    → StaysClosed (file_of two n.file)
writer_closed n two works =
    subst StaysClosed (sym works.at_rest.settled) (closed_settled (file_of two n.file).now
    (record {
      gate = works.shut.gate;
      rest = _;
      closed = works.shut.closed;
      shape = works.shut.frames.whole;
    }))

pub works_closed : (n : JournalValue) (file : ℕ) (o o' : Option (Two File)) → file ≡ n.file
    → ForSome o (IsWriterShut n) → RelatesTold (LeavesClosed n.file) o o'
    → ForSome o' (λ t. StaysClosed (file_of t file))
works_closed n file o o' is works leaves t told =
    let from = becomes_new (LeavesClosed n.file) o o' t told leaves in
    subst (λ (k : ℕ). StaysClosed (file_of t k)) (sym is)
    (from.2.closed (writer_closed n from.0 (works from.0 from.1)))

-- at each moment until then, and while it is, the file has no open header
pub shut_back : (file again : ℕ) (o0 o1 o2 : Outside) → again ≡ file → StaysShut file o0 o1
    → DiskRun o0 o1 → RelatesTold (LeavesClosed file) o0.files o1.files → StaysShut again o1 o2
    → StaysShut file o0 o2
shut_back file again o0 o1 o2 same first run leaves second two told =
    let Q : List ℕ → Type 0 = λ left. is_open left ≡ false in
    let mid = becomes_told (LeavesClosed file) o0.files o1.files two told leaves in
    let there : StaysShut file o1 o2 = subst (λ (k : ℕ). StaysShut k o1 o2) same second in
    moments_then o0 o1 o2 (FileMoment Q two (sent_of o0.links.told) file) (first two told)
    (passed_before Q two mid.0 file o0 o1 o2 mid.2.other run.same_links (there mid.0 mid.1))
