-- What was written of the other file is taken back.
use Rattle.std.proofs.Common.{◌≡◌, ℕ, ◌-◌, ◌<◌, false, List, [], ◌∷◌, Option}
use Rattle.std.proofs.Common.{Some, Result, Ok, Err, inl, inr, refl, sym, ap, subst, ◌∙◌, arith}
use Rattle.std.specs.Option.{ForSome}
use Rattle.outside.specs.Disk.{RelatesTold}
use Rattle.outside.specs.Faults.{CountRose}
use Rattle.outside.specs.Files.{Two, File, IsFileImage, file_of, settled}
use Rattle.outside.specs.Frames.{is_open}
use Rattle.outside.specs.Links.{Links, sent_of}
use Rattle.outside.specs.Outside.{DiskRun, MomentsAre, Outside}
use Rattle.outside.specs.Steps.{FileMoment, other_of}
use Rattle.outside.proofs.CallSteps.{becomes_none, becomes_then, becomes_told, moments_map}
use Rattle.outside.proofs.CallSteps.{moments_then}
use Rattle.frame_journal.specs.Create.{HasShutGate, IsClearedAgain, LeavesClosed}
use Rattle.frame_journal.specs.Create.{PreparesJournal, StaysClosed}
use Rattle.frame_journal.specs.Journal.{JournalValue}
use Rattle.frame_journal.proofs.ClearSteps.{becomes_new}
use Rattle.frame_journal.proofs.Closed.{closed_settled, leaves_looks, leaves_then}
use Rattle.sync_rules.specs.declared.entries.Entry.{Entry}
use Rattle.sync_rules.specs.Clients.{Meaning}
use Rattle.sync_rules.specs.Facts.{Facts}
use Rattle.journal_migration.specs.Copying.{AreBothShut, CopiesAll, CopiesAllSo, CopiesBatches}
use Rattle.journal_migration.specs.Copying.{IsPair}
use Rattle.journal_migration.specs.Migrating.{HoldsFirst, IsAsBeforeOrCleared, StandsStill}
use Rattle.journal_migration.specs.Migrating.{TakesBack}
use Rattle.journal_migration.specs.Starting.{ClearsAgain, IsTakenBack, StaysShut}
use Rattle.journal_migration.specs.declared.fault.MigrationFault.{MigrationFault}
use Rattle.journal_migration.specs.declared.fault.MigrationFault.TheVariants as fault
use Rattle.journal_migration.proofs.Keeping.{keeps_map, shut_still}
use Rattle.journal_migration.proofs.Shut.{own_still}
use Rattle.journal_migration.proofs.Sides.{holds_on}

-- ---- a header that no crash opens

-- behind calls that only read
pub leaves_behind : (file : ℕ) (o0 o1 o2 : Option (Two File)) → o1 ≡ o0
    → RelatesTold (LeavesClosed file) o1 o2 → RelatesTold (LeavesClosed file) o0 o2
leaves_behind file o0 o1 o2 same second =
    leaves_then file o0 o1 o2 (leaves_looks file o0 o1 same) second

-- the number of the file is the same
pub leaves_on : (file again : ℕ) (o0 o1 o2 : Option (Two File)) → again ≡ file
    → RelatesTold (LeavesClosed file) o0 o1 → RelatesTold (LeavesClosed again) o1 o2
    → RelatesTold (LeavesClosed file) o0 o2
leaves_on file again o0 o1 o2 same first second =
    leaves_then file o0 o1 o2 first
    (subst (λ (k : ℕ). RelatesTold (LeavesClosed k) o1 o2) same second)

-- a writer's file
both_closed : (r n : JournalValue) (two : Two File) → AreBothShut r n two
    → StaysClosed (file_of two n.file)
both_closed r n two works =
    let now = (file_of two n.file).now in
    let shut : HasShutGate now = record {
      gate = works.shut.gate;
      rest = _;
      closed = works.shut.closed;
      shape = works.shut.frames.whole;
    } in
    subst StaysClosed (sym works.at_rest.settled) (closed_settled now shut)

pub works_closed : (r n : JournalValue) (file : ℕ) (o o' : Option (Two File)) → file ≡ n.file
    → ForSome o (AreBothShut r n) → RelatesTold (LeavesClosed n.file) o o'
    → ForSome o' (λ t. StaysClosed (file_of t file))
works_closed r n file o o' is works leaves t told =
    let from = becomes_new (LeavesClosed n.file) o o' t told leaves in
    subst (λ (k : ℕ). StaysClosed (file_of t k)) (sym is)
    (from.2.closed (both_closed r n from.0 (works from.0 from.1)))

-- ---- moments

-- at each moment the other file has no open header, so the files stand for the journal
pub unopened_still : (clients : Meaning) (j : List (List Entry)) (own generation : ℕ)
    (two two1 : Two File) (o0 o1 o2 : Outside) → own < 2 → HoldsFirst clients own generation j two
    → o1.files ≡ Some two1 → o1.links ≡ o0.links
    → other_of two1 (1 - own) ≡ other_of two (1 - own) → StaysShut (1 - own) o1 o2
    → MomentsAre o1 o2 (StandsStill clients j (sent_of o0.links.told))
unopened_still clients j own generation two two1 o0 o1 o2 few holds told links other stays =
    let Q : List ℕ → Type 0 = λ left. is_open left ≡ false in
    let sent = sent_of o0.links.told in
    moments_map o1 o2 (FileMoment Q two1 (sent_of o1.links.told) (1 - own))
    (StandsStill clients j sent)
    (λ m x.
    let there : FileMoment Q two sent (1 - own) m = record {
      this = x.this;
      other = subst (λ (f : File). IsFileImage f (other_of m.files (1 - own))) other x.other;
      nothing_sent = x.nothing_sent ∙ ap (λ (l : Links). sent_of l.told) links;
    } in
    shut_still clients j own generation two few holds Q sent m there there.this) (stays two1 told)

-- ---- a copy that failed

module _ (clients : Meaning) (f : Facts) (generation : ℕ) (j : List (List Entry))
    (r r' n n' : JournalValue) (two : Two File) (o0 o1 o2 : Outside) (told : o0.files ≡ Some two)
    (pair : IsPair r n) (copies : CopiesBatches clients f generation j r n 0 two)
    (run : DiskRun o0 o1) (leaves : RelatesTold (LeavesClosed n.file) o0.files o1.files)
    (stays : StaysShut n.file o1 o2)
    (so_far : MomentsAre o0 o1 (StandsStill clients j (sent_of o0.links.told))) where
  mid : (two1 : Two File) × (o1.files ≡ Some two1) × LeavesClosed n.file two two1
  mid = becomes_told (LeavesClosed n.file) o0.files o1.files two told leaves

  here : other_of mid.0 (1 - r.file) ≡ other_of two (1 - r.file)
  here = subst (λ (k : ℕ). other_of mid.0 k ≡ other_of two k) pair.writes mid.2.other

  all_still : MomentsAre o0 o2 (StandsStill clients j (sent_of o0.links.told))
  all_still =
      moments_then o0 o1 o2 (StandsStill clients j (sent_of o0.links.told)) so_far
      (unopened_still clients j r.file generation two mid.0 o0 o1 o2 pair.reads copies.holds mid.1
      run.same_links here
      (subst (λ (k : ℕ). StaysShut k o1 o2) pair.writes stays))

  cleared_still : (two2 : Two File) → IsClearedAgain n.file mid.0 two2
      → HoldsFirst clients r.file generation j two2
  cleared_still two2 again =
      let other : other_of two2 (1 - r.file) ≡ other_of two (1 - r.file) =
      subst (λ (k : ℕ). other_of two2 k ≡ other_of mid.0 k) pair.writes again.other ∙ here in
      let bytes : file_of two2 (1 - r.file) ≡ settled (again.cleared.gate ∷ []) =
      subst (λ (k : ℕ). file_of two2 k ≡ settled (again.cleared.gate ∷ [])) pair.writes
      again.cleared.bytes in
      let now : (file_of two2 (1 - r.file)).now ≡ again.cleared.gate ∷ [] =
      ap (λ (x : File). x.now) bytes in
      holds_on clients r.file generation j two two2 pair.reads copies.holds
      (own_still two two2 r.file pair.reads other) (bytes ∙ ap settled (sym now))
      (ap is_open now)

  pub copies_back : (e e' : MigrationFault) → IsTakenBack n.file e o1 o2 e'
      → CopiesAll clients generation j r.file r' n' o0 o2 (Err e')
  copies_back fault.Memory fault.Memory back = record {
    moments = all_still;
    ends = λ two2 end.
        let new = becomes_told (IsClearedAgain n.file) o1.files o2.files mid.0 mid.1 back in
        let both : Some new.0 ≡ Some two2 = sym new.1 ∙ end in
        let one : new.0 ≡ two2 = cc in
        subst (HoldsFirst clients r.file generation j) one (cleared_still new.0 new.2);
  }
  copies_back fault.DiskFault fault.Memory back = absurd back
  copies_back e fault.DiskFault back = record { moments = all_still; ends = λ two2 end. tt }

-- it ended elsewhere
pub copies_elsewhere : (clients : Meaning) (generation : ℕ) (j : List (List Entry)) (file : ℕ)
    (r n : JournalValue) (o o' : Outside) → r.file ≡ file
    → CopiesAll clients generation j file r n o o' (Ok tt)
    → CopiesAll clients generation j file r n o o' (Err fault.Memory)
copies_elsewhere clients generation j file r n o o' same =
    keeps_map clients j (CopiesAllSo clients generation j file r n (Ok tt))
    (CopiesAllSo clients generation j file r n (Err fault.Memory)) o o'
    (λ t so. subst (λ (k : ℕ). HoldsFirst clients k generation j t) same so.copies.holds)

-- nothing is left of it
pub back_none : (file again : ℕ) (e e' : MigrationFault) (o0 o1 o2 : Outside) → again ≡ file
    → RelatesTold (LeavesClosed file) o0.files o1.files → IsTakenBack again e o1 o2 e'
    → ClearsAgain {A = Unit {0}} file o0.files o2.files (Err e')
back_none file again fault.Memory fault.Memory o0 o1 o2 same leaves back =
    becomes_then (LeavesClosed file) (IsClearedAgain file) (IsClearedAgain file) o0.files
    o1.files o2.files (λ a b c x y. record { cleared = y.cleared; other = y.other ∙ x.other })
    leaves
    (subst (λ (k : ℕ). RelatesTold (IsClearedAgain k) o1.files o2.files) same back)
back_none file again fault.DiskFault fault.Memory o0 o1 o2 same leaves back = absurd back
back_none file again e fault.DiskFault o0 o1 o2 same leaves back = tt

-- behind a file that was prepared
pub back_begun : (file generation : ℕ) (e : MigrationFault)
    (result : Result JournalValue MigrationFault) (o0 o1 o2 : Option (Two File))
    → result ≡ Err e → RelatesTold (PreparesJournal file 2 generation) o0 o1
    → ClearsAgain {A = Unit {0}} file o1 o2 (Err e) → TakesBack file o0 o2 result
back_begun file generation e result o0 o1 o2 is prepared again =
    subst (TakesBack file o0 o2) (sym is) (so e again)
  where
    so : (e : MigrationFault) → ClearsAgain {A = Unit {0}} file o1 o2 (Err e)
        → TakesBack {A = JournalValue} file o0 o2 (Err e)
    so fault.Memory again =
        becomes_then (PreparesJournal file 2 generation) (IsClearedAgain file)
        (IsAsBeforeOrCleared file) o0 o1 o2 (λ a b c x y. inr y.cleared) prepared again
    so fault.DiskFault again = tt

-- nothing was written
pub back_unmade : {A : Type 0} (file : ℕ) (e : MigrationFault) (result : Result A MigrationFault)
    (o o' : Option (Two File)) → result ≡ Err e → o' ≡ o → TakesBack file o o' result
back_unmade {A = A} file e result o o' is same =
    subst (TakesBack {A = A} file o o') (sym is) (so e)
  where
    so : (e : MigrationFault) → TakesBack {A = A} file o o' (Err e)
    so fault.Memory =
        subst (RelatesTold (IsAsBeforeOrCleared file) o) (sym same)
        (becomes_none (IsAsBeforeOrCleared file) o (λ t. inl refl))
    so fault.DiskFault = tt

-- a call on the disk failed
pub back_cut : {A : Type 0} (file : ℕ) (result : Result A MigrationFault)
    (o o' : Option (Two File)) → result ≡ Err fault.DiskFault → TakesBack file o o' result
back_cut {A = A} file result o o' is = subst (TakesBack {A = A} file o o') (sym is) tt

-- the cause of a fault
pub back_cause : (file : ℕ) (e e' : MigrationFault) (o0 o1 o2 : Outside) → DiskRun o0 o1
    → DiskRun o1 o2
    → (e ≡ fault.DiskFault → CountRose o0.disk_faults o1.disk_faults) → IsTakenBack file e o1 o2 e'
    → e' ≡ fault.DiskFault → CountRose o0.disk_faults o2.disk_faults
back_cause file fault.Memory fault.DiskFault o0 o1 o2 run run' cause back is =
    omega (arith, run.later, back)
back_cause file fault.DiskFault fault.DiskFault o0 o1 o2 run run' cause back is =
    omega (arith, cause refl, run'.later)
back_cause file fault.Memory fault.Memory o0 o1 o2 run run' cause back is = cc
back_cause file fault.DiskFault fault.Memory o0 o1 o2 run run' cause back is = absurd back
