-- A store that was begun, and its line.
use Rattle.std.proofs.Common.{◌≡◌, Option, Some, Ok, Err, sym, ◌∙◌, subst}
use Rattle.std.specs.Option.{ForSome}
use Rattle.outside.specs.Disk.{RelatesTold}
use Rattle.outside.specs.Faults.{CountRose}
use Rattle.outside.specs.Files.{File, SyncsBoth, Two}
use Rattle.outside.specs.Outside.{Outside, MomentsAre, DiskRun}
use Rattle.outside.proofs.CallSteps.{becomes_told}
use Rattle.sync_store.specs.Begin.{BeginsJournal, InitMoment, IsAnswer}
use Rattle.sync_store.specs.declared.fault.InitFault.TheVariants as init
use Rattle.sync_words.specs.declared.outcome.Outcome.{Outcome}
use Rattle.sync_words.specs.declared.outcome.Outcome.TheVariants as outcome
use Rattle.store_commands.specs.Init.{BeginsBy, BeginsEnds, HasBegun, PrintsReady}
use Rattle.outside.specs.Streams.{Stream, IsIdle}
use Rattle.store_commands.proofs.Loads.{reads_same}

begins_at : (old new : Option (Two File)) (two two' : Two File) → RelatesTold BeginsJournal old new
    → old ≡ Some two → new ≡ Some two' → BeginsJournal two two'
begins_at old new two two' becomes told told' =
    let at = becomes_told BeginsJournal old new two told becomes in
    let same : at.0 ≡ two' = let it = sym at.1 ∙ told' in cc in
    subst (BeginsJournal two) same at.2

ready_by : (old new : Outside) (out out' : Stream) (came : Outcome) → PrintsReady out out' came
    → BeginsBy old new out out' came
ready_by old new out out' outcome.Done p = p
ready_by old new out out' outcome.WriteFault p = p
ready_by old new out out' _ p = absurd p

ready_ends : (two two' : Two File) (out out' : Stream) (came : Outcome) → PrintsReady out out' came
    → IsAnswer two (Ok tt) → BeginsJournal two two' → BeginsEnds two two' came
ready_ends two two' out out' outcome.Done p none begins = (none, begins)
ready_ends two two' out out' outcome.WriteFault p none begins = (none, begins)
ready_ends two two' out out' _ p none begins = absurd p

pub begun_ready : (old new : Outside) (out out' : Stream) (came : Outcome) → DiskRun old new
    → ForSome old.files (λ two. IsAnswer two (Ok tt))
    → RelatesTold BeginsJournal old.files new.files
    → ((two : Two File) → old.files ≡ Some two → MomentsAre old new (InitMoment two old.links))
    → PrintsReady out out' came → HasBegun old new out out' came
begun_ready old new out out' came run none begins moments printed = record {
  run = run;
  by = ready_by old new out out' came printed;
  told = λ two told. record {
    moments = moments two told;
    ends = λ two' told'.
        ready_ends two two' out out' came printed (none two told)
        (begins_at old.files new.files two two' begins told told');
  };
}

pub begun_exists : (old new : Outside) (out out' : Stream) → DiskRun old new → ForSome old.files
    (λ two. IsAnswer two (Err init.Exists)) → RelatesTold SyncsBoth old.files new.files
    → ((two : Two File) → old.files ≡ Some two → MomentsAre old new (InitMoment two old.links))
    → IsIdle out out' → HasBegun old new out out' outcome.Exists
begun_exists old new out out' run some settled moments idle = record {
  run = run;
  by = idle;
  told = λ two told. record {
    moments = moments two told;
    ends =
        λ two' told'. (some two told, reads_same old.files new.files two two' settled told told');
  };
}

pub begun_failed : (old new : Outside) (out out' : Stream) → DiskRun old new
    → CountRose old.disk_faults new.disk_faults
    → ((two : Two File) → old.files ≡ Some two → MomentsAre old new (InitMoment two old.links))
    → IsIdle out out' → HasBegun old new out out' outcome.DiskFault
begun_failed old new out out' run rose moments idle = record {
  run = run;
  by = (rose, idle);
  told = λ two told. record { moments = moments two told; ends = λ two' told'. tt };
}
