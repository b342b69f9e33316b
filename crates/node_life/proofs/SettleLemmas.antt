-- A journal that is settled alone.
use Rattle.std.proofs.Common.{◌≡◌, ℕ, List, [], ◌++◌, refl, sym, ap, ◌∙◌, subst}
use Rattle.std.proofs.Common.{append-nil, arith, add-zero, Option, None, Some, Result, Ok, Err}
use Rattle.std.specs.Prelude.{IsErrAnd, IsErrOf}
use Rattle.std.specs.Io.KnownBytes.{Appends}
use Rattle.outside.specs.Files.{File, Two, read_files}
use Rattle.outside.specs.Outside.{DiskRun, Outside}
use Rattle.outside.specs.Streams.{Stream}
use Rattle.outside.proofs.CallSteps.{run_none}
use Rattle.file_standing.specs.Standing.{stands}
use Rattle.sync_rules.specs.Clients.{Meaning}
use Rattle.sync_rules.specs.Facts.{Facts, after_batches}
use Rattle.sync_rules.specs.Steps.{IsSettled}
use Rattle.sync_store.specs.Store.{StoreValue}
use Rattle.sync_words.specs.declared.outcome.Outcome.{Outcome}
use Rattle.sync_words.specs.declared.outcome.Outcome.TheVariants as outcome
use Rattle.sync_words.specs.Outcomes.{came_to}
use Rattle.store_commands.specs.Commit.{ExtendsBy, SettlesAnew, StoreStaysReady}
use Rattle.store_commands.specs.Load.{IsLoaded, LoadedBy, LoadKeeps, MayExtend}
use Rattle.store_commands.specs.Serving.{IsReadyToServe}
use Rattle.store_commands.specs.Show.{LeavesFilesSo}
use Rattle.store_commands.specs.Works.{RunsWork}
use Rattle.store_commands.proofs.Adds.{settled_fits, settles_from}
use Rattle.store_commands.proofs.Serving.{ready_now}
use Rattle.store_commands.proofs.Stood.{fits_synced, moved_here, spent_here}
use Rattle.store_commands.proofs.Working.{loaded_as_is, settling_moments, work_loaded}
use Rattle.store_commands.proofs.Working.{work_unsettled, worked_loaded, worked_none}
use Rattle.node_life.specs.Settling.{HasBegun, HasSettled, StandsNow, blank, settling_alone}

appends_none : (bytes : Option (List ℕ)) → Appends bytes bytes []
appends_none None = tt
appends_none (Some b) = sym (append-nil b)

module _ (clients : Meaning) (s s1 : StoreValue) (o o1 : Outside) (out : Stream) where
  -- it was not
  unsettled : (came : Outcome) → DiskRun o o1 → ExtendsBy o o1 (Err came)
      → (came ≡ outcome.Full → o1 ≡ o) → SettlesAnew clients s s1 o o1 (Err came)
      → RunsWork clients outcome.Done (settling_alone clients) s o o1 out out came
  unsettled came run by still settled =
      work_unsettled clients outcome.Done (settling_alone clients) (λ j whole settles. settles) s s1
      o o1 out out came (record { same = refl; same_faults = refl }) run by still settled

  -- it was
  settled_whole : (u : Unit {0}) → DiskRun o o1 → SettlesAnew clients s s1 o o1 (Ok u)
      → RunsWork clients outcome.Done (settling_alone clients) s o o1 out out outcome.Done
  settled_whole u run settled = record {
    run = run;
    by = refl;
    told = λ two files j fits. record {
      moments =
          settling_moments clients outcome.Done (settling_alone clients) j (λ whole settles. settles)
          s s1 o o1 (Ok u) two files fits settled;
      ends = λ two1 files1.
          let fits1 = settled_fits clients o o1 s s1 u two two1 j files files1 fits settled in (
            record {
              first = settled.more;
              settles = settles_from clients s two j settled.more fits settled.comes.settling;
              settled =
                  subst (IsSettled clients) (settled.comes.facts
                  ∙ ap (λ (g : Facts). after_batches g settled.more) (sym fits.facts_are))
                  settled.answer.1;
              filled = settled.filled;
              has = (
                fits_synced clients s1 (j ++ settled.more) two1 fits1 settled.answer.2,
                appends_none out.bytes,
              );
            },
            λ last. settled.answer.3 (spent_here clients s j two fits last),
            moved_here clients s s1 j (j ++ settled.more) two two1 0 fits fits1 settled.answer.2
                settled.answer.5 (settled.answer.4 ∙ sym (add-zero _)),
          );
    };
  }

  by_answer : (r : Result (Unit {0}) Outcome) → DiskRun o o1 → ExtendsBy o o1 r
      → (IsErrOf r outcome.Full → o1 ≡ o) → SettlesAnew clients s s1 o o1 r
      → RunsWork clients outcome.Done (settling_alone clients) s o o1 out out (came_to r)
  by_answer (Ok u) run by still settled = settled_whole u run settled
  by_answer (Err came) run by still settled =
      unsettled came run by (λ is. still (ap (λ (x : Outcome). Err x) is)) settled

-- ---- a store that was loaded

-- from the files
pub begins_loaded : (clients : Meaning) (s s1 : StoreValue) (o o1 o2 : Outside) (out : Stream)
    (r : Result (Unit {0}) Outcome) → DiskRun o o1
    → ((two : Two File) → o.files ≡ Some two → LeavesFilesSo (LoadKeeps (Ok s) two) two o o1)
    → MayExtend clients s o1.files → DiskRun o1 o2 → ExtendsBy o1 o2 r
    → (IsErrOf r outcome.Full → o2 ≡ o1) → SettlesAnew clients s s1 o1 o2 r
    → HasBegun clients o o2 out (came_to r)
begins_loaded clients s s1 o o1 o2 out r run rests ready run2 by still settled =
    worked_loaded clients (λ f. None) (λ f. settling_alone clients) o o1 o2 out out s (came_to r) run
    rests ready refl (by_answer clients s s1 o1 o2 out r run2 by still settled)

-- no store was loaded
pub begins_not : (clients : Meaning) (o o1 : Outside) (out : Stream) (came : Outcome)
    → DiskRun o o1
    → ((two : Two File) → o.files ≡ Some two
    → LeavesFilesSo (LoadKeeps (Err came) two) two o o1) → LoadedBy o o1 (Err came)
    → ((two : Two File) → o.files ≡ Some two
    → IsLoaded (stands clients (read_files two)) (Err came))
    → HasBegun clients o o1 out came
begins_not clients o o1 out came run rests by loaded =
    worked_none clients (λ f. None) (λ f. settling_alone clients) o o1 out out came run rests by
    loaded (record { same = refl; same_faults = refl })

-- over a store as its files are
pub settles_ready : (clients : Meaning) (s s1 : StoreValue) (o o1 : Outside)
    (r : Result (Unit {0}) Outcome) → IsReadyToServe clients s o → DiskRun o o1 → ExtendsBy o o1 r
    → (IsErrOf r outcome.Full → o1 ≡ o) → SettlesAnew clients s s1 o o1 r
    → HasSettled clients o o1 (came_to r)
settles_ready clients s s1 o o1 r ready run by still settled = record {
  run = run;
  did =
      work_loaded clients (λ f. None) outcome.Done (λ f. settling_alone clients) o o o1 blank blank s
      (came_to r) (omega arith)
      (λ two files. loaded_as_is two o o (run_none o) files (ready.loaded.rests two files))
      ready.loaded.opened refl (by_answer clients s s1 o o1 blank r run by still settled);
}

-- ---- what stands behind it

-- a store that is ready stays so, but where the disk failed
pub stays_ready : (clients : Meaning) (s s1 : StoreValue) (o o1 : Outside) (came : Outcome)
    → IsReadyToServe clients s o → SettlesAnew clients s s1 o o1 (Err came)
    → StoreStaysReady clients s1 o1.files (Err came) → (came ≡ outcome.DiskFault → ⊥)
    → IsReadyToServe clients s1 o1
stays_ready clients s s1 o o1 outcome.DiskFault ready settled stays no_fault = absurd (no_fault refl)
stays_ready clients s s1 o o1 _ ready settled stays no_fault =
    ready_now clients s1 o1 stays (settled.comes.limit ∙ ready.loaded.opened.limited)
    (settled.comes.short ready.short)

-- nothing is pending in its files
pub stands_ready : (clients : Meaning) (s : StoreValue) (o : Outside) → IsReadyToServe clients s o
    → StandsNow clients o
stands_ready clients s o ready = λ two files.
    let fit = ready.loaded.opened.ready.fits two files in
    record { of = fit.0; synced = fits_synced clients s fit.0 two fit.1 ready.short }

-- ---- an answer that goes on by `?`

pub on_err : {V : Type 0} (P : Outcome → Type 0) (r : Result V Outcome) (x : Outcome)
    → IsErrAnd r (λ e. e ≡ x) → P x → P (came_to r)
on_err P (Ok v) x is p = absurd is
on_err P (Err came) x is p = subst P (sym is) p

-- what was not loaded or not settled is not done
pub not_loaded : (o o1 : Outside) (came : Outcome) → LoadedBy o o1 (Err came)
    → came ≡ outcome.Done → ⊥
not_loaded o o1 came by is = subst (λ (x : Outcome). LoadedBy o o1 (Err x)) is by

pub not_settled : (o o1 : Outside) (came : Outcome) → ExtendsBy o o1 (Err came)
    → came ≡ outcome.Done → ⊥
not_settled o o1 came by is = subst (λ (x : Outcome). ExtendsBy o o1 (Err x)) is by
