-- A command that does a work on a store: what is the same of all of them.
use Rattle.std.proofs.Common.{◌≡◌, ℕ, ◌≤◌, List, refl, sym, ap, ◌∙◌, subst, inl, inr, arith}
use Rattle.std.proofs.Common.{Option, Some, None, Result, Ok, Err}
use Rattle.std.specs.Io.KnownBytes.{Appends}
use Rattle.outside.specs.Files.{Two, File, read_files}
use Rattle.outside.specs.Host.{ReadsClock}
use Rattle.outside.specs.Links.{Links, sent_of}
use Rattle.outside.specs.Outside.{DiskRun, IsNow, MomentsAre, Outside, QuietCall}
use Rattle.outside.specs.Streams.{Stream, GetsFront, IsIdle}
use Rattle.outside.proofs.CallSteps.{moments_during, moments_map, moments_then, run_then, told_on}
use Rattle.sync_rules.specs.declared.entries.Entry.{Entry}
use Rattle.sync_rules.specs.declared.states.Refused.{Refused}
use Rattle.sync_rules.specs.Clients.{Meaning}
use Rattle.sync_rules.specs.Facts.{Facts, facts}
use Rattle.sync_rules.specs.Hearing.{SettlesJournal}
use Rattle.file_standing.specs.Standing.{stands}
use Rattle.sync_store.specs.Fitting.{FitsFiles}
use Rattle.sync_store.specs.Moments.{JournalMoment}
use Rattle.sync_store.specs.Store.{StoreValue}
use Rattle.sync_words.specs.declared.outcome.Outcome.{Outcome}
use Rattle.sync_words.specs.declared.outcome.Outcome.TheVariants as outcome
use Rattle.store_commands.specs.Commit.{ExtendsBy, SettledAnew, SettlesAnew}
use Rattle.store_commands.specs.Load.{HasFacts, IsLoaded, LoadedBy, LoadKeeps, MayExtend}
use Rattle.store_commands.specs.Running.{PrintsOut}
use Rattle.store_commands.specs.Show.{FilesReadSame, LeavesFilesSo, PrintsText}
use Rattle.store_commands.specs.Stopping.{NeverReads}
use Rattle.store_commands.specs.Works.{DoesWork, HasWorked, IsDone, RunsWork, Work, WorkBy, WorkEnds}
use Rattle.store_commands.proofs.Adds.{front_settles_on, rose_before, same_told, settles_from}
use Rattle.store_commands.proofs.Stood.{last_here}
use Rattle.store_commands.proofs.Stopped.{never_read, stops_none, stops_refused}

-- ---- causes

-- what was to be done was not
pub failed_by : (comes : Outcome) (o o2 : Outside) (out out' : Stream) (came : Outcome)
    → IsIdle out out' → ExtendsBy o o2 (Err came) → WorkBy comes o o2 out out' came
failed_by comes o o2 out out' outcome.Full idle by = idle
failed_by comes o o2 out out' outcome.DiskFault idle by = (by, idle)
failed_by comes o o2 out out' outcome.Memory idle by = idle
failed_by comes o o2 out out' _ idle by = absurd by

-- a text was printed
pub printed_by : (comes : Outcome) (text : List ℕ) (o o2 : Outside) (out out' : Stream)
    (came : Outcome) → PrintsOut comes text out out' came → WorkBy comes o o2 out out' came
printed_by comes text o o2 out out' outcome.Done p = p.0
printed_by comes text o o2 out out' (outcome.Inside place) p = p.0
printed_by comes text o o2 out out' (outcome.Bad place why) p = p.0
printed_by comes text o o2 out out' (outcome.NoVersion place) p = p.0
printed_by comes text o o2 out out' outcome.WriteFault p = p.0
printed_by comes text o o2 out out' outcome.Memory p = p
printed_by comes text o o2 out out' _ p = absurd p

-- a text that is printed by itself, of a work that is done
pub prints_plain : (text : List ℕ) (out out' : Stream) (came : Outcome)
    → PrintsText text out out' came → PrintsOut outcome.Done text out out' came
prints_plain text out out' outcome.Done printed = (refl, printed)
prints_plain text out out' outcome.WriteFault printed = printed
prints_plain text out out' outcome.Memory printed = printed
prints_plain text out out' _ printed = absurd printed

-- from an earlier outside on
by_later : (comes : Outcome) (o o1 o2 : Outside) (out out' : Stream) (came : Outcome)
    → o.disk_faults ≤ o1.disk_faults → WorkBy comes o1 o2 out out' came
    → WorkBy comes o o2 out out' came
by_later comes o o1 o2 out out' outcome.DiskFault later by =
    (rose_before o.disk_faults o1.disk_faults o2.disk_faults later by.0, by.1)
by_later comes o o1 o2 out out' _ later by = by

-- ---- from a loaded store

module _ (clients : Meaning) (comes : Outcome) (work : Work) (j : List (List Entry)) where
  unsettled_ends : (s s1 : StoreValue) (out out' : Stream) (came : Outcome) (two two1 : Two File)
      → FitsFiles clients s j two → (came ≡ outcome.Full → read_files two1 ≡ read_files two)
      → SettledAnew clients s s1 (Err came)
      → WorkEnds clients work j (read_files two) two1 out out' came
  unsettled_ends s s1 out out' outcome.Full two two1 fits still answer =
      inr (last_here clients s j two fits answer.0, still refl)
  unsettled_ends s s1 out out' outcome.Memory two two1 fits still answer = tt
  unsettled_ends s s1 out out' outcome.DiskFault two two1 fits still answer = tt
  unsettled_ends s s1 out out' _ two two1 fits still answer = absurd answer

  -- all was done, and its text came to this
  pub printed_ends : (before : Two (List ℕ)) (two : Two File) (out out' : Stream) (text : List ℕ)
      (came : Outcome)
      → ((P : List ℕ → Type 0) → P text → IsDone clients work j before two P)
      → PrintsOut comes text out out' came → WorkEnds clients work j before two out out' came
  printed_ends before two out out' text outcome.Done done p =
      done (Appends out.bytes out'.bytes) p.1
  printed_ends before two out out' text (outcome.Inside place) done p =
      done (Appends out.bytes out'.bytes) p.1
  printed_ends before two out out' text (outcome.Bad place why) done p =
      done (Appends out.bytes out'.bytes) p.1
  printed_ends before two out out' text (outcome.NoVersion place) done p =
      done (Appends out.bytes out'.bytes) p.1
  printed_ends before two out out' text outcome.WriteFault done p = done (GetsFront out out') p.1
  printed_ends before two out out' text outcome.Memory done p = tt
  printed_ends before two out out' text _ done p = absurd p

  -- a moment of settling, by which each work begins
  pub settling_moments : ((whole : List (List Entry)) → SettlesJournal clients j whole
      → work.goes_on j whole) → (s s1 : StoreValue) (o o1 : Outside)
      (r : Result (Unit {0}) Outcome) (two : Two File) → o.files ≡ Some two
      → FitsFiles clients s j two → SettlesAnew clients s s1 o o1 r
      → MomentsAre o o1 (JournalMoment clients (work.goes_on j) (sent_of o.links.told))
  settling_moments begins s s1 o o1 r two files fits settled =
      let settles = settles_from clients s two j settled.more fits settled.comes.settling in
      moments_map o o1 _ _ (λ m w. record {
        whole = w.whole;
        has = begins w.whole (front_settles_on clients j settled.more w.whole settles w.has);
        stands_for = w.stands_for;
        nothing_sent = w.nothing_sent;
      }) (settled.comes.leads two files j fits).moments

-- migrating or settling that failed
pub work_unsettled : (clients : Meaning) (comes : Outcome) (work : Work)
    → ((j whole : List (List Entry)) → SettlesJournal clients j whole → work.goes_on j whole)
    → (s s1 : StoreValue) (o o1 : Outside) (out out' : Stream) (came : Outcome) → IsIdle out out'
    → DiskRun o o1 → ExtendsBy o o1 (Err came) → (came ≡ outcome.Full → o1 ≡ o)
    → SettlesAnew clients s s1 o o1 (Err came) → RunsWork clients comes work s o o1 out out' came
work_unsettled clients comes work begins s s1 o o1 out out' came idle run by still settled =
    record {
      run = run;
      by = failed_by comes o o1 out out' came idle by;
      told = λ two files j fits. record {
        moments =
            settling_moments clients comes work j (begins j) s s1 o o1 (Err came) two files fits
            settled;
        ends = λ two1 files1.
            unsettled_ends clients comes work j s s1 out out' came two two1 fits (λ is.
            same_told o o1 two two1 (still is) files files1) settled.answer;
      };
    }

-- ---- from the files

-- a run from files that read as before, of which each moment is as a crash might have left them,
-- with nothing sent
pub record LeavesAsIs (two : Two File) (o o1 : Outside) : Type 0 where
  pub now : Two File
  pub files : o1.files ≡ Some now
  pub reads : read_files now ≡ read_files two
  pub moments : MomentsAre o o1 (IsNow two o.links)
  pub sent : sent_of o1.links.told ≡ sent_of o.links.told
  pub later : o.disk_faults ≤ o1.disk_faults

pub loaded_as_is : (two : Two File) (o o1 : Outside) → DiskRun o o1 → o.files ≡ Some two
    → LeavesFilesSo (FilesReadSame two) two o o1
    → LeavesAsIs two o o1
loaded_as_is two o o1 run files rests =
    let told1 = told_on o o1 two run.same_told files in
    record {
      now = told1.0;
      files = told1.1;
      reads = rests.kept told1.0 told1.1;
      moments = rests.moments;
      sent = ap (λ (l : Links). sent_of l.told) run.same_links;
      later = run.later;
    }

-- the clock is read
pub read_as_is : (now : ℕ) (two : Two File) (o o1 o2 : Outside) → LeavesAsIs two o o1
    → QuietCall o1 o2
    → ReadsClock now o1.links o2.links → LeavesAsIs two o o2
read_as_is now two o o1 o2 as_is call reads =
    let files2 : o2.files ≡ Some as_is.now = call.same_files ∙ as_is.files in
    let told : sent_of o2.links.told ≡ sent_of o1.links.told = ap sent_of reads.same_told in
    record {
      now = as_is.now;
      files = files2;
      reads = as_is.reads;
      moments = moments_during o o1 o2 _ _ as_is.moments call.time (λ m w.
          let at = o2.now_is as_is.now m files2 w in
          let before : IsNow as_is.now o1.links m =
          record { image = at.image; sent = at.sent ∙ told } in
          as_is.moments.each m
          (o1.since o.clock m as_is.moments.later (o1.is_now as_is.now m as_is.files before)));
      sent = told ∙ as_is.sent;
      later = omega (arith, as_is.later, call.same_faults);
    }

-- a store was loaded over which the tests hold, perhaps the clock was read, and the work was done
pub work_loaded : (clients : Meaning) (test : Facts → Option Refused) (comes : Outcome)
    (work : Facts → Work) (o o1 o2 : Outside) (out out' : Stream) (s : StoreValue) (came : Outcome)
    → o.disk_faults ≤ o1.disk_faults
    → ((two : Two File) → o.files ≡ Some two → LeavesAsIs two o o1) → MayExtend clients s o1.files
    → test s.state.facts ≡ None
    → RunsWork clients comes (work s.state.facts) s o1 o2 out out' came
    → DoesWork clients test comes work o o2 out out' came
work_loaded clients test comes work o o1 o2 out out' s came later as_is ready tested ran = record {
  by = by_later comes o o1 o2 out out' came later ran.by;
  told = λ two files.
      let first = as_is two files in
      let fit = ready.ready.fits first.now first.files in
      let same : facts fit.0 ≡ s.state.facts = fit.1.facts_are in
      let its : RunsWork clients comes (work (facts fit.0)) s o1 o2 out out' came =
      subst (λ (f : Facts). RunsWork clients comes (work f) s o1 o2 out out' came) (sym same)
      ran in
      let went = its.told first.now first.files fit.0 fit.1 in
      record {
        before = fit.0;
        stood = ap (stands clients) (sym first.reads) ∙ fit.1.stands_for;
        has = (
          ap test same ∙ tested,
          record {
            moments = moments_then o o1 o2 _ (moments_map o o1 _ _ (λ m w. inl w) first.moments)
                (moments_map o1 o2 _ _ (λ m w.
                inr (subst (λ (sent : List (List ℕ)).
                JournalMoment clients ((work (facts fit.0)).goes_on fit.0) sent m) first.sent w))
                went.moments);
            ends = λ two2 files2.
                subst (λ (before : Two (List ℕ)).
                WorkEnds clients (work (facts fit.0)) fit.0 before two2 out out' came) first.reads
                (went.ends two2 files2);
          },
        );
      };
}

-- ---- a command

module _ (clients : Meaning) (test : Facts → Option Refused) (work : Facts → Work) where
  -- no store was loaded
  pub worked_none : (old new : Outside) (out out' : Stream) (came : Outcome) → DiskRun old new
      → ((two : Two File) → old.files ≡ Some two
      → LeavesFilesSo (LoadKeeps (Err came) two) two old new) → LoadedBy old new (Err came)
      → ((two : Two File) → old.files ≡ Some two
      → IsLoaded (stands clients (read_files two)) (Err came)) → IsIdle out out'
      → HasWorked clients test work old new out out' came
  worked_none old new out out' came run rests by loaded idle = record {
    run = run;
    did =
        inl (stops_none clients test NeverReads old new out out' run idle came rests by loaded
        (never_read old new came by));
  }

  -- a test failed over it
  pub worked_refused : (old new : Outside) (out out' : Stream) (s : StoreValue) (why : Refused)
      → DiskRun old new
      → ((two : Two File) → old.files ≡ Some two
      → LeavesFilesSo (LoadKeeps (Ok s) two) two old new)
      → ((two : Two File) → old.files ≡ Some two → HasFacts (stands clients (read_files two)) s)
      → test s.state.facts ≡ Some why → IsIdle out out'
      → HasWorked clients test work old new out out' (outcome.Refused why)
  worked_refused old new out out' s why run rests loaded tested idle = record {
    run = run;
    did =
        inl (stops_refused clients test NeverReads old new out out' run idle s rests loaded why
        tested tt);
  }

  -- the tests hold over it
  pub worked_loaded : (o o1 o2 : Outside) (out out' : Stream) (s : StoreValue) (came : Outcome)
      → DiskRun o o1
      → ((two : Two File) → o.files ≡ Some two → LeavesFilesSo (LoadKeeps (Ok s) two) two o o1)
      → MayExtend clients s o1.files → test s.state.facts ≡ None
      → RunsWork clients outcome.Done (work s.state.facts) s o1 o2 out out' came
      → HasWorked clients test work o o2 out out' came
  worked_loaded o o1 o2 out out' s came run rests ready tested ran = record {
    run = run_then o o1 o2 run ran.run;
    did =
        inr (work_loaded clients test outcome.Done work o o1 o2 out out' s came run.later
        (λ two files. loaded_as_is two o o1 run files (rests two files)) ready tested ran);
  }
