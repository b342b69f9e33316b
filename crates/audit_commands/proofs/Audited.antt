-- An audit, and what is printed of its report.
use Rattle.std.proofs.Common.{◌≡◌, ◌∙◌, ap, subst, sym, inl, inr, Result, Ok, Err, Option, Some}
use Rattle.std.proofs.Common.{None}
use Rattle.std.specs.Prelude.{IsErrAnd}
use Rattle.outside.specs.Disk.{RelatesTold}
use Rattle.outside.specs.Files.{File, ReadsSame, SyncsBoth, Two, read_files}
use Rattle.outside.specs.Outside.{AnyImage, DiskRun, Outside}
use Rattle.outside.specs.Streams.{IsIdle, Stream}
use Rattle.outside.proofs.CallSteps.{becomes_told}
use Rattle.entry_codec.specs.Standing.{Standing}
use Rattle.file_standing.specs.Standing.{stands}
use Rattle.sync_rules.specs.Clients.{Meaning}
use Rattle.journal_audit.specs.declared.report.Report.{Report}
use Rattle.journal_audit.specs.Answers.{IsAuditOf}
use Rattle.store_commands.specs.Show.{KeepsFiles, PrintsText}
use Rattle.store_commands.specs.Stopping.{NeverReads, StopsBy, StopsWhere}
use Rattle.sync_words.specs.declared.outcome.Outcome.{Outcome}
use Rattle.sync_words.specs.declared.outcome.Outcome.TheVariants as outcome
use Rattle.sync_words.specs.Outcomes.{came_to}
use Rattle.audit_commands.specs.Audits.{AuditedBy, HasAudited, KeepsSynced, LeavesSynced}
use Rattle.audit_commands.specs.Audits.{TellsOutcome}
use Rattle.audit_commands.specs.Texts.{legal_text}

-- a step of files that are told
told_step : (step : Two File → Two File → Type 0) (old new : Option (Two File))
    (two two' : Two File) → RelatesTold step old new → old ≡ Some two → new ≡ Some two'
    → step two two'
told_step step old new two two' becomes told told' =
    let at = becomes_told step old new two told becomes in
    let same : at.0 ≡ two' = let it = sym at.1 ∙ told' in cc in
    subst (step two) same at.2

-- what holds of an error that goes on by `?`
passed : (P : Outcome → Type 0) (r : Result (Unit {0}) Outcome) (x : Outcome)
    → IsErrAnd r (λ e. e ≡ x) → P x → P (came_to r)
passed P (Ok u) x is holds = absurd is
passed P (Err e) x is holds = subst P (sym is) holds

module _ (clients : Meaning) (old new : Outside) (out out' : Stream) where
  -- ---- a report

  keeps_of : (came : Outcome) (two two' : Two File) → SyncsBoth two two'
      → KeepsSynced came two two'
  keeps_of outcome.DiskFault two two' same = ap read_files same
  keeps_of _ two two' same = same

  -- the files were audited, and the line of the report was printed
  pub audited : (came : Outcome) (r : Report) → DiskRun old new → AnyImage old new
      → RelatesTold SyncsBoth old.files new.files
      → ((two : Two File) → old.files ≡ Some two
      → IsAuditOf clients (stands clients (read_files two)) r)
      → PrintsText (legal_text r) out out' came → HasAudited clients old new out out' came
  audited came r run moments synced is printed = record {
    run = run;
    rests = λ two told. record {
      moments = moments two told;
      kept = λ two' told'.
          keeps_of came two two'
          (told_step SyncsBoth old.files new.files two two' synced told told');
    };
    did = inr (record { report = r; printed = printed; audit = is });
  }

  -- ---- no report

  none_by : (came : Outcome) → AuditedBy old new (Err came) → StopsBy (λ f. None) old new came
  none_by outcome.DiskFault by = by
  none_by outcome.NoStore by = tt
  none_by (outcome.Damaged place) by = tt
  none_by outcome.Memory by = tt
  none_by _ by = absurd by

  never_read : (came : Outcome) → AuditedBy old new (Err came) → NeverReads came
  never_read outcome.DiskFault by = tt
  never_read outcome.NoStore by = tt
  never_read (outcome.Damaged place) by = tt
  never_read outcome.Memory by = tt
  never_read _ by = absurd by

  none_ends : (standing : Standing) (came : Outcome) → AuditedBy old new (Err came)
      → TellsOutcome clients standing (Err came) → StopsWhere (λ f. None) standing came
  none_ends standing outcome.DiskFault by tells = tt
  none_ends standing outcome.NoStore by tells = tells
  none_ends standing (outcome.Damaged place) by tells = tells
  none_ends standing outcome.Memory by tells = tt
  none_ends standing _ by tells = absurd by

  none_keeps : (came : Outcome) (two two' : Two File) → RelatesTold ReadsSame old.files new.files
      → LeavesSynced old.files new.files (Err came) → old.files ≡ Some two → new.files ≡ Some two'
      → KeepsSynced came two two'
  none_keeps outcome.DiskFault two two' reads synced told told' =
      told_step ReadsSame old.files new.files two two' reads told told'
  none_keeps _ two two' reads synced told told' =
      told_step SyncsBoth old.files new.files two two' synced told told'

  reads_of : (came : Outcome) (two two' : Two File) → read_files two' ≡ read_files two
      → KeepsFiles came two two'
  reads_of outcome.DiskFault two two' same = tt
  reads_of _ two two' same = same

  -- there was no report, and nothing was printed
  pub audited_not : (came : Outcome) → DiskRun old new → AnyImage old new
      → RelatesTold ReadsSame old.files new.files → LeavesSynced old.files new.files (Err came)
      → AuditedBy old new (Err came)
      → ((two : Two File) → old.files ≡ Some two
      → TellsOutcome clients (stands clients (read_files two)) (Err came))
      → IsIdle out out' → HasAudited clients old new out out' came
  audited_not came run moments reads synced by tells idle = record {
    run = run;
    rests = λ two told. record {
      moments = moments two told;
      kept = λ two' told'. none_keeps came two two' reads synced told told';
    };
    did = inl (record {
      run = run;
      by = none_by came by;
      reads = never_read came by;
      quiet = idle;
      told = λ two told. record {
        rests = record {
          moments = moments two told;
          kept = λ two' told'.
              reads_of came two two'
              (told_step ReadsSame old.files new.files two two' reads told told');
        };
        ends = none_ends (stands clients (read_files two)) came by (tells two told);
      };
    });
  }

  pub audited_on : (r : Result (Unit {0}) Outcome) (x : Outcome) → IsErrAnd r (λ e. e ≡ x)
      → HasAudited clients old new out out' x → HasAudited clients old new out out' (came_to r)
  audited_on r x is = passed (λ (came : Outcome). HasAudited clients old new out out' came) r x is
