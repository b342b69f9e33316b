-- A store that was loaded and told of.
use Rattle.std.proofs.Common.{◌≡◌, ℕ, List, ap, sym, ◌∙◌, subst, inl, inr, Ok, Err, Some, None}
use Rattle.std.proofs.Common.{Result}
use Rattle.std.specs.Prelude.{IsErrAnd}
use Rattle.outside.specs.Disk.{RelatesTold}
use Rattle.outside.specs.Files.{File, SyncsBoth, Two, read_files}
use Rattle.outside.specs.Outside.{Outside, DiskRun}
use Rattle.outside.specs.Streams.{Stream, IsIdle}
use Rattle.outside.proofs.CallSteps.{told_on}
use Rattle.sync_rules.specs.declared.entries.Entry.{Entry}
use Rattle.sync_rules.specs.Clients.{Meaning}
use Rattle.sync_rules.specs.Facts.{Facts}
use Rattle.entry_codec.specs.Payloads.{journal_end}
use Rattle.file_standing.specs.Standing.{stands}
use Rattle.sync_store.specs.Fitting.{FitsFiles}
use Rattle.sync_store.specs.Store.{StoreValue, written_in}
use Rattle.sync_words.specs.declared.outcome.Outcome.{Outcome}
use Rattle.sync_words.specs.Outcomes.{came_to}
use Rattle.store_commands.specs.Load.{IsLoaded, LoadedBy, LoadKeeps, MayExtend}
use Rattle.store_commands.specs.Show.{LeavesFilesSo, PrintsText}
use Rattle.store_commands.specs.Stopping.{NeverReads}
use Rattle.store_commands.proofs.Passing.{passed}
use Rattle.store_commands.proofs.Stood.{fits_known}
use Rattle.store_commands.proofs.Stopped.{never_read, stops_none}
use Rattle.status_commands.specs.Statuses.{HasToldStatus, TellsStatus}
use Rattle.status_commands.specs.Texts.{status_text}

-- what is told of a store is told of the journal that its files fit it with
told_of : (clients : Meaning) (s : StoreValue) (j : List (List Entry)) (two : Two File)
    → FitsFiles clients s j two
    → TellsStatus (read_files two) (status_text (written_in s) s.end s.state.facts) j
told_of clients s j two fits = record {
  format = written_in s;
  known = record {
    file = s.file;
    found = fits.file_is;
    is = fits_known clients s j two fits;
  };
  is =
      ap (λ (n : ℕ). status_text (written_in s) n s.state.facts) fits.end_is
      ∙ ap (λ (f : Facts). status_text (written_in s) (journal_end (written_in s) j) f)
      (sym fits.facts_are);
}

module _ (clients : Meaning) (old new : Outside) (out out' : Stream) (came : Outcome) where
  -- it was loaded, and told of
  pub told_status : (s : StoreValue) → DiskRun old new
      → ((two : Two File) → old.files ≡ Some two
      → LeavesFilesSo (LoadKeeps (Ok s) two) two old new)
      → MayExtend clients s new.files
      → RelatesTold SyncsBoth old.files new.files
      → PrintsText (status_text (written_in s) s.end s.state.facts) out out' came
      → HasToldStatus clients old new out out' came
  told_status s run rests may synced printed = record {
    run = run;
    did = inr (record {
      text = status_text (written_in s) s.end s.state.facts;
      printed = printed;
      synced = synced;
      told = λ two told.
          let rest = rests two told in
          let now = told_on old new two run.same_told told in
          let fit = may.ready.fits now.0 now.1 in
          let reads = rest.kept now.0 now.1 in
          record {
            rests = rest;
            ends = record {
              before = fit.0;
              stood = ap (stands clients) (sym reads) ∙ fit.1.stands_for;
              has =
                  subst (λ (files : Two (List ℕ)).
                  TellsStatus files (status_text (written_in s) s.end s.state.facts) fit.0) reads
                  (told_of clients s fit.0 now.0 fit.1);
            };
          };
    });
  }

  -- none was loaded
  pub told_none : DiskRun old new
      → ((two : Two File) → old.files ≡ Some two
      → LeavesFilesSo (LoadKeeps (Err came) two) two old new) → LoadedBy old new (Err came)
      → ((two : Two File) → old.files ≡ Some two
      → IsLoaded (stands clients (read_files two)) (Err came)) → IsIdle out out'
      → HasToldStatus clients old new out out' came
  told_none run rests by loaded idle = record {
    run = run;
    did =
        inl (stops_none clients (λ f. None) NeverReads old new out out' run idle came rests by
        loaded (never_read old new came by));
  }

-- an error that goes on
pub status_on : (clients : Meaning) (old new : Outside) (out out' : Stream)
    (r : Result (Unit {0}) Outcome) (x : Outcome) → IsErrAnd r (λ e. e ≡ x)
    → HasToldStatus clients old new out out' x
    → HasToldStatus clients old new out out' (came_to r)
status_on clients old new out out' r x is =
    passed (λ (came : Outcome). HasToldStatus clients old new out out' came) r x is
