-- A store that was loaded and shown.
use Rattle.std.proofs.Common.{◌≡◌, ◌∙◌, ap, refl, subst, sym, inl, inr, Ok, Err, Some}
use Rattle.outside.specs.Disk.{RelatesTold}
use Rattle.outside.specs.Files.{File, SyncsBoth, Two, read_files}
use Rattle.outside.specs.Outside.{Outside, DiskRun}
use Rattle.outside.specs.Streams.{Stream, IsIdle}
use Rattle.sync_rules.specs.Clients.{Meaning}
use Rattle.sync_rules.specs.Facts.{Facts}
use Rattle.file_standing.specs.Standing.{stands}
use Rattle.sync_store.specs.Store.{StoreValue}
use Rattle.sync_words.specs.declared.outcome.Outcome.{Outcome}
use Rattle.store_commands.specs.Load.{HasFacts, IsLoaded, LoadedBy, LoadKeeps}
use Rattle.store_commands.specs.Looking.{HasLooked, denial}
use Rattle.store_commands.specs.Show.{LeavesFilesSo, PrintsShowing}
use Rattle.store_commands.specs.Shown.{Showing, denies, shows}
use Rattle.store_commands.specs.Stopping.{NeverReads}
use Rattle.store_commands.proofs.Stopped.{never_read, stops_none, stops_refused}

module _ (clients : Meaning) (shown : Facts → Showing) (old new : Outside) (out out' : Stream)
    (came : Outcome) where
  looked_at : (s : StoreValue) → DiskRun old new
      → ((two : Two File) → old.files ≡ Some two
      → LeavesFilesSo (LoadKeeps (Ok s) two) two old new)
      → ((two : Two File) → old.files ≡ Some two → HasFacts (stands clients (read_files two)) s)
      → RelatesTold SyncsBoth old.files new.files
      → (what : Showing) → shown s.state.facts ≡ what → PrintsShowing what out out' came
      → HasLooked clients shown old new out out' came
  looked_at s run rests loaded synced (shows text) is printed = record {
    run = run;
    did = inr (record {
      text = text;
      printed = printed;
      synced = synced;
      told = λ two told.
          let has = loaded two told in
          record {
            rests = rests two told;
            ends = record { before = has.of; stood = has.stood; has = ap shown has.are ∙ is };
          };
    });
  }
  looked_at s run rests loaded synced (denies why) is printed =
      subst (HasLooked clients shown old new out out') (sym printed.0) (record {
        run = run;
        did =
            inl (stops_refused clients (λ f. denial (shown f)) NeverReads old new out out' run
            printed.1 s rests loaded why (ap denial is) tt);
      })

  -- it was loaded, and what it shows was printed
  pub looked : (s : StoreValue) → DiskRun old new
      → ((two : Two File) → old.files ≡ Some two
      → LeavesFilesSo (LoadKeeps (Ok s) two) two old new)
      → ((two : Two File) → old.files ≡ Some two → HasFacts (stands clients (read_files two)) s)
      → RelatesTold SyncsBoth old.files new.files
      → PrintsShowing (shown s.state.facts) out out' came
      → HasLooked clients shown old new out out' came
  looked s run rests loaded synced printed =
      looked_at s run rests loaded synced (shown s.state.facts) refl printed

  -- none was loaded
  pub looked_not : DiskRun old new
      → ((two : Two File) → old.files ≡ Some two
      → LeavesFilesSo (LoadKeeps (Err came) two) two old new) → LoadedBy old new (Err came)
      → ((two : Two File) → old.files ≡ Some two
      → IsLoaded (stands clients (read_files two)) (Err came)) → IsIdle out out'
      → HasLooked clients shown old new out out' came
  looked_not run rests by loaded idle = record {
    run = run;
    did =
        inl (stops_none clients (λ f. denial (shown f)) NeverReads old new out out' run idle came
        rests by loaded (never_read old new came by));
  }
