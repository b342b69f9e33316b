-- A command that stopped before its work: no store was loaded, a test failed over it, or the input
-- was not read.
use Rattle.std.proofs.Common.{◌≡◌, ap, ◌∙◌, Some, None, Ok, Err}
use Rattle.std.specs.Prelude.{Option}
use Rattle.outside.specs.Files.{Two, File, read_files}
use Rattle.outside.specs.Outside.{DiskRun, Outside}
use Rattle.outside.specs.Streams.{Stream, IsIdle}
use Rattle.sync_rules.specs.declared.states.Refused.{Refused}
use Rattle.sync_rules.specs.Clients.{Meaning}
use Rattle.sync_rules.specs.Facts.{Facts}
use Rattle.entry_codec.specs.Standing.{Standing}
use Rattle.file_standing.specs.Standing.{stands}
use Rattle.sync_store.specs.Store.{StoreValue}
use Rattle.sync_words.specs.declared.outcome.Outcome.{Outcome}
use Rattle.sync_words.specs.declared.outcome.Outcome.TheVariants as outcome
use Rattle.store_commands.specs.Load.{HasFacts, IsLoaded, LoadKeeps, LoadedBy}
use Rattle.store_commands.specs.Show.{LeavesFilesSo}
use Rattle.store_commands.specs.Stopping.{InputStops, IsTested, NeverReads, StopsBy, StopsEarly}
use Rattle.store_commands.specs.Stopping.{StopsWhere}

none_by : (test : Facts → Option Refused) (old new : Outside) (came : Outcome)
    → LoadedBy old new (Err came) → StopsBy test old new came
none_by test old new outcome.DiskFault by = by
none_by test old new outcome.NoStore by = tt
none_by test old new (outcome.Damaged place) by = tt
none_by test old new outcome.Memory by = tt
none_by test old new _ by = absurd by

none_ends : (test : Facts → Option Refused) (standing : Standing) (old new : Outside)
    (came : Outcome) → LoadedBy old new (Err came) → IsLoaded standing (Err came)
    → StopsWhere test standing came
none_ends test standing old new outcome.DiskFault by loaded = tt
none_ends test standing old new outcome.NoStore by loaded = loaded
none_ends test standing old new (outcome.Damaged place) by loaded = loaded
none_ends test standing old new outcome.Memory by loaded = tt
none_ends test standing old new _ by loaded = absurd by

-- where no store was loaded the input was not read
pub input_unread : (too_much : Type 0) (old new : Outside) (input input' : Stream) (came : Outcome)
    → IsIdle input input' → LoadedBy old new (Err came) → InputStops too_much input input' came
input_unread too_much old new input input' outcome.DiskFault idle by = idle
input_unread too_much old new input input' outcome.NoStore idle by = idle
input_unread too_much old new input input' (outcome.Damaged place) idle by = idle
input_unread too_much old new input input' outcome.Memory idle by = tt
input_unread too_much old new input input' _ idle by = absurd by

-- nor is one by a command that has none
pub never_read : (old new : Outside) (came : Outcome) → LoadedBy old new (Err came)
    → NeverReads came
never_read old new outcome.DiskFault by = tt
never_read old new outcome.NoStore by = tt
never_read old new (outcome.Damaged place) by = tt
never_read old new outcome.Memory by = tt
never_read old new _ by = absurd by

module _ (clients : Meaning) (test : Facts → Option Refused) (input_is : Outcome → Type 0)
    (old new : Outside) (out out' : Stream) (run : DiskRun old new) (idle : IsIdle out out') where
  -- no store was loaded
  pub stops_none : (came : Outcome)
      → ((two : Two File) → old.files ≡ Some two
      → LeavesFilesSo (LoadKeeps (Err came) two) two old new)
      → LoadedBy old new (Err came)
      → ((two : Two File) → old.files ≡ Some two
      → IsLoaded (stands clients (read_files two)) (Err came))
      → input_is came → StopsEarly clients test input_is old new out out' came
  stops_none came rests by loaded reads = record {
    run = run;
    by = none_by test old new came by;
    reads = reads;
    quiet = idle;
    told = λ two files. record {
      rests = rests two files;
      ends = none_ends test (stands clients (read_files two)) old new came by (loaded two files);
    };
  }

  -- what is known of a store that was loaded
  module _ (s : StoreValue)
      (rests : (two : Two File) → old.files ≡ Some two
      → LeavesFilesSo (LoadKeeps (Ok s) two) two old new)
      (loaded : (two : Two File) → old.files ≡ Some two
      → HasFacts (stands clients (read_files two)) s) where
    tested_so : (answer : Option Refused) → test s.state.facts ≡ answer → (two : Two File)
        → old.files ≡ Some two → IsTested test (stands clients (read_files two)) answer
    tested_so answer tested two files =
        let has = loaded two files in
        record { before = has.of; stood = has.stood; has = ap test has.are ∙ tested }

    -- a test failed over it
    pub stops_refused : (why : Refused) → test s.state.facts ≡ Some why
        → input_is (outcome.Refused why)
        → StopsEarly clients test input_is old new out out' (outcome.Refused why)
    stops_refused why tested reads = record {
      run = run;
      by = (s.state.facts, tested);
      reads = reads;
      quiet = idle;
      told = λ two files.
          record { rests = rests two files; ends = tested_so (Some why) tested two files };
    }

    -- the tests hold over it, and the input was not read whole
    pub stops_unread : test s.state.facts ≡ None → input_is outcome.ReadFault
        → StopsEarly clients test input_is old new out out' outcome.ReadFault
    stops_unread tested reads = record {
      run = run;
      by = tt;
      reads = reads;
      quiet = idle;
      told =
          λ two files. record { rests = rests two files; ends = tested_so None tested two files };
    }

    -- or it is too long
    pub stops_too_much : test s.state.facts ≡ None → input_is outcome.TooMuch
        → StopsEarly clients test input_is old new out out' outcome.TooMuch
    stops_too_much tested reads = record {
      run = run;
      by = tt;
      reads = reads;
      quiet = idle;
      told =
          λ two files. record { rests = rests two files; ends = tested_so None tested two files };
    }

    -- or memory was wanting for it
    pub stops_memory : input_is outcome.Memory
        → StopsEarly clients test input_is old new out out' outcome.Memory
    stops_memory reads = record {
      run = run;
      by = tt;
      reads = reads;
      quiet = idle;
      told = λ two files. record { rests = rests two files; ends = tt };
    }
