-- The begin and the end of a load.
use Rattle.std.proofs.Common.{◌≡◌, ℕ, ◌+◌, ◌≤◌, false, List, [], ◌∷◌, length, map, take, refl, sym, ap}
use Rattle.std.proofs.Common.{unwrap_or}
use Rattle.std.proofs.Common.{subst, ◌∙◌, arith}
use Rattle.std.specs.Prelude.{Option, None, Some, Ok, Err}
use Rattle.sync_rules.specs.Clients.{Meaning}
use Rattle.std.specs.FinMap as fin_map
use Rattle.std.specs.Ordering.{nat_cmp}
use Rattle.sync_rules.specs.Facts.{Facts, facts, nothing, takes_of}
use Rattle.sync_rules.specs.Steps.{answer_of}
use Rattle.outside.specs.Files.{File, IsFileImage, IsImage, SyncsBoth, Two, file_of, read_files}
use Rattle.outside.specs.Files.{settled}
use Rattle.outside.specs.Frames.{format_in, generation_in, HasFrames}
use Rattle.outside.specs.Links.{Links, sent_of}
use Rattle.outside.specs.Outside.{AnyImage, DiskRun, IsNow, Moment, OnlyReads, Outside}
use Rattle.outside.specs.Disk.{RelatesTold}
use Rattle.outside.proofs.CallSteps.{becomes_told, moments_map, moments_then}
use Rattle.outside.specs.declared.disk.Place.{Place}
use Rattle.frame_journal.specs.Group.{group_len}
use Rattle.frame_journal.specs.Journal.{JournalValue, is_format}
use Rattle.frame_journal.specs.Header.{StartsJournal}
use Rattle.frame_journal.specs.declared.fault.StartFault.{StartFault}
use Rattle.frame_journal.specs.declared.fault.StartFault.TheVariants as start
use Rattle.entry_codec.specs.Naming.{format_of}
use Rattle.entry_codec.specs.Payloads.{payloads}
use Rattle.entry_codec.specs.Standing.{damaged, no_store, room_of}
use Rattle.file_standing.specs.Standing.{stands}
use Rattle.entry_codec.specs.Fronts.{Front}
use Rattle.entry_codec.proofs.FrontLaws.{front_closed, front_format, front_frames, front_none}
use Rattle.entry_codec.proofs.FrontLaws.{front_start}
use Rattle.journal_state.specs.Whole.{KnowsJudgements, StateValue}
use Rattle.outside.specs.declared.limits.TheConstants.{MAX_JOURNAL}
use Rattle.outside.proofs.Calm.{settled_only}
use Rattle.sync_store.specs.Store.{StoreValue, format_meant}
use Rattle.sync_store.specs.Fitting.{FitsSome}
use Rattle.sync_store.specs.Ready.{IsReady}
use Rattle.sync_store.specs.Faults.{load_of_start}
use Rattle.sync_store.specs.declared.fault.LoadFault.{LoadFault}
use Rattle.sync_store.specs.declared.fault.LoadFault.TheVariants as load
use Rattle.sync_store.specs.Loading.{AreDamaged, HasReadJournal, HasReadSome, IsJournalLoaded}
use Rattle.sync_store.specs.Loading.{LeavesSettled, ReadsWholeJournal, PlayedSoFar, StandsFor}
use Rattle.sync_store.proofs.FormatLaws.{known_format, unknown_format}
use Rattle.sync_store.proofs.LoadSteps.{as_read}

-- ---- the barrier

-- an image of the settled files is the files as they read, and that is an image of the files
settled_back : (old new : Two File) (c : Two (List ℕ)) → IsImage old (read_files old)
    → SyncsBoth old new → IsImage new c → IsImage old c
settled_back old new c reads settles image =
    let here = subst (λ (t : Two File). IsImage t c) settles image in
    record {
      first =
          subst (λ (b : List ℕ). IsFileImage old.first b)
          (sym (settled_only old.first.now c.first here.first)) reads.first;
      second = subst (λ (b : List ℕ). IsFileImage old.second b)
          (sym (settled_only old.second.now c.second here.second)) reads.second;
    }

-- calls that only read after a barrier
pub images_then : (o0 o1 o2 : Outside) → AnyImage o0 o1 → RelatesTold SyncsBoth o0.files o1.files
    → DiskRun o0 o1 → OnlyReads o1 o2 → AnyImage o0 o2
images_then o0 o1 o2 images settles run looks two told =
    let mid = becomes_told SyncsBoth o0.files o1.files two told settles in
    let weaker : (m : Moment) → IsNow mid.0 o1.links m → IsNow two o0.links m =
    λ m now. record {
      image = settled_back two mid.0 m.files (o0.reads two told) mid.2 now.image;
      sent = now.sent ∙ ap (λ (l : Links). sent_of l.told) run.same_links;
    } in
    moments_then o0 o1 o2 (IsNow two o0.links) (images two told)
    (moments_map o1 o2 (IsNow mid.0 o1.links) (IsNow two o0.links) weaker
    (looks.moments mid.0 mid.1))

pub settles_then : (o0 o1 o2 : Outside) → RelatesTold SyncsBoth o0.files o1.files → OnlyReads o1 o2
    → RelatesTold SyncsBoth o0.files o2.files
settles_then o0 o1 o2 settles looks =
    subst (λ (f : Option (Two File)). RelatesTold SyncsBoth o0.files f) (sym looks.same_files)
    settles

-- the files read as before
reads_same : (old new : Two File) → SyncsBoth old new → read_files new ≡ read_files old
reads_same old new settles = ap (λ (t : Two File). read_files t) settles

-- where the files are told before a barrier they are after it, and read as before
pub barrier_told : (o0 o1 : Outside) (two : Two File) → RelatesTold SyncsBoth o0.files o1.files
    → o0.files ≡ Some two → (mid : Two File) × (o1.files ≡ Some mid)
    × (read_files mid ≡ read_files two)
barrier_told o0 o1 two settles told =
    let mid = becomes_told SyncsBoth o0.files o1.files two told settles in
    (mid.0, mid.1, reads_same two mid.0 mid.2)

-- ---- the header

no_records : (f : Facts) (session end : ℕ) → f ≡ nothing → takes_of f.takes session ≤ end
no_records f session end empty =
    let none : takes_of f.takes session ≡ 0 = ap (λ (g : Facts). takes_of g.takes session) empty
    ∙ ap (λ (o : Option ℕ). unwrap_or o 0) (fin_map.get-empty nat_cmp session) in
    omega (arith, none)

-- no batch was read yet
pub starts_some : (clients : Meaning) (two : Two File) (j : JournalValue) (s : StateValue)
    → StartsJournal (read_files two) (Ok j) → j.end ≡ 15 → s.facts ≡ nothing
    → HasReadSome clients two j s 0
starts_some clients two j s is fresh empty =
    let same : j.format ≡ format_in (file_of (read_files two) j.file) =
    ap (λ (v : JournalValue). v.format) is.2 in
    let known = known_format j.format (ap is_format same ∙ is.1) in
    let At : ℕ → Type 0 = λ n. Front clients (read_files two) j.file (format_meant j.format) [] n in
    record {
      read = record {
        long = ap length (sym (as_read two j.file)) ∙ sym (ap (λ (v : JournalValue). v.len) is.2);
        known_format = known;
        format_is = ap format_in (sym (as_read two j.file)) ∙ sym same;
        known_generation = ap generation_in (sym (as_read two j.file))
            ∙ sym (ap (λ (v : JournalValue). v.generation) is.2);
        done = [];
        front =
            subst At (sym fresh)
            (front_start clients (read_files two) j.file (format_meant j.format) is.0
            (ap format_of (sym same) ∙ known));
        facts_are = sym empty;
      };
      counted = refl;
    }

-- the first gate
pub starts_so_far : (clients : Meaning) (files : Option (Two File)) (j : JournalValue)
    (s : StateValue) → ((two : Two File) → files ≡ Some two → StartsJournal (read_files two) (Ok j))
    → (j.end ≡ 15)
    → s.facts ≡ nothing → KnowsJudgements clients s → PlayedSoFar clients files j s
starts_so_far clients files j s starts fresh empty knows = record {
  knows = knows;
  numbers = record {
    held = omega (arith, ap (λ (f : Facts). length f.held) empty, fresh);
    sessions = omega (arith, ap (λ (f : Facts). length f.sessions) empty, fresh);
    records = λ session. no_records s.facts session j.end empty;
  };
  started = omega (arith, fresh);
  bounded = omega (arith, fresh);
  begun = λ early. empty;
  known = λ two told. (starts_some clients two j s (starts two told) fresh empty).read;
}

starts_none : (clients : Meaning) (o0 o1 : Outside) (two : Two File)
    → RelatesTold SyncsBoth o0.files o1.files
    → ((mid : Two File) → o1.files ≡ Some mid
    → StartsJournal (read_files mid) (Err start.NoStore))
    → o0.files ≡ Some two → stands clients (read_files two) ≡ no_store
starts_none clients o0 o1 two settles starts told =
    let mid = barrier_told o0 o1 two settles told in
    ap (stands clients) (sym mid.2) ∙ front_none clients (read_files mid.0) (starts mid.0 mid.1)

starts_damaged : (clients : Meaning) (o0 o1 : Outside) (two : Two File) (place : Place)
    → RelatesTold SyncsBoth o0.files o1.files
    → ((mid : Two File) → o1.files ≡ Some mid
    → StartsJournal (read_files mid) (Err (start.Damaged place)))
    → o0.files ≡ Some two → stands clients (read_files two) ≡ damaged place.file place.at
starts_damaged clients o0 o1 two place settles starts told =
    let mid = barrier_told o0 o1 two settles told in
    let is = starts mid.0 mid.1 in
    ap (stands clients) (sym mid.2)
    ∙ front_format clients (read_files mid.0) place.file is.0
    (unknown_format (format_in (file_of (read_files mid.0) place.file)) is.1)
    ∙ ap (λ (n : ℕ). damaged place.file n) (sym is.2)

-- no journal was found
pub starts_fault : (clients : Meaning) (o0 o1 : Outside) (two : Two File) (e : StartFault)
    → RelatesTold SyncsBoth o0.files o1.files
    → ((mid : Two File) → o1.files ≡ Some mid → StartsJournal (read_files mid) (Err e))
    → o0.files ≡ Some two → IsJournalLoaded clients (read_files two) (Err (load_of_start e))
starts_fault clients o0 o1 two start.NoStore settles starts told =
    starts_none clients o0 o1 two settles starts told
starts_fault clients o0 o1 two start.DiskFault settles starts told = tt
starts_fault clients o0 o1 two (start.Damaged place) settles starts told =
    starts_damaged clients o0 o1 two place settles starts told

pub starts_leaves : (o0 o1 o2 : Outside) (e : StartFault) → RelatesTold SyncsBoth o0.files o1.files
    → OnlyReads o1 o2 → LeavesSettled o0.files o2.files (Err (load_of_start e))
starts_leaves o0 o1 o2 start.NoStore settles looks = settles_then o0 o1 o2 settles looks
starts_leaves o0 o1 o2 start.DiskFault settles looks = tt
starts_leaves o0 o1 o2 (start.Damaged place) settles looks = settles_then o0 o1 o2 settles looks

pub reads_leaves : (o0 o1 o2 : Outside) (e : LoadFault) → RelatesTold SyncsBoth o0.files o1.files
    → OnlyReads o1 o2 → LeavesSettled o0.files o2.files (Err e)
reads_leaves o0 o1 o2 load.NoStore settles looks = settles_then o0 o1 o2 settles looks
reads_leaves o0 o1 o2 load.DiskFault settles looks = tt
reads_leaves o0 o1 o2 load.Memory settles looks = settles_then o0 o1 o2 settles looks
reads_leaves o0 o1 o2 (load.Damaged place) settles looks = settles_then o0 o1 o2 settles looks

-- ---- the end

-- the journal was read
pub loaded : (clients : Meaning) (two : Two File) (files : Option (Two File)) (j : JournalValue)
    (s : StoreValue) → HasReadJournal clients files j s.state → files ≡ Some two
    → StandsFor clients (read_files two) s
loaded clients two files j s all told =
    let read = all.so_far.known two told in
    let format = format_meant j.format in
    let room : j.end + room_of format (facts read.done) ≤ MAX_JOURNAL =
    subst (λ (f : Facts). j.end + room_of format f ≤ MAX_JOURNAL) (sym read.facts_are)
    all.roomy in
    record {
      done = read.done;
      stands_for = front_closed clients (read_files two) j.file format read.done j.end read.front
          (all.at_end two told) room;
      facts_are = read.facts_are;
    }

-- what the journal's reading answers, in words of the files before the barrier
pub answers : (clients : Meaning) (o0 o1 o2 : Outside) (two : Two File) (j : JournalValue)
    (s : StoreValue) → RelatesTold SyncsBoth o0.files o1.files → o2.files ≡ o1.files
    → HasReadJournal clients o2.files j s.state → o0.files ≡ Some two
    → IsJournalLoaded clients (read_files two) (Ok s)
answers clients o0 o1 o2 two j s settles same all told =
    let mid = barrier_told o0 o1 two settles told in
    subst (λ (f : Two (List ℕ)). StandsFor clients f s) mid.2
    (loaded clients mid.0 o2.files j s all (same ∙ mid.1))

pub answers_damaged : (clients : Meaning) (o0 o1 o2 : Outside) (two : Two File) (place : Place)
    → RelatesTold SyncsBoth o0.files o1.files → o2.files ≡ o1.files
    → AreDamaged clients o2.files place → o0.files ≡ Some two
    → stands clients (read_files two) ≡ damaged place.file place.at
answers_damaged clients o0 o1 o2 two place settles same there told =
    let mid = barrier_told o0 o1 two settles told in
    ap (stands clients) (sym mid.2) ∙ there mid.0 (same ∙ mid.1)

settled_first : (old new : Two File) → SyncsBoth old new → new.first ≡ settled new.first.now
settled_first old new settles =
    ap (λ (t : Two File). t.first) settles
    ∙ ap settled (sym (ap (λ (t : Two File). t.first.now) settles))

settled_second : (old new : Two File) → SyncsBoth old new → new.second ≡ settled new.second.now
settled_second old new settles =
    ap (λ (t : Two File). t.second) settles
    ∙ ap settled (sym (ap (λ (t : Two File). t.second.now) settles))

-- where files are told after a step they were before it
becomes_back : {A : Type 0} (step : A → A → Type 0) (old new : Option A) (b : A) → new ≡ Some b
    → RelatesTold step old new → (a : A) × (old ≡ Some a) × step a b
becomes_back step None None b told becomes = cc
becomes_back step None (Some y) b told becomes = absurd becomes
becomes_back step (Some x) None b told becomes = absurd becomes
becomes_back step (Some x) (Some y) b told becomes =
    let same : y ≡ b = cc in (x, refl, subst (λ z. step x z) same becomes)

abbrev pub store_of : JournalValue → StateValue → ℕ → StoreValue
store_of j s limit =
    record {
      state = s;
      file = j.file;
      format = j.format;
      generation = j.generation;
      end = j.end;
      waiting = 0 ∷ [];
      limit = limit;
      closed = false;
    }

-- the disk fits the store
pub fits_loaded : (clients : Meaning) (o0 o1 o2 : Outside) (j : JournalValue) (s : StateValue)
    (limit : ℕ) → RelatesTold SyncsBoth o0.files o1.files → o2.files ≡ o1.files
    → HasReadJournal clients o2.files j s
    → FitsSome clients (store_of j s limit) o2.files
unfolding loaded
fits_loaded clients o0 o1 o2 j s limit settles same all two told =
    let old = becomes_back SyncsBoth o0.files o1.files two (sym same ∙ told) settles in
    let read = all.so_far.known two told in
    let stand = loaded clients two o2.files j (store_of j s limit) all told in
    let At : List ℕ → Type 0 =
    λ b. HasFrames b (take 14 (file_of (read_files two) j.file))
    (payloads (format_meant j.format) nothing read.done) in (
      read.done,
      record {
        none_waits = refl;
        first_settled = settled_first old.0 two old.2;
        second_settled = settled_second old.0 two old.2;
        stands_for = stand.stands_for;
        facts_are = read.facts_are;
        legal = read.front.legal;
        file_is = read.front.found;
        format_is = read.format_is;
        format_known = read.known_format;
        generation_is = read.known_generation;
        header = take 14 (file_of (read_files two) j.file);
        frames =
            subst At (as_read two j.file)
            (front_frames clients (read_files two) j.file (format_meant j.format) read.done
            j.end read.front (all.at_end two told));
        end_is = read.front.end_is;
        kinds = read.front.kinds;
        within = read.front.within;
      },
    )

-- ---- faults

pub answers_fault : (clients : Meaning) (o0 o1 o2 : Outside) (two : Two File) (j : JournalValue)
    (s : StateValue) (e : LoadFault) → RelatesTold SyncsBoth o0.files o1.files → o2.files ≡ o1.files
    → ReadsWholeJournal clients o2.files j s (Err e) → o0.files ≡ Some two
    → IsJournalLoaded clients (read_files two) (Err e)
answers_fault clients o0 o1 o2 two j s load.NoStore settles same there told = absurd there
answers_fault clients o0 o1 o2 two j s (load.Damaged place) settles same there told =
    answers_damaged clients o0 o1 o2 two place settles same there told
answers_fault clients o0 o1 o2 two j s load.DiskFault settles same there told = tt
answers_fault clients o0 o1 o2 two j s load.Memory settles same there told = tt

-- the state of no entries knows every client's judgements
pub knows_none : (clients : Meaning) (s : StateValue) → s.facts ≡ nothing → s.answers ≡ []
    → KnowsJudgements clients s
knows_none clients s empty none =
    none ∙ ap (λ (f : Facts). map (answer_of clients f) f.held) (sym empty)

pub ready_loaded : (clients : Meaning) (o0 o1 o2 : Outside) (j : JournalValue) (s : StateValue)
    (limit : ℕ) → RelatesTold SyncsBoth o0.files o1.files → o2.files ≡ o1.files
    → HasReadJournal clients o2.files j s
    → IsReady clients (store_of j s limit) o2.files
ready_loaded clients o0 o1 o2 j s limit settles same all =
    record {
      still_open = refl;
      none_waits = refl;
      knows = all.so_far.knows;
      fits = fits_loaded clients o0 o1 o2 j s limit settles same all;
    }

-- the store as it is made, with no frame that waits
pub loads_at : (j : JournalValue) (s : StateValue) (limit : ℕ) (waiting : List ℕ)
    → waiting ≡ 0 ∷ []
    → record (store_of j s limit) { end = j.end + group_len waiting; waiting = waiting }
    ≡ store_of j s limit
loads_at j s limit waiting none =
    let at : j.end + group_len waiting ≡ j.end = omega (arith, ap group_len none) in
    ap (λ (e : ℕ). record (store_of j s limit) { end = e; waiting = waiting }) at
    ∙ ap (λ (w : List ℕ). record (store_of j s limit) { waiting = w }) none
