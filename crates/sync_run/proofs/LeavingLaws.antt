-- What a run comes to and leaves that ends before its first session, by the calls that it made.
use Rattle.std.proofs.Common.{Bool, Err, List, None, Ok, Option, Result, Some, [], ap, append-nil}
use Rattle.std.proofs.Common.{false, inl, refl, subst, sym, true, ℕ, ◌++◌, ◌+◌, ◌∙◌, ◌≡◌}
use Rattle.std.specs.Prelude.{IsErrAnd, if◌then◌else◌, length, nat_lt}
use Rattle.outside.proofs.CallSteps.{becomes_told, moments_map}
use Rattle.outside.specs.Disk.{RelatesTold}
use Rattle.outside.specs.Files.{File, ReadsSame, Two, read_files}
use Rattle.outside.specs.Links.{Links}
use Rattle.outside.specs.Outside.{DiskRun, IsNow, Moment, MomentsAre, Outside}
use Rattle.entry_codec.specs.Standing.{Standing, journal}
use Rattle.file_standing.specs.Standing.{stands}
use Rattle.sync_rules.specs.Clients.{Meaning}
use Rattle.sync_rules.specs.Facts.{Facts, Journal, facts}
use Rattle.sync_rules.specs.declared.limits.TheConstants.{MAX_SESSIONS}
use Rattle.sync_rules.specs.declared.states.Refused.{Refused}
use Rattle.sync_rules.specs.declared.states.Refused.TheVariants as refused
use Rattle.sync_store.specs.Store.{StoreValue}
use Rattle.sync_course.specs.Closing.{Closing}
use Rattle.sync_node.specs.Courses.{ReadsAs}
use Rattle.sync_node.specs.Output.{output, sent_on}
use Rattle.store_commands.specs.Load.{HasFacts, IsLoaded, LoadedBy}
use Rattle.store_commands.specs.Show.{FilesReadSame, LeavesFilesSo}
use Rattle.sync_words.specs.declared.link_words.LinkWords.{LinkWords}
use Rattle.sync_words.specs.Outcomes.{links_came_to}
use Rattle.sync_words.specs.declared.outcome.Outcome.{Outcome}
use Rattle.sync_words.specs.declared.outcome.Outcome.TheVariants as outcome
use Rattle.sync_run.proofs.DialActs.{unbegun, unbegun_starved}
use Rattle.sync_run.proofs.DialLaws.{no_links_made}
use Rattle.sync_run.proofs.RunActs.{passed}
use Rattle.sync_run.proofs.TellLaws.{nothing_sent, reads_told, silent_by}
use Rattle.sync_run.proofs.WordLaws.{specs_disk}
use Rattle.sync_run.specs.Causes.{IsCaused, IsOfRun}
use Rattle.sync_run.specs.Courses.{RanShort, RanSoFar, RunComesTo, TestsWords, is_unknown}
use Rattle.sync_run.specs.Courses.{run_test}
use Rattle.sync_run.specs.Headline.{Headline, IsUntouched, LeavesFilesAtRest}
use Rattle.sync_run.specs.Leaving.{LeavesLinks, MakesFront}
use Rattle.sync_run.specs.Ran.{HasRun, RanTold}
use Rattle.sync_run.specs.declared.run.Limits.{Limits}

-- ---- the links

-- no link was touched
pub leaves_same : (words : List LinkWords) (o o' : Outside) (r : Result Closing Outcome)
    → o'.links ≡ o.links → LeavesLinks words o o' r
leaves_same words o o' (Err outcome.NoStore) same = same
leaves_same words o o' (Err (outcome.Damaged place)) same = same
leaves_same words o o' (Err (outcome.Refused why)) same = same
leaves_same words o o' (Err (outcome.LinkFailed named)) same = record {
  made = [];
  front = record { rest = words; whole = refl };
  makes = no_links_made o o' same;
}
leaves_same words o o' _ same = tt

-- all links were dialled, and the run came to what it did
pub dialled_leaves : (words : List LinkWords) (o o' : Outside) (r : Result Closing Outcome)
    → IsOfRun r → LeavesLinks words o o' r
dialled_leaves words o o' (Ok ends) of_run = tt
dialled_leaves words o o' (Err outcome.DiskFault) of_run = tt
dialled_leaves words o o' (Err outcome.Full) of_run = tt
dialled_leaves words o o' (Err outcome.Memory) of_run = tt
dialled_leaves words o o' (Err _) of_run = absurd of_run

-- the same where calls before and behind it touched no link
pub leaves_as : (words : List LinkWords) (o o1 o2 o3 : Outside) (r : Result Closing Outcome)
    → o1.links ≡ o.links → o3.links ≡ o2.links → LeavesLinks words o1 o2 r
    → LeavesLinks words o o3 r
leaves_as words o o1 o2 o3 (Err outcome.NoStore) first last leaves = last ∙ leaves ∙ first
leaves_as words o o1 o2 o3 (Err (outcome.Damaged place)) first last leaves = last ∙ leaves ∙ first
leaves_as words o o1 o2 o3 (Err (outcome.Refused why)) first last leaves = last ∙ leaves ∙ first
leaves_as words o o1 o2 o3 (Err (outcome.LinkFailed named)) first last leaves =
    subst (λ (a : Links). MakesFront words a o3.links) first
    (subst (λ (b : Links). MakesFront words o1.links b) (sym last) leaves)
leaves_as words o o1 o2 o3 _ first last leaves = tt

-- ---- what it comes to

-- files that read as before
pub reads_still : (clients : Meaning) (two : Two File) (old new : Option (Two File)) (j : Journal)
    → old ≡ Some two → RelatesTold ReadsSame old new → stands clients (read_files two) ≡ journal j
    → ReadsAs clients new j
reads_still clients two old new j is reads began =
    let now = becomes_told ReadsSame old new two is reads in
    (now.0, now.1, ap (stands clients) now.2 ∙ began)

module _ (clients : Meaning) (limits : Limits) (words : List LinkWords) (two : Two File)
    (o o' : Outside) (none : o.links.dialled ≡ 0) (told : o.files ≡ Some two)
    (same : o'.links ≡ o.links) (reads : RelatesTold ReadsSame o.files o'.files) where
  abbrev stood : Standing
  stood = stands clients (read_files two)

  -- the files read as before
  still : (begin : Journal) → stood ≡ journal begin → ReadsAs clients o'.files begin
  still begin began = reads_still clients two o.files o'.files begin told reads began

  -- it was broken off before its first session
  pub broken_early : (begin : Journal) → stood ≡ journal begin
      → RanSoFar clients limits words begin o o'
  broken_early begin began =
      unbegun clients limits words [] begin o o' none (no_links_made o o' same)
      (λ i. ap (λ (l : Links). l.faults i) same) (still begin began)

  -- for want of memory
  pub starved_early : (begin : Journal) → stood ≡ journal begin
      → RanShort clients limits words begin o o'
  starved_early begin began =
      unbegun_starved clients limits words [] begin o o' none (no_links_made o o' same)
      (λ i. ap (λ (l : Links). l.faults i) same)
      (still begin began)

  pub load_comes : (came : Outcome) → LoadedBy o o' (Err came) → IsLoaded stood (Err came)
      → RunComesTo clients limits words stood o o' (Err came)
  load_comes outcome.NoStore by loaded = loaded
  load_comes (outcome.Damaged place) by loaded = loaded
  load_comes outcome.DiskFault by loaded = broken_early
  load_comes outcome.Memory by loaded = starved_early
  load_comes _ by loaded = absurd by

  pub refused_comes : (s : StoreValue) → HasFacts stood s → (why : Refused)
      → TestsWords s.state.facts words (Err why)
      → RunComesTo clients limits words stood o o' (Err (outcome.Refused why))
  refused_comes s loaded why tests = record {
    before = loaded.of;
    stood = loaded.stood;
    has = (ap (λ (f : Facts). run_test f words) loaded.are ∙ tests, still loaded.of loaded.stood);
  }

-- where no session began: each moment might have been before the command, and the files read as
-- before
pub headline_none : (clients : Meaning) (words : List LinkWords) (o o' : Outside)
    → o.links.dialled ≡ 0 → o'.links ≡ o.links
    → ((two : Two File) → o.files ≡ Some two → LeavesFilesSo (FilesReadSame two) two o o')
    → Headline clients words o o'
headline_none clients words o o' none same rests two told told' =
    let left = rests two told in
    let untouched : (m : Moment) → IsNow two o.links m → IsUntouched two o m =
    λ m now. record { now = now; nothing_sent = λ link. silent_by o m link none now.sent } in
    record {
      moments = moments_map o o' (IsNow two o.links) _ (λ m now. inl (untouched m now)) left.moments;
      ends = λ begin stood. record {
        sessions = [];
        planned = tt;
        whole = begin;
        stands_for = ap (stands clients) (left.kept told'.two told'.files_are) ∙ stood;
        suits = record { more = []; extends = sym (append-nil begin); suits = tt };
        has_sent = λ link.
            let all : List ℕ = output begin ((facts begin).begun + link) in
            let nothing : sent_on o'.links link ≡ [] =
            ap (λ (l : Links). sent_on l link) same ∙ nothing_sent o none link in
            record { rest = all; whole = ap (λ (l : List ℕ). l ++ all) (sym nothing) };
      };
    }

-- a command that ended behind its load and before its links
module _ (clients : Meaning) (limits : Limits) (words : List LinkWords) (o o' : Outside)
    (none : o.links.dialled ≡ 0) (run : DiskRun o o')
    (moments : (two : Two File) → o.files ≡ Some two → MomentsAre o o' (IsNow two o.links))
    (reads : RelatesTold ReadsSame o.files o'.files) (r : Result Closing Outcome) (x : Outcome)
    (is : IsErrAnd r (λ y. y ≡ x)) (other : x ≡ outcome.Full → ⊥)
    (rests : LeavesFilesAtRest o'.files (Err x)) (caused : IsCaused words o o' (Err x))
    (comes : (two : Two File) → o.files ≡ Some two
    → RunComesTo clients limits words (stands clients (read_files two)) o o' (Err x)) where
  pub rests_read : (two : Two File) → o.files ≡ Some two → LeavesFilesSo (FilesReadSame two) two o o'
  rests_read two told = record {
    moments = moments two told;
    kept = λ two' told'. reads_told o.files o'.files two two' reads told told';
  }

  abbrev pub ended_early : HasRun clients limits words o o' (links_came_to r)
  ended_early = record {
    result = r;
    is = refl;
    headline = headline_none clients words o o' none run.same_links rests_read;
    told = λ two told.
        passed (RanTold clients limits words two o o') r x is (record {
          rests = rests;
          sent = tt;
          sent_full = λ full. absurd (other (let same : x ≡ outcome.Full = cc in same));
          comes = comes two told;
          unbegun = λ none. (run.same_links, rests_read two told);
        });
    specs = specs_disk words o o' none run;
    caused = passed (IsCaused words o o') r x is caused;
    leaves = leaves_same words o o' r run.same_links;
  }

pub loaded_unfull : (old new : Outside) (e : Outcome) → LoadedBy old new (Err e)
    → e ≡ outcome.Full → ⊥
loaded_unfull old new e by is = subst (λ (x : Outcome). LoadedBy old new (Err x)) is by

-- ---- causes

pub load_caused : (words : List LinkWords) (o o' : Outside) (came : Outcome) → LoadedBy o o'
    (Err came) → IsCaused words o o' (Err came)
load_caused words o o' outcome.NoStore by = tt
load_caused words o o' (outcome.Damaged place) by = tt
load_caused words o o' outcome.DiskFault by = by
load_caused words o o' outcome.Memory by = tt
load_caused words o o' _ by = absurd by

-- one of the two tests refused it
pub refused_caused : (f : Facts) (words : List LinkWords) (o o' : Outside) (why : Refused)
    → TestsWords f words (Err why) → IsCaused words o o' (Err (outcome.Refused why))
refused_caused f words o o' why tests =
    by_tests (is_unknown f words) (nat_lt MAX_SESSIONS (f.begun + length words)) tests
  where
    by_tests : (unknown many : Bool)
        → (if unknown then Some refused.UnknownContact
        else (if many then Some refused.TooManySessions else None)) ≡ Some why
        → IsCaused words o o' (Err (outcome.Refused why))
    by_tests true many is =
        let same : refused.UnknownContact ≡ why = cc in
        subst (λ (x : Refused). IsCaused words o o' (Err (outcome.Refused x))) same tt
    by_tests false true is =
        let same : refused.TooManySessions ≡ why = cc in
        subst (λ (x : Refused). IsCaused words o o' (Err (outcome.Refused x))) same tt
    by_tests false false is = cc
