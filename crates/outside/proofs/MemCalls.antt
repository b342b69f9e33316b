-- From what a call did to a disk in memory to what the trait says of it.
use Rattle.std.proofs.Common.{◌≡◌, ◌⊎◌, ℕ, zero, suc, ◌≤◌, min, List, [], ◌∷◌, ◌++◌, length, take, Option, None, Some, Result, Ok, Err, refl, sym, ap, ◌∙◌, subst, inl, inr, arith, length-append, append-nil}
use Rattle.std.specs.Option.{option_to_list}
use Rattle.outside.specs.declared.failed.Failed.{Failed}
use Rattle.outside.specs.Files.{Two, File, file_of, with_file, settled}
use Rattle.outside.specs.Disk.{WritesFile, CutsFile, SyncsFile, IsTorn, after_write, after_cut, overwritten}
use Rattle.outside.specs.Links.{Links, ToldLink, HeardOn, sent_of, no_links}
use Rattle.outside.specs.Outside.{Moment, DiskCall}
use Rattle.outside.specs.Calls.{OneCall}
use Rattle.outside.specs.MemDisk.{Change, wrote, wrote_not, cut, cut_not, synced, KeptFile, changed, kept_after, both_kept, files_of, bytes_of, MemDiskValue, disk_files, MakesChange, calls_of}
use Rattle.outside.specs.MemMoments.{WasAt}
use Rattle.outside.specs.MemLaws.{no_links_told, no_links_heard}
use Rattle.outside.proofs.MemSound.{was_before, was_kept, kept_after-push}
use Rattle.outside.specs.MemTold.{mem_told, disk_told}

-- ---- one file of two

pub files_with : (two : Two KeptFile) (file : ℕ) (k : KeptFile) → files_of (with_file two file k) ≡ with_file (files_of two) file k.file
files_with two zero k = refl
files_with two (suc _) k = refl

pub files_file : (two : Two KeptFile) (file : ℕ) → file_of (files_of two) file ≡ (file_of two file).file
files_file two zero = refl
files_file two (suc _) = refl

pub bytes_with : (two : Two KeptFile) (file : ℕ) (k : KeptFile) → bytes_of (with_file two file k) ≡ with_file (bytes_of two) file k.file.now
bytes_with two zero k = refl
bytes_with two (suc _) k = refl

pub bytes_file : (two : Two KeptFile) (file : ℕ) → file_of (bytes_of two) file ≡ (file_of two file).file.now
bytes_file two zero = refl
bytes_file two (suc _) = refl

pub with_same : {A : Type 0} (two : Two A) (file : ℕ) → with_file two file (file_of two file) ≡ two
with_same two zero = refl
with_same two (suc _) = refl

-- ---- at most one change more

more_before : (sent_by : List Change → List (List ℕ)) (start : Two (List ℕ)) (calls : List Change) (more : Option Change) (t : ℕ) (m : Moment)
    → WasAt sent_by start (calls ++ option_to_list more) t m
    → WasAt sent_by start calls t m ⊎ WasAt sent_by start (calls ++ option_to_list more) (length (calls ++ option_to_list more)) m
more_before sent_by start calls None t m w = inl (subst (λ (l : List Change). WasAt sent_by start l t m) (append-nil calls) w)
more_before sent_by start calls (Some c) t m w = was_before sent_by start calls c t m w

more_kept : (sent_by : List Change → List (List ℕ)) (start : Two (List ℕ)) (calls : List Change) (more : Option Change) (t : ℕ) (m : Moment)
    → WasAt sent_by start calls t m → WasAt sent_by start (calls ++ option_to_list more) t m
more_kept sent_by start calls None t m w = subst (λ (l : List Change). WasAt sent_by start l t m) (sym (append-nil calls)) w
more_kept sent_by start calls (Some c) t m w = was_kept sent_by start calls c t m w

-- the moments of a call with at most one change
pub record Passes (sent_by : List Change → List (List ℕ)) (start start' : Two (List ℕ)) (calls calls' : List Change) : Type 0 where
  pub later : length calls ≤ length calls'
  pub nothing_else : (t : ℕ) (m : Moment) → WasAt sent_by start' calls' t m → WasAt sent_by start calls t m ⊎ WasAt sent_by start' calls' (length calls') m
  pub keeps : (t : ℕ) (m : Moment) → WasAt sent_by start calls t m → WasAt sent_by start' calls' t m

pub passes : (sent_by : List Change → List (List ℕ)) (start start' : Two (List ℕ)) (calls calls' : List Change) (more : Option Change)
    → start' ≡ start → calls' ≡ calls ++ option_to_list more → Passes sent_by start start' calls calls'
passes sent_by start start' calls calls' more same_start one_more_call =
    let base : Passes sent_by start start calls (calls ++ option_to_list more) = record {
      later = omega (arith, length-append calls (option_to_list more));
      nothing_else = more_before sent_by start calls more;
      keeps = more_kept sent_by start calls more;
    } in
    subst (λ (s : Two (List ℕ)). Passes sent_by start s calls calls') (sym same_start) (subst (λ (l : List Change). Passes sent_by start start calls l) (sym one_more_call) base)

-- the change that a call made, if any
pub change_made : {T E : Type 0} (fine failed : Option Change) (result : Result T E) (old new : MemDiskValue) → MakesChange fine failed result old new
    → (more : Option Change) × (new.calls ≡ old.calls ++ option_to_list more)
change_made fine failed (Ok _) old new makes = (fine, makes.outcome.calls)
change_made fine failed (Err _) old new makes =
    elim makes.outcome.outcome [ inl listed ↦ (failed, listed.calls) | inr untraced ↦ (None, untraced.calls ∙ sym (append-nil old.calls)) ]

-- the calls go on with one more
one_call : {T E : Type 0} (fine failed : Option Change) (result : Result T E) (old new : MemDiskValue) → MakesChange fine failed result old new → OneCall (calls_of old) (calls_of new)
one_call fine failed result old new makes =
    let more = change_made fine failed result old new makes in
    record {
      goes_on = record {
        same_start = makes.counts.start;
        same_failing = makes.counts.failing;
        same_stop = makes.counts.stop;
        more = option_to_list more.0;
        grown = more.1;
        later = makes.counts.later;
      };
      made = makes.counts.made;
    }

pub makes_told : {T E : Type 0} (sent_by : List Change → List (List ℕ)) (fine failed : Option Change) (result : Result T E) (old new : MemDiskValue) → MakesChange fine failed result old new
    → (links links' : Links) → links' ≡ links
    → (s : sent_by old.calls ≡ sent_of links.told) (t : (ls : List ToldLink) → links.told ≡ Some ls → length ls ≡ links.dialled) (h : (hs : List HeardOn) → links.heard ≡ Some hs → length hs ≡ links.dialled)
    → (s' : sent_by new.calls ≡ sent_of links'.told) (t' : (ls : List ToldLink) → links'.told ≡ Some ls → length ls ≡ links'.dialled) (h' : (hs : List HeardOn) → links'.heard ≡ Some hs → length hs ≡ links'.dialled)
    → DiskCall (mem_told sent_by (calls_of old) links old.faults s t h) (mem_told sent_by (calls_of new) links' new.faults s' t' h')
makes_told sent_by fine failed result old new makes links links' same s t h s' t' h' =
    let more = change_made fine failed result old new makes in
    let pass = passes sent_by old.start new.start old.calls new.calls more.0 makes.counts.start more.1 in
    record {
      same_links = same;
      same_told = refl;
      calls = one_call fine failed result old new makes;
      time = record { later = pass.later; nothing_else = λ u m _ w. pass.nothing_else u m w; keeps = λ u m _ w. pass.keeps u m w };
    }

pub makes_call : {T E : Type 0} (fine failed : Option Change) (result : Result T E) (old new : MemDiskValue) → MakesChange fine failed result old new → DiskCall (disk_told old) (disk_told new)
makes_call fine failed result old new makes =
    makes_told (λ _. []) fine failed result old new makes no_links no_links refl refl no_links_told no_links_heard refl no_links_told no_links_heard

-- ---- what the change does to the files

pub files_more : (start start' : Two (List ℕ)) (calls calls' : List Change) (c : Change) → start' ≡ start → calls' ≡ calls ++ c ∷ []
    → kept_after (both_kept start') calls' ≡ changed (kept_after (both_kept start) calls) c
files_more start start' calls calls' c same_start more =
    ap (λ s. kept_after (both_kept s) calls') same_start ∙ ap (kept_after (both_kept start)) more ∙ kept_after-push (both_kept start) calls c

pub files_same : (start start' : Two (List ℕ)) (calls calls' : List Change) → start' ≡ start → calls' ≡ calls
    → kept_after (both_kept start') calls' ≡ kept_after (both_kept start) calls
files_same start start' calls calls' same_start same =
    ap (λ s. kept_after (both_kept s) calls') same_start ∙ ap (kept_after (both_kept start)) same

torn_same : (at n : ℕ) (bytes : List ℕ) → IsTorn at n bytes bytes
torn_same at n bytes = record { before = refl; behind = refl; no_shorter = omega arith; no_longer = omega arith }

-- the change of one file, as the traits see it
one_file : (two two' : Two KeptFile) (file : ℕ) (k : KeptFile) (f : File) → two' ≡ with_file two file k → k.file ≡ f → files_of two' ≡ with_file (files_of two) file f
one_file two two' file k f e same = ap files_of e ∙ files_with two file k ∙ ap (with_file (files_of two) file) same

-- where a write begins
begins : (two : Two KeptFile) (file at : ℕ) → at ≤ length (file_of (bytes_of two) file) → min at (length (file_of two file).file.now) ≡ at
begins two file at within = let same = ap length (bytes_file two file) in omega (arith, same, within)

pub makes_write : (file at : ℕ) (bytes : List ℕ) (result : Result (Unit {0}) Failed) (old new : MemDiskValue)
    → at ≤ length (file_of (bytes_of (disk_files old)) file)
    → MakesChange (Some (wrote file at bytes)) (Some (wrote_not file at bytes)) result old new
    → WritesFile file at bytes result (files_of (disk_files old)) (files_of (disk_files new))
makes_write file at bytes (Ok _) old new within makes =
    let two = disk_files old in
    let k = file_of two file in
    let place = begins two file at within in
    one_file two (disk_files new) file _ _ (files_more old.start new.start old.calls new.calls (wrote file at bytes) makes.counts.start makes.outcome.calls)
    (ap (λ a. after_write k.file a (length bytes) (overwritten k.file.now a bytes)) place
    ∙ ap (λ f. after_write f at (length bytes) (overwritten f.now at bytes)) (sym (files_file two file)))
makes_write file at bytes (Err _) old new within makes =
    let two = disk_files old in
    let k = file_of two file in
    let place = begins two file at within in
    elim makes.outcome.outcome [
      | inl listed ↦ inr (
        (file_of (files_of two) file).now,
        torn_same at (length bytes) (file_of (files_of two) file).now,
        one_file two (disk_files new) file _ _ (files_more old.start new.start old.calls new.calls (wrote_not file at bytes) makes.counts.start listed.calls)
            (ap (λ a. after_write k.file a (length bytes) k.file.now) place
            ∙ ap (λ f. after_write f at (length bytes) f.now) (sym (files_file two file))),
      )
      | inr untraced ↦ inl (ap files_of (files_same old.start new.start old.calls new.calls makes.counts.start untraced.calls))
    ]

pub makes_cut : (file n : ℕ) (result : Result (Unit {0}) Failed) (old new : MemDiskValue)
    → MakesChange (Some (cut file n)) (Some (cut_not file n)) result old new
    → CutsFile file n result (files_of (disk_files old)) (files_of (disk_files new))
makes_cut file n (Ok _) old new makes =
    let two = disk_files old in
    one_file two (disk_files new) file _ _ (files_more old.start new.start old.calls new.calls (cut file n) makes.counts.start makes.outcome.calls)
    (ap (λ f. after_cut f n (take n f.now)) (sym (files_file two file)))
makes_cut file n (Err _) old new makes =
    let two = disk_files old in
    elim makes.outcome.outcome [
      | inl listed ↦ inr (inr
          (one_file two (disk_files new) file _ _ (files_more old.start new.start old.calls new.calls (cut_not file n) makes.counts.start listed.calls)
          (ap (λ f. after_cut f n f.now) (sym (files_file two file)))))
      | inr untraced ↦ inl (ap files_of (files_same old.start new.start old.calls new.calls makes.counts.start untraced.calls))
    ]

pub makes_sync : (file : ℕ) (result : Result (Unit {0}) Failed) (old new : MemDiskValue)
    → MakesChange (Some (synced file)) None result old new
    → SyncsFile file result (files_of (disk_files old)) (files_of (disk_files new))
makes_sync file (Ok _) old new makes =
    let two = disk_files old in
    one_file two (disk_files new) file _ _ (files_more old.start new.start old.calls new.calls (synced file) makes.counts.start makes.outcome.calls)
    (ap (λ f. settled f.now) (sym (files_file two file)))
makes_sync file (Err _) old new makes =
    elim makes.outcome.outcome [
      | inl listed ↦ ap files_of (files_same old.start new.start old.calls new.calls makes.counts.start (listed.calls ∙ append-nil old.calls))
      | inr untraced ↦ ap files_of (files_same old.start new.start old.calls new.calls makes.counts.start untraced.calls)
    ]

-- what the trait asks of a place, as the disk in memory asks it
pub within_bytes : (two : Two KeptFile) (file at : ℕ) → at ≤ length (file_of (files_of two) file).now → at ≤ length (file_of (bytes_of two) file)
within_bytes two zero at within = within
within_bytes two (suc _) at within = within
