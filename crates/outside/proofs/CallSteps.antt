-- Runs of calls of a disk: they join, one call more at a time, and what each leaves at its moments.
use Rattle.std.specs.Prelude.{◌≡◌, ℕ, zero, suc, ◌≤◌, List, [], ◌++◌, take, length, true, Option, None, Some, Ok, Err, is_some}
use Rattle.std.proofs.Common.{refl, sym, ap, ◌∙◌, subst, inl, inr, arith, append-nil, append_assoc}
use Rattle.outside.specs.declared.failed.Failed.{Failed}
use Rattle.outside.specs.Files.{Two, File, IsFileImage, IsImage, file_of, with_file, settled}
use Rattle.outside.specs.Links.{Links, sent_of}
use Rattle.outside.specs.Outside.{Outside, Moment, IsNow, LetsTimePass, DiskCall, LinkCall, MomentsAre, DiskRun, OnlyReads}
use Rattle.outside.specs.Calls.{Calls, CallsGoOn, ChangesNone, OneCall, NoCall}
use Rattle.outside.specs.Changes.{of_disk, on_disk}
use Rattle.std.proofs.lemmas.List.Concat.{flat_map-append}
use Rattle.outside.specs.Changes.{Change}
use Rattle.outside.specs.Disk.{RelatesTold, WritesFile, CutsFile, SyncsFile, after_write, after_cut, overwritten}
use Rattle.outside.specs.Steps.{other_of, FileMoment, ReachedFile, PassedMoments}

pub file_of-with_file : {A : Type 0} (two : Two A) (file : ℕ) (a : A) → file_of (with_file two file a) file ≡ a
file_of-with_file two zero a = refl
file_of-with_file two (suc _) a = refl

pub other_of-with_file : {A : Type 0} (two : Two A) (file : ℕ) (a : A) → other_of (with_file two file a) file ≡ other_of two file
other_of-with_file two zero a = refl
other_of-with_file two (suc _) a = refl

pub with_file-file_of : {A : Type 0} (two : Two A) (file : ℕ) → with_file two file (file_of two file) ≡ two
with_file-file_of two zero = refl
with_file-file_of two (suc _) = refl

pub with_file-with_file : {A : Type 0} (two : Two A) (file : ℕ) (a b : A) → with_file (with_file two file a) file b ≡ with_file two file b
with_file-with_file two zero a b = refl
with_file-with_file two (suc _) a b = refl

pub image_file : (two : Two File) (m : Two (List ℕ)) (file : ℕ) → IsImage two m → IsFileImage (file_of two file) (file_of m file)
image_file two m zero image = image.first
image_file two m (suc _) image = image.second

pub image_other : (two : Two File) (m : Two (List ℕ)) (file : ℕ) → IsImage two m → IsFileImage (other_of two file) (other_of m file)
image_other two m zero image = image.second
image_other two m (suc _) image = image.first

-- a run of no calls
pub moments_none : (o : Outside) (P : Moment → Type 0) → ((m : Moment) → o.moments o.clock m → P m) → MomentsAre o o P
moments_none o P now = record { later = omega arith; each = now; before = λ t m _ w. inl w }

-- one call more of any kind, by its own moments; and one on the disk
pub moments_during : (o0 o o' : Outside) (during P : Moment → Type 0) → MomentsAre o0 o P → LetsTimePass o o' during → ((m : Moment) → during m → P m) → MomentsAre o0 o' P
moments_during o0 o o' during P run time own = record {
  later = omega (arith, run.later, time.later);
  each = λ m w. elim (time.nothing_else o0.clock m run.later w) [ inl old ↦ run.each m old | inr new ↦ own m new ];
  before = λ t m before w.
      let earlier : t ≤ o.clock = omega (arith, run.later, before) in
      elim (time.nothing_else t m earlier w) [
        | inl old ↦ run.before t m before old
        | inr new ↦ inr (own m new)
      ];
}

pub moments_call : (o0 o o' : Outside) (P : Moment → Type 0) → MomentsAre o0 o P → DiskCall o o' → ((m : Moment) → o'.moments o'.clock m → P m) → MomentsAre o0 o' P
moments_call o0 o o' P run call now = moments_during o0 o o' (o'.moments o'.clock) P run call.time now

-- a weaker word on the moments
pub moments_map : (o o' : Outside) (P Q : Moment → Type 0) → ((m : Moment) → P m → Q m) → MomentsAre o o' P → MomentsAre o o' Q
moments_map o o' P Q weaker run = record {
  later = run.later;
  each = λ m w. weaker m (run.each m w);
  before = λ t m before w. elim (run.before t m before w) [ inl old ↦ inl old | inr p ↦ inr (weaker m p) ];
}

-- one run after another
pub moments_then : (o0 o1 o2 : Outside) (P : Moment → Type 0) → MomentsAre o0 o1 P → MomentsAre o1 o2 P → MomentsAre o0 o2 P
moments_then o0 o1 o2 P first second = record {
  later = omega (arith, first.later, second.later);
  each = λ m w. elim (second.before o0.clock m first.later w) [ inl old ↦ first.each m old | inr p ↦ p ];
  before = λ t m before w.
      let earlier : t ≤ o1.clock = omega (arith, first.later, before) in
      elim (second.before t m earlier w) [ inl old ↦ first.before t m before old | inr p ↦ inr p ];
}

-- ---- the calls made of a disk
pub becomes_none : {A : Type 0} (step : A → A → Type 0) (o : Option A) → ((a : A) → step a a) → RelatesTold step o o
becomes_none step None stay = tt
becomes_none step (Some a) stay = stay a

pub becomes_map : {A : Type 0} (step step' : A → A → Type 0) (old new : Option A) → ((a b : A) → step a b → step' a b) → RelatesTold step old new → RelatesTold step' old new
becomes_map step step' None None weaker becomes = tt
becomes_map step step' None (Some b) weaker becomes = absurd becomes
becomes_map step step' (Some a) None weaker becomes = absurd becomes
becomes_map step step' (Some a) (Some b) weaker becomes = weaker a b becomes

pub becomes_then : {A : Type 0} (first second both : A → A → Type 0) (o0 o1 o2 : Option A) → ((a b c : A) → first a b → second b c → both a c)
    → RelatesTold first o0 o1 → RelatesTold second o1 o2 → RelatesTold both o0 o2
becomes_then first second both None None None joined f s = tt
becomes_then first second both None None (Some c) joined f s = absurd s
becomes_then first second both None (Some b) o2 joined f s = absurd f
becomes_then first second both (Some a) None o2 joined f s = absurd f
becomes_then first second both (Some a) (Some b) None joined f s = absurd s
becomes_then first second both (Some a) (Some b) (Some c) joined f s = joined a b c f s

pub go_on_none : (a : Calls) → CallsGoOn a a
go_on_none a = record { same_start = refl; same_failing = refl; same_stop = refl; more = []; grown = sym (append-nil a.changes); later = omega arith }

pub go_on_then : (a b c : Calls) → CallsGoOn a b → CallsGoOn b c → CallsGoOn a c
go_on_then a b c first second = record {
  same_start = second.same_start ∙ first.same_start;
  same_failing = second.same_failing ∙ first.same_failing;
  same_stop = second.same_stop ∙ first.same_stop;
  more = first.more ++ second.more;
  grown = second.grown ∙ ap (λ (l : List Change). l ++ second.more) first.grown ∙ append_assoc a.changes first.more second.more;
  later = omega (arith, first.later, second.later);
}

pub change_none : (a : Calls) → ChangesNone a a
change_none a = record { more = []; grown = sym (append-nil a.changes); none = refl }

pub change_then : (a b c : Calls) → ChangesNone a b → ChangesNone b c → ChangesNone a c
change_then a b c first second = record {
  more = first.more ++ second.more;
  grown = second.grown ∙ ap (λ (l : List Change). l ++ second.more) first.grown ∙ append_assoc a.changes first.more second.more;
  none = flat_map-append on_disk first.more second.more ∙ ap (λ (l : List Change). l ++ of_disk second.more) first.none ∙ second.none;
}

pub calls_none : (o : Outside) → RelatesTold CallsGoOn o.calls o.calls
calls_none o = becomes_none CallsGoOn o.calls go_on_none

pub calls_then : (o0 o1 o2 : Outside) → RelatesTold CallsGoOn o0.calls o1.calls → RelatesTold CallsGoOn o1.calls o2.calls → RelatesTold CallsGoOn o0.calls o2.calls
calls_then o0 o1 o2 first second = becomes_then CallsGoOn CallsGoOn CallsGoOn o0.calls o1.calls o2.calls go_on_then first second

-- one call more of the disk, and one on a link or the clock
pub calls_call : (o0 o o' : Outside) → RelatesTold CallsGoOn o0.calls o.calls → DiskCall o o' → RelatesTold CallsGoOn o0.calls o'.calls
calls_call o0 o o' run call = calls_then o0 o o' run (becomes_map OneCall CallsGoOn o.calls o'.calls (λ a b one. one.goes_on) call.calls)

pub calls_link : (during : Moment → Type 0) (o0 o o' : Outside) → RelatesTold CallsGoOn o0.calls o.calls → LinkCall during o o' → RelatesTold CallsGoOn o0.calls o'.calls
calls_link during o0 o o' run call = calls_then o0 o o' run (becomes_map NoCall CallsGoOn o.calls o'.calls (λ a b none. none.goes_on) call.calls)

-- ---- what no run of calls on a disk changes
pub run_none : (o : Outside) → DiskRun o o
run_none o = record { same_links = refl; same_told = refl; later = omega arith; calls = calls_none o }

pub run_call : (o0 o o' : Outside) → DiskRun o0 o → DiskCall o o' → o.disk_faults ≤ o'.disk_faults → DiskRun o0 o'
run_call o0 o o' run call later = record {
  same_links = call.same_links ∙ run.same_links;
  same_told = call.same_told ∙ run.same_told;
  later = omega (arith, run.later, later);
  calls = calls_call o0 o o' run.calls call;
}

pub run_then : (o0 o1 o2 : Outside) → DiskRun o0 o1 → DiskRun o1 o2 → DiskRun o0 o2
run_then o0 o1 o2 first second = record {
  same_links = second.same_links ∙ first.same_links;
  same_told = second.same_told ∙ first.same_told;
  later = omega (arith, first.later, second.later);
  calls = calls_then o0 o1 o2 first.calls second.calls;
}

-- ---- calls that only read
pub now_images : (o o' : Outside) (two : Two File) → o'.files ≡ Some two → o'.links ≡ o.links → (m : Moment) → o'.moments o'.clock m → IsNow two o.links m
now_images o o' two files links m w = subst (λ (l : Links). IsNow two l m) links (o'.now_is two m files w)

pub looks_none : (o : Outside) → OnlyReads o o
looks_none o = record {
  same_files = refl;
  run = run_none o;
  moments = λ two files. moments_none o _ (now_images o o two files refl);
  unchanged = becomes_none ChangesNone o.calls change_none;
}

pub looks_call : (o0 o o' : Outside) → OnlyReads o0 o → DiskCall o o' → o'.files ≡ o.files → o.disk_faults ≤ o'.disk_faults
    → RelatesTold ChangesNone o.calls o'.calls → OnlyReads o0 o'
looks_call o0 o o' looks call same later unchanged = record {
  same_files = same ∙ looks.same_files;
  run = run_call o0 o o' looks.run call later;
  moments = λ two files.
      moments_call o0 o o' (IsNow two o0.links) (looks.moments two files) call
      (now_images o0 o' two (same ∙ looks.same_files ∙ files) (call.same_links ∙ looks.run.same_links));
  unchanged = becomes_then ChangesNone ChangesNone ChangesNone o0.calls o.calls o'.calls change_then looks.unchanged unchanged;
}

pub looks_then : (o0 o1 o2 : Outside) → OnlyReads o0 o1 → OnlyReads o1 o2 → OnlyReads o0 o2
looks_then o0 o1 o2 first second = record {
  same_files = second.same_files ∙ first.same_files;
  run = run_then o0 o1 o2 first.run second.run;
  moments = λ two files.
      moments_then o0 o1 o2 (IsNow two o0.links) (first.moments two files)
      (subst (λ (l : Links). MomentsAre o1 o2 (IsNow two l)) first.run.same_links (second.moments two (first.same_files ∙ files)));
  unchanged = becomes_then ChangesNone ChangesNone ChangesNone o0.calls o1.calls o2.calls change_then first.unchanged second.unchanged;
}

pub file_moment : (two : Two File) (o0 o : Outside) (file : ℕ) (Q : List ℕ → Type 0) (f : File) → o.files ≡ Some (with_file two file f) → o.links ≡ o0.links
    → ((c : List ℕ) → IsFileImage f c → Q c) → (m : Moment) → o.moments o.clock m → FileMoment Q two (sent_of o0.links.told) file m
file_moment two o0 o file Q f files links has m w =
    let now = o.now_is (with_file two file f) m files w in
    let this : IsFileImage f (file_of m.files file) =
    subst (λ (g : File). IsFileImage g (file_of m.files file)) (file_of-with_file two file f) (image_file (with_file two file f) m.files file now.image) in
    record {
      this = has (file_of m.files file) this;
      other = subst (λ (g : File). IsFileImage g (other_of m.files file)) (other_of-with_file two file f) (image_other (with_file two file f) m.files file now.image);
      nothing_sent = now.sent ∙ ap (λ (l : Links). sent_of l.told) links;
    }

pub begun : (two : Two File) (o : Outside) (file : ℕ) (Q : List ℕ → Type 0) → o.files ≡ Some two → ((c : List ℕ) → IsFileImage (file_of two file) c → Q c) → ReachedFile two o o file Q (file_of two file)
begun two o file Q files has =
    let same = files ∙ ap Some (sym (with_file-file_of two file)) in
    record { files = same; links = refl; moments = moments_none o _ (file_moment two o o file Q (file_of two file) same refl has) }

-- one call more, after which the file is f'
pub reached_call : (two : Two File) (o0 o o' : Outside) (file : ℕ) (Q : List ℕ → Type 0) (f f' : File) → ReachedFile two o0 o file Q f → DiskCall o o' → o'.files ≡ Some (with_file two file f')
    → ((c : List ℕ) → IsFileImage f' c → Q c) → ReachedFile two o0 o' file Q f'
reached_call two o0 o o' file Q f f' run call files has =
    let links = call.same_links ∙ run.links in
    record { files = files; links = links; moments = moments_call o0 o o' _ run.moments call (file_moment two o0 o' file Q f' files links has) }

-- what becomes of told files
pub becomes_told : {A : Type 0} (step : A → A → Type 0) (old new : Option A) (a : A) → old ≡ Some a → RelatesTold step old new → (b : A) × (new ≡ Some b) × step a b
becomes_told step None new a told becomes = cc
becomes_told step (Some x) None a told becomes = absurd becomes
becomes_told step (Some x) (Some y) a told becomes =
    let same : x ≡ a = cc in
    (y, refl, subst (λ z. step z y) same becomes)

-- the file after a change of it, in words of the files at first
rewritten : (two : Two File) (file : ℕ) (f : File) (change : File → File) → with_file (with_file two file f) file (change (file_of (with_file two file f) file)) ≡ with_file two file (change f)
rewritten two file f change = with_file-with_file two file f _ ∙ ap (λ g. with_file two file (change g)) (file_of-with_file two file f)

pub wrote_ok : (two : Two File) (o0 o o' : Outside) (file : ℕ) (Q : List ℕ → Type 0) (f : File) (at : ℕ) (bytes : List ℕ) (u : Unit {0}) → ReachedFile two o0 o file Q f → DiskCall o o'
    → RelatesTold (WritesFile file at bytes (Ok u)) o.files o'.files
    → ((now c : List ℕ) → IsFileImage (after_write f at (length bytes) now) c → Q c)
    → ReachedFile two o0 o' file Q (after_write f at (length bytes) (overwritten f.now at bytes))
wrote_ok two o0 o o' file Q f at bytes u run call becomes has =
    let told = becomes_told (WritesFile file at bytes (Ok u)) o.files o'.files (with_file two file f) run.files becomes in
    let change : File → File = λ g. after_write g at (length bytes) (overwritten g.now at bytes) in
    reached_call two o0 o o' file Q f (change f) run call (told.1 ∙ ap Some (told.2 ∙ rewritten two file f change)) (has (overwritten f.now at bytes))

pub wrote_err : (two : Two File) (o0 o o' : Outside) (file : ℕ) (Q : List ℕ → Type 0) (f : File) (at : ℕ) (bytes : List ℕ) (e : Failed) → ReachedFile two o0 o file Q f → DiskCall o o'
    → RelatesTold (WritesFile file at bytes (Err e)) o.files o'.files
    → ((c : List ℕ) → IsFileImage f c → Q c)
    → ((now c : List ℕ) → IsFileImage (after_write f at (length bytes) now) c → Q c)
    → PassedMoments two o0 o' file Q
wrote_err two o0 o o' file Q f at bytes e run call becomes as_before has =
    let told = becomes_told (WritesFile file at bytes (Err e)) o.files o'.files (with_file two file f) run.files becomes in
    elim told.2 [
      | inl same ↦ (reached_call two o0 o o' file Q f f run call (told.1 ∙ ap Some same) as_before).moments
      | inr torn ↦
          let change : File → File = λ g. after_write g at (length bytes) torn.0 in
          (reached_call two o0 o o' file Q f (change f) run call (told.1 ∙ ap Some (torn.2 ∙ rewritten two file f change)) (has torn.0)).moments
    ]

pub synced_ok : (two : Two File) (o0 o o' : Outside) (file : ℕ) (Q : List ℕ → Type 0) (f : File) (u : Unit {0}) → ReachedFile two o0 o file Q f → DiskCall o o'
    → RelatesTold (SyncsFile file (Ok u)) o.files o'.files
    → ((c : List ℕ) → IsFileImage (settled f.now) c → Q c)
    → ReachedFile two o0 o' file Q (settled f.now)
synced_ok two o0 o o' file Q f u run call becomes has =
    let told = becomes_told (SyncsFile file (Ok u)) o.files o'.files (with_file two file f) run.files becomes in
    let change : File → File = λ g. settled g.now in
    reached_call two o0 o o' file Q f (settled f.now) run call (told.1 ∙ ap Some (told.2 ∙ rewritten two file f change)) has

pub synced_err : (two : Two File) (o0 o o' : Outside) (file : ℕ) (Q : List ℕ → Type 0) (f : File) (e : Failed) → ReachedFile two o0 o file Q f → DiskCall o o'
    → RelatesTold (SyncsFile file (Err e)) o.files o'.files
    → ((c : List ℕ) → IsFileImage f c → Q c)
    → PassedMoments two o0 o' file Q
synced_err two o0 o o' file Q f e run call becomes as_before =
    let told = becomes_told (SyncsFile file (Err e)) o.files o'.files (with_file two file f) run.files becomes in
    (reached_call two o0 o o' file Q f f run call (told.1 ∙ ap Some told.2) as_before).moments

pub cut_ok : (two : Two File) (o0 o o' : Outside) (file : ℕ) (Q : List ℕ → Type 0) (f : File) (n : ℕ) (u : Unit {0}) → ReachedFile two o0 o file Q f → DiskCall o o'
    → RelatesTold (CutsFile file n (Ok u)) o.files o'.files
    → ((now c : List ℕ) → IsFileImage (after_cut f n now) c → Q c)
    → ReachedFile two o0 o' file Q (after_cut f n (take n f.now))
cut_ok two o0 o o' file Q f n u run call becomes has =
    let told = becomes_told (CutsFile file n (Ok u)) o.files o'.files (with_file two file f) run.files becomes in
    let change : File → File = λ g. after_cut g n (take n g.now) in
    reached_call two o0 o o' file Q f (change f) run call (told.1 ∙ ap Some (told.2 ∙ rewritten two file f change)) (has (take n f.now))

pub cut_err : (two : Two File) (o0 o o' : Outside) (file : ℕ) (Q : List ℕ → Type 0) (f : File) (n : ℕ) (e : Failed) → ReachedFile two o0 o file Q f → DiskCall o o'
    → RelatesTold (CutsFile file n (Err e)) o.files o'.files
    → ((c : List ℕ) → IsFileImage f c → Q c)
    → ((now c : List ℕ) → IsFileImage (after_cut f n now) c → Q c)
    → PassedMoments two o0 o' file Q
cut_err two o0 o o' file Q f n e run call becomes as_before has =
    let told = becomes_told (CutsFile file n (Err e)) o.files o'.files (with_file two file f) run.files becomes in
    elim told.2 [
      | inl same ↦ (reached_call two o0 o o' file Q f f run call (told.1 ∙ ap Some same) as_before).moments
      | inr either ↦ elim either [
        | inl made ↦
            let change : File → File = λ g. after_cut g n (take n g.now) in
            (reached_call two o0 o o' file Q f (change f) run call (told.1 ∙ ap Some (made ∙ rewritten two file f change)) (has (take n f.now))).moments
        | inr unmade ↦
            let change : File → File = λ g. after_cut g n g.now in
            (reached_call two o0 o o' file Q f (change f) run call (told.1 ∙ ap Some (unmade ∙ rewritten two file f change)) (has f.now)).moments
      ]
    ]

-- a call that only reads
pub looked : (two : Two File) (o0 o o' : Outside) (file : ℕ) (Q : List ℕ → Type 0) (f : File) → ReachedFile two o0 o file Q f → DiskCall o o' → o'.files ≡ o.files
    → ((c : List ℕ) → IsFileImage f c → Q c) → ReachedFile two o0 o' file Q f
looked two o0 o o' file Q f run call same as_before = reached_call two o0 o o' file Q f f run call (same ∙ run.files) as_before

told_both : {A : Type 0} (o : Option A) → is_some o ≡ true → (a : A) × (o ≡ Some a)
told_both None e = cc
told_both (Some a) e = (a, refl)

-- where the files are told at the end of a run they were at its begin, and the other way round
pub told_back : (o o' : Outside) (two' : Two File) → is_some o'.files ≡ is_some o.files → o'.files ≡ Some two' → (two : Two File) × (o.files ≡ Some two)
told_back o o' two' same told = told_both o.files (sym same ∙ ap is_some told)

pub told_on : (o o' : Outside) (two : Two File) → is_some o'.files ≡ is_some o.files → o.files ≡ Some two → (two' : Two File) × (o'.files ≡ Some two')
told_on o o' two same told = told_both o'.files (same ∙ ap is_some told)
