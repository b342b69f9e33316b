-- A file whose header no crash opens, call by call.
use Rattle.std.proofs.Common.{◌≡◌, ℕ, zero, suc, ◌+◌, ◌<◌, ◌≤◌, min, Bool, true, false, List}
use Rattle.std.proofs.Common.{[], ◌∷◌, ◌++◌, length, take, drop, Option, None, Some, Result, Ok, Err}
use Rattle.std.proofs.Common.{refl, sym, ap, ◌∙◌, subst, inl, inr, arith}
use Rattle.std.specs.Prelude.{slice_index, ◌||◌}
use Rattle.std.proofs.lemmas.Bool.Decides.{nat_tests}
use Rattle.outside.specs.declared.failed.Failed.{Failed}
use Rattle.outside.specs.Files.{Two, File, IsFileImage, file_of, is_written}
use Rattle.outside.specs.Files.{is_within, settled, with_file}
use Rattle.outside.specs.Disk.{CutsFile, RelatesTold, SyncsFile, WritesFile, after_cut}
use Rattle.outside.specs.Disk.{after_write, overwritten}
use Rattle.outside.specs.Frames.{is_open}
use Rattle.outside.specs.Outside.{DiskCall, Outside}
use Rattle.outside.specs.Steps.{PassedMoments, ReachedFile, other_of}
use Rattle.outside.proofs.CallSteps.{becomes_map, becomes_none, becomes_then, begun, cut_err, cut_ok}
use Rattle.outside.proofs.CallSteps.{file_of-with_file, other_of-with_file, synced_err, synced_ok}
use Rattle.frame_journal.specs.Create.{HasShutGate, IsClearedAgain, IsCutBack, LeavesClosed}
use Rattle.frame_journal.specs.Create.{StaysClosed}
use Rattle.frame_journal.proofs.ClearSteps.{passed_then}
use Rattle.frame_journal.proofs.CreateSteps.{not_open}

-- no crash opens it
pub closed_image : (f : File) (c : List ℕ) → StaysClosed f → IsFileImage f c → is_open c ≡ false
closed_image f c stays image =
    let low : 0 < f.least = omega (arith, stays.uncut) in
    not_open c (λ one. stays.synced (sym (image.kept 0 low stays.unwritten) ∙ one))

-- a file in which nothing is pending
pub closed_settled : (bytes : List ℕ) → HasShutGate bytes → StaysClosed (settled bytes)
closed_settled bytes shut = record {
  reads = shut;
  synced = λ one. shut.closed (sym (ap (λ (l : List ℕ). slice_index l 0) shut.shape) ∙ one);
  unwritten = refl;
  uncut = omega (arith, ap length shut.shape);
}

-- bytes of which the first is as it was
same_front : (old new : List ℕ) (at : ℕ) → 1 ≤ at → take at new ≡ take at old → HasShutGate old
    → HasShutGate new
same_front old [] (suc at) some same shut =
    let none : [] ≡ take (suc at) old = same in
    let clash : [] ≡ shut.gate ∷ take at shut.rest = none ∙ ap (take (suc at)) shut.shape in
    cc
same_front old (x ∷ xs) (suc at) some same shut =
    let both : x ∷ take at xs ≡ shut.gate ∷ take at shut.rest = same
    ∙ ap (take (suc at)) shut.shape in
    let one : x ≡ shut.gate = ap (λ (l : List ℕ). slice_index l 0) both in
    record { gate = x; rest = xs; closed = λ is. shut.closed (sym one ∙ is); shape = refl }
same_front old new zero some same shut = absurd (omega (arith, some))

or_more : (a b c : Bool) → (a || b) ≡ false → (b ≡ false → c ≡ false) → (a || c) ≡ false
or_more true b c is more = is
or_more false b c is more = more is

any_more : (ranges : List (ℕ × ℕ)) (at n : ℕ) → 1 ≤ at → is_written ranges 0 ≡ false
    → is_written (ranges ++ (at, n) ∷ []) 0 ≡ false
any_more [] at n some none = grind (arith, nat_tests)
any_more (r ∷ ranges) at n some none =
    or_more (is_within r 0) (is_written ranges 0) (is_written (ranges ++ (at, n) ∷ []) 0) none
    (any_more ranges at n some)

closed_write : (f : File) (at n : ℕ) (now : List ℕ) → 1 ≤ at → take at now ≡ take at f.now
    → StaysClosed f → StaysClosed (after_write f at n now)
closed_write f at n now some same stays = record {
  reads = same_front f.now now at some same stays.reads;
  synced = stays.synced;
  unwritten = any_more f.written at n some stays.unwritten;
  uncut = stays.uncut;
}

closed_cut : (f : File) (now : List ℕ) → HasShutGate now → StaysClosed f
    → StaysClosed (after_cut f 1 now)
closed_cut f now shut stays = record {
  reads = shut;
  synced = stays.synced;
  unwritten = stays.unwritten;
  uncut = omega (arith, stays.uncut);
}

-- ---- one call

-- the file alone changed
with_closed : (file : ℕ) (two two' : Two File) (f : File) → two' ≡ with_file two file f
    → (StaysClosed (file_of two file) → StaysClosed f) → LeavesClosed file two two'
with_closed file two two' f is still =
    let this : file_of two' file ≡ f = ap (λ (t : Two File). file_of t file) is
    ∙ file_of-with_file two file f in
    record {
      closed = λ before. subst StaysClosed (sym this) (still before);
      other = ap (λ (t : Two File). other_of t file) is ∙ other_of-with_file two file f;
    }

pub leaves_same : (file : ℕ) (two two' : Two File) → two' ≡ two → LeavesClosed file two two'
leaves_same file two two' is = record {
  closed = λ before. subst (λ (t : Two File). StaysClosed (file_of t file)) (sym is) before;
  other = ap (λ (t : Two File). other_of t file) is;
}

front_over : (bytes more rest : List ℕ) (at : ℕ) → HasShutGate bytes → 1 ≤ at
    → HasShutGate (take at bytes ++ more ++ rest)
front_over bytes more rest zero shut some = absurd (omega (arith, some))
front_over bytes more rest (suc at) shut some = record {
  gate = shut.gate;
  rest = take at shut.rest ++ more ++ rest;
  closed = shut.closed;
  shape = ap (λ (l : List ℕ). take (suc at) l ++ more ++ rest) shut.shape;
}

cut_front : (bytes : List ℕ) → HasShutGate bytes → HasShutGate (take 1 bytes)
cut_front bytes shut = record {
  gate = shut.gate;
  rest = [];
  closed = shut.closed;
  shape = ap (take 1) shut.shape;
}

-- a write behind the first byte, whatever it answered
pub leaves_write : (file at : ℕ) (bytes : List ℕ) (result : Result (Unit {0}) Failed)
    (two two' : Two File) → 1 ≤ at → WritesFile file at bytes result two two'
    → LeavesClosed file two two'
leaves_write file at bytes (Ok u) two two' some written =
    let f = file_of two file in
    with_closed file two two' (after_write f at (length bytes) (overwritten f.now at bytes)) written
    (λ before. record {
      reads = front_over f.now bytes (drop (at + length bytes) f.now) at before.reads some;
      synced = before.synced;
      unwritten = any_more f.written at (length bytes) some before.unwritten;
      uncut = before.uncut;
    })
leaves_write file at bytes (Err e) two two' some written =
    let f = file_of two file in
    elim written [
      | inl same ↦ leaves_same file two two' same
      | inr torn ↦ with_closed file two two' (after_write f at (length bytes) torn.0) torn.2
          (closed_write f at (length bytes) torn.0 some torn.1.before)
    ]

-- a cut to the first byte, whatever it answered
pub leaves_cut : (file : ℕ) (result : Result (Unit {0}) Failed) (two two' : Two File)
    → CutsFile file 1 result two two' → LeavesClosed file two two'
leaves_cut file (Ok u) two two' cut =
    let f = file_of two file in
    with_closed file two two' (after_cut f 1 (take 1 f.now)) cut
    (λ before. closed_cut f (take 1 f.now) (cut_front f.now before.reads) before)
leaves_cut file (Err e) two two' cut =
    let f = file_of two file in
    elim cut [
      | inl same ↦ leaves_same file two two' same
      | inr either ↦ elim either [
        | inl made ↦ with_closed file two two' (after_cut f 1 (take 1 f.now)) made
            (λ before. closed_cut f (take 1 f.now) (cut_front f.now before.reads) before)
        | inr unmade ↦ with_closed file two two' (after_cut f 1 f.now) unmade
            (λ before. closed_cut f f.now before.reads before)
      ]
    ]

-- a sync
pub leaves_sync : (file : ℕ) (result : Result (Unit {0}) Failed) (two two' : Two File)
    → SyncsFile file result two two' → LeavesClosed file two two'
leaves_sync file (Ok u) two two' synced =
    with_closed file two two' (settled (file_of two file).now) synced
    (λ before. closed_settled (file_of two file).now before.reads)
leaves_sync file (Err e) two two' synced = leaves_same file two two' synced

-- ---- calls, one behind the other

pub leaves_none : (file : ℕ) (o : Option (Two File)) → RelatesTold (LeavesClosed file) o o
leaves_none file o = becomes_none (LeavesClosed file) o (λ t. leaves_same file t t refl)

pub leaves_then : (file : ℕ) (o0 o1 o2 : Option (Two File)) → RelatesTold (LeavesClosed file) o0 o1
    → RelatesTold (LeavesClosed file) o1 o2 → RelatesTold (LeavesClosed file) o0 o2
leaves_then file o0 o1 o2 first second =
    becomes_then (LeavesClosed file) (LeavesClosed file) (LeavesClosed file) o0 o1 o2
    (λ a b c x y. record {
      closed = λ before. y.closed (x.closed before);
      other = y.other ∙ x.other;
    }) first second

-- calls that only read
pub leaves_looks : (file : ℕ) (o o' : Option (Two File)) → o' ≡ o
    → RelatesTold (LeavesClosed file) o o'
leaves_looks file o o' same =
    subst (RelatesTold (LeavesClosed file) o) (sym same) (leaves_none file o)

pub leaves_wrote : (file at : ℕ) (bytes : List ℕ) (result : Result (Unit {0}) Failed)
    (o o' : Option (Two File)) → 1 ≤ at → RelatesTold (WritesFile file at bytes result) o o'
    → RelatesTold (LeavesClosed file) o o'
leaves_wrote file at bytes result o o' some =
    becomes_map (WritesFile file at bytes result) (LeavesClosed file) o o'
    (λ a b w. leaves_write file at bytes result a b some w)

pub leaves_cuts : (file : ℕ) (result : Result (Unit {0}) Failed) (o o' : Option (Two File))
    → RelatesTold (CutsFile file 1 result) o o' → RelatesTold (LeavesClosed file) o o'
leaves_cuts file result o o' =
    becomes_map (CutsFile file 1 result) (LeavesClosed file) o o' (leaves_cut file result)

pub leaves_syncs : (file : ℕ) (result : Result (Unit {0}) Failed) (o o' : Option (Two File))
    → RelatesTold (SyncsFile file result) o o' → RelatesTold (LeavesClosed file) o o'
leaves_syncs file result o o' =
    becomes_map (SyncsFile file result) (LeavesClosed file) o o' (leaves_sync file result)

-- a write and a sync
pub leaves_both : (file at : ℕ) (bytes : List ℕ) (r1 r2 : Result (Unit {0}) Failed)
    (o0 o1 o2 : Option (Two File)) → 1 ≤ at → RelatesTold (WritesFile file at bytes r1) o0 o1
    → RelatesTold (SyncsFile file r2) o1 o2 → RelatesTold (LeavesClosed file) o0 o2
leaves_both file at bytes r1 r2 o0 o1 o2 some written synced =
    leaves_then file o0 o1 o2 (leaves_wrote file at bytes r1 o0 o1 some written)
    (leaves_syncs file r2 o1 o2 synced)

-- ---- a file cut back

module _ (two : Two File) (o0 o1 : Outside) (file : ℕ) (told : o0.files ≡ Some two)
    (stays : StaysClosed (file_of two file)) (call : DiskCall o0 o1) where
  abbrev Q : List ℕ → Type 0
  Q = λ left. is_open left ≡ false

  start : ReachedFile two o0 o0 file Q (file_of two file)
  start = begun two o0 file Q told (λ c image. closed_image (file_of two file) c stays image)

  shut : (now c : List ℕ) → IsFileImage (after_cut (file_of two file) 1 now) c → is_open c ≡ false
  shut now c image =
      let low : 0 < min (file_of two file).least 1 = omega (arith, stays.uncut) in
      not_open c (λ one. stays.synced (sym (image.kept 0 low stays.unwritten) ∙ one))

  pub back_ok : (u : Unit {0}) → RelatesTold (CutsFile file 1 (Ok u)) o0.files o1.files
      → ReachedFile two o0 o1 file Q
      (after_cut (file_of two file) 1 (take 1 (file_of two file).now))
  back_ok u becomes =
      cut_ok two o0 o0 o1 file Q (file_of two file) 1 u start call becomes shut

  pub back_err : (e : Failed) → RelatesTold (CutsFile file 1 (Err e)) o0.files o1.files
      → PassedMoments two o0 o1 file Q
  back_err e becomes =
      cut_err two o0 o0 o1 file Q (file_of two file) 1 e start call becomes
      (λ c image. closed_image (file_of two file) c stays image) shut

-- what the cut leaves
cut_back_so : (file : ℕ) (u : Unit {0}) (two two' : Two File) → CutsFile file 1 (Ok u) two two'
    → IsCutBack file two two'
cut_back_so file u two two' cut =
    let f = file_of two file in
    let g = after_cut f 1 (take 1 f.now) in
    record {
      reads = ap (λ (t : Two File). (file_of t file).now) cut
          ∙ ap (λ (h : File). h.now) (file_of-with_file two file g);
      other = ap (λ (t : Two File). other_of t file) cut ∙ other_of-with_file two file g;
    }

pub cuts_back : (file : ℕ) (u : Unit {0}) (o o' : Option (Two File))
    → RelatesTold (CutsFile file 1 (Ok u)) o o' → RelatesTold (IsCutBack file) o o'
cuts_back file u o o' =
    becomes_map (CutsFile file 1 (Ok u)) (IsCutBack file) o o' (cut_back_so file u)

-- and what a sync leaves behind it
clear_so : (file : ℕ) (u : Unit {0}) (two two1 two2 : Two File) → StaysClosed (file_of two file)
    → IsCutBack file two two1 → SyncsFile file (Ok u) two1 two2 → IsClearedAgain file two two2
clear_so file u two two1 two2 stays cut synced =
    let bytes : (file_of two1 file).now ≡ stays.reads.gate ∷ [] = cut.reads
    ∙ ap (take 1) stays.reads.shape in
    let g = settled (file_of two1 file).now in
    record {
      cleared = record {
        gate = stays.reads.gate;
        closed = stays.reads.closed;
        bytes = ap (λ (t : Two File). file_of t file) synced ∙ file_of-with_file two1 file g
            ∙ ap settled bytes;
      };
      other = ap (λ (t : Two File). other_of t file) synced ∙ other_of-with_file two1 file g
          ∙ cut.other;
    }

pub clears_again : (file : ℕ) (u : Unit {0}) (o0 o1 o2 : Option (Two File))
    → ((two : Two File) → o0 ≡ Some two → StaysClosed (file_of two file))
    → RelatesTold (IsCutBack file) o0 o1 → RelatesTold (SyncsFile file (Ok u)) o1 o2
    → RelatesTold (IsClearedAgain file) o0 o2
clears_again file u None None None stays cut synced = tt
clears_again file u None None (Some z) stays cut synced = absurd synced
clears_again file u None (Some y) o2 stays cut synced = absurd cut
clears_again file u (Some x) None o2 stays cut synced = absurd cut
clears_again file u (Some x) (Some y) None stays cut synced = absurd synced
clears_again file u (Some x) (Some y) (Some z) stays cut synced =
    clear_so file u x y z (stays x refl) cut synced

-- the sync's moments
pub back_synced : (two two1 : Two File) (o0 o1 o2 : Outside) (file : ℕ)
    (r : Result (Unit {0}) Failed) → o1.files ≡ Some two1 → o1.links ≡ o0.links
    → other_of two1 file ≡ other_of two file → StaysClosed (file_of two1 file) → DiskCall o1 o2
    → RelatesTold (SyncsFile file r) o1.files o2.files
    → PassedMoments two o0 o1 file (λ left. is_open left ≡ false)
    → PassedMoments two o0 o2 file (λ left. is_open left ≡ false)
back_synced two two1 o0 o1 o2 file (Ok u) told1 links other stays call synced first =
    let Q : List ℕ → Type 0 = λ left. is_open left ≡ false in
    let run = begun two1 o1 file Q told1 (λ c image. closed_image (file_of two1 file) c stays image) in
    let next = synced_ok two1 o1 o1 o2 file Q (file_of two1 file) u run call synced
    (λ c image. closed_image (settled (file_of two1 file).now) c
    (closed_settled (file_of two1 file).now stays.reads) image) in
    passed_then two two1 o0 o1 o2 file Q Q first links other (λ c closed. closed) next.moments
back_synced two two1 o0 o1 o2 file (Err e) told1 links other stays call synced first =
    let Q : List ℕ → Type 0 = λ left. is_open left ≡ false in
    let run = begun two1 o1 file Q told1 (λ c image. closed_image (file_of two1 file) c stays image) in
    passed_then two two1 o0 o1 o2 file Q Q first links other (λ c closed. closed)
    (synced_err two1 o1 o1 o2 file Q (file_of two1 file) e run call synced
    (λ c image. closed_image (file_of two1 file) c stays image))

-- a length read, a cut and a sync
pub leaves_shortened : (file : ℕ) (r1 r2 : Result (Unit {0}) Failed)
    (o0 o1 o2 o3 : Option (Two File)) → o1 ≡ o0 → RelatesTold (CutsFile file 1 r1) o1 o2
    → RelatesTold (SyncsFile file r2) o2 o3 → RelatesTold (LeavesClosed file) o0 o3
leaves_shortened file r1 r2 o0 o1 o2 o3 same cut synced =
    leaves_then file o0 o1 o3 (leaves_looks file o0 o1 same)
    (leaves_then file o1 o2 o3 (leaves_cuts file r1 o1 o2 cut) (leaves_syncs file r2 o2 o3 synced))
