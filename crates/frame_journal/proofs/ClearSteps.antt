-- A file emptied, call by call.
use Rattle.std.proofs.Common.{◌≡◌, ◌⊎◌, ℕ, ◌<◌, min, Bool, true, false, List, [], ◌∷◌, length, take, drop, Option, None, Some, Result, Ok, Err, OnOk, refl, sym, ap, ◌∙◌, subst, inl, inr, arith}
use Rattle.std.specs.Prelude.{slice_index, nat_lt, not, ◌&&◌, ◌==◌}
use Rattle.outside.specs.Links.{Links, sent_of}
use Rattle.std.proofs.lemmas.Bool.{cases_eq, cases_lt, lt-leb, lt-ltb, eqb-true}
use Rattle.std.proofs.lemmas.List.{get_or-take}
use Rattle.outside.specs.declared.failed.Failed.{Failed}
use Rattle.outside.specs.Files.{Two, File, IsFileImage, NothingPending, file_of, with_file, settled}
use Rattle.outside.specs.Disk.{RelatesTold, WritesFile, CutsFile, SyncsFile, ReadsBytes, after_write, after_cut, overwritten}
use Rattle.outside.specs.Frames.{is_open}
use Rattle.outside.specs.Outside.{Outside, DiskCall}
use Rattle.outside.specs.Steps.{FileMoment, ReachedFile, PassedMoments, other_of}
use Rattle.outside.proofs.CallSteps.{moments_map, moments_then, begun, looked, wrote_ok, wrote_err, synced_ok, synced_err, cut_ok, cut_err, file_of-with_file, other_of-with_file}
use Rattle.outside.proofs.Calm.{settled_only}
use Rattle.frame_journal.specs.Create.{HasShutGate, ShutsGate, CutsToFirstByte, ClearsFile, BeforeOrShut}
use Rattle.frame_journal.proofs.Torn.{torn_byte}
use Rattle.frame_journal.proofs.CreateSteps.{not_open}

-- a file too short for a header
pub short_not_open : (bytes : List ℕ) → length bytes < 14 → is_open bytes ≡ false
short_not_open bytes short =
    ap (λ b. b && (slice_index bytes 0 == 1) && (slice_index bytes 1 == 66) && (slice_index bytes 2 == 83) && (slice_index bytes 3 == 80) && (slice_index bytes 4 == 74)) (lt-leb 14 (length bytes) short)

filled : (bytes : List ℕ) → slice_index bytes 0 ≡ 1 → 0 < length bytes
filled [] one = absurd (omega arith)
filled (x ∷ xs) one = omega arith

first_rest : (bytes : List ℕ) → 0 < length bytes → bytes ≡ slice_index bytes 0 ∷ drop 1 bytes
first_rest [] some = absurd (omega arith)
first_rest (x ∷ xs) some = refl

not_true : (b : Bool) → not b ≡ false → b ≡ true
not_true true e = refl
not_true false e = sym e

some_same : (a b : Two File) → Some a ≡ Some b → a ≡ b
some_same a b e = cc

-- what was read of the first byte: there is none, or it is an open gate
pub record Opened (bytes : List ℕ) : Type 0 where
  pub opened : (length bytes ≡ 0) ⊎ (slice_index bytes 0 ≡ 1)

same_first : (bytes buf : List ℕ) (n : ℕ) → ReadsBytes bytes 0 buf n → 0 < n → slice_index buf 0 ≡ slice_index bytes 0
same_first bytes buf n reads some = sym (get_or-take n buf 0 0 some) ∙ ap (λ l. slice_index l 0) reads.given ∙ get_or-take n bytes 0 0 some

pub open_read : (bytes buf : List ℕ) (n : ℕ) → ReadsBytes bytes 0 buf n → length buf ≡ 1 → (nat_lt 0 n && not (slice_index buf 0 == 1)) ≡ false → Opened bytes
open_read bytes buf n reads long test =
    elim (cases_lt 0 n) [
      | inl some ↦ record {
        opened = inr (sym (same_first bytes buf n reads some) ∙ eqb-true (slice_index buf 0) 1 (not_true (slice_index buf 0 == 1) (sym (ap (λ b. b && not (slice_index buf 0 == 1)) (lt-ltb 0 n some)) ∙ test)));
      }
      | inr none ↦ record { opened = inl (omega (arith, reads.count)) }
    ]

passes_settled : (bytes c : List ℕ) → IsFileImage (settled bytes) c → BeforeOrShut bytes c
passes_settled bytes c image = inl (settled_only bytes c image)

passes_zero : (bytes now c : List ℕ) → Opened bytes → IsFileImage (after_write (settled bytes) 0 1 now) c → BeforeOrShut bytes c
passes_zero bytes now c gate image =
    elim gate.opened [
      | inl empty ↦ inr (short_not_open c (omega (arith, image.no_longer, empty)))
      | inr open_gate ↦
          let inside : 0 < length bytes = filled bytes open_gate in
          let shape = torn_byte bytes 0 now c inside image in
          elim (cases_eq (slice_index c 0) 1) [
            | inl one ↦ inl (shape ∙ ap (λ g. g ∷ drop 1 bytes) (one ∙ sym open_gate) ∙ sym (first_rest bytes inside))
            | inr other ↦ inr (not_open c other)
          ]
    ]

passes_shut : (bytes c : List ℕ) → HasShutGate bytes → IsFileImage (settled bytes) c → is_open c ≡ false
passes_shut bytes c shut image = not_open c (λ one. shut.closed (sym (ap (λ (l : List ℕ). slice_index l 0) (settled_only bytes c image ∙ shut.shape)) ∙ one))

passes_cut : (bytes now c : List ℕ) → HasShutGate bytes → IsFileImage (after_cut (settled bytes) 1 now) c → is_open c ≡ false
passes_cut bytes now c shut image =
    let some : 0 < length bytes = omega (arith, ap length shut.shape) in
    let low : 0 < min (length bytes) 1 = omega arith in
    not_open c (λ one. shut.closed (sym (ap (λ (l : List ℕ). slice_index l 0) shut.shape) ∙ sym (image.kept 0 low refl) ∙ one))

zeroed : (bytes : List ℕ) → HasShutGate (overwritten bytes 0 (0 ∷ []))
zeroed bytes = record { gate = 0; rest = drop 1 bytes; closed = λ e. absurd (omega arith); shape = refl }

cut_shut : (bytes : List ℕ) → HasShutGate bytes → HasShutGate (take 1 bytes)
cut_shut bytes shut = record { gate = shut.gate; rest = []; closed = shut.closed; shape = ap (take 1) shut.shape }

-- ---- the gate shut

module _ (two : Two File) (o0 : Outside) (file : ℕ) (told : o0.files ≡ Some two) where
  abbrev bytes : List ℕ
  bytes = (file_of two file).now

  begin : NothingPending two file → ReachedFile two o0 o0 file (BeforeOrShut bytes) (settled bytes)
  begin pending =
      subst (λ (f : File). ReachedFile two o0 o0 file (BeforeOrShut bytes) f) pending
      (begun two o0 file (BeforeOrShut bytes) told (λ c image. passes_settled bytes c (subst (λ (f : File). IsFileImage f c) pending image)))

  pub gate_read : (o1 : Outside) → NothingPending two file → DiskCall o0 o1 → o1.files ≡ o0.files → ReachedFile two o0 o1 file (BeforeOrShut bytes) (settled bytes)
  gate_read o1 pending call same = looked two o0 o0 o1 file (BeforeOrShut bytes) (settled bytes) (begin pending) call same (passes_settled bytes)

  pub zero_ok : (o1 o2 : Outside) (u : Unit {0}) → Opened bytes → ReachedFile two o0 o1 file (BeforeOrShut bytes) (settled bytes) → DiskCall o1 o2 → RelatesTold (WritesFile file 0 (0 ∷ []) (Ok u)) o1.files o2.files
      → ReachedFile two o0 o2 file (BeforeOrShut bytes) (after_write (settled bytes) 0 1 (overwritten bytes 0 (0 ∷ [])))
  zero_ok o1 o2 u gate run call becomes = wrote_ok two o0 o1 o2 file (BeforeOrShut bytes) (settled bytes) 0 (0 ∷ []) u run call becomes (λ now c image. passes_zero bytes now c gate image)

  pub zero_err : (o1 o2 : Outside) (e : Failed) → Opened bytes → ReachedFile two o0 o1 file (BeforeOrShut bytes) (settled bytes) → DiskCall o1 o2 → RelatesTold (WritesFile file 0 (0 ∷ []) (Err e)) o1.files o2.files
      → PassedMoments two o0 o2 file (BeforeOrShut bytes)
  zero_err o1 o2 e gate run call becomes =
      wrote_err two o0 o1 o2 file (BeforeOrShut bytes) (settled bytes) 0 (0 ∷ []) e run call becomes (passes_settled bytes) (λ now c image. passes_zero bytes now c gate image)

  pub shut_ok : (o2 o3 : Outside) (u : Unit {0}) → ReachedFile two o0 o2 file (BeforeOrShut bytes) (after_write (settled bytes) 0 1 (overwritten bytes 0 (0 ∷ []))) → DiskCall o2 o3 → RelatesTold (SyncsFile file (Ok u)) o2.files o3.files
      → PassedMoments two o0 o3 file (BeforeOrShut bytes)
  shut_ok o2 o3 u run call becomes = (synced_ok two o0 o2 o3 file (BeforeOrShut bytes) _ u run call becomes (λ c image. inr (passes_shut (overwritten bytes 0 (0 ∷ [])) c (zeroed bytes) image))).moments

  pub shut_err : (o2 o3 : Outside) (e : Failed) → Opened bytes → ReachedFile two o0 o2 file (BeforeOrShut bytes) (after_write (settled bytes) 0 1 (overwritten bytes 0 (0 ∷ []))) → DiskCall o2 o3 → RelatesTold (SyncsFile file (Err e)) o2.files o3.files
      → PassedMoments two o0 o3 file (BeforeOrShut bytes)
  shut_err o2 o3 e gate run call becomes = synced_err two o0 o2 o3 file (BeforeOrShut bytes) _ e run call becomes (λ c image. passes_zero bytes _ c gate image)

  -- the files, whatever is pending
  pub shuts : (o1 o2 o3 : Outside) (u v : Unit {0}) → DiskCall o0 o1 → o1.files ≡ o0.files → DiskCall o1 o2 → RelatesTold (WritesFile file 0 (0 ∷ []) (Ok u)) o1.files o2.files
      → DiskCall o2 o3 → RelatesTold (SyncsFile file (Ok v)) o2.files o3.files → (two' : Two File) → o3.files ≡ Some two' → ShutsGate file two two'
  shuts o1 o2 o3 u v look same call becomes sync settles two' had =
      let Q : List ℕ → Type 0 = λ _. Unit {0} in
      let run0 = begun two o0 file Q told (λ c image. tt) in
      let run1 = looked two o0 o0 o1 file Q (file_of two file) run0 look same (λ c image. tt) in
      let run2 = wrote_ok two o0 o1 o2 file Q (file_of two file) 0 (0 ∷ []) u run1 call becomes (λ now c image. tt) in
      let run3 = synced_ok two o0 o2 o3 file Q _ v run2 sync settles (λ c image. tt) in
      let f = settled (overwritten bytes 0 (0 ∷ [])) in
      let is : with_file two file f ≡ two' = some_same (with_file two file f) two' (sym run3.files ∙ had) in
      let this : file_of two' file ≡ f = ap (λ (t : Two File). file_of t file) (sym is) ∙ file_of-with_file two file f in
      record {
        shut = subst (λ (g : File). HasShutGate g.now) (sym this) (zeroed bytes);
        still = λ _. this ∙ ap (λ (g : File). settled g.now) (sym this);
        other = ap (λ (t : Two File). other_of t file) (sym is) ∙ other_of-with_file two file f;
      }

  -- ---- the file cut

  pub whole : NothingPending two file → HasShutGate bytes → ReachedFile two o0 o0 file (λ left. is_open left ≡ false) (settled bytes)
  whole pending shut =
      let Q : List ℕ → Type 0 = λ left. is_open left ≡ false in
      subst (λ (f : File). ReachedFile two o0 o0 file Q f) pending
      (begun two o0 file Q told (λ c image. passes_shut bytes c shut (subst (λ (f : File). IsFileImage f c) pending image)))

  pub length_read : (o1 : Outside) → NothingPending two file → HasShutGate bytes → DiskCall o0 o1 → o1.files ≡ o0.files → ReachedFile two o0 o1 file (λ left. is_open left ≡ false) (settled bytes)
  length_read o1 pending shut call same = looked two o0 o0 o1 file _ (settled bytes) (whole pending shut) call same (λ c image. passes_shut bytes c shut image)

  pub cuts_ok : (o1 o2 : Outside) (u : Unit {0}) → HasShutGate bytes → ReachedFile two o0 o1 file (λ left. is_open left ≡ false) (settled bytes) → DiskCall o1 o2 → RelatesTold (CutsFile file 1 (Ok u)) o1.files o2.files
      → ReachedFile two o0 o2 file (λ left. is_open left ≡ false) (after_cut (settled bytes) 1 (take 1 bytes))
  cuts_ok o1 o2 u shut run call becomes = cut_ok two o0 o1 o2 file _ (settled bytes) 1 u run call becomes (λ now c image. passes_cut bytes now c shut image)

  pub cuts_err : (o1 o2 : Outside) (e : Failed) → HasShutGate bytes → ReachedFile two o0 o1 file (λ left. is_open left ≡ false) (settled bytes) → DiskCall o1 o2 → RelatesTold (CutsFile file 1 (Err e)) o1.files o2.files
      → PassedMoments two o0 o2 file (λ left. is_open left ≡ false)
  cuts_err o1 o2 e shut run call becomes =
      cut_err two o0 o1 o2 file _ (settled bytes) 1 e run call becomes (λ c image. passes_shut bytes c shut image) (λ now c image. passes_cut bytes now c shut image)

  pub cut_synced : (o2 o3 : Outside) (u : Unit {0}) → HasShutGate bytes → ReachedFile two o0 o2 file (λ left. is_open left ≡ false) (after_cut (settled bytes) 1 (take 1 bytes)) → DiskCall o2 o3 → RelatesTold (SyncsFile file (Ok u)) o2.files o3.files
      → PassedMoments two o0 o3 file (λ left. is_open left ≡ false)
  cut_synced o2 o3 u shut run call becomes = (synced_ok two o0 o2 o3 file _ _ u run call becomes (λ c image. passes_shut (take 1 bytes) c (cut_shut bytes shut) image)).moments

  pub cut_unsynced : (o2 o3 : Outside) (e : Failed) → HasShutGate bytes → ReachedFile two o0 o2 file (λ left. is_open left ≡ false) (after_cut (settled bytes) 1 (take 1 bytes)) → DiskCall o2 o3 → RelatesTold (SyncsFile file (Err e)) o2.files o3.files
      → PassedMoments two o0 o3 file (λ left. is_open left ≡ false)
  cut_unsynced o2 o3 e shut run call becomes = synced_err two o0 o2 o3 file _ _ e run call becomes (λ c image. passes_cut bytes _ c shut image)

  pub shortens : (o1 o2 o3 : Outside) (u v : Unit {0}) → DiskCall o0 o1 → o1.files ≡ o0.files → DiskCall o1 o2 → RelatesTold (CutsFile file 1 (Ok u)) o1.files o2.files
      → DiskCall o2 o3 → RelatesTold (SyncsFile file (Ok v)) o2.files o3.files → (two' : Two File) → o3.files ≡ Some two' → CutsToFirstByte file two two'
  shortens o1 o2 o3 u v look same call becomes sync settles two' had =
      let Q : List ℕ → Type 0 = λ _. Unit {0} in
      let run0 = begun two o0 file Q told (λ c image. tt) in
      let run1 = looked two o0 o0 o1 file Q (file_of two file) run0 look same (λ c image. tt) in
      let run2 = cut_ok two o0 o1 o2 file Q (file_of two file) 1 u run1 call becomes (λ now c image. tt) in
      let run3 = synced_ok two o0 o2 o3 file Q _ v run2 sync settles (λ c image. tt) in
      let f = settled (take 1 bytes) in
      let is : with_file two file f ≡ two' = some_same (with_file two file f) two' (sym run3.files ∙ had) in
      let this : file_of two' file ≡ f = ap (λ (t : Two File). file_of t file) (sym is) ∙ file_of-with_file two file f in
      record {
        reads = ap (λ (g : File). g.now) this;
        still = λ _. this ∙ ap (λ (g : File). settled g.now) (sym this);
        other = ap (λ (t : Two File). other_of t file) (sym is) ∙ other_of-with_file two file f;
      }

-- ---- both

pub clears : (file : ℕ) (two two1 two2 : Two File) → ShutsGate file two two1 → CutsToFirstByte file two1 two2 → ClearsFile file two two2
clears file two two1 two2 first second =
    let reads : (file_of two2 file).now ≡ first.shut.gate ∷ [] = second.reads ∙ ap (take 1) first.shut.shape in
    record {
      gate = first.shut.gate;
      closed = first.shut.closed;
      reads = reads;
      cleared = λ pending. record { gate = first.shut.gate; closed = first.shut.closed; bytes = second.still (first.still pending) ∙ ap settled reads };
      other = second.other ∙ first.other;
    }

-- one run after another, the second in words of the files between them
pub passed_then : (two two1 : Two File) (o0 o1 o2 : Outside) (file : ℕ) (Q Q' : List ℕ → Type 0) → PassedMoments two o0 o1 file Q → o1.links ≡ o0.links → other_of two1 file ≡ other_of two file
    → ((c : List ℕ) → Q' c → Q c) → PassedMoments two1 o1 o2 file Q' → PassedMoments two o0 o2 file Q
passed_then two two1 o0 o1 o2 file Q Q' first links other weaker second =
    moments_then o0 o1 o2 (FileMoment Q two (sent_of o0.links.told) file) first
    (moments_map o1 o2 (FileMoment Q' two1 (sent_of o1.links.told) file) (FileMoment Q two (sent_of o0.links.told) file)
    (λ m p. record {
      this = weaker (file_of m.files file) p.this;
      other = subst (λ (f : File). IsFileImage f (other_of m.files file)) other p.other;
      nothing_sent = p.nothing_sent ∙ ap (λ (l : Links). sent_of l.told) links;
    })
    second)

pub on_ok_map : {T E : Type 0} (r : Result T E) (P Q : Type 0) → (P → Q) → OnOk r P → OnOk r Q
on_ok_map (Ok _) P Q f p = f p
on_ok_map (Err _) P Q f p = p

pub becomes_new : {A : Type 0} (step : A → A → Type 0) (old new : Option A) (b : A) → new ≡ Some b → RelatesTold step old new → (a : A) × (old ≡ Some a) × step a b
becomes_new step None None b had p = cc
becomes_new step None (Some y) b had p = absurd p
becomes_new step (Some x) None b had p = cc
becomes_new step (Some x) (Some y) b had p = let same : y ≡ b = cc in (x, refl, subst (λ z. step x z) same p)

pub becomes_then : {A : Type 0} (s1 s2 s : A → A → Type 0) (a b c : Option A) → ((x y z : A) → s1 x y → s2 y z → s x z) → RelatesTold s1 a b → RelatesTold s2 b c → RelatesTold s a c
becomes_then s1 s2 s None None None f p q = tt
becomes_then s1 s2 s None None (Some z) f p q = absurd q
becomes_then s1 s2 s None (Some y) c f p q = absurd p
becomes_then s1 s2 s (Some x) None c f p q = absurd p
becomes_then s1 s2 s (Some x) (Some y) None f p q = absurd q
becomes_then s1 s2 s (Some x) (Some y) (Some z) f p q = f x y z p q
