-- The images that a disk in memory gives are images.
use Rattle.std.proofs.Common.{◌≡◌, ℕ, zero, suc, ◌<◌, Bool, true, false, not, ◌&&◌, List, [], ◌∷◌, map, Result, Ok, Err, IfOk, refl, sym, ap, ◌∙◌, subst, arith}
use Rattle.std.specs.Prelude.{if◌then◌else◌, nat_lt, slice_index}
use Rattle.std.proofs.lemmas.Bool.{lt-ltb}
use Rattle.outside.specs.declared.pick.Pick.{Pick}
use Rattle.outside.specs.declared.call.Call.{Call}
use Rattle.outside.specs.declared.pick.Pick.TheVariants as pick
use Rattle.outside.specs.Files.{Two, File, IsFileImage, IsImage, is_written}
use Rattle.outside.proofs.Images.{image_synced}
use Rattle.outside.specs.MemDisk.{Change, wrote, wrote_not, cut, cut_not, synced, dialled, sent}
use Rattle.outside.specs.MemDisk.{answered, hosted, KeptFile, kept, changed, kept_after, both_kept}
use Rattle.outside.specs.MemDisk.{files_of, disk_files, MemDiskValue, change_of, fresh_disk}
use Rattle.outside.proofs.MemSound.{IsSound, start_sound}
use Rattle.outside.specs.MemImage.{one_changed, one_after, PickOf, IsFilled, left_at, PicturesDisk}

chosen : {A : Type 0} (a b : Bool) (x y : A) → a ≡ true → b ≡ false → (if a && not b then x else y) ≡ x
chosen true false x y p q = refl
chosen true true x y p q = cc
chosen false b x y p q = cc

left_synced : (byte : ℕ) (file : File) (place : ℕ) → place < file.least → is_written file.written place ≡ false → left_at byte file place ≡ slice_index file.synced place
left_synced byte file place below out = chosen (nat_lt place file.least) (is_written file.written place) (slice_index file.synced place) byte (lt-ltb place file.least below) out

filled_image : (byte : ℕ) (k : KeptFile) (bytes : List ℕ) → IsSound k → IsFilled byte k.file bytes → IsFileImage k.file bytes
filled_image byte k bytes s f = record {
  no_shorter = omega (arith, s.low, s.high, f.longest);
  no_longer = omega (arith, f.longest);
  kept = λ place below out.
      let inside : place < k.file.greatest = omega (arith, s.low, s.high, below) in
      f.each place inside ∙ left_synced byte k.file place below out;
}

pub pick_image : (choice : Pick) (k : KeptFile) (bytes : List ℕ) → IsSound k → PickOf choice k bytes → IsFileImage k.file bytes
pick_image pick.Old k bytes s e = subst (IsFileImage k.file) (sym e) (image_synced k.file s.low s.high)
pick_image pick.New k bytes s e = subst (IsFileImage k.file) (sym e) s.whole
pick_image pick.Zero k bytes s e = filled_image 0 k bytes s e
pick_image pick.Ones k bytes s e = filled_image 1 k bytes s e

-- ---- one file of both

pub first_changed : (two : Two KeptFile) (c : Change) → (changed two c).first ≡ one_changed 0 two.first c
first_changed two (wrote zero at bytes) = refl
first_changed two (wrote (suc _) at bytes) = refl
first_changed two (wrote_not zero at bytes) = refl
first_changed two (wrote_not (suc _) at bytes) = refl
first_changed two (cut zero n) = refl
first_changed two (cut (suc _) n) = refl
first_changed two (cut_not zero n) = refl
first_changed two (cut_not (suc _) n) = refl
first_changed two (synced zero) = refl
first_changed two (synced (suc _)) = refl
first_changed two (dialled _) = refl
first_changed two (sent _ _) = refl
first_changed two (answered _ _) = refl
first_changed two hosted = refl

pub second_changed : (two : Two KeptFile) (c : Change) → (changed two c).second ≡ one_changed 1 two.second c
second_changed two (wrote zero at bytes) = refl
second_changed two (wrote (suc _) at bytes) = refl
second_changed two (wrote_not zero at bytes) = refl
second_changed two (wrote_not (suc _) at bytes) = refl
second_changed two (cut zero n) = refl
second_changed two (cut (suc _) n) = refl
second_changed two (cut_not zero n) = refl
second_changed two (cut_not (suc _) n) = refl
second_changed two (synced zero) = refl
second_changed two (synced (suc _)) = refl
second_changed two (dialled _) = refl
second_changed two (sent _ _) = refl
second_changed two (answered _ _) = refl
second_changed two hosted = refl

pub first_after : (two : Two KeptFile) (calls : List Change) → (kept_after two calls).first ≡ one_after 0 two.first calls
first_after two [] = refl
first_after two (c ∷ calls) = first_after (changed two c) calls ∙ ap (λ k. one_after 0 k calls) (first_changed two c)

pub second_after : (two : Two KeptFile) (calls : List Change) → (kept_after two calls).second ≡ one_after 1 two.second calls
second_after two [] = refl
second_after two (c ∷ calls) = second_after (changed two c) calls ∙ ap (λ k. one_after 1 k calls) (second_changed two c)

-- both files, picked one by one
pub both_picked : (choice : Pick) (disk : MemDiskValue) (a b : List ℕ) → PickOf choice (one_after 0 (kept disk.start.first) disk.calls) a → PickOf choice (one_after 1 (kept disk.start.second) disk.calls) b
    → (PickOf choice (disk_files disk).first a) × (PickOf choice (disk_files disk).second b)
both_picked choice disk a b p q = (
  subst (λ k. PickOf choice k a) (sym (first_after (both_kept disk.start) disk.calls)) p,
  subst (λ k. PickOf choice k b) (sym (second_after (both_kept disk.start) disk.calls)) q,
)

pub both_image : (choice : Pick) (disk : MemDiskValue) (a b : List ℕ) → PickOf choice (disk_files disk).first a → PickOf choice (disk_files disk).second b
    → IsImage (files_of (disk_files disk)) (record { first = a; second = b })
both_image choice disk a b p q =
    let sound = start_sound disk.start disk.calls in
    record { first = pick_image choice (disk_files disk).first a sound.first p; second = pick_image choice (disk_files disk).second b sound.second q }

pub derefed : (choice : Pick) (file : ℕ) (s s' : List ℕ) (l l' : List Call) (a : List ℕ) → s' ≡ s → l' ≡ l → PickOf choice (one_after file (kept s') (map change_of l')) a → PickOf choice (one_after file (kept s) (map change_of l)) a
derefed choice file s s' l l' a e f p =
    subst (λ (t : List ℕ). PickOf choice (one_after file (kept t) (map change_of l)) a) e (subst (λ (t : List Call). PickOf choice (one_after file (kept s') (map change_of t)) a) f p)

pub pictured : {E : Type 0} (choice : Pick) (v disk : MemDiskValue) (a b : List ℕ) (r : Result MemDiskValue E) → v ≡ disk
    → PickOf choice (one_after 0 (kept v.start.first) v.calls) a → PickOf choice (one_after 1 (kept v.start.second) v.calls) b
    → IfOk r (λ d. d ≡ fresh_disk (record { first = a; second = b }))
    → IfOk r (λ d. PicturesDisk choice (disk_files disk) d) × IfOk r (λ d. IsImage (files_of (disk_files disk)) d.start)
pictured choice v disk a b (Ok d) same p q e =
    let picked = both_picked choice v a b p q in
    let image = both_image choice v a b picked.0 picked.1 in
    let start : d.start ≡ record { first = a; second = b } = ap (λ (x : MemDiskValue). x.start) e in
    let fresh_is : d ≡ fresh_disk d.start = e ∙ ap fresh_disk (sym start) in
    let P : List ℕ → Type 0 = PickOf choice (disk_files disk).first in
    let Q : List ℕ → Type 0 = PickOf choice (disk_files disk).second in
    let first = subst (λ (x : MemDiskValue). PickOf choice (disk_files x).first a) same picked.0 in
    let second = subst (λ (x : MemDiskValue). PickOf choice (disk_files x).second b) same picked.1 in (
      record {
        fresh = fresh_is;
        first = subst P (sym (ap (λ (t : Two (List ℕ)). t.first) start)) first;
        second = subst Q (sym (ap (λ (t : Two (List ℕ)). t.second) start)) second;
      },
      subst (λ (t : Two (List ℕ)). IsImage (files_of (disk_files disk)) t) (sym start) (subst (λ (x : MemDiskValue). IsImage (files_of (disk_files x)) (record { first = a; second = b })) same image),
    )
pictured choice v disk a b (Err _) same p q e = (tt, tt)
