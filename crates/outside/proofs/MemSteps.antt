-- The bytes of a disk in memory after one call more.
use Rattle.std.proofs.Common.{◌≡◌, ℕ, ◌≤◌, min, List, [], ◌∷◌, ◌++◌, length, take, map, refl, sym, ap, ◌∙◌, arith}
use Rattle.std.proofs.lemmas.List.{map-append}
use Rattle.outside.specs.declared.call.Call.{Call}
use Rattle.outside.specs.Files.{Two, file_of, with_file}
use Rattle.outside.specs.Disk.{overwritten}
use Rattle.outside.specs.MemDisk.{wrote, wrote_not, cut, cut_not, synced, change_of, KeptFile, changed, kept_after, bytes_of}
use Rattle.outside.proofs.MemSound.{kept_after-push}
use Rattle.outside.proofs.MemCalls.{bytes_with, bytes_file, with_same}

pub kept_step : (start : Two KeptFile) (calls mid calls' : List Call) (call : Call) (now' : Two (List ℕ)) → calls' ≡ mid ++ call ∷ [] → mid ≡ calls
    → bytes_of (changed (kept_after start (map change_of calls)) (change_of call)) ≡ now'
    → bytes_of (kept_after start (map change_of calls')) ≡ now'
kept_step start calls mid calls' call now' more same e =
    ap (λ l. bytes_of (kept_after start (map change_of l))) (more ∙ ap (λ l. l ++ call ∷ []) same)
    ∙ ap (λ l. bytes_of (kept_after start l)) (map-append change_of calls (call ∷ []))
    ∙ ap bytes_of (kept_after-push start (map change_of calls) (change_of call))
    ∙ e

with_equal : (two : Two KeptFile) (file : ℕ) (k : KeptFile) (bytes : List ℕ) → k.file.now ≡ bytes → bytes_of (with_file two file k) ≡ with_file (bytes_of two) file bytes
with_equal two file k bytes e = bytes_with two file k ∙ ap (with_file (bytes_of two) file) e

pub wrote_bytes : (two : Two KeptFile) (file at : ℕ) (bytes : List ℕ) (now now' : Two (List ℕ)) → bytes_of two ≡ now → at ≤ length (file_of now file)
    → now' ≡ with_file now file (overwritten (file_of now file) at bytes) → bytes_of (changed two (wrote file at bytes)) ≡ now'
wrote_bytes two file at bytes now now' is_now within is_new =
    let one : (file_of two file).file.now ≡ file_of now file = sym (bytes_file two file) ∙ ap (λ b. file_of b file) is_now in
    let long = ap length one in
    let place : min at (length (file_of two file).file.now) ≡ at = omega (arith, long, within) in
    with_equal two file _ (overwritten (file_of now file) at bytes) (ap (λ a. overwritten (file_of two file).file.now a bytes) place ∙ ap (λ l. overwritten l at bytes) one)
    ∙ ap (λ b. with_file b file (overwritten (file_of now file) at bytes)) is_now
    ∙ sym is_new

same_bytes : (two : Two KeptFile) (file : ℕ) (k : KeptFile) (now : Two (List ℕ)) → k.file.now ≡ (file_of two file).file.now → bytes_of two ≡ now → bytes_of (with_file two file k) ≡ now
same_bytes two file k now e is_now =
    with_equal two file k (file_of (bytes_of two) file) (e ∙ sym (bytes_file two file)) ∙ with_same (bytes_of two) file ∙ is_now

pub wrote_not_bytes : (two : Two KeptFile) (file at : ℕ) (bytes : List ℕ) (now : Two (List ℕ)) → bytes_of two ≡ now → bytes_of (changed two (wrote_not file at bytes)) ≡ now
wrote_not_bytes two file at bytes now is_now = same_bytes two file _ now refl is_now

pub cut_not_bytes : (two : Two KeptFile) (file n : ℕ) (now : Two (List ℕ)) → bytes_of two ≡ now → bytes_of (changed two (cut_not file n)) ≡ now
cut_not_bytes two file n now is_now = same_bytes two file _ now refl is_now

pub synced_bytes : (two : Two KeptFile) (file : ℕ) (now : Two (List ℕ)) → bytes_of two ≡ now → bytes_of (changed two (synced file)) ≡ now
synced_bytes two file now is_now = same_bytes two file _ now refl is_now

pub cut_bytes : (two : Two KeptFile) (file n : ℕ) (now now' : Two (List ℕ)) → bytes_of two ≡ now
    → now' ≡ with_file now file (take n (file_of now file)) → bytes_of (changed two (cut file n)) ≡ now'
cut_bytes two file n now now' is_now is_new =
    let one : (file_of two file).file.now ≡ file_of now file = sym (bytes_file two file) ∙ ap (λ b. file_of b file) is_now in
    with_equal two file _ (take n (file_of now file)) (ap (take n) one)
    ∙ ap (λ b. with_file b file (take n (file_of now file))) is_now
    ∙ sym is_new
