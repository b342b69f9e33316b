-- What a crash leaves of a file in which one write is pending.
use Rattle.std.proofs.Common.{◌≡◌, ℕ, ◌+◌, ◌<◌, ◌≤◌, false, List, [], ◌∷◌, ◌++◌, length, take, drop}
use Rattle.std.proofs.Common.{get_or, sym, ap, ◌∙◌, arith, add-one, length-take, length-drop}
use Rattle.std.proofs.Common.{take-append-drop}
use Rattle.std.proofs.lemmas.Grind.{same_number_lists}
use Rattle.std.proofs.lemmas.List.{get_or-take, get_or-drop}
use Rattle.std.proofs.lemmas.Bool.Decides.{nat_tests}
use Rattle.std.proofs.Math.Seq.{drop-cons}
use Rattle.outside.specs.Files.{IsFileImage, settled, is_written}
use Rattle.outside.specs.Disk.{after_write}

before_range : (at n k : ℕ) → k < at → is_written ((at, n) ∷ []) k ≡ false
before_range at n k below = grind (arith, nat_tests)

behind_range : (at n k : ℕ) → at + n ≤ k → is_written ((at, n) ∷ []) k ≡ false
behind_range at n k below = grind (arith, nat_tests)

-- what lies before a pending write is as it was
pub torn_front : (bytes : List ℕ) (at n : ℕ) (now c : List ℕ) → at ≤ length bytes → IsFileImage (after_write (settled bytes) at n now) c → take at c ≡ take at bytes
torn_front bytes at n now c within image =
    let low : length bytes ≤ length c = image.no_shorter in
    same_number_lists (take at c) (take at bytes)
    (omega (arith, length-take at c, length-take at bytes))
    (λ k below.
    let early : k < at = omega (arith, length-take at c) in
    let inside : k < length bytes = omega arith in
    get_or-take at c k 0 early ∙ image.kept k inside (before_range at n k early) ∙ sym (get_or-take at bytes k 0 early))

-- the length where the write did not reach past the end
pub torn_length : (bytes : List ℕ) (at n : ℕ) (now c : List ℕ) → at + n ≤ length bytes → IsFileImage (after_write (settled bytes) at n now) c → length c ≡ length bytes
torn_length bytes at n now c within image = omega (arith, image.no_shorter, image.no_longer)

-- and then what lies behind it is as it was
pub torn_behind : (bytes : List ℕ) (at n : ℕ) (now c : List ℕ) → at + n ≤ length bytes → IsFileImage (after_write (settled bytes) at n now) c → drop (at + n) c ≡ drop (at + n) bytes
torn_behind bytes at n now c within image =
    let long = torn_length bytes at n now c within image in
    same_number_lists (drop (at + n) c) (drop (at + n) bytes)
    (omega (arith, length-drop (at + n) c, length-drop (at + n) bytes, long))
    (λ k below.
    let inside : at + n + k < length bytes = omega (arith, length-drop (at + n) c, long) in
    let late : at + n ≤ at + n + k = omega arith in
    get_or-drop (at + n) c k 0 ∙ image.kept (at + n + k) inside (behind_range at n (at + n + k) late) ∙ sym (get_or-drop (at + n) bytes k 0))

-- a write of one byte within the file: all but that byte is as it was
pub torn_byte : (bytes : List ℕ) (at : ℕ) (now c : List ℕ) → at < length bytes → IsFileImage (after_write (settled bytes) at 1 now) c → c ≡ take at bytes ++ get_or c at 0 ∷ drop (at + 1) bytes
torn_byte bytes at now c within image =
    let near : at ≤ length bytes = omega arith in
    let whole : at + 1 ≤ length bytes = omega arith in
    let long = torn_length bytes at 1 now c whole image in
    let inside : at < length c = omega arith in
    sym (take-append-drop at c)
    ∙ ap (λ l. l ++ drop at c) (torn_front bytes at 1 now c near image)
    ∙ ap (λ l. take at bytes ++ l) (drop-cons c at 0 inside ∙ ap (λ l. get_or c at 0 ∷ l) (rw (← add-one at) (torn_behind bytes at 1 now c whole image)))
