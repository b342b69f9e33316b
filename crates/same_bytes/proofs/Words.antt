-- Two names of 32 bytes are the same exactly where their words of eight bytes are.
use Rattle.std.proofs.Common.{◌≡◌, ℕ, true, false, nat_eq, List, [], ◌++◌, ◌+◌, ◌<◌, ◌≤◌, length, take, drop, get_or, refl, sym, ap, ◌∙◌, arith, length-take, length-drop, inl, inr}
use Rattle.std.specs.Cmp.Lexicographic.{pointwise, bytes_decides}
use Rattle.std.specs.Int.{w64, from_le_bytes, to_le_bytes}
use Rattle.std.proofs.lemmas.Nat.{le_bytes_8}
use Rattle.std.proofs.lemmas.Bool.{cases_lt, false_from_ne_true}
use Rattle.std.proofs.lemmas.Bool.Decides.{eqb_tells}
use Rattle.std.proofs.lemmas.List.{take-append-drop, drop-drop, drop_all, get_or-take, get_or-drop, get_or_past}

-- bytes, as a list
abbrev pub AreBytes : List ℕ → Type 0
AreBytes xs = (i : ℕ) → get_or xs i 0 < 256

abbrev pub word : List ℕ → ℕ → ℕ
word xs at = from_le_bytes w64 (take 8 (drop at xs))

eight : (xs ys : List ℕ) → length xs ≡ 8 → length ys ≡ 8 → AreBytes xs → AreBytes ys → from_le_bytes w64 xs ≡ from_le_bytes w64 ys → xs ≡ ys
eight xs ys lx ly fx fy e = sym (le_bytes_8 xs (from_le_bytes w64 xs) lx fx refl) ∙ ap (to_le_bytes w64) e ∙ le_bytes_8 ys (from_le_bytes w64 ys) ly fy refl

eight_long : (xs : List ℕ) (at : ℕ) → length xs ≡ 32 → at ≤ 24 → length (take 8 (drop at xs)) ≡ 8
eight_long xs at l h = omega (arith, l, h, length-take 8 (drop at xs), length-drop at xs)

eight_bytes : (xs : List ℕ) (at : ℕ) → length xs ≡ 32 → at ≤ 24 → AreBytes xs → AreBytes (take 8 (drop at xs))
eight_bytes xs at l h fits i =
    elim (cases_lt i 8) [
      | inl low ↦
          let e : get_or (take 8 (drop at xs)) i 0 ≡ get_or xs (at + i) 0 = get_or-take 8 (drop at xs) i 0 low ∙ get_or-drop at xs i 0 in
          omega (arith, e, fits (at + i))
      | inr high ↦
          let e : get_or (take 8 (drop at xs)) i 0 ≡ 0 = get_or_past (take 8 (drop at xs)) i 0 (omega (arith, high, eight_long xs at l h)) in
          omega (arith, e)
    ]

-- what is left is the same, where a word and what is left behind it are
rest : (xs ys : List ℕ) (at : ℕ) → length xs ≡ 32 → length ys ≡ 32 → at ≤ 24 → AreBytes xs → AreBytes ys → word xs at ≡ word ys at → drop (at + 8) xs ≡ drop (at + 8) ys → drop at xs ≡ drop at ys
rest xs ys at lx ly h fx fy e behind =
    let same = eight (take 8 (drop at xs)) (take 8 (drop at ys)) (eight_long xs at lx h) (eight_long ys at ly h) (eight_bytes xs at lx h fx) (eight_bytes ys at ly h fy) e in
    let left : drop 8 (drop at xs) ≡ drop 8 (drop at ys) = drop-drop 8 at xs ∙ behind ∙ sym (drop-drop 8 at ys) in
    sym (take-append-drop 8 (drop at xs)) ∙ (λ i. same i ++ left i) ∙ take-append-drop 8 (drop at ys)

pub same_words : (xs ys : List ℕ) → length xs ≡ 32 → length ys ≡ 32 → AreBytes xs → AreBytes ys → word xs 0 ≡ word ys 0 → word xs 8 ≡ word ys 8 → word xs 16 ≡ word ys 16 → word xs 24 ≡ word ys 24 → pointwise nat_eq xs ys ≡ true
same_words xs ys lx ly fx fy a b c d =
    let none : drop 32 xs ≡ drop 32 ys = drop_all 32 xs (omega (arith, lx)) ∙ sym (drop_all 32 ys (omega (arith, ly))) in
    let last = rest xs ys 24 lx ly (omega arith) fx fy d none in
    let third = rest xs ys 16 lx ly (omega arith) fx fy c last in
    let second = rest xs ys 8 lx ly (omega arith) fx fy b third in
    (bytes_decides xs ys).1 (rest xs ys 0 lx ly (omega arith) fx fy a second)

pub other_word : (xs ys : List ℕ) (at : ℕ) → (word xs at ≡ word ys at → ⊥) → pointwise nat_eq xs ys ≡ false
other_word xs ys at differ = false_from_ne_true (pointwise nat_eq xs ys) (λ same. differ (ap (λ zs. word zs at) ((bytes_decides xs ys).0 same)))

-- the last words decide, where the others are the same
pub decided : (xs ys : List ℕ) (x y : ℕ) → length xs ≡ 32 → length ys ≡ 32 → AreBytes xs → AreBytes ys → word xs 0 ≡ word ys 0 → word xs 8 ≡ word ys 8 → word xs 16 ≡ word ys 16 → x ≡ word xs 24 → y ≡ word ys 24 → nat_eq x y ≡ pointwise nat_eq xs ys
decided xs ys x y lx ly fx fy a b c ex ey =
    elim (eqb_tells x y) [
      | inl t ↦ t.0 ∙ sym (same_words xs ys lx ly fx fy a b c (sym ex ∙ t.1 ∙ ey))
      | inr f ↦ f.0 ∙ sym (other_word xs ys 24 (λ e. f.1 (ex ∙ e ∙ sym ey)))
    ]
