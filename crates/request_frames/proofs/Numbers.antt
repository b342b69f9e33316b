-- Numbers as words.
use Rattle.std.proofs.Common.{◌≡◌, ℕ, zero, suc, ◌+◌, ◌%◌, ◌^◌, ◌<◌, ◌≤◌, ◌&&◌, Bool, true, false, List, [], ◌∷◌, ◌++◌, length, get_or, refl, sym, ap, ◌∙◌, arith, le-leb, leb-true}
use Rattle.std.specs.Prelude.{Some, None, Result, Ok, Err, nat_le, if◌then◌else◌, decimal}
use Rattle.std.specs.Bool.{then_some}
use Rattle.std.specs.Str.{IsUtf8, bytes_eq}
use Rattle.std.specs.Str.Parse.{ParsesUnsigned, digits_value}
use Rattle.std.proofs.lemmas.Fmt.{IsAscii-decimal, decimal_by_steps, decimal_injective, decimal_is_IsNumeral, parse-decimal}
use Rattle.std.proofs.lemmas.Slice.Eq.{bytes_eq-Decides}
use Rattle.std.proofs.lemmas.Str.{IsUtf8-from_ascii}
use Rattle.request_frames.specs.Heads.{number_in}

-- a number's spelling is read as that number
pub number_of : (most n : ℕ) → n ≤ most → n < 2 ^ 64 → number_in most (decimal n) ≡ Some n
unfolding number_in
number_of most n few small =
    let value : digits_value 10 (decimal n) ≡ n = (decimal_is_IsNumeral n small).1 in
    let same : bytes_eq (decimal n) (decimal n) ≡ true = (bytes_eq-Decides (decimal n) (decimal n)).1 refl in
    let within : nat_le n most ≡ true = le-leb n most few in
    rw (value, same, within) refl

-- a word that is read as a number is its spelling
pub number_read : (most : ℕ) (word : List ℕ) (n : ℕ) → number_in most word ≡ Some n → (word ≡ decimal n) × (n ≤ most)
unfolding number_in
number_read most word n e = go (bytes_eq word (decimal (digits_value 10 word))) (nat_le (digits_value 10 word) most) refl refl e where
  go : (s w : Bool) → bytes_eq word (decimal (digits_value 10 word)) ≡ s → nat_le (digits_value 10 word) most ≡ w
      → (if s && w then Some (digits_value 10 word) else None) ≡ Some n → (word ≡ decimal n) × (n ≤ most)
  go true true es ew is =
      let same : digits_value 10 word ≡ n = cc in
      let spelled : word ≡ decimal (digits_value 10 word) = (bytes_eq-Decides word (decimal (digits_value 10 word))).0 es in
      (spelled ∙ ap decimal same, omega (arith, leb-true (digits_value 10 word) most ew))
  go true false es ew is = cc
  go false w es ew is = cc

-- a word that spells no number up to the greatest is read as none
pub number_none : (most : ℕ) (word : List ℕ) → ((n : ℕ) → n ≤ most → word ≡ decimal n → ⊥) → number_in most word ≡ None
unfolding number_in
number_none most word none = go (bytes_eq word (decimal (digits_value 10 word))) (nat_le (digits_value 10 word) most) refl refl where
  go : (s w : Bool) → bytes_eq word (decimal (digits_value 10 word)) ≡ s → nat_le (digits_value 10 word) most ≡ w
      → (if s && w then Some (digits_value 10 word) else None) ≡ None
  go true true es ew =
      absurd (none (digits_value 10 word) (leb-true (digits_value 10 word) most ew) ((bytes_eq-Decides word (decimal (digits_value 10 word))).0 es))
  go true false es ew = refl
  go false w es ew = refl

-- what is no text, or parses as no number, spells none
pub number_no_text : (most : ℕ) (word : List ℕ) → most < 2 ^ 64 → (IsUtf8 word → ⊥) → None ≡ number_in most word
number_no_text most word small never =
    sym (number_none most word (λ n few is. never (rw is (IsUtf8-from_ascii (decimal n) (IsAscii-decimal n (omega arith))))))

pub number_no_parse : {E : Type 0} (most : ℕ) (word : List ℕ) (e : E) → most < 2 ^ 64 → ParsesUnsigned {E = E} 64 10 word (Err e) → None ≡ number_in most word
number_no_parse {E} most word e small parsed =
    sym (number_none most word (λ n few is. (let never : ◌≡◌ {A = Result ℕ E} (Err e) (Ok n) = parse-decimal {E = E} 64 n word (Err e) (omega arith) (omega arith) is parsed in cc)))

-- a word that parses as a number is read so where it is its spelling
pub number_parsed : (E : Type 0) (most : ℕ) (word spelled : List ℕ) (n : ℕ) (same : Bool) → most < 2 ^ 64 → ParsesUnsigned {E = E} 64 10 word (Ok n) → spelled ≡ decimal n
    → same ≡ bytes_eq spelled word → then_some (same && nat_le n most) n ≡ number_in most word
number_parsed E most word spelled n same small parsed es eq = go same (nat_le n most) eq refl where
  go : (s w : Bool) → s ≡ bytes_eq spelled word → nat_le n most ≡ w → then_some (s && w) n ≡ number_in most word
  go true true e ew =
      let is : word ≡ decimal n = sym ((bytes_eq-Decides spelled word).0 (sym e)) ∙ es in
      let few : n ≤ most = leb-true n most ew in
      rw is (sym (number_of most n few (omega arith)))
  go true false e ew =
      sym (number_none most word (λ m few is.
      (let one : ◌≡◌ {A = Result ℕ E} (Ok n) (Ok m) = parse-decimal {E = E} 64 m word (Ok n) (omega arith) (omega arith) is parsed in
      let nm : n ≡ m = cc in
      let yes : nat_le n most ≡ true = le-leb n most (omega arith) in cc)))
  go false w e ew =
      sym (number_none most word (λ m few is.
      (let one : ◌≡◌ {A = Result ℕ E} (Ok n) (Ok m) = parse-decimal {E = E} 64 m word (Ok n) (omega arith) (omega arith) is parsed in
      let nm : n ≡ m = cc in
      let yes : bytes_eq spelled word ≡ true = (bytes_eq-Decides spelled word).1 (es ∙ ap decimal nm ∙ sym is) in cc)))

-- ---- the digits of a spelling stand above what separates numbers

abbrev pub High : List ℕ → Type 0
High [] = Unit {0}
High (c ∷ cs) = (48 ≤ c) × High cs

high_push : (ds : List ℕ) (d : ℕ) → High ds → 48 ≤ d → High (ds ++ d ∷ [])
high_push [] d all high = (high, tt)
high_push (c ∷ cs) d all high = (all.0, high_push cs d all.1 high)

pub high_decimal : (n : ℕ) → n < 2 ^ 64 → High (decimal n)
high_decimal = decimal_by_steps (λ n ds. High ds) (λ n few. (omega arith, tt)) (λ n ds many all. high_push ds (48 + n % 10) all (omega arith))

pub high_at : (ds : List ℕ) (k : ℕ) → High ds → k < length ds → 48 ≤ get_or ds k 0
high_at [] k all within = absurd (omega arith)
high_at (c ∷ cs) zero all within = all.0
high_at (c ∷ cs) (suc k) all within = high_at cs k all.1 (omega arith)

-- digits up to what is none are the same in the same bytes
pub digits_part : (ds es : List ℕ) (x y : ℕ) (rest others : List ℕ) → High ds → High es → x < 48 → y < 48 → ds ++ x ∷ rest ≡ es ++ y ∷ others
    → (ds ≡ es) × (x ∷ rest ≡ y ∷ others)
digits_part [] [] x y rest others hd he lx ly e = (refl, e)
digits_part [] (c ∷ cs) x y rest others hd he lx ly e = let same : x ≡ c = cc in absurd (omega (arith, same, he.0))
digits_part (c ∷ cs) [] x y rest others hd he lx ly e = let same : c ≡ y = cc in absurd (omega (arith, same, hd.0))
digits_part (c ∷ cs) (d ∷ ds) x y rest others hd he lx ly e =
    let heads : c ≡ d = cc in
    let tails : cs ++ x ∷ rest ≡ ds ++ y ∷ others = cc in
    let later = digits_part cs ds x y rest others hd.1 he.1 lx ly tails in
    (let front : cs ≡ ds = later.0 in cc, later.1)

pub same_number : (m n : ℕ) (x y : ℕ) (rest others : List ℕ) → m < 2 ^ 64 → n < 2 ^ 64 → x < 48 → y < 48 → decimal m ++ x ∷ rest ≡ decimal n ++ y ∷ others
    → (m ≡ n) × (x ∷ rest ≡ y ∷ others)
same_number m n x y rest others sm sn lx ly e =
    let both = digits_part (decimal m) (decimal n) x y rest others (high_decimal m sm) (high_decimal n sn) lx ly e in
    (decimal_injective m n sm sn both.0, both.1)
