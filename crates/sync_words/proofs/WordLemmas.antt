-- What single words stand for.
use Rattle.std.proofs.Common.{◌≡◌, ℕ, ◌^◌, ◌<◌, ◌≤◌, Bool, true, false, cond, not, ◌&&◌, ◌==◌, nat_le, List, [], ◌∷◌, length, refl, sym, ap, subst, arith, eq-eqb, eqb-true, Some, None, Result, Ok, Err}
use Rattle.std.specs.Result.{OkIff, result_ok}
use Rattle.std.specs.List.{list_all, AllPass}
use Rattle.std.specs.Char.{is_ascii_digit}
use Rattle.std.specs.Str.{all_ascii_digits}
use Rattle.std.specs.Str.Parse.{ParsesUnsigned, digits_value}
use Rattle.std.proofs.lemmas.Bool.{and_parts, and_from, leb-true, eqb-false, not-true, false_from_ne_true}
use Rattle.std.proofs.lemmas.List.Sums.{AllPass-from_list_all, list_all-from_AllPass}
use Rattle.std.proofs.lemmas.Str.Parse.{IsNumeralModel, numerals_by_value, tells_all_ascii_digits, parse_digits}
use Rattle.hex.specs.Hex.{decode_of, is_hex_digit}
use Rattle.sync_words.specs.Words.{is_digits, is_number, number_in, id_in, has_leading_zero}

all_digits : (word : List ℕ) → list_all is_ascii_digit word ≡ true → all_ascii_digits word ≡ true
all_digits [] h = refl
all_digits (c ∷ word) h =
    let both = and_parts (is_ascii_digit c) (list_all is_ascii_digit word) h in
    and_from (is_ascii_digit c) (all_ascii_digits word) both.0 (all_digits word both.1)

own : IsNumeralModel (λ word. all_ascii_digits word ≡ true) (digits_value 10)
own = numerals_by_value (λ word. all_ascii_digits word ≡ true) tells_all_ascii_digits

-- what was parsed of a number
parsed : {E : Type 0} (word : List ℕ) (r : Result ℕ E) → is_number word ≡ true → ParsesUnsigned 64 10 word r
    → OkIff r ((0 < length word) × (digits_value 10 word < 2 ^ 64)) (digits_value 10 word)
parsed word r is p =
    let both = and_parts (is_digits word) (not (has_leading_zero word)) is in
    let digits = and_parts (not (length word == 0)) (list_all is_ascii_digit word) both.0 in
    parse_digits own 64 word r p (all_digits word digits.1)

pub large_number : {E : Type 0} (most : ℕ) (word : List ℕ) (r : Result ℕ E) (e : E) → is_number word ≡ true → ParsesUnsigned 64 10 word r → r ≡ Err e
    → most < 2 ^ 64 → None ≡ number_in most word
large_number {E} most word r e is p err within =
    let at : OkIff r ((0 < length word) × (digits_value 10 word < 2 ^ 64)) (digits_value 10 word) = parsed word r is p in
    let none : ¬ ((0 < length word) × (digits_value 10 word < 2 ^ 64)) =
    subst (λ (q : Result ℕ E). OkIff q ((0 < length word) × (digits_value 10 word < 2 ^ 64)) (digits_value 10 word)) err at in
    let both = and_parts (is_digits word) (not (has_leading_zero word)) is in
    let digits = and_parts (not (length word == 0)) (list_all is_ascii_digit word) both.0 in
    let some : length word ≡ 0 → ⊥ = eqb-false (length word) 0 (not-true (length word == 0) digits.0) in
    let large : nat_le (digits_value 10 word) most ≡ false =
    false_from_ne_true (nat_le (digits_value 10 word) most) (λ small.
    let few : digits_value 10 word ≤ most = leb-true (digits_value 10 word) most small in
    let positive : 0 < length word = omega arith in
    let low : digits_value 10 word < 2 ^ 64 = omega arith in
    none (positive, low)) in
    sym ((λ i. cond (is i && large i) (Some (digits_value 10 word)) None))

-- ---- ids

pub id_read : (word : List ℕ) (id : List ℕ) → (length word ≡ 64) × AllPass is_hex_digit word → decode_of word ≡ Ok id → Some id ≡ id_in word
id_read word id digits is =
    sym ((λ i. cond (eq-eqb (length word) 64 digits.0 i && list_all-from_AllPass is_hex_digit word digits.1 i) (result_ok (is i)) None))

pub no_id : (word : List ℕ) → ¬ ((length word ≡ 64) × AllPass is_hex_digit word) → None ≡ id_in word
no_id word wrong =
    let test : Bool = (length word == 64) && list_all is_hex_digit word in
    let no : test ≡ false =
    false_from_ne_true test (λ t.
    let both = and_parts (length word == 64) (list_all is_hex_digit word) t in
    wrong (eqb-true (length word) 64 both.0, AllPass-from_list_all is_hex_digit word both.1)) in
    sym (ap (λ b. cond b (result_ok (decode_of word)) None) no)
