-- The digits of an id are text.
use Rattle.std.proofs.Common.{◌≡◌, ◌≤◌, ℕ, true, nat_le, List, [], ◌∷◌, arith, refl, Result, Ok, Err}
use Rattle.std.specs.List.{list_all}
use Rattle.std.specs.Result.{IsOk, MatchResult, OnOk}
use Rattle.std.specs.Str.{IsAscii, IsUtf8}
use Rattle.std.proofs.lemmas.Bool.{and_parts, leb-true}
use Rattle.std.proofs.lemmas.Str.{IsUtf8-from_ascii}
use Rattle.std.proofs.lemmas.Str.Ascii.{IsAscii-cons, IsAscii-nil}
use Rattle.hex.specs.Hex.{encode_lower, lower_digits}
use Rattle.hex.proofs.HexLemmas.{IsAscii-encode_with}

ascii_where : (bs : List ℕ) → list_all (λ b. nat_le b 127) bs ≡ true → IsAscii bs
ascii_where [] h = IsAscii-nil
ascii_where (b ∷ bs) h =
    let both = and_parts (nat_le b 127) (list_all (λ c. nat_le c 127) bs) h in
    let within : b ≤ 127 = leb-true b 127 both.0 in
    IsAscii-cons b bs (omega arith) (ascii_where bs both.1)

pub digits_are_text : (bytes : List ℕ) → IsUtf8 (encode_lower bytes)
digits_are_text bytes = IsUtf8-from_ascii (encode_lower bytes) (IsAscii-encode_with lower_digits bytes (ascii_where lower_digits refl))

-- what holds where there is a value
pub with_value : {T E : Type 0} (r : Result T E) (P : Type 0) → OnOk r P → IsOk r → P
with_value (Ok x) P h is = h
with_value (Err e) P h is = cc

-- bytes that are text are read
pub is_read : {T E : Type 0} (r : Result T E) (bytes : List ℕ) (P : T → Type 0) (Q : E → Type 0)
    → MatchResult r P (λ e. (IsUtf8 bytes → ⊥) × Q e) → IsUtf8 bytes → IsOk r
is_read (Ok x) bytes P Q h text = refl
is_read (Err e) bytes P Q h text = absurd (h.0 text)
