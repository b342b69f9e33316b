-- Records cut off the front of some bytes, and all records in flight that arrive.
use Rattle.std.proofs.Common.{◌≡◌, ℕ, zero, suc, ◌+◌, ◌-◌, ◌≤◌, List, [], ◌∷◌, ◌++◌, length, take}
use Rattle.std.proofs.Common.{Option, unwrap_or}
use Rattle.std.proofs.Common.{drop, refl, sym, ap, ◌∙◌, arith, append_assoc, length-drop, Some}
use Rattle.std.proofs.Common.{None}
use Rattle.record_grammar.specs.declared.front.Front.{Front}
use Rattle.record_grammar.specs.declared.front.Front.TheVariants as front
use Rattle.record_grammar.specs.Reading.{front_in}
use Rattle.world_links.specs.Flights.{first_len, first_n_records, in_front, len_of}
use Rattle.world_links.specs.Flights.{whole_records}

-- ---- cutting

long_of : (f : Front) (len : ℕ) → len_of f ≡ Some len → 1 ≤ len
long_of (front.Whole type_byte n) len is = let same : 4 + n ≡ len = cc in omega arith
long_of front.More len is = cc
long_of (front.Bad why) len is = cc

long : (bytes : List ℕ) (len : ℕ) → first_len bytes ≡ Some len → 1 ≤ len
unfolding first_len
long bytes len is = long_of (front_in bytes) len is

none_of : first_len [] ≡ None
unfolding first_len front_in
none_of = refl

none_left : (m : ℕ) (bytes : List ℕ) → length bytes ≤ 0 → first_n_records m bytes ≡ []
unfolding first_n_records
none_left zero bytes short = refl
none_left (suc m) [] short = ap
    (λ (o : Option ℕ). in_front [] o (first_n_records m (drop (unwrap_or o 0) []))) none_of
none_left (suc m) (b ∷ bytes) short = absurd (omega arith)

-- more room than bytes changes nothing
agree : (n m : ℕ) (bytes : List ℕ) → length bytes ≤ n → length bytes ≤ m
    → first_n_records n bytes ≡ first_n_records m bytes
unfolding first_n_records
agree zero m bytes a b = sym (none_left m bytes a)
agree (suc n) zero bytes a b = none_left (suc n) bytes b
agree (suc n) (suc m) bytes a b =
    elim (first_len bytes) as
    (λ o. first_len bytes ≡ o
    → in_front bytes o (first_n_records n (drop (unwrap_or o 0) bytes))
    ≡ in_front bytes o (first_n_records m (drop (unwrap_or o 0) bytes))) [
      | None ↦ λ e. refl
      | Some len ↦ λ e.
          let some = long bytes len e in
          let fits = length-drop len bytes in
          ap (λ l. take len bytes ∷ l) (agree n m (drop len bytes) (omega arith) (omega arith))
    ] refl

by_first : (n : ℕ) (bytes : List ℕ) (len : ℕ) → first_len bytes ≡ Some len
    → first_n_records (suc n) bytes ≡ take len bytes ∷ first_n_records n (drop len bytes)
unfolding first_n_records
by_first n bytes len is = ap (λ (o : Option ℕ). in_front bytes o
    (first_n_records n (drop (unwrap_or o 0) bytes))) is

by_none : (n : ℕ) (bytes : List ℕ) → first_len bytes ≡ None → first_n_records n bytes ≡ []
unfolding first_n_records
by_none zero bytes is = refl
by_none (suc n) bytes is = ap (λ (o : Option ℕ). in_front bytes o
    (first_n_records n (drop (unwrap_or o 0) bytes))) is

-- the record at the front, and those behind it
pub records_next : (bytes : List ℕ) (len : ℕ) → first_len bytes ≡ Some len → len ≤ length bytes
    → whole_records bytes ≡ take len bytes ∷ whole_records (drop len bytes)
unfolding whole_records
records_next bytes len is fits =
    let some = long bytes len is in
    let short = length-drop len bytes in
    let enough : length (drop len bytes) ≤ length bytes = omega arith in
    agree (length bytes) (suc (length bytes)) bytes (omega arith) (omega arith)
    ∙ by_first (length bytes) bytes len is
    ∙ ap (λ l. take len bytes ∷ l) (agree (length bytes) (length (drop len bytes)) (drop len bytes) enough (omega arith))

-- no record stands at the front
pub records_none : (bytes : List ℕ) → first_len bytes ≡ None → whole_records bytes ≡ []
unfolding whole_records
records_none bytes is = by_none (length bytes) bytes is

-- one more record was sent, and those behind it are to be
pub sent_next : (front all later : List (List ℕ)) (first bytes : List ℕ) → whole_records bytes
    ≡ first ∷ later → front ++ whole_records bytes ≡ all
    → (front ++ first ∷ []) ++ later ≡ all
sent_next front all later first bytes next so_far = append_assoc front (first ∷ []) later ∙ ap (λ l. front ++ l) (sym next) ∙ so_far
