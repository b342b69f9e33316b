-- The records that stand whole at the front of some bytes, each by its bytes.
use Rattle.std.specs.Prelude.{ℕ, zero, suc, ◌+◌, List, [], ◌∷◌, length, take, drop, Option, Some}
use Rattle.std.specs.Prelude.{None, unwrap_or}
use Rattle.record_grammar.specs.declared.front.Front.{Front}
use Rattle.record_grammar.specs.declared.front.Front.TheVariants as front
use Rattle.record_grammar.specs.Reading.{front_in}

-- the length of the record, of a known type or skipped, that stands whole at the front
abbrev pub len_of : Front → Option ℕ
len_of (front.Whole type_byte len) = Some (4 + len)
len_of front.More = None
len_of (front.Bad why) = None

unfoldable pub first_len : List ℕ → Option ℕ
first_len bytes = len_of (front_in bytes)

-- the first record in front of the others
abbrev pub in_front : List ℕ → Option ℕ → List (List ℕ) → List (List ℕ)
in_front bytes None later = []
in_front bytes (Some len) later = take len bytes ∷ later

-- the first n records, or as many as there are
unfoldable pub first_n_records : ℕ → List ℕ → List (List ℕ)
first_n_records zero bytes = []
first_n_records (suc n) bytes =
    in_front bytes (first_len bytes)
    (first_n_records n (drop (unwrap_or (first_len bytes) 0) bytes))

-- the records that stand whole at the front, one behind the other
unfoldable pub whole_records : List ℕ → List (List ℕ)
whole_records bytes = first_n_records (length bytes) bytes
