-- What single words stand for.
use Rattle.std.specs.Prelude.{ℕ, Bool, false, ◌&&◌, ◌||◌, ◌==◌, not, nat_eq, nat_le, nat_lt, if◌then◌else◌, List, [], ◌∷◌, length, map, codes, String, Option, Some, None}
use Rattle.std.specs.Result.{result_ok}
use Rattle.std.specs.List.{list_all, starts_with}
use Rattle.std.specs.Char.{is_ascii_digit}
use Rattle.std.specs.Str.{bytes_eq}
use Rattle.std.specs.Str.Parse.{digits_value}
use Rattle.std.specs.String.{string_bytes}
use Rattle.std.specs.declared.alloc.Global.{Global}
use Rattle.hex.specs.Hex.{decode_of, is_hex_digit}
use Rattle.sync_ids.specs.declared.def.TheConstants.{MAX_NAME, MAX_DESCRIPTOR}
use Rattle.sync_rules.specs.declared.entries.Level.{Level}
use Rattle.sync_rules.specs.declared.entries.Level.TheVariants as level
use Rattle.sync_rules.specs.declared.entries.Mode.{Mode}
use Rattle.sync_rules.specs.declared.entries.Mode.TheVariants as mode

-- the words as bytes
abbrev pub texts : List (String Global) → List (List ℕ)
texts words = map (λ (word : String Global). string_bytes word) words

-- a client's name has 1 to MAX_NAME bytes
abbrev pub name_in : List ℕ → Option (List ℕ)
name_in word = if nat_le 1 (length word) && nat_le (length word) MAX_NAME then Some word else None

-- a descriptor has at most MAX_DESCRIPTOR bytes
abbrev pub descriptor_in : List ℕ → Option (List ℕ)
descriptor_in word = if nat_le (length word) MAX_DESCRIPTOR then Some word else None

-- whether a text of digits begins with a zero that others follow
abbrev pub has_leading_zero : List ℕ → Bool
has_leading_zero [] = false
has_leading_zero (digit ∷ []) = false
has_leading_zero (digit ∷ next ∷ digits) = digit == 48

-- one decimal digit or more
abbrev pub is_digits : List ℕ → Bool
is_digits word = not (length word == 0) && list_all is_ascii_digit word

-- digits without a leading zero
abbrev pub is_number : List ℕ → Bool
is_number word = is_digits word && not (has_leading_zero word)

-- a number up to a greatest one
abbrev pub number_in : ℕ → List ℕ → Option ℕ
number_in most word = if is_number word && nat_le (digits_value 10 word) most then Some (digits_value 10 word) else None

-- a number from 1 up to a greatest one
abbrev pub positive_in : ℕ → List ℕ → Option ℕ
positive_in most word = if nat_le 1 (digits_value 10 word) then number_in most word else None

-- an id is 64 hexadecimal digits of either case
abbrev pub id_in : List ℕ → Option (List ℕ)
id_in word = if length word == 64 && list_all is_hex_digit word then result_ok (decode_of word) else None

abbrev pub level_in : List ℕ → Option Level
level_in word =
    if bytes_eq word (codes "invisible") then Some level.Invisible
    else if bytes_eq word (codes "visible") then Some level.Visible
    else if bytes_eq word (codes "shared") then Some level.Shared
    else None

abbrev pub mode_in : List ℕ → Option Mode
mode_in word =
    if bytes_eq word (codes "interactive") then Some mode.Interactive
    else if bytes_eq word (codes "batch") then Some mode.Batch
    else None

-- ---- what a link is

-- a kind and, behind it, a place of one byte at least
abbrev pub has_place : (kind word : List ℕ) → Bool
has_place kind word = starts_with nat_eq word kind && nat_lt (length kind) (length word)

-- over the standard input and output
abbrev pub is_std : List ℕ → Bool
is_std word = bytes_eq word (codes "std")

-- to a peer that listens
abbrev pub is_dialled : List ℕ → Bool
is_dialled word = has_place (codes "tcp:") word || has_place (codes "unix:") word

-- to a peer that dials
abbrev pub is_listening : List ℕ → Bool
is_listening word = has_place (codes "listen:") word || has_place (codes "unixlisten:") word

abbrev pub is_spec : List ℕ → Bool
is_spec word = is_std word || (is_dialled word || is_listening word)

-- the spec of a link; only one link of a command is `std`
abbrev pub spec_in : (has_std : Bool) → List ℕ → Option (List ℕ)
spec_in has_std word = if is_spec word && not (has_std && is_std word) then Some word else None
