-- The two formats: their numbers, and sums of the bytes of steps.
use Rattle.std.proofs.Common.{◌≡◌, ℕ, ◌+◌, ◌*◌, ◌≤◌, Bool, true, false, cond, refl, ap, arith}
use Rattle.std.specs.Prelude.{◌==◌, ◌||◌, Option, Some, None}
use Rattle.std.proofs.lemmas.Bool.{eqb-true}
use Rattle.frame_journal.specs.Journal.{is_format}
use Rattle.entry_codec.specs.declared.naming.Format.{Format}
use Rattle.entry_codec.specs.declared.naming.Format.TheVariants as kind
use Rattle.entry_codec.specs.Naming.{format_of}
use Rattle.sync_rules.specs.Facts.{Facts}
use Rattle.entry_codec.specs.Standing.{room_of, step_bytes, step_len}
use Rattle.sync_store.specs.Store.{format_meant}

some_format : Format → Option Format
some_format f = Some f

-- 1 is not 2
apart : (n : ℕ) → (n == 1) ≡ true → (n == 2) ≡ false
apart n e = ap (λ (k : ℕ). k == 2) (eqb-true n 1 e)

known_by : (a b : Bool) → (a ≡ true → b ≡ false) → (a || b) ≡ true
    → cond a (some_format kind.Whole) (cond b (some_format kind.Short) None)
    ≡ some_format (cond b kind.Short kind.Whole)
known_by true true not_both e = let clash : true ≡ false = not_both refl in cc
known_by true false not_both e = refl
known_by false true not_both e = refl
known_by false false not_both e = cc

unknown_by : (a b : Bool) → (a || b) ≡ false → cond a (some_format kind.Whole)
    (cond b (some_format kind.Short) None) ≡ None
unknown_by true b e = cc
unknown_by false true e = cc
unknown_by false false e = refl

-- the number of a format that a journal may have
pub known_format : (n : ℕ) → is_format n ≡ true → format_of n ≡ Some (format_meant n)
unfolding some_format
known_format n e = known_by (n == 1) (n == 2) (apart n) e

-- and of another
pub unknown_format : (n : ℕ) → is_format n ≡ false → format_of n ≡ None
unfolding some_format
unknown_format n e = unknown_by (n == 1) (n == 2) e

-- ---- the bytes of steps

pub steps_some : (f : Format) (n : ℕ) → 1 ≤ n → 1 ≤ step_len f * n
steps_some kind.Whole n some = omega (arith, some)
steps_some kind.Short n some = omega (arith, some)

pub steps_few : (f : Format) (n : ℕ) → step_len f * n ≤ 33 * n
steps_few kind.Whole n = omega arith
steps_few kind.Short n = omega arith

pub steps_both : (f : Format) (m n : ℕ) → step_len f * (m + n) ≡ step_len f * m + step_len f * n
steps_both kind.Whole m n = omega arith
steps_both kind.Short m n = omega arith

-- ---- the room for steps

-- fewer steps need less room
pub room_less : (f : Format) (few many : ℕ) → few ≤ many → step_bytes f * few ≤ step_bytes f * many
room_less kind.Whole few many le = omega (arith, le)
room_less kind.Short few many le = omega (arith, le)

-- and so many that are made leave theirs
pub room_split : (f : Format) (few made many : ℕ) → few + made ≤ many
    → step_bytes f * few + step_bytes f * made ≤ step_bytes f * many
room_split kind.Whole few made many le = omega (arith, le)
room_split kind.Short few made many le = omega (arith, le)

-- steps in one frame take no more than each in its own
pub room_framed : (f : Format) (few made many : ℕ) → few + made ≤ many → 1 ≤ made
    → 5 + step_len f * made + step_bytes f * few ≤ step_bytes f * many
room_framed kind.Whole few made many le some = omega (arith, le, some)
room_framed kind.Short few made many le some = omega (arith, le, some)

-- ---- the first format

whole_by : (n : ℕ) (a b : Bool) → (a ≡ true → n ≡ 1) → cond a (some_format kind.Whole)
    (cond b (some_format kind.Short) None) ≡ some_format kind.Whole → n ≡ 1
unfolding some_format
whole_by n true b one e = one refl
whole_by n false true one e = cc
whole_by n false false one e = cc

-- its number is 1
pub whole_is_one : (n : ℕ) → format_of n ≡ Some kind.Whole → n ≡ 1
unfolding some_format
whole_is_one n is = whole_by n (n == 1) (n == 2) (λ e. eqb-true n 1 e) is

-- the room of the second is less
pub short_room : (f : Facts) → room_of kind.Short f ≤ room_of kind.Whole f
short_room f = omega arith
