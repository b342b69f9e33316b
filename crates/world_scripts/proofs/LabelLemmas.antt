-- The place of a pair among others.
use Rattle.std.proofs.Common.{◌≡◌, ℕ, ◌<◌, ◌≤◌, nat_lt, Bool, true, false, cond, not, List, [], ◌∷◌}
use Rattle.std.proofs.Common.{◌++◌, length, refl, sym, ap, arith, lt-ltb, Some, None}
use Rattle.std.proofs.lemmas.Bool.{le-ltb, ltb-false}
use Rattle.std.proofs.lemmas.List.Sums.{prefix_len-le-length}
use Rattle.std.specs.List.{position, position_or_len}
use Rattle.world_scripts.specs.Labels.{KindAndDescriptor, is_pair, labelled, place_of}

place_by : (p : KindAndDescriptor → Bool) (pairs : List KindAndDescriptor) (n : ℕ) (test : Bool)
    → Some n ≡ cond test (Some (position_or_len p pairs)) None
    → n ≡ position_or_len p pairs
place_by p pairs n true is = let e : Some n ≡ Some (position_or_len p pairs) = is in cc
place_by p pairs n false is = absurd (let e : Some n ≡ None = is in cc)

pub placed : (p : KindAndDescriptor → Bool) (pairs : List KindAndDescriptor) (n : ℕ) → Some n ≡ position p pairs
    → n ≡ position_or_len p pairs
placed p pairs n is = place_by p pairs n (nat_lt (position_or_len p pairs) (length pairs)) is

none_by : (p : KindAndDescriptor → Bool) (pairs : List KindAndDescriptor) (test : Bool)
    → nat_lt (position_or_len p pairs) (length pairs) ≡ test
    → None ≡ cond test (Some (position_or_len p pairs)) None
    → length pairs ≡ position_or_len p pairs
none_by p pairs true within is = absurd (let e : None ≡ Some (position_or_len p pairs) = is in cc)
none_by p pairs false within is =
    let most : position_or_len p pairs ≤ length pairs =
    prefix_len-le-length (λ x. not (p x)) pairs in
    let least : length pairs ≤ position_or_len p pairs =
    ltb-false (position_or_len p pairs) (length pairs) within in
    omega arith

pub unplaced : (p : KindAndDescriptor → Bool) (pairs : List KindAndDescriptor) → None ≡ position p pairs
    → length pairs ≡ position_or_len p pairs
unplaced p pairs is = none_by p pairs (nat_lt (position_or_len p pairs) (length pairs)) refl is

-- a pair that was named before, and one that was not
pub known : (pair : KindAndDescriptor) (pairs : List KindAndDescriptor) (n : ℕ) → n ≡ place_of pair pairs
    → ¬ (n ≡ length pairs) → pairs ≡ labelled pair pairs
unfolding labelled place_of
known pair pairs n at differ =
    let most : position_or_len (is_pair pair) pairs ≤ length pairs =
    prefix_len-le-length (λ x. not (is_pair pair x)) pairs in
    let within : position_or_len (is_pair pair) pairs < length pairs = omega arith in
    sym (ap (λ t. cond t pairs (pairs ++ pair ∷ []))
    (lt-ltb (position_or_len (is_pair pair) pairs) (length pairs) within))

pub named : (pair : KindAndDescriptor) (pairs : List KindAndDescriptor) (n : ℕ) → n ≡ place_of pair pairs → n ≡ length pairs
    → pairs ++ pair ∷ [] ≡ labelled pair pairs
unfolding labelled place_of
named pair pairs n at all =
    let least : length pairs ≤ position_or_len (is_pair pair) pairs = omega arith in
    sym (ap (λ t. cond t pairs (pairs ++ pair ∷ []))
    (le-ltb (position_or_len (is_pair pair) pairs) (length pairs) least))
