-- The slots by which the ids of a list are counted, so that few of them have to be compared.
use Rattle.std.specs.Prelude.{◌≡◌, ℕ, ◌+◌, ◌-◌, ◌*◌, ◌<◌, Bool, true, ◌&&◌, ◌||◌, nat_lt, List, []}
use Rattle.std.specs.Prelude.{length, take, slice_index, slice_index_or, bit_and}
use Rattle.sync_rules.specs.Facts.{Id}
use Rattle.sync_rules.specs.Lists.{same_id, is_among}

-- the slot of an id, by its first two bytes, where there are so many slots, a power of two
abbrev pub slot_of : Id → ℕ → ℕ
slot_of id slots = bit_and (slice_index id 0 + 256 * slice_index id 1) (slots - 1)

-- how many ids were counted in the slot of an id
abbrev pub count_at : List ℕ → Id → ℕ
count_at counts id = slice_index counts (slot_of id (length counts))

-- whether more than one id was counted in the slot of an id
abbrev pub is_shared : List ℕ → Id → Bool
is_shared counts id = nat_lt 1 (count_at counts id)

-- an id that stands earlier in the list too shares its slot
abbrev pub AreCounted : List ℕ → List Id → Type 0
AreCounted counts ids =
    (place : ℕ) → place < length ids → is_among (take place ids) (slice_index_or ids place []) ≡ true
    → is_shared counts (slice_index_or ids place []) ≡ true

-- a set of ids that an id has joined, where it was to
abbrev pub HasJoined : Bool → Id → List Id → List Id → Type 0
HasJoined joins id old new =
    (x : Id) → is_among new x ≡ ((joins && same_id id x) || is_among old x)
