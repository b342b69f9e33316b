-- The two formats of a journal: how each names a message that is held before a batch.
use Rattle.std.specs.Prelude.{◌≡◌, ℕ, suc, ◌^◌, ◌≤◌, ◌==◌, true, false, cond, if◌then◌else◌}
use Rattle.std.specs.Prelude.{unwrap_or}
use Rattle.std.specs.Prelude.{List, [], ◌∷◌, length, Option, Some, None}
use Rattle.std.specs.Option.{option_map}
use Rattle.std.specs.Int.{w32, to_be_bytes}
use Rattle.sync_ids.specs.Values.{AreIds}
use Rattle.sync_rules.specs.Lists.{has_repeat, is_among, same_id}
use Rattle.entry_codec.specs.declared.naming.Format.{Format}
use Rattle.entry_codec.specs.declared.naming.Format.TheVariants as format

-- the format of a number
abbrev pub format_of : ℕ → Option Format
format_of n = if n == 1 then Some format.Whole else if n == 2 then Some format.Short else None

-- the first place of an id in a list, from 0
abbrev pub place_in : List (List ℕ) → List ℕ → Option ℕ
place_in [] id = None
place_in (x ∷ xs) id = cond (same_id x id) (Some 0) (option_map suc (place_in xs id))

-- ids that can be named by their places, each of which has four bytes
pub record AreNames (ids : List (List ℕ)) : Type 0 where
  pub distinct : has_repeat ids ≡ false
  pub whole : AreIds ids
  pub few : length ids ≤ 2 ^ 32

-- the bytes of the id of a message that is held, where these are the ids held: the id, or its place among them
abbrev pub held_bytes : Format → List (List ℕ) → List ℕ → List ℕ
held_bytes format.Whole names id = id
held_bytes format.Short names id = to_be_bytes w32 (unwrap_or (place_in names id) 0)

-- an id that a format can write where these are the ids held
abbrev pub IsNamed : Format → List (List ℕ) → List ℕ → Type 0
IsNamed format.Whole names id = Unit {0}
IsNamed format.Short names id = is_among names id ≡ true
