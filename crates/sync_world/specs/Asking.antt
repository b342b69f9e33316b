-- What the words ask for. Words are counted from 0 and read from left to right.
use Rattle.std.specs.Prelude.{ℕ, ◌-◌, ◌^◌, ◌≤◌, if◌then◌else◌, List, [], ◌∷◌, Option, Some, None}
use Rattle.std.specs.Prelude.{codes, Result, Ok, Err}
use Rattle.std.specs.Str.{bytes_eq}
use Rattle.sync_words.specs.Words.{number_in}
use Rattle.sync_words.specs.declared.outcome.Outcome.{Outcome}
use Rattle.sync_words.specs.declared.outcome.Outcome.TheVariants as outcome
use Rattle.sync_world.specs.declared.asking.Asked.{Asked}
use Rattle.sync_world.specs.declared.asking.Asked.TheVariants as asked
use Rattle.world_scripts.specs.Forms.{number_between}
use Rattle.world_scripts.specs.declared.generator.TheConstants.{MAX_POSTS}

-- a generated world has at most so many posts
abbrev pub IsWorldWithin : Asked → Type 0
IsWorldWithin asked.Script = Unit {0}
IsWorldWithin (asked.Generated seed count) = count ≤ MAX_POSTS

-- what is to be played, or the place of the first word that is wrong or too many, or the number of
-- words where one is missing
pub data Wanted : Type 0 where
  Wrong : ℕ → Wanted
  Wants : Asked → Wanted

-- a word that was read and then come the others, or this place is wrong
abbrev pub read_or_wrong : Option ℕ → (place : ℕ) → (ℕ → Wanted) → Wanted
read_or_wrong None place next = Wrong place
read_or_wrong (Some n) place next = next n

-- no word is left at this place
abbrev pub wants : Asked → (place : ℕ) → List (List ℕ) → Wanted
wants what place [] = Wants what
wants what place (word ∷ words) = Wrong place

-- COUNT, from 1 on, and no word behind it
abbrev pub count_asked : (seed : ℕ) → List (List ℕ) → Wanted
count_asked seed [] = Wrong 2
count_asked seed (word ∷ words) =
    read_or_wrong (number_between 1 MAX_POSTS word) 2 (λ count.
    wants (asked.Generated seed count) 3 words)

-- SEED and COUNT
abbrev pub world_asked : List (List ℕ) → Wanted
world_asked [] = Wrong 1
world_asked (word ∷ words) =
    read_or_wrong (number_in (2 ^ 64 - 1) word) 1 (λ seed. count_asked seed words)

-- what all words ask for: none the script, `gen SEED COUNT` a world that is made from a seed
abbrev pub asks_replay : List (List ℕ) → Wanted
asks_replay [] = Wants asked.Script
asks_replay (word ∷ words) = if bytes_eq word (codes "gen") then world_asked words else Wrong 0

-- the answer to words that ask for this
abbrev pub answer_of : Wanted → Result Asked Outcome
answer_of (Wrong place) = Err (outcome.Usage place)
answer_of (Wants what) = Ok what
