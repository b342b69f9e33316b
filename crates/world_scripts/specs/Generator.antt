-- The world that a seed and a number of posts make.
use Rattle.std.specs.Prelude.{◌≡◌, ℕ, zero, suc, ◌+◌, ◌-◌, ◌*◌, ◌/◌, ◌%◌, ◌^◌, ◌==◌, ◌≤◌, ◌||◌}
use Rattle.std.specs.Prelude.{Bool, if◌then◌else◌, List, [], ◌∷◌, ◌++◌, drop, codes, Option, Some}
use Rattle.std.specs.Prelude.{None, option_to_list}
use Rattle.std.specs.Fmt.{decimal}
use Rattle.sync_rules.specs.declared.entries.Level.TheVariants as level
use Rattle.sync_rules.specs.declared.entries.Mode.TheVariants as mode
use Rattle.world_scripts.specs.declared.step.TheConstants.{THREAD}
use Rattle.world_scripts.specs.declared.step.WorldStep.{WorldStep}
use Rattle.world_scripts.specs.declared.step.WorldStep.TheVariants as step

-- the number behind a number
unfoldable pub number_behind : ℕ → ℕ
number_behind x = (x * 6364136223846793005 + 1442695040888963407) % 2 ^ 64

-- the number that is drawn for the post before the one of this label; at first it is the seed
unfoldable pub number_at : ℕ → ℕ → ℕ
number_at seed zero = seed
number_at seed (suc label) = number_behind (number_at seed label)

-- the device that writes the post of this label
unfoldable pub writer : ℕ → ℕ → ℕ
writer seed label = (number_behind (number_at seed label) / 2 ^ 33) % 2

-- the last post of a device before the post of this label
unfoldable pub last_post : ℕ → ℕ → ℕ → Option ℕ
last_post seed device zero = None
last_post seed device (suc label) =
    if writer seed label == device then Some label else last_post seed device label

-- the letter m and the label
abbrev pub label_text : ℕ → List ℕ
label_text label = codes "m" ++ decimal label

-- the post of this label: in the one group, at the time that is its label, behind its device's last
-- post
unfoldable pub post_of : ℕ → ℕ → WorldStep
post_of seed label =
    step.Post (writer seed label) 0 label
    (option_to_list (last_post seed (writer seed label) label)) (label_text label)

-- whether a rest stands behind so many posts: behind each hundredth, and behind the last
abbrev pub is_rest_behind : ℕ → ℕ → Bool
is_rest_behind count posts = (posts % 100 == 0) || (posts == count)

abbrev pub rests : Bool → List WorldStep
rests rest = if rest then step.Rest 1000 ∷ [] else []

-- so many posts, the first of this label, and the rests behind them
unfoldable pub posts_from : ℕ → ℕ → ℕ → ℕ → List WorldStep
posts_from seed count label zero = []
posts_from seed count label (suc more) =
    post_of seed label
    ∷ (rests (is_rest_behind count (label + 1)) ++ posts_from seed count (label + 1) more)

-- two devices share a thread and have a link
abbrev pub opening_steps : List WorldStep
opening_steps =
    step.Group 0 THREAD (codes "gen") ∷ step.Group 1 THREAD (codes "gen")
    ∷ step.Share 0 1 0 level.Shared ∷ step.Share 1 0 0 level.Shared
    ∷ step.Link 0 1 mode.Interactive 1000 ∷ []

-- the steps of the world of this seed with so many posts
unfoldable pub steps_of : ℕ → ℕ → List WorldStep
steps_of seed count = opening_steps ++ posts_from seed count 0 count

-- ---- what is left of them

-- the posts of a world, and how many of them were made
pub record Position : Type 0 where
  pub seed : ℕ
  pub count : ℕ
  pub posted : ℕ

-- so many of the first steps and these posts were made, and whether a rest stands before the next
unfoldable pub steps_left : ℕ → Bool → Position → List WorldStep
steps_left opened rest posts =
    drop opened opening_steps
    ++ (rests rest ++ posts_from posts.seed posts.count posts.posted (posts.count - posts.posted))

-- what is kept of the posts that were made
pub record IsPosition (seed count posted number : ℕ) (last_of_first last_of_second : Option ℕ) :
    Type 0 where
  pub within : posted ≤ count
  pub small : count ≤ 100000
  pub drawn : number ≡ number_at seed posted
  pub first : last_of_first ≡ last_post seed 0 posted
  pub second : last_of_second ≡ last_post seed 1 posted

-- the next of some steps, and what is left behind it
abbrev pub IsNextStep : List WorldStep → List WorldStep → Option WorldStep → Type 0
IsNextStep old new None = (old ≡ []) × (new ≡ [])
IsNextStep old new (Some made) = old ≡ made ∷ new
