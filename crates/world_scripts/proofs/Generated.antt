-- The steps of a generated world, one after the other.
use Rattle.std.proofs.Common.{◌≡◌, ℕ, zero, suc, ◌+◌, ◌-◌, ◌/◌, ◌%◌, ◌^◌, ◌<◌, ◌≤◌, Bool}
use Rattle.std.proofs.Common.{true, false, cond, List, [], ◌∷◌, ◌++◌, length, drop, refl, sym, ◌∙◌}
use Rattle.std.proofs.Common.{ap, arith, add-one, eq-eqb, ne_eqb, Option, Some, None}
use Rattle.std.proofs.Common.{slice_get}
use Rattle.std.specs.Option.{option_to_list}
use Rattle.world_scripts.specs.Generator.{number_behind, number_at, writer, last_post, label_text}
use Rattle.world_scripts.specs.Generator.{post_of}
use Rattle.world_scripts.specs.Generator.{posts_from, rests, is_rest_behind, opening_steps}
use Rattle.world_scripts.specs.Generator.{Position, steps_left, steps_of, IsPosition}
use Rattle.world_scripts.specs.declared.step.WorldStep.{WorldStep}
use Rattle.world_scripts.specs.declared.step.WorldStep.TheVariants as step

-- ---- where the posts are

module _ (seed count posted number : ℕ) (first second : Option ℕ)
    (at : IsPosition seed count posted number first second)
    (drawn label : ℕ) (is_drawn : drawn ≡ number_behind number) (is_label : label ≡ posted) where
  draws : drawn ≡ number_behind (number_at seed posted)
  draws = is_drawn ∙ ap number_behind at.drawn

  next_number : drawn ≡ number_at seed (posted + 1)
  unfolding number_at
  next_number = draws ∙ ap (number_at seed) (sym (add-one posted))

  second_writes : (drawn / 2 ^ 33) % 2 ≡ 1 → writer seed posted ≡ 1
  unfolding writer
  second_writes h = ap (λ n. (n / 2 ^ 33) % 2) (sym draws) ∙ h

  first_writes : ((drawn / 2 ^ 33) % 2 ≡ 1 → ⊥) → writer seed posted ≡ 0
  unfolding writer
  first_writes h =
      let none : (drawn / 2 ^ 33) % 2 ≡ 0 = omega arith in
      ap (λ n. (n / 2 ^ 33) % 2) (sym draws) ∙ none

  -- the last post of the device that wrote one, and of the other
  wrote : (device : ℕ) → writer seed posted ≡ device
      → Some label ≡ last_post seed device (posted + 1)
  unfolding last_post
  wrote device is =
      ap (λ n. Some n) is_label
      ∙ ap (λ t. cond t (Some posted) (last_post seed device posted))
      (sym (eq-eqb (writer seed posted) device is))
      ∙ ap (last_post seed device) (sym (add-one posted))

  other : (device : ℕ) → (writer seed posted ≡ device → ⊥)
      → last_post seed device posted ≡ last_post seed device (posted + 1)
  unfolding last_post
  other device is =
      ap (λ t. cond t (Some posted) (last_post seed device posted))
      (sym (ne_eqb (writer seed posted) device is))
      ∙ ap (last_post seed device) (sym (add-one posted))

  pub moved_first : posted < count → ((drawn / 2 ^ 33) % 2 ≡ 1 → ⊥)
      → IsPosition seed count (posted + 1) drawn (Some label) second
  moved_first more h =
      let is : writer seed posted ≡ 0 = first_writes h in
      record {
        within = omega arith;
        small = at.small;
        drawn = next_number;
        first = wrote 0 is;
        second = at.second ∙ other 1 (λ e. absurd (omega arith));
      }

  pub moved_second : posted < count → (drawn / 2 ^ 33) % 2 ≡ 1
      → IsPosition seed count (posted + 1) drawn first (Some label)
  moved_second more h =
      let is : writer seed posted ≡ 1 = second_writes h in
      record {
        within = omega arith;
        small = at.small;
        drawn = next_number;
        first = at.first ∙ other 0 (λ e. absurd (omega arith));
        second = wrote 1 is;
      }

  pub post_first : (made : WorldStep) → ((drawn / 2 ^ 33) % 2 ≡ 1 → ⊥)
      → made ≡ step.Post 0 0 label (option_to_list first) (label_text label)
      → made ≡ post_of seed posted
  unfolding post_of
  post_first made h made_is =
      made_is ∙ (λ i. step.Post 0 0 (is_label i) (option_to_list (at.first i))
      (label_text (is_label i)))
      ∙ ap (λ d. step.Post d 0 posted (option_to_list (last_post seed d posted))
      (label_text posted))
      (sym (first_writes h))

  pub post_second : (made : WorldStep) → (drawn / 2 ^ 33) % 2 ≡ 1
      → made ≡ step.Post 1 0 label (option_to_list second) (label_text label)
      → made ≡ post_of seed posted
  unfolding post_of
  post_second made h made_is =
      made_is ∙ (λ i. step.Post 1 0 (is_label i) (option_to_list (at.second i))
      (label_text (is_label i)))
      ∙ ap (λ d. step.Post d 0 posted (option_to_list (last_post seed d posted))
      (label_text posted))
      (sym (second_writes h))

-- no post was made
pub none_posted : (seed count : ℕ) → count ≤ 100000 → IsPosition seed count 0 seed None None
unfolding number_at last_post
none_posted seed count few =
    record { within = omega arith; small = few; drawn = refl; first = refl; second = refl }

-- ---- what is left

opened_by : (xs : List WorldStep) (n : ℕ) (made : WorldStep) → slice_get xs n ≡ Some made
    → drop n xs ≡ made ∷ drop (suc n) xs
opened_by [] n made is = absurd (let e : None ≡ Some made = is in cc)
opened_by (x ∷ xs) zero made is = let same : x ≡ made = cc in ap (λ y. y ∷ xs) same
opened_by (x ∷ xs) (suc n) made is = opened_by xs n made is

-- one more of the first steps was made
pub opened_more : (opened : ℕ) (rest : Bool) (posts : Position) (made : WorldStep)
    → slice_get opening_steps opened ≡ Some made
    → steps_left opened rest posts ≡ made ∷ steps_left (opened + 1) rest posts
unfolding steps_left
opened_more opened rest posts made is =
    ap (λ front. front ++ (rests rest ++ posts_from posts.seed posts.count posts.posted
    (posts.count - posts.posted)))
    (opened_by opening_steps opened made is ∙ ap (λ n. made ∷ drop n opening_steps)
    (sym (add-one opened)))

past : (xs : List WorldStep) (n : ℕ) → length xs ≤ n → drop n xs ≡ []
past [] zero h = refl
past [] (suc n) h = refl
past (x ∷ xs) zero h = absurd (omega arith)
past (x ∷ xs) (suc n) h = past xs n (omega arith)

-- no first step is left
pub all_opened : (opened : ℕ) (rest : Bool) (posts : Position) → 5 ≤ opened
    → steps_left opened rest posts ≡ rests rest ++ posts_from posts.seed posts.count posts.posted
    (posts.count - posts.posted)
unfolding steps_left
all_opened opened rest posts h =
    ap (λ front. front ++ (rests rest ++ posts_from posts.seed posts.count posts.posted
    (posts.count - posts.posted))) (past opening_steps opened h)

-- a rest was made
pub rested : (opened : ℕ) (posts : Position) → 5 ≤ opened
    → steps_left opened true posts ≡ step.Rest 1000 ∷ steps_left opened false posts
rested opened posts h = all_opened opened true posts h
    ∙ ap (λ left. step.Rest 1000 ∷ left) (sym (all_opened opened false posts h))

-- nothing is left
pub all_made : (opened : ℕ) (posts : Position) → 5 ≤ opened → posts.posted ≡ posts.count
    → steps_left opened false posts ≡ []
unfolding posts_from
all_made opened posts h over =
    let none : posts.count - posts.posted ≡ 0 = omega arith in
    all_opened opened false posts h ∙ ap (posts_from posts.seed posts.count posts.posted) none

-- a post was made
pub posted_more : (opened : ℕ) (seed count posted : ℕ) → 5 ≤ opened → posted < count
    → steps_left opened false (record { seed = seed; count = count; posted = posted })
    ≡ post_of seed posted ∷ steps_left opened (is_rest_behind count (posted + 1))
    (record { seed = seed; count = count; posted = posted + 1 })
unfolding posts_from
posted_more opened seed count posted h more =
    let left : count - posted ≡ suc (count - (posted + 1)) = omega arith in
    all_opened opened false (record { seed = seed; count = count; posted = posted }) h
    ∙ ap (posts_from seed count posted) left
    ∙ ap (λ rest. post_of seed posted ∷ rest)
    (sym (all_opened opened (is_rest_behind count (posted + 1))
    (record { seed = seed; count = count; posted = posted + 1 }) h))

-- all steps are left at first
pub none_made : (seed count : ℕ) → steps_of seed count ≡ steps_left 0 false
    (record { seed = seed; count = count; posted = 0 })
unfolding steps_of steps_left
none_made seed count =
    let all : count ≡ count - 0 = omega arith in
    ap (λ n. opening_steps ++ posts_from seed count 0 n) all
