-- A post, read part by part.
use Rattle.std.proofs.Common.{◌≡◌, ℕ, List, codes, refl, ◌∙◌, ap, Option, Some, None, option_map}
use Rattle.world_scripts.specs.Answers.{post_with}
use Rattle.world_scripts.specs.Forms.{LineLeft, and_then, beside, form_in}
use Rattle.world_scripts.specs.Forms.{labels_in, over, post_front, says, step_forms, text_in}
use Rattle.world_scripts.specs.Forms.{word_in}
use Rattle.world_scripts.specs.declared.step.WorldStep.{WorldStep}
use Rattle.world_scripts.proofs.WordLemmas.{read_word, no_word}

abbrev PostOf : Type 0
PostOf = List ℕ → List ℕ → WorldStep

-- what a post says whose front was read, or not
abbrev behind_front : Option (PostOf × LineLeft) → Option WorldStep
behind_front front =
    and_then
    (and_then
    (and_then front (λ made left. and_then (word_in labels_in left) (λ parents left.
    says (made parents) left))) (λ made left. beside (option_map made (text_in left)) None)) over

post_is : (left : LineLeft) → form_in step_forms (codes "post") left ≡ behind_front
    (post_front left)
unfolding step_forms
post_is left = refl

pub no_place : (left : LineLeft) → post_front left ≡ None
    → form_in step_forms (codes "post") left ≡ None
no_place left is = post_is left ∙ ap behind_front is

-- what it says behind the word of its parents' labels, as far as they are labels
abbrev behind_labels : PostOf → Option (List ℕ × LineLeft) → Option WorldStep
behind_labels made labels =
    and_then
    (and_then (and_then labels (λ parents left. says (made parents) left)) (λ made left.
    beside (option_map made (text_in left)) None)) over

behind_place : (left : LineLeft) (made : PostOf) (after : LineLeft)
    → post_front left ≡ Some (made, after)
    → form_in step_forms (codes "post") left ≡ behind_labels made (word_in labels_in after)
behind_place left made after is = post_is left ∙ ap behind_front is

pub no_parents : (left : LineLeft) (made : PostOf) (after : LineLeft)
    → post_front left ≡ Some (made, after) → word_in Some after ≡ None
    → form_in step_forms (codes "post") left ≡ None
no_parents left made after is none =
    behind_place left made after is ∙ ap (behind_labels made) (no_word labels_in after none)

behind_parents : (left : LineLeft) (made : PostOf) (after : LineLeft) (word : List ℕ)
    (rest : LineLeft) → post_front left ≡ Some (made, after)
    → word_in Some after ≡ Some (word, rest)
    → form_in step_forms (codes "post") left ≡ behind_labels made (beside (labels_in word) rest)
behind_parents left made after word rest is there =
    behind_place left made after is
    ∙ ap (behind_labels made) (read_word labels_in after word rest there)

missing : (made : PostOf) (labels : Option (List ℕ)) (rest : LineLeft) → text_in rest ≡ None
    → behind_labels made (beside labels rest) ≡ None
missing made None rest none = refl
missing made (Some labels) rest none =
    ap (λ (o : Option (List ℕ)). and_then (beside (option_map (made labels) o) None) over) none

pub no_text : (left : LineLeft) (made : PostOf) (after : LineLeft) (word : List ℕ)
    (rest : LineLeft) → post_front left ≡ Some (made, after)
    → word_in Some after ≡ Some (word, rest) → text_in rest ≡ None
    → form_in step_forms (codes "post") left ≡ None
no_text left made after word rest is there none =
    behind_parents left made after word rest is there ∙ missing made (labels_in word) rest none

whole : (made : PostOf) (labels : Option (List ℕ)) (rest : LineLeft) (text : List ℕ)
    → text_in rest ≡ Some text
    → behind_labels made (beside labels rest) ≡ option_map (λ parents. made parents text) labels
whole made None rest text is = refl
whole made (Some labels) rest text is =
    ap (λ (o : Option (List ℕ)). and_then (beside (option_map (made labels) o) None) over) is

pub all_parts : (left : LineLeft) (made : PostOf) (after : LineLeft) (word : List ℕ)
    (rest : LineLeft) (text : List ℕ) → post_front left ≡ Some (made, after)
    → word_in Some after ≡ Some (word, rest) → text_in rest ≡ Some text
    → form_in step_forms (codes "post") left ≡ post_with made word text
all_parts left made after word rest text is there some =
    behind_parents left made after word rest is there ∙ whole made (labels_in word) rest text some
