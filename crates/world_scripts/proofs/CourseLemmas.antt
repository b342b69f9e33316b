-- A course and an opening, one line after the other.
use Rattle.std.proofs.Common.{◌≡◌, ℕ, ◌+◌, ◌<◌, ◌≤◌, cond, List, [], ◌∷◌, length}
use Rattle.std.proofs.Common.{◌∙◌, ap, arith, eq-eqb, ne_eqb}
use Rattle.world_scripts.specs.Cuts.{lines}
use Rattle.world_scripts.specs.Forms.{line_in}
use Rattle.world_scripts.specs.Courses.{after_line, course}
use Rattle.world_scripts.specs.Courses.{opening, opening_by}
use Rattle.world_scripts.specs.Scripts.{HasNextLine, HasNoLine}

-- what is left of a script says what the whole says
pub record IsLeft (first : ℕ) (script : List ℕ) (number : ℕ) (left : List ℕ) : Type 0 where
  pub of_course : course first (lines script) ≡ course number (lines left)
  pub of_opening : opening first (lines script) ≡ opening number (lines left)
  pub within : number + length left ≤ first + length script

module _ (first : ℕ) (script : List ℕ) (number : ℕ) (left : List ℕ)
    (is : IsLeft first script number left) where
  -- an empty line is skipped
  pub skipped : (line rest : List ℕ) → lines left ≡ line ∷ lines rest → length line ≡ 0
      → length rest < length left
      → IsLeft first script (number + 1) rest
  unfolding course opening
  skipped line rest cut none less = record {
    of_course = is.of_course ∙ ap (course number) cut
        ∙ ap (λ t. cond t (course (number + 1) (lines rest))
        (after_line (line_in line) number (course (number + 1) (lines rest))))
        (eq-eqb (length line) 0 none);
    of_opening = is.of_opening ∙ ap (opening number) cut
        ∙ ap (λ t. cond t (opening (number + 1) (lines rest))
        (opening_by (line_in line) number (course (number + 1) (lines rest))))
        (eq-eqb (length line) 0 none);
    within = omega (arith, is.within);
  }

  -- another line comes
  pub found : (line rest : List ℕ) → lines left ≡ line ∷ lines rest → ¬ (length line ≡ 0)
      → length rest < length left
      → HasNextLine first script number line rest
  unfolding course opening
  found line rest cut some less = record {
    of_course = is.of_course ∙ ap (course number) cut
        ∙ ap (λ t. cond t (course (number + 1) (lines rest))
        (after_line (line_in line) number (course (number + 1) (lines rest))))
        (ne_eqb (length line) 0 some);
    of_opening = is.of_opening ∙ ap (opening number) cut
        ∙ ap (λ t. cond t (opening (number + 1) (lines rest))
        (opening_by (line_in line) number (course (number + 1) (lines rest))))
        (ne_eqb (length line) 0 some);
    within = omega (arith, is.within);
  }

  -- no line comes
  pub ended : lines left ≡ [] → HasNoLine first script
  unfolding course opening
  ended none = record {
    of_course = is.of_course
        ∙ ap (course number) none;
    of_opening = is.of_opening ∙ ap (opening number) none;
  }
