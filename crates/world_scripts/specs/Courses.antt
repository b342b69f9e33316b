-- What a whole script says by itself.
use Rattle.std.specs.Prelude.{ℕ, ◌+◌, ◌==◌, if◌then◌else◌, List, [], ◌∷◌, length, Option}
use Rattle.std.specs.Prelude.{Some, None}
use Rattle.world_scripts.specs.Cuts.{lines}
use Rattle.world_scripts.specs.Forms.{line_in}
use Rattle.world_scripts.specs.declared.step.Action.{Action}
use Rattle.world_scripts.specs.declared.step.Line.{Line}
use Rattle.world_scripts.specs.declared.step.Line.TheVariants as line

-- what is to be done, each with the number of its line, up to the first line that is bad by itself;
-- and the number of that line, if there is one
pub record ScriptCourse : Type 0 where
  pub actions : List (ℕ × Action)
  pub bad : Option ℕ

-- a line that says this stands before a course
abbrev pub after_line : Option Line → ℕ → ScriptCourse → ScriptCourse
after_line (Some (line.Does action)) number course =
    record { actions = (number, action) ∷ course.actions; bad = course.bad }
after_line _ number course = record { actions = []; bad = Some number }

-- the course of these lines, the first of which has this number. Empty lines are skipped and
-- counted
unfoldable pub course : ℕ → List (List ℕ) → ScriptCourse
course number [] = record { actions = []; bad = None }
course number (line ∷ lines) =
    if length line == 0 then course (number + 1) lines
    else after_line (line_in line) number (course (number + 1) lines)

-- a script says how many devices there are, and what follows is a course; or a line is bad
pub data Opening : Type 0 where
  Bad : ℕ → Opening
  Opens : ℕ → ScriptCourse → Opening

-- a first line that says this stands before a course
abbrev pub opening_by : Option Line → ℕ → ScriptCourse → Opening
opening_by (Some (line.Devices n)) number course = Opens n course
opening_by _ number course = Bad number

-- the first line that is not empty says how many devices there are; where there is none, line 1 is
-- bad
unfoldable pub opening : ℕ → List (List ℕ) → Opening
opening number [] = Bad 1
opening number (line ∷ lines) =
    if length line == 0 then opening (number + 1) lines
    else opening_by (line_in line) number (course (number + 1) lines)

-- what a whole script says
abbrev pub said : List ℕ → Opening
said script = opening 1 (lines script)
