-- What a reading of a script answers.
use Rattle.std.specs.Prelude.{◌≡◌, ℕ, ◌+◌, ◌≤◌, List, [], ◌∷◌, length, Option, Some, None, Result}
use Rattle.std.specs.Prelude.{Ok}
use Rattle.std.specs.Prelude.{Err}
use Rattle.std.specs.Borrow.{Bor}
use Rattle.world_scripts.specs.Cuts.{lines}
use Rattle.world_scripts.specs.Forms.{line_in}
use Rattle.world_scripts.specs.Courses.{ScriptCourse, after_line, course, Opening, Bad}
use Rattle.world_scripts.specs.Courses.{Opens, opening, opening_by}
use Rattle.world_scripts.specs.declared.fault.ScriptFault.{ScriptFault}
use Rattle.world_scripts.specs.declared.fault.ScriptFault.TheVariants as fault
use Rattle.world_scripts.specs.declared.script.Opened.{Opened}
use Rattle.world_scripts.specs.declared.step.Action.{Action}

-- nothing more is to be done, and no line is bad
abbrev pub over : ScriptCourse
over = record { actions = []; bad = None }

-- a line is bad
abbrev pub bad_at : ℕ → ScriptCourse
bad_at number = record { actions = []; bad = Some number }

-- the first line was read, and what follows it is left; or a line is bad
abbrev pub IsScriptOpened : Opening → Result Opened ScriptFault → Type 0
IsScriptOpened said (Ok opened) = said ≡ Opens opened.devices opened.script
IsScriptOpened said (Err (fault.BadLine number)) = said ≡ Bad number
IsScriptOpened said (Err fault.Memory) = Unit {0}

-- the next action was read, and the rest is left; or there is none, or a line is bad. In these
-- cases, and for want of memory, all is left
abbrev pub ReadsNextAction : ScriptCourse → Result (Option (ℕ × Action)) ScriptFault → ScriptCourse
    → Type 0
ReadsNextAction old (Ok (Some x)) new = old ≡ record { actions = x ∷ new.actions; bad = new.bad }
ReadsNextAction old (Ok None) new = (old ≡ over) × (new ≡ old)
ReadsNextAction old (Err (fault.BadLine number)) new = (old ≡ bad_at number) × (new ≡ old)
ReadsNextAction old (Err fault.Memory) new = new ≡ old

-- a line of this number that is not empty, and then what is behind it
pub record HasNextLine (number : ℕ) (script : List ℕ) (n : ℕ) (line behind : List ℕ) : Type 0 where
  pub of_course :
      course number (lines script) ≡ after_line (line_in line) n (course (n + 1) (lines behind))
  pub of_opening :
      opening number (lines script) ≡ opening_by (line_in line) n (course (n + 1) (lines behind))
  pub within : n + 1 + length behind ≤ number + length script

-- no line is left that is not empty
pub record HasNoLine (number : ℕ) (script : List ℕ) : Type 0 where
  pub of_course : course number (lines script) ≡ over
  pub of_opening : opening number (lines script) ≡ Bad 1

abbrev pub ReadsNextLine : ℕ → List ℕ → Option (ℕ × Bor (List ℕ) × Bor (List ℕ)) → Type 0
ReadsNextLine number script None = HasNoLine number script
ReadsNextLine number script (Some x) = HasNextLine number script x.0 x.1.now x.2.now
