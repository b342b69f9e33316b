-- What becomes of a world that a script is played in.
use Rattle.std.specs.Prelude.{◌≡◌, ◌⊎◌, ℕ, ◌<◌, ◌≤◌, true, false, List, [], ◌∷◌, map, replicate}
use Rattle.std.specs.Prelude.{Option, Some, None, Result, Ok, Err, slice_set}
use Rattle.sync_words.specs.declared.outcome.Outcome.{Outcome}
use Rattle.sync_words.specs.declared.outcome.Outcome.TheVariants as outcome
use Rattle.sync_world.specs.Beginning.{IsNewStage}
use Rattle.sync_world.specs.Stepping.{HasStepped}
use Rattle.sync_world.specs.declared.player.Player.{Player}
use Rattle.world_devices.specs.declared.stop.StepFault.{StepFault}
use Rattle.world_devices.specs.declared.stop.StepFault.TheVariants as fault
use Rattle.world_scripts.specs.Courses.{ScriptCourse, Opening, Bad, Opens}
use Rattle.world_scripts.specs.Generator.{steps_of}
use Rattle.world_scripts.specs.declared.fault.ScriptFault.{ScriptFault}
use Rattle.world_scripts.specs.declared.fault.ScriptFault.TheVariants as unread
use Rattle.world_scripts.specs.declared.generator.TheConstants.{GENERATED_DEVICES}
use Rattle.world_scripts.specs.declared.step.Action.{Action}
use Rattle.world_scripts.specs.declared.step.Action.TheVariants as action
use Rattle.world_scripts.specs.declared.step.WorldStep.{WorldStep}

-- before the first line: a new world of so many devices, none of which is to be shown
pub record IsFirst (count : ℕ) (p : Player) : Type 0 where
  pub world : IsNewStage count p.world
  pub counted : p.devices ≡ count
  pub unshown : p.shown ≡ replicate 8 false

-- An action was made and answered so: a step is made of the world, and nothing else changes; or a
-- device is marked, which is refused exactly where there is no device of this number.
abbrev pub AnswersAction : Action → Player → Player → Result (Unit {0}) StepFault → Type 0
AnswersAction (action.Step made) old new result =
    HasStepped made old.world new.world result × (new ≡ record old { world = new.world })
AnswersAction (action.Show device) old new (Ok _) =
    (device < old.devices) × (new ≡ record old { shown = slice_set old.shown device true })
AnswersAction (action.Show device) old new (Err fault.Refused) =
    (old.devices ≤ device) × (new ≡ old)
AnswersAction (action.Show device) old new (Err _) = ⊥

-- what the fault of the action of a line comes to
abbrev pub came_at : (line : ℕ) → StepFault → Outcome
came_at line fault.Refused = outcome.BadScript line
came_at line fault.Full = outcome.Full
came_at line fault.Memory = outcome.Memory

-- What these actions come to, made one after another from a player on, and behind them the line
-- that is bad by itself, if there is one: the player that all of them lead to; or the fault of the
-- first one that fails, which names its line where it is refused; or that bad line is named.
abbrev pub PlaysOn : List (ℕ × Action) → (bad : Option ℕ) → Player → Result Player Outcome → Type 0
PlaysOn [] None now result = result ≡ Ok now
PlaysOn [] (Some line) now result = result ≡ Err (outcome.BadScript line)
PlaysOn (x ∷ more) bad now result =
    (next : Player) × ((AnswersAction x.1 now next (Ok tt) × PlaysOn more bad next result)
    ⊎ ((why : StepFault) × AnswersAction x.1 now next (Err why)
    × (result ≡ Err (came_at x.0 why))))

-- what a course comes to in a new world of so many devices; memory may be wanting
abbrev pub CourseComesTo : (devices : ℕ) → ScriptCourse → Result Player Outcome → Type 0
CourseComesTo devices course (Err outcome.Memory) = Unit {0}
CourseComesTo devices course result =
    (first : Player) × IsFirst devices first × PlaysOn course.actions course.bad first result

-- what a script comes to that says this
abbrev pub ScriptComes : Opening → Result Player Outcome → Type 0
ScriptComes (Opens devices course) result = CourseComesTo devices course result
ScriptComes (Bad line) (Err (outcome.BadScript at)) = at ≡ line
ScriptComes (Bad line) (Err outcome.Memory) = Unit {0}
ScriptComes (Bad line) _ = ⊥

-- these steps, which have no lines: each stands for line 1
abbrev pub course_of : List WorldStep → ScriptCourse
course_of made = record { actions = map (λ (s : WorldStep). (1, action.Step s)) made; bad = None }

-- the world that this seed makes with so many posts
abbrev pub made_by : (seed count : ℕ) → Opening
made_by seed count = Opens GENERATED_DEVICES (course_of (steps_of seed count))

-- the action of a line was made; what a fault of it comes to
abbrev pub ActsAt : (line : ℕ) → Action → Player → Player → Result (Unit {0}) Outcome → Type 0
ActsAt line it old new (Ok _) = AnswersAction it old new (Ok tt)
ActsAt line it old new (Err came) =
    (why : StepFault) × AnswersAction it old new (Err why) × (came ≡ came_at line why)

-- what a line comes to that was not read
abbrev pub came_unread : ScriptFault → Outcome
came_unread (unread.BadLine line) = outcome.BadScript line
came_unread unread.Memory = outcome.Memory
