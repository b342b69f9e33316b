-- A course that is played action by action.
use Rattle.std.proofs.Common.{◌≡◌, ℕ, List, [], ◌∷◌, refl, sym, ap, subst, ◌∙◌, inl, inr, Option}
use Rattle.std.proofs.Common.{Some, None, Result, Ok, Err}
use Rattle.std.specs.Result.{IsErrAnd}
use Rattle.sync_words.specs.declared.outcome.Outcome.{Outcome}
use Rattle.sync_words.specs.declared.outcome.Outcome.TheVariants as outcome
use Rattle.sync_world.specs.Playing.{IsFirst, AnswersAction, PlaysOn, CourseComesTo, ActsAt}
use Rattle.sync_world.specs.Playing.{ScriptComes, came_at, came_unread, course_of}
use Rattle.sync_world.specs.declared.player.Player.{Player}
use Rattle.world_devices.specs.declared.stop.StepFault.{StepFault}
use Rattle.world_devices.specs.declared.stop.StepFault.TheVariants as fault
use Rattle.world_scripts.specs.Courses.{ScriptCourse, Opening, Bad, Opens}
use Rattle.world_scripts.specs.Generator.{IsNextStep}
use Rattle.world_scripts.specs.Scripts.{ReadsNextAction, bad_at, over}
use Rattle.world_scripts.specs.declared.fault.ScriptFault.{ScriptFault}
use Rattle.world_scripts.specs.declared.fault.ScriptFault.TheVariants as unread
use Rattle.world_scripts.specs.declared.step.Action.{Action}
use Rattle.world_scripts.specs.declared.step.Action.TheVariants as action
use Rattle.world_scripts.specs.declared.step.WorldStep.{WorldStep}

-- what is left of a course comes to this, from a player on
abbrev PlaysLeft : ScriptCourse → Player → Result Player Outcome → Type 0
PlaysLeft left now result = PlaysOn left.actions left.bad now result

-- what is left of a course comes to what the whole comes to
pub record Playing (devices : ℕ) (course left : ScriptCourse) (now : Player) : Type 0 where
  pub goes : (result : Result Player Outcome) → PlaysLeft left now result
      → CourseComesTo devices course result
  pub same : now.devices ≡ devices

-- an action with its line stands before a course
abbrev pub behind : ℕ → Action → ScriptCourse → ScriptCourse
behind line it left = record { actions = (line, it) ∷ left.actions; bad = left.bad }

same_devices : (it : Action) (p q : Player) → AnswersAction it p q (Ok tt) → q.devices ≡ p.devices
same_devices (action.Step made) p q acts = ap (λ (r : Player). r.devices) acts.1
same_devices (action.Show device) p q acts = ap (λ (r : Player). r.devices) acts.1

from_first : (devices : ℕ) (course : ScriptCourse) (first : Player) → IsFirst devices first
    → (result : Result Player Outcome) → PlaysLeft course first result
    → CourseComesTo devices course result
from_first devices course first begins (Ok to) plays = (first, begins, plays)
from_first devices course first begins (Err outcome.Memory) plays = tt
from_first devices course first begins (Err _) plays = (first, begins, plays)

pub began : (devices : ℕ) (course : ScriptCourse) (first : Player) → IsFirst devices first
    → Playing devices course course first
began devices course first begins =
    record { goes = from_first devices course first begins; same = begins.counted }

module _ (devices : ℕ) (course left : ScriptCourse) (now : Player)
    (plays : Playing devices course left now) where
  goes_as : (read : ScriptCourse) (result : Result Player Outcome) → left ≡ read
      → PlaysLeft read now result → CourseComesTo devices course result
  goes_as read result is on =
      plays.goes result (subst (λ (c : ScriptCourse). PlaysLeft c now result) (sym is) on)

  pub went_on : (line : ℕ) (it : Action) (left' : ScriptCourse) (next : Player)
      → left ≡ behind line it left' → AnswersAction it now next (Ok tt)
      → Playing devices course left' next
  went_on line it left' next is acts = record {
    goes = λ result on. goes_as (behind line it left') result is (next, inl (acts, on));
    same = same_devices it now next acts ∙ plays.same;
  }

  pub came_over : left ≡ over → CourseComesTo devices course (Ok now)
  came_over is = goes_as over (Ok now) is refl

  pub came_bad : (line : ℕ) → left ≡ bad_at line → CourseComesTo devices course
      (Err (outcome.BadScript line))
  came_bad line is = goes_as (bad_at line) (Err (outcome.BadScript line)) is refl

  pub stopped : (line : ℕ) (it : Action) (left' : ScriptCourse) (next : Player) (came : Outcome)
      → left ≡ behind line it left' → ActsAt line it now next (Err came)
      → CourseComesTo devices course (Err came)
  stopped line it left' next came is acts =
      goes_as (behind line it left') (Err came) is
      (next, inr (acts.0, acts.1, ap (λ (o : Outcome). Err o) acts.2))

-- ---- what is no fault of a course

-- what a course comes to that is not done
abbrev pub IsOfCourse : Outcome → Type 0
IsOfCourse (outcome.BadScript line) = Unit {0}
IsOfCourse outcome.Full = Unit {0}
IsOfCourse outcome.Memory = Unit {0}
IsOfCourse _ = ⊥

of_line : (line : ℕ) (why : StepFault) → IsOfCourse (came_at line why)
of_line line fault.Refused = tt
of_line line fault.Full = tt
of_line line fault.Memory = tt

of_same : (came to : Outcome) → ◌≡◌ {A = Result Player Outcome} (Err came) (Err to)
    → IsOfCourse to → IsOfCourse came
of_same came to is of = let same : came ≡ to = cc in subst IsOfCourse (sym same) of

on_fault : (actions : List (ℕ × Action)) (bad : Option ℕ) (now : Player) (came : Outcome)
    → PlaysOn actions bad now (Err came) → IsOfCourse came
on_fault [] None now came is = absurd (cc is)
on_fault [] (Some line) now came is = of_same came (outcome.BadScript line) is tt
on_fault (x ∷ more) bad now came plays =
    elim plays.1 [
      | inl (acts, on) ↦ on_fault more bad plays.0 came on
      | inr (why, acts, is) ↦ of_same came (came_at x.0 why) is (of_line x.0 why)
    ]

course_fault : (devices : ℕ) (course : ScriptCourse) (came : Outcome)
    → CourseComesTo devices course (Err came) → IsOfCourse came
course_fault devices course outcome.Memory comes = tt
course_fault devices course _ comes = on_fault course.actions course.bad comes.0 _ comes.2

pub script_fault : (what : Opening) (came : Outcome) → ScriptComes what (Err came)
    → IsOfCourse came
script_fault (Opens devices course) came comes = course_fault devices course came comes
script_fault (Bad line) (outcome.BadScript at) comes = tt
script_fault (Bad line) outcome.Memory comes = tt
script_fault (Bad line) _ comes = absurd comes

-- ---- lines that are read

-- what is left behind the action of a line that was read
pub goes_some : (old new : ScriptCourse) (read : Option (ℕ × Action)) (line : ℕ) (it : Action)
    → read ≡ Some (line, it) → ReadsNextAction old (Ok read) new → old ≡ behind line it new
goes_some old new read line it is goes =
    subst (λ (o : Option (ℕ × Action)). ReadsNextAction old (Ok o) new) is goes

-- no line is left
pub goes_none : (old new : ScriptCourse) (read : Option (ℕ × Action)) → read ≡ None
    → ReadsNextAction old (Ok read) new → old ≡ over
goes_none old new read is goes = let none : ReadsNextAction old (Ok None) new =
    subst (λ (o : Option (ℕ × Action)). ReadsNextAction old (Ok o) new) is goes in none.0

-- the next line was not read
pub goes_wrong : (devices : ℕ) (course left left' : ScriptCourse) (now : Player) (why : ScriptFault)
    (came : Outcome) → Playing devices course left now → ReadsNextAction left (Err why) left'
    → came ≡ came_unread why → CourseComesTo devices course (Err came)
goes_wrong devices course left left' now (unread.BadLine line) came plays goes is =
    subst (λ (o : Outcome). CourseComesTo devices course (Err o)) (sym is)
    (came_bad devices course left now plays line goes.0)
goes_wrong devices course left left' now unread.Memory came plays goes is =
    subst (λ (o : Outcome). CourseComesTo devices course (Err o)) (sym is) tt

-- a fault that is handed on
pub comes_on : (devices : ℕ) (course : ScriptCourse) (result : Result Player Outcome)
    (came : Outcome) → IsErrAnd result (λ o. o ≡ came) → CourseComesTo devices course (Err came)
    → CourseComesTo devices course result
comes_on devices course (Ok to) came is comes = absurd is
comes_on devices course (Err o) came is comes =
    subst (λ (p : Outcome). CourseComesTo devices course (Err p)) (sym is) comes

-- the same of the steps of a list
pub next_of : (old new : List WorldStep) (read : Option WorldStep) (made : WorldStep)
    → read ≡ Some made → IsNextStep old new read
    → course_of old ≡ behind 1 (action.Step made) (course_of new)
next_of old new read made is next =
    let first : old ≡ made ∷ new = subst (λ (o : Option WorldStep). IsNextStep old new o) is next in
    ap (λ (steps : List WorldStep). course_of steps) first

pub none_of : (old new : List WorldStep) (read : Option WorldStep) → read ≡ None
    → IsNextStep old new read → course_of old ≡ over
none_of old new read is next =
    let none : IsNextStep old new None =
    subst (λ (o : Option WorldStep). IsNextStep old new o) is next in
    ap (λ (steps : List WorldStep). course_of steps) none.0
