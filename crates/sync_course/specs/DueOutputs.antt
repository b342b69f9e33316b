-- The outputs of a course, each due at its place.
use Rattle.std.specs.Prelude.{◌≡◌, ℕ, ◌+◌, List, Option, Some}
use Rattle.sync_rules.specs.declared.entries.Out.{Out}
use Rattle.sync_rules.specs.Clients.{Meaning}
use Rattle.sync_rules.specs.Facts.{Facts, session_at}
use Rattle.sync_rules.specs.Legal.{IsDue}
use Rattle.sync_course.specs.Events.{Event}
use Rattle.sync_course.specs.Paths.{Path}
use Rattle.sync_course.specs.Turns.{Place, RunStep, Terms}
use Rattle.sync_course.specs.Quiet.{last_reading}

-- an output of a course, at its place: it is one of the session of a link, and due by the facts there, at the last reading that
-- was made for that link
pub record IsDueAt (clients : Meaning) (first : ℕ) (readings : ℕ → Option ℕ) (f : Facts) (session now : ℕ) (what : Out) : Type 0 where
  pub link : ℕ
  pub on : session ≡ first + link
  pub read : readings link ≡ Some now
  pub is_due : IsDue clients f (session_at f.sessions session) now what

-- the place of an output on a path from a place where no link has its turn
pub record OutIsDue (clients : Meaning) (terms : Terms) (from : Place) (before : List Event) (session now : ℕ) (what : Out) : Type 0 where
  pub at : Place
  pub leads : Path (RunStep clients terms) from before at
  pub is_due : IsDueAt clients terms.first (λ i. last_reading i before) at.facts session now what
