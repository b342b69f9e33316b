-- How a run ends that is over: what its last turns had, read off its events.
use Rattle.std.specs.Prelude.{◌≡◌, ℕ, suc, ◌+◌, ◌≤◌, true, cond, nat_eq, List, [], ◌∷◌, Option, None, Some, slice_get}
use Rattle.outside.specs.Links.{Reply, got, idle, ended}
use Rattle.sync_rules.specs.Clients.{Meaning}
use Rattle.sync_rules.specs.Facts.{Facts, session_at}
use Rattle.sync_rules.specs.Steps.{IsSettled}
use Rattle.sync_course.specs.Events.{Event, Hear, Miss, Read}
use Rattle.sync_course.specs.Links.{Link, is_going, is_sent_to}
use Rattle.sync_course.specs.LinkTurns.{IsNothingDue}
use Rattle.sync_course.specs.Suits.{AreRecordsTaken, keeps_all}
use Rattle.sync_course.specs.Turns.{Place, Terms}

-- the last reading that was made for a link
abbrev pub reading_by : ℕ → Option ℕ → Event → Option ℕ
reading_by link was (Read n now) = cond (nat_eq n link) (Some now) was
reading_by link was _ = was

abbrev pub reading_after : ℕ → Option ℕ → List Event → Option ℕ
reading_after link was [] = was
reading_after link was (e ∷ es) = reading_after link (reading_by link was e) es

abbrev pub last_reading : ℕ → List Event → Option ℕ
last_reading link events = reading_after link None events

-- how many of the last answers of a link were all Idle
abbrev pub idles_with : Reply → ℕ → ℕ
idles_with (got bytes) count = 0
idles_with idle count = suc count
idles_with ended count = 0

abbrev pub idles_by : ℕ → ℕ → Event → ℕ
idles_by link count (Hear n reply) = cond (nat_eq n link) (idles_with reply count) count
idles_by link count (Miss n) = cond (nat_eq n link) 0 count
idles_by link count _ = count

abbrev pub idles_after : ℕ → ℕ → List Event → ℕ
idles_after link count [] = count
idles_after link count (e ∷ es) = idles_after link (idles_by link count e) es

abbrev pub idle_answers : ℕ → List Event → ℕ
idle_answers link events = idles_after link 0 events

-- nothing is due on a session at a reading that was made
abbrev pub IsQuietAt : Meaning → Facts → ℕ → Option ℕ → Type 0
IsQuietAt clients f session None = ⊥
IsQuietAt clients f session (Some now) = IsNothingDue clients f (session_at f.sessions session) now

-- How a run stands that is over, after these events. The journal is settled. A link that is still asked answered Idle in as many
-- last turns as the run was asked for. On a link that is not closed nothing is due at the last reading that was made for it. On a
-- link whose records were not dropped all that was heard was taken, also where it was closed as redundant.
pub record EndsQuiet (clients : Meaning) (terms : Terms) (events : List Event) (p : Place) : Type 0 where
  pub settled : IsSettled clients p.facts
  pub idle : (i : ℕ) (link : Link) → slice_get p.links i ≡ Some link → is_going link.stands ≡ true → terms.quiet ≤ idle_answers i events
  pub nothing_due : (i : ℕ) (link : Link) → slice_get p.links i ≡ Some link → is_sent_to link.stands ≡ true
      → IsQuietAt clients p.facts (terms.first + i) (last_reading i events)
  pub all_taken : (i : ℕ) (link : Link) → slice_get p.links i ≡ Some link → keeps_all link.stands ≡ true → AreRecordsTaken p.facts (terms.first + i) link
