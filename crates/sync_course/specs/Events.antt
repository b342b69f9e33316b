-- The events of a run, and what is told of them where the outside tells it.
use Rattle.std.specs.Prelude.{◌≡◌, ◌⊎◌, ℕ, Bool, true, false, ◌||◌, if◌then◌else◌, nat_eq, List, [], ◌∷◌, ◌++◌, take, Option, None, Some}
use Rattle.std.specs.Option.{option_map}
use Rattle.outside.specs.declared.host.Heard.{Heard}
use Rattle.outside.specs.declared.host.Heard.TheVariants as answer
use Rattle.outside.specs.Disk.{RelatesTold}
use Rattle.outside.specs.Faults.{one_more}
use Rattle.outside.specs.Links.{Reply, got, idle, ended, HeardOn, Planned, hear_reply, hear_failure, changed_at}
use Rattle.outside.specs.Outside.{Outside}
use Rattle.outside.specs.Planned.{UsesPlan, UsesReading}
use Rattle.sync_rules.specs.declared.entries.Entry.{Entry}
use Rattle.sync_course.specs.declared.TheConstants.{PIECE_LEN}

-- A batch was committed; a link gave an answer to a call with a buffer of PIECE_LEN bytes, or that call failed; the clock was read
-- for a link; bytes were sent on a link and the call failed; or nothing happened that is told of
pub data Event : Type 0 where
  Commit : List Entry → Event
  Hear : ℕ → Reply → Event
  Miss : ℕ → Event
  Read : ℕ → ℕ → Event
  Break : ℕ → Event
  Pass : Event

-- the event of a call that asked a link, with the buffer after it
abbrev pub asked_event : ℕ → Heard → List ℕ → Event
asked_event link (answer.Got n) buf = Hear link (got (take n buf))
asked_event link answer.Idle buf = Hear link idle
asked_event link answer.End buf = Hear link ended
asked_event link answer.Failed buf = Miss link

-- batches that were committed
abbrev pub commits : List (List Entry) → List Event
commits [] = []
commits (b ∷ bs) = Commit b ∷ commits bs

-- a batch that was committed, or nothing that is told of
abbrev pub IsQuietEvent : Event → Type 0
IsQuietEvent (Commit batch) = Unit {0}
IsQuietEvent Pass = Unit {0}
IsQuietEvent _ = ⊥

abbrev pub AreQuietEvents : List Event → Type 0
AreQuietEvents [] = Unit {0}
AreQuietEvents (e ∷ es) = IsQuietEvent e × AreQuietEvents es

-- ---- what events add

-- the batches that were committed, in order
abbrev pub batches_of : List Event → List (List Entry)
batches_of [] = []
batches_of (Commit b ∷ es) = b ∷ batches_of es
batches_of (_ ∷ es) = batches_of es

-- the readings of the clock, in order
abbrev pub readings_of : List Event → List ℕ
readings_of [] = []
readings_of (Read link now ∷ es) = now ∷ readings_of es
readings_of (_ ∷ es) = readings_of es

-- what an event adds to what was heard
abbrev pub heard_by : Event → List HeardOn → List HeardOn
heard_by (Hear link reply) heard = changed_at link (hear_reply PIECE_LEN reply) heard
heard_by (Miss link) heard = changed_at link hear_failure heard
heard_by _ heard = heard

abbrev pub heard_after : List Event → List HeardOn → List HeardOn
heard_after [] heard = heard
heard_after (e ∷ es) heard = heard_after es (heard_by e heard)

-- a call of this link failed
abbrev pub is_failure : ℕ → Event → Bool
is_failure link (Miss n) = nat_eq n link
is_failure link (Break n) = nat_eq n link
is_failure link _ = false

abbrev pub has_failure : ℕ → List Event → Bool
has_failure link [] = false
has_failure link (e ∷ es) = is_failure link e || has_failure link es

-- a count of this link's failures behind these events: one more for each of its calls that failed
abbrev pub failures_after : ℕ → List Event → ℕ → ℕ
failures_after link [] count = count
failures_after link (e ∷ es) count = failures_after link es (if is_failure link e then one_more count else count)

-- ---- what is told

-- readings that are told afterwards were told before, and these came behind them
abbrev pub GrowsBy : List ℕ → Option (List ℕ) → Option (List ℕ) → Type 0
GrowsBy more old None = Unit {0}
GrowsBy more None (Some new) = ⊥
GrowsBy more (Some old) (Some new) = new ≡ old ++ more

-- ---- what is left of what was planned

-- something changes event by event
abbrev pub ChangesThrough : {A : Type 0} → (Event → A → A → Type 0) → List Event → A → A → Type 0
ChangesThrough step [] old new = new ≡ old
ChangesThrough {A} step (e ∷ es) old new = (next : A) × step e old next × ChangesThrough step es next new

-- an answer is what its link's plan had next, which is used up; so is a failure, or no plan had it
abbrev pub PlansAfter : Event → (ℕ → List Planned) → (ℕ → List Planned) → Type 0
PlansAfter (Hear link reply) old new = UsesPlan link PIECE_LEN (Some reply) old new
PlansAfter (Miss link) old new = UsesPlan link PIECE_LEN None old new ⊎ (new ≡ old)
PlansAfter _ old new = new ≡ old

-- a reading is the next of those to come
abbrev pub UpcomingAfter : Event → List ℕ → List ℕ → Type 0
UpcomingAfter (Read link now) old new = UsesReading now old new
UpcomingAfter _ old new = new ≡ old

-- What an object tells after these events: what was heard and the readings grew by what the events say, wherever they are told,
-- and the count of a link's failures rose by one for each event that says that a call of it failed; and where it tells what its links and its
-- clock are yet going to answer, the events used that up in order, and the rest is left.
pub record TellsEvents (events : List Event) (old new : Outside) : Type 0 where
  pub heard : new.links.heard ≡ option_map (heard_after events) old.links.heard
  pub readings : GrowsBy (readings_of events) old.links.readings new.links.readings
  pub faults : (link : ℕ) → new.links.faults link ≡ failures_after link events (old.links.faults link)
  pub planned : RelatesTold (ChangesThrough PlansAfter events) old.links.planned new.links.planned
  pub upcoming : RelatesTold (ChangesThrough UpcomingAfter events) old.links.upcoming new.links.upcoming
