-- A run in which one link never hears or sends anything.
use Rattle.std.specs.Prelude.{ℕ, zero, suc, false, List, [], ◌∷◌, ◌++◌}
use Rattle.outside.specs.Links.{idle}
use Rattle.sync_rules.specs.declared.entries.Entry.TheVariants as entry
use Rattle.sync_rules.specs.declared.entries.Session.{Session}
use Rattle.sync_rules.specs.Facts.{Facts}
use Rattle.sync_course.specs.declared.ends.LinkEnd.TheVariants as end
use Rattle.sync_course.specs.Events.{Event, Commit, Hear, Pass, Read}
use Rattle.sync_course.specs.Links.{link_of}
use Rattle.sync_course.specs.Turns.{Between, Ended, Place}

-- the events before the first turn
abbrev pub greeting : Session → List Event
greeting s = Pass ∷ Commit (entry.Session s ∷ []) ∷ Pass ∷ Pass ∷ []

-- the events of a turn of one link that is Idle, at this reading
abbrev pub idle_turn : ℕ → List Event
idle_turn now = Pass ∷ Hear 0 idle ∷ Read 0 now ∷ Pass ∷ Pass ∷ Pass ∷ []

-- so many of them
abbrev pub idle_turns : ℕ → ℕ → List Event
idle_turns now zero = []
idle_turns now (suc n) = idle_turns now n ++ idle_turn now

-- all events of such a run
abbrev pub idle_run : Session → ℕ → ℕ → List Event
idle_run s now turns = greeting s ++ (idle_turns now turns ++ Pass ∷ [])

-- the place of such a run behind so many turns
abbrev pub idle_place : Session → ℕ → Facts → Place
idle_place s n f = record { stage = Between; links = link_of s end.Going ∷ []; moved = false; still = n; made = n; facts = f }

abbrev pub idle_end : Session → ℕ → Facts → Place
idle_end s n f = record (idle_place s n f) { stage = Ended }
