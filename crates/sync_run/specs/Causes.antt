-- Why a run of sessions ended so, whatever the outside tells.
use Rattle.std.specs.Prelude.{◌≡◌, ℕ, ◌<◌, List, [], length, Result, Ok, Err, slice_get, Some}
use Rattle.outside.specs.Faults.{CountRose}
use Rattle.outside.specs.Outside.{Outside}
use Rattle.sync_rules.specs.declared.states.Refused.TheVariants as refused
use Rattle.sync_words.specs.declared.link_words.LinkWords.{LinkWords}
use Rattle.sync_course.specs.declared.ends.LinkEnd.{LinkEnd}
use Rattle.sync_course.specs.declared.ends.LinkEnd.TheVariants as end
use Rattle.sync_course.specs.Closing.{Closing}
use Rattle.sync_words.specs.declared.outcome.Outcome.{Outcome}
use Rattle.sync_run.specs.Dialling.{FailedOnce}
use Rattle.sync_words.specs.declared.outcome.Outcome.TheVariants as outcome

-- a link is said to have failed only where the count of its failures rose
abbrev pub FailuresRose : (old new : Outside) → Closing → Type 0
FailuresRose old new closed = (i : ℕ) (stands : LinkEnd) → slice_get closed.ends i ≡ Some stands → stands ≡ end.Failed
    → CountRose (old.links.faults i) (new.links.faults i)

-- The causes of what the command comes to. A link fails by its dial, or the drawing of its nonce,
-- which is not tried again: it is the one call of a link that failed.
abbrev pub IsCaused : List LinkWords → (old new : Outside) → Result Closing Outcome → Type 0
IsCaused words old new (Ok ends) = FailuresRose old new ends
IsCaused words old new (Err outcome.DiskFault) = CountRose old.disk_faults new.disk_faults
IsCaused words old new (Err (outcome.LinkFailed link)) =
    (link < length words) × FailedOnce link old.links.faults new.links.faults
IsCaused words old new (Err outcome.NoStore) = Unit {0}
IsCaused words old new (Err (outcome.Damaged place)) = Unit {0}
IsCaused words old new (Err (outcome.Refused refused.UnknownContact)) = Unit {0}
IsCaused words old new (Err (outcome.Refused refused.TooManySessions)) = Unit {0}
IsCaused words old new (Err outcome.Full) = Unit {0}
IsCaused words old new (Err outcome.Memory) = Unit {0}
IsCaused words old new (Err _) = ⊥

-- sessions that run on links which were dialled come to one of these
abbrev pub IsOfRun : Result Closing Outcome → Type 0
IsOfRun (Ok ends) = Unit {0}
IsOfRun (Err outcome.DiskFault) = Unit {0}
IsOfRun (Err outcome.Full) = Unit {0}
IsOfRun (Err outcome.Memory) = Unit {0}
IsOfRun (Err _) = ⊥

-- the causes of what they come to
abbrev pub RunCaused : (old new : Outside) → Result Closing Outcome → Type 0
RunCaused old new result = IsOfRun result × IsCaused [] old new result
