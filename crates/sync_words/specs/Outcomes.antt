-- The status of what a command came to, and the text that the error output gets.
use Rattle.std.specs.Prelude.{ℕ, suc, Bool, true, false, List, [], ◌∷◌, ◌++◌, Result, Ok, Err}
use Rattle.sync_course.specs.Closing.{Closing}
use Rattle.sync_course.specs.declared.ends.LinkEnd.{LinkEnd}
use Rattle.sync_course.specs.declared.ends.LinkEnd.TheVariants as end
use Rattle.sync_words.specs.ErrorTexts.{bad_record_text, damaged_text, inside_text, link_text}
use Rattle.sync_words.specs.ErrorTexts.{no_node_text, no_request_text, no_version_text}
use Rattle.sync_words.specs.ErrorTexts.{node_busy_text, node_holds_text, plain_text, refused_text}
use Rattle.sync_words.specs.ErrorTexts.{script_text}
use Rattle.sync_words.specs.ErrorTexts.{usage_text}
use Rattle.sync_words.specs.declared.outcome.Outcome.{Outcome}
use Rattle.sync_words.specs.declared.outcome.Outcome.TheVariants as outcome
use Rattle.sync_words.specs.declared.status.Status.{Status}
use Rattle.sync_words.specs.declared.status.Status.TheVariants as status

-- ---- links

-- The status of a link that stood so at the end of a run: done where it ended well. One that is not
-- closed ended well where the run was over.
abbrev pub link_status : (over : Bool) → LinkEnd → Status
link_status true end.Going = status.Done
link_status false end.Going = status.TurnsUsed
link_status true end.Clean = status.Done
link_status false end.Clean = status.TurnsUsed
link_status over end.Redundant = status.Done
link_status over end.Failed = status.LinkFault
link_status over _ = status.BadStream

-- the first status, but the other where that is done
abbrev pub first_bad : Status → Status → Status
first_bad status.Done other = other
first_bad given other = given

-- the status of several links: that of the first that did not end well
abbrev pub ends_status : (over : Bool) → List LinkEnd → Status
ends_status over [] = status.Done
ends_status over (stands ∷ ends) = first_bad (link_status over stands) (ends_status over ends)

-- a line for each link, the first with this number
abbrev pub ends_text : (link : ℕ) (over : Bool) → List LinkEnd → List ℕ
ends_text link over [] = []
ends_text link over (stands ∷ ends) = link_text link over stands ++ ends_text (suc link) over ends

-- the same of a run that closed so
abbrev pub links_status : Closing → Status
links_status closed = ends_status closed.over closed.ends

abbrev pub links_text : Closing → List ℕ
links_text closed = ends_text 0 closed.over closed.ends

-- ---- outcomes

-- the status
abbrev pub status_of : Outcome → Status
status_of outcome.Done = status.Done
status_of (outcome.Usage place) = status.Usage
status_of outcome.NoRequest = status.Usage
status_of outcome.NoStore = status.NoStore
status_of outcome.Exists = status.Exists
status_of (outcome.Refused why) = status.Refused
status_of outcome.NodeHolds = status.Refused
status_of outcome.NoNode = status.Refused
status_of outcome.NodeBusy = status.Refused
status_of (outcome.Damaged place) = status.Damaged
status_of outcome.DiskFault = status.DiskFault
status_of (outcome.Links ends) = links_status ends
status_of (outcome.LinkFailed link) = status.LinkFault
status_of outcome.ReadFault = status.ReadFault
status_of (outcome.Bad place why) = status.BadStream
status_of (outcome.Inside place) = status.BadStream
status_of (outcome.NoVersion place) = status.BadStream
status_of outcome.Full = status.Full
status_of outcome.Memory = status.Memory
status_of outcome.WriteFault = status.WriteFault
status_of outcome.TooMuch = status.TooMuch
status_of (outcome.BadScript line) = status.BadScript
status_of outcome.NoAnswer = status.NoAnswer

-- what the error output gets: a line, with its line feed; nothing where all was done, and a line
-- for each link of a command that has links
abbrev pub text_of : Outcome → List ℕ
text_of (outcome.Usage place) = usage_text place
text_of outcome.NoRequest = no_request_text
text_of (outcome.Refused why) = refused_text why
text_of outcome.NodeHolds = node_holds_text
text_of outcome.NoNode = no_node_text
text_of outcome.NodeBusy = node_busy_text
text_of (outcome.Damaged place) = damaged_text place.file place.at
text_of (outcome.Links ends) = links_text ends
text_of (outcome.LinkFailed link) = link_text link false end.Failed
text_of (outcome.Bad place why) = bad_record_text place why
text_of (outcome.Inside place) = inside_text place
text_of (outcome.NoVersion place) = no_version_text place
text_of (outcome.BadScript line) = script_text line
text_of came = plain_text (status_of came)

-- what a command came to that did all, or ended before with an outcome
abbrev pub came_to : {V : Type 0} → Result V Outcome → Outcome
came_to (Ok _) = outcome.Done
came_to (Err came) = came

-- a run over links that came to its end comes to how they ended
abbrev pub links_came_to : Result Closing Outcome → Outcome
links_came_to (Ok ends) = outcome.Links ends
links_came_to (Err came) = came
