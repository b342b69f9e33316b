-- The lines of the error output.
use Rattle.std.specs.Prelude.{ℕ, Bool, true, false, List, [], ◌∷◌, ◌++◌, codes}
use Rattle.std.specs.Fmt.{decimal}
use Rattle.record_grammar.specs.declared.front.Reason.{Reason}
use Rattle.record_grammar.specs.declared.front.Reason.TheVariants as reason
use Rattle.sync_course.specs.declared.ends.LinkEnd.{LinkEnd}
use Rattle.sync_course.specs.declared.ends.LinkEnd.TheVariants as end
use Rattle.sync_rules.specs.declared.states.Refused.{Refused}
use Rattle.sync_rules.specs.declared.states.Refused.TheVariants as refused
use Rattle.sync_words.specs.declared.status.Status.{Status}
use Rattle.sync_words.specs.declared.status.Status.TheVariants as status

abbrev pub usage_text : ℕ → List ℕ
usage_text place = codes "usage: word " ++ (decimal place ++ 10 ∷ [])

-- what came to a node is no request
abbrev pub no_request_text : List ℕ
no_request_text = codes "usage: no request\n"

-- what a node can't do, since it holds the store; and what only a node that serves can do
abbrev pub node_holds_text : List ℕ
node_holds_text = codes "refused: a node holds the store\n"

abbrev pub no_node_text : List ℕ
no_node_text = codes "refused: no node serves\n"

-- a node that did not answer whether it hears, so that nothing was asked of it
abbrev pub node_busy_text : List ℕ
node_busy_text = codes "refused: the node is busy\n"

-- why a command is refused, in words
abbrev pub refusal : Refused → List ℕ
refusal refused.UnknownClient = codes "unknown client"
refusal refused.TooManyContacts = codes "too many contacts"
refusal refused.GroupExists = codes "group exists"
refusal refused.TooManyGroups = codes "too many groups"
refusal refused.UnknownContact = codes "unknown contact"
refusal refused.UnknownGroup = codes "unknown group"
refusal refused.EmptyBody = codes "empty body"
refusal refused.BodyTooLong = codes "body too long"
refusal refused.AlreadyHeld = codes "already held"
refusal refused.InvalidPost = codes "invalid post"
refusal refused.DependencyNotDelivered = codes "dependency not delivered"
refusal refused.UnknownMessage = codes "unknown message"
refusal refused.TooManySessions = codes "too many sessions"
refusal refused.NotSharing = codes "not a sharing group"

abbrev pub refused_text : Refused → List ℕ
refused_text why = codes "refused: " ++ (refusal why ++ 10 ∷ [])

abbrev pub damaged_text : (file at : ℕ) → List ℕ
damaged_text file at = codes "damaged: file " ++ (decimal file ++ (codes " at " ++ (decimal at ++ 10 ∷ [])))

-- the statuses whose line says nothing but what they are
abbrev pub is_plain : Status → Bool
is_plain status.NoStore = true
is_plain status.Exists = true
is_plain status.DiskFault = true
is_plain status.ReadFault = true
is_plain status.Full = true
is_plain status.Memory = true
is_plain status.WriteFault = true
is_plain status.TooMuch = true
is_plain status.NoAnswer = true
is_plain _ = false

abbrev pub plain_text : Status → List ℕ
plain_text status.NoStore = codes "no store\n"
plain_text status.Exists = codes "store exists\n"
plain_text status.DiskFault = codes "disk fault\n"
plain_text status.ReadFault = codes "read fault\n"
plain_text status.Full = codes "full\n"
plain_text status.Memory = codes "out of memory\n"
plain_text status.WriteFault = codes "write fault\n"
plain_text status.TooMuch = codes "input too long\n"
plain_text status.NoAnswer = codes "no answer\n"
plain_text _ = []

-- why something is no record, in words
abbrev pub reason_text : Reason → List ℕ
reason_text reason.WrongVersion = codes "wrong version"
reason_text reason.TooLong = codes "too long"
reason_text reason.EmptyIds = codes "empty id list"
reason_text reason.RaggedIds = codes "ragged id list"
reason_text reason.ShortMessage = codes "short message"
reason_text reason.BodyTooLong = codes "body too long"
reason_text reason.BadTimestamp = codes "bad timestamp"
reason_text reason.BadVersions = codes "bad versions"
reason_text reason.BadNonce = codes "bad nonce"

abbrev pub bad_record_text : ℕ → Reason → List ℕ
bad_record_text place why = codes "bad record at " ++ (decimal place ++ (codes ": " ++ (reason_text why ++ 10 ∷ [])))

abbrev pub inside_text : ℕ → List ℕ
inside_text place = codes "ended inside a record at " ++ (decimal place ++ 10 ∷ [])

-- a peer that lists its versions at this place, none of them this side's
abbrev pub no_version_text : ℕ → List ℕ
no_version_text place = codes "no common version at " ++ (decimal place ++ 10 ∷ [])

abbrev pub script_text : ℕ → List ℕ
script_text line = codes "bad script: line " ++ (decimal line ++ 10 ∷ [])

-- How a link stood at the end of a run. One that is still asked is quiet where the run was over; one that is not closed is
-- unfinished where it was not.
abbrev pub ending_text : (over : Bool) → LinkEnd → List ℕ
ending_text true end.Going = codes "quiet\n"
ending_text false end.Going = codes "unfinished\n"
ending_text true end.Clean = codes "clean\n"
ending_text false end.Clean = codes "unfinished\n"
ending_text over end.Redundant = codes "redundant\n"
ending_text over (end.Inside place) = inside_text place
ending_text over (end.Bad place why) = bad_record_text place why
ending_text over (end.NoVersion place) = no_version_text place
ending_text over end.Failed = codes "failed\n"

abbrev pub link_text : (number : ℕ) (over : Bool) → LinkEnd → List ℕ
link_text number over stands = codes "link " ++ (decimal number ++ (codes ": " ++ ending_text over stands))
