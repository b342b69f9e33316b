-- Acts: what the calls of a run did, one after the other. An event; the bytes that went out on a
-- link; or a send that failed, with all that was to go out and how many bytes of it did.
use Rattle.std.specs.Prelude.{◌≡◌, ℕ, cond, nat_eq, List, [], ◌∷◌, ◌++◌, take, slice_index_or}
use Rattle.outside.specs.Outside.{Moment}
use Rattle.outside.specs.Runs.{IsFront}
use Rattle.entry_codec.specs.Standing.{journal}
use Rattle.file_standing.specs.Standing.{stands}
use Rattle.sync_rules.specs.declared.entries.Entry.{Entry}
use Rattle.sync_rules.specs.Clients.{Meaning}
use Rattle.sync_course.specs.Events.{Break, Commit, Event, Pass, batches_of}

pub data Act : Type 0 where
  Does : Event → Act
  Send : ℕ → List ℕ → Act
  Fail : ℕ → List ℕ → ℕ → Act

-- the event that is told of an act
abbrev pub event_of : Act → Event
event_of (Does e) = e
event_of (Send link bytes) = Pass
event_of (Fail link bytes count) = Break link

abbrev pub events_of : List Act → List Event
events_of [] = []
events_of (a ∷ acts) = event_of a ∷ events_of acts

-- batches that were committed, as acts
abbrev pub commit_acts : List (List Entry) → List Act
commit_acts [] = []
commit_acts (b ∷ bs) = Does (Commit b) ∷ commit_acts bs

-- a batch that is committed, or what is told of by nothing
abbrev pub IsQuiet : Act → Type 0
IsQuiet (Does (Commit batch)) = Unit {0}
IsQuiet (Does Pass) = Unit {0}
IsQuiet _ = ⊥

abbrev pub AreQuiet : List Act → Type 0
AreQuiet [] = Unit {0}
AreQuiet (a ∷ acts) = IsQuiet a × AreQuiet acts

-- the batches among acts, in order
abbrev pub batches_in : List Act → List (List Entry)
batches_in acts = batches_of (events_of acts)

-- the bytes that went out on the link of this number
abbrev pub sent_by : ℕ → Act → List ℕ
sent_by link (Does e) = []
sent_by link (Send n bytes) = cond (nat_eq n link) bytes []
sent_by link (Fail n bytes count) = cond (nat_eq n link) (take count bytes) []

abbrev pub sends_on : ℕ → List Act → List ℕ
sends_on link [] = []
sends_on link (a ∷ acts) = sent_by link a ++ sends_on link acts

-- the bytes that the first of some acts is to send on the link, whether they all go out or not
abbrev pub to_send : ℕ → Act → List ℕ
to_send link (Does e) = []
to_send link (Send n bytes) = cond (nat_eq n link) bytes []
to_send link (Fail n bytes count) = cond (nat_eq n link) bytes []

abbrev pub next_bytes : ℕ → List Act → List ℕ
next_bytes link [] = []
next_bytes link (a ∷ acts) = to_send link a

-- A moment between two of these acts, or in the middle of a send: the files stand for the journal j
-- with the batches of the acts before it, and on each link has gone out what these acts sent, and a
-- front of what the next one is to send.
pub record AtFront (clients : Meaning) (acts : List Act) (j : List (List Entry)) (sent : ℕ → List ℕ)
    (m : Moment) : Type 0 where
  pub before : List Act
  pub behind : List Act
  pub parts : acts ≡ before ++ behind
  pub stands_for : stands clients m.files ≡ journal (j ++ batches_in before)
  pub part : ℕ → List ℕ
  pub begun : (link : ℕ) → IsFront (part link) (next_bytes link behind)
  pub has_sent : (link : ℕ)
      → slice_index_or m.sent link [] ≡ sent link ++ (sends_on link before ++ part link)
