-- What each call makes of a story, and of what is kept of it in memory.
use Rattle.std.specs.Prelude.{◌≡◌, ℕ, cond, List, [], ◌∷◌, ◌++◌, Option, Some, None, is_some, length, slice_get}
use Rattle.sync_ids.specs.Values.{GroupValue, MessageValue}
use Rattle.sync_ids.specs.Ids.{message_id_of}
use Rattle.sync_ids.specs.declared.records.Record.{Record}
use Rattle.sync_ids.specs.declared.records.Record.TheVariants as record_kind
use Rattle.sync_rules.specs.declared.entries.Entry.{Entry}
use Rattle.sync_rules.specs.declared.states.Fate as state
use Rattle.sync_rules.specs.declared.states.Fate.TheVariants as fate_kind
use Rattle.sync_rules.specs.Clients.{Meaning}
use Rattle.sync_rules.specs.Lists.{same_id}
use Rattle.sync_rules.specs.Hearing.{SettlesJournal}
use Rattle.message_graph.specs.declared.nodes.Node.{Node}
use Rattle.message_graph.specs.declared.nodes.Ending.{Ending}
use Rattle.message_graph.specs.declared.nodes.Ending.TheVariants as ending
use Rattle.message_graph.specs.declared.nodes.Fate.{Fate}
use Rattle.message_graph.specs.declared.nodes.Fate.TheVariants as fate
use Rattle.message_graph.specs.declared.nodes.Step.{Step}
use Rattle.message_graph.specs.declared.nodes.Step.TheVariants as step
use Rattle.message_graph.specs.declared.nodes.Judged.{Judged}
use Rattle.message_graph.specs.Nodes.{node_number, fresh_node, with_answer, with_ending, after_step}
use Rattle.message_graph.specs.Nodes.{step_number, fate_of}
use Rattle.sync_words.specs.StreamTexts.{try_text}
use Rattle.journal_play.specs.declared.kept.Head.{Head}
use Rattle.journal_play.specs.declared.kept.Fresh.{Fresh}
use Rattle.journal_play.specs.Texts.{line_of}
use Rattle.journal_play.specs.Playing.{Played, Story, head_of, judged_of, shown_of, StoryStandsFor}

-- one more message is held
abbrev pub holding : Story → MessageValue → Story
holding play m = record play {
  messages = play.messages ++ m ∷ [];
  nodes = play.nodes ++ fresh_node (message_id_of m) 0 ∷ [];
}

-- a message is held where it is of the group and its id is new
abbrev pub taking_message : Story → MessageValue → Story
taking_message play m =
    cond (same_id m.group play.group)
    (cond (is_some (node_number play.nodes (message_id_of m))) play (holding play m)) play

abbrev pub taking : Story → Record → Story
taking play (record_kind.Message m) = taking_message play m
taking play _ = play

-- the message of that number is judged
abbrev pub judging : Meaning → ℕ → MessageValue → Story → Story
judging clients n m play = record play { nodes = with_answer n (judged_of (clients.verdict play.kind m)) play.nodes }

-- the message of that number ends, and a line says so
abbrev pub ending_as : Ending → state.Fate → ℕ → MessageValue → Story → Story
ending_as end said n m play = record play {
  nodes = with_ending n end play.nodes;
  text = play.text ++ line_of said (message_id_of m) m;
}

abbrev pub stepping : Meaning → Step → MessageValue → Story → Story
stepping clients (step.Judge n) m play = judging clients n m play
stepping clients (step.Invalid n) m play = ending_as ending.Invalid fate_kind.Invalid n m play
stepping clients (step.Deliver n) m play = ending_as ending.Delivered fate_kind.Delivered n m play

-- the story after a step
abbrev pub IsStepped : Meaning → Step → Story → Story → Type 0
IsStepped clients s old new = (m : MessageValue) → slice_get old.messages (step_number s) ≡ Some m → new ≡ stepping clients s m old

-- settling alone leads from this journal to one that has this story
pub record SettlesToStory (clients : Meaning) (def : GroupValue) (k : ℕ) (old : List (List Entry)) (play : Story) : Type 0 where
  pub journal : List (List Entry)
  pub settles : SettlesJournal clients old journal
  pub stands : StoryStandsFor clients def k journal play

-- ---- the messages that have no end

-- what is added for a message of this fate
abbrev pub pending_line : Fate → MessageValue → List ℕ
pending_line fate.Unknown m = line_of fate_kind.Pending (message_id_of m) m
pending_line fate.Pending m = line_of fate_kind.Pending (message_id_of m) m
pending_line fate.Invalid m = []
pending_line fate.Delivered m = []

-- a line for each message whose node has no end
abbrev pub pending_text : List MessageValue → List Node → List ℕ
pending_text [] nodes = []
pending_text (m ∷ messages) [] = []
pending_text (m ∷ messages) (node ∷ nodes) = pending_line (fate_of node) m ++ pending_text messages nodes

-- ---- what is kept in memory

-- one more message is held
abbrev pub with_head : Head → Played → Played
with_head h play =
    record play { heads = play.heads ++ h ∷ []; nodes = play.nodes ++ fresh_node h.id 0 ∷ [] }

-- a message is held where it is of the group and its id is new
abbrev pub taking_one : Played → MessageValue → Played
taking_one play m =
    cond (same_id m.group play.group)
    (cond (is_some (node_number play.nodes (message_id_of m))) play
    (with_head (head_of m) play)) play

abbrev pub taking_in : Played → Record → Played
taking_in play (record_kind.Message m) = taking_one play m
taking_in play _ = play

-- the message that is held then, with its number
abbrev pub fresh_one : Played → MessageValue → Option Fresh
fresh_one play m =
    cond (same_id m.group play.group)
    (cond (is_some (node_number play.nodes (message_id_of m))) None
    (Some (record { number = length play.heads; message = m }))) None

abbrev pub fresh_in : Played → Record → Option Fresh
fresh_in play (record_kind.Message m) = fresh_one play m
fresh_in play _ = None

-- a message that was just held stands at its number
abbrev pub IsFresh : Option Fresh → Story → Type 0
IsFresh None story = Unit {0}
IsFresh (Some f) story = slice_get story.messages f.number ≡ Some f.message

-- the line of a message
abbrev pub head_line : state.Fate → Head → List ℕ
head_line said h = try_text said h.id h.timestamp h.len

-- the message of that number ended, and a line says so
abbrev pub ended_as : Step → state.Fate → Head → Played → Played
ended_as s said h play = record play { nodes = after_step s play.nodes; text = play.text ++ head_line said h }

-- the message of that number was judged, which was just held
pub record IsJudged (clients : Meaning) (just : Option Fresh) (n : ℕ) (old new : Played) : Type 0 where
  pub one : Fresh
  pub held : just ≡ Some one
  pub number : one.number ≡ n
  pub judged : new ≡ record old { nodes = with_answer n (judged_of (clients.verdict old.kind one.message)) old.nodes }

-- what is kept after a step of a story that it shows
abbrev pub ShowsStep : Meaning → Option Fresh → Step → Played → Played → Type 0
ShowsStep clients just s old new =
    (story : Story) (m : MessageValue) → shown_of story ≡ old → IsFresh just story → slice_get story.messages (step_number s) ≡ Some m
    → shown_of (stepping clients s m story) ≡ new

-- the nodes after a step
abbrev pub IsStepDone : Step → List Node → List Node → Type 0
IsStepDone (step.Judge n) old new = (answer : Judged) × (new ≡ with_answer n answer old)
IsStepDone (step.Invalid n) old new = new ≡ with_ending n ending.Invalid old
IsStepDone (step.Deliver n) old new = new ≡ with_ending n ending.Delivered old

-- settling alone leads from this journal to one whose story is shown, with the messages of the story that it began with
pub record ReachesShown (clients : Meaning) (def : GroupValue) (k : ℕ) (old : List (List Entry)) (start : Story) (play : Played) : Type 0 where
  pub story : Story
  pub reaches : SettlesToStory clients def k old story
  pub shows : shown_of story ≡ play
  pub same : story.messages ≡ start.messages

-- what is added for a message of this fate
abbrev pub open_line : Fate → Head → List ℕ
open_line fate.Unknown h = head_line fate_kind.Pending h
open_line fate.Pending h = head_line fate_kind.Pending h
open_line fate.Invalid h = []
open_line fate.Delivered h = []

-- a line for each message whose node has no end
abbrev pub open_text : List Head → List Node → List ℕ
open_text [] nodes = []
open_text (h ∷ heads) [] = []
open_text (h ∷ heads) (node ∷ nodes) = open_line (fate_of node) h ++ open_text heads nodes
