-- A journal of one session that takes records, and what is kept of it in memory.
use Rattle.std.specs.Prelude.{◌≡◌, ℕ, ◌+◌, Bool, true, false, List, [], ◌∷◌, Option, Some, None, length, map}
use Rattle.std.specs.List.{list_all}
use Rattle.std.specs.FinSet as fin_set
use Rattle.sync_ids.specs.Values.{GroupValue, MessageValue}
use Rattle.sync_ids.specs.Ids.{group_id_of, message_id_of}
use Rattle.sync_ids.specs.Records.{IsRecord}
use Rattle.sync_ids.specs.declared.records.Record.{Record}
use Rattle.sync_rules.specs.declared.answers.Judgement.{Judgement}
use Rattle.sync_rules.specs.declared.answers.Judgement.TheVariants as judgement
use Rattle.sync_rules.specs.declared.entries.Entry.{Entry}
use Rattle.sync_rules.specs.Clients.{Meaning}
use Rattle.sync_rules.specs.Lists.{is_among, has_repeat}
use Rattle.sync_rules.specs.Facts.{Facts, Held, Id, facts, entries_of, known_of, arrived, takes_of, is_held}
use Rattle.sync_rules.specs.Steps.{IsSettled, kind_of_def, answer_of}
use Rattle.sync_rules.specs.Hearing.{HearsRecord, one_session}
use Rattle.sync_rules.specs.Legal.{Legal}
use Rattle.message_graph.specs.declared.nodes.Node.{Node}
use Rattle.message_graph.specs.declared.nodes.Judged.{Judged}
use Rattle.message_graph.specs.declared.nodes.Judged.TheVariants as judged
use Rattle.message_graph.specs.declared.nodes.Ending.{Ending}
use Rattle.message_graph.specs.Nodes.{ending_by}
use Rattle.journal_play.specs.declared.kept.Head.{Head}
use Rattle.journal_play.specs.Texts.{ends_told, lines_text, play_text}

-- a journal takes records on its session 0, the first as that of number k, and is settled after each
abbrev pub PlaysRecords : Meaning → List (List Entry) → ℕ → List Record → List (List Entry) → Type 0
PlaysRecords clients journal k [] later = journal ≡ later
PlaysRecords clients journal k (r ∷ rs) later =
    (between : List (List Entry)) × IsRecord r × HearsRecord clients journal 0 k r between × PlaysRecords clients between (k + 1) rs later

-- the text is that of a journal that begins with contact 0, this group, Visible to it, and one session, and takes these records
pub record IsTextOf (clients : Meaning) (def : GroupValue) (records : List Record) (text : List ℕ) : Type 0 where
  pub journal : List (List Entry)
  pub plays : PlaysRecords clients (one_session def) 0 records journal
  pub printed : text ≡ play_text journal

-- ---- what is played

-- what is told of a journal: the kind of the group's client and the group's id, the held messages in order of arrival, the
-- nodes of a graph over them, and the lines so far
pub record Story : Type 0 where
  pub kind : ℕ
  pub group : Id
  pub messages : List MessageValue
  pub nodes : List Node
  pub text : List ℕ

abbrev pub judged_of : Judgement → Judged
judged_of judgement.Refuse = judged.Refused
judged_of (judgement.Accept deps share) = judged.Accepted deps

abbrev pub answer_shown : Option Judgement → Option Judged
answer_shown None = None
answer_shown (Some answer) = Some (judged_of answer)

-- how the message of an id ended
abbrev pub ending_of : Facts → Id → Option Ending
ending_of f id = ending_by (fin_set.contains f.invalid id) (is_among f.delivered id)

-- the node of a held message; all are of one group, of number 0
abbrev pub node_of : Meaning → Facts → Held → Node
node_of clients f h = record { name = h.id; group = 0; answer = answer_shown (answer_of clients f h); ending = ending_of f h.id }

-- a story suits the facts and the entries of a journal whose session has taken k records
pub record MirrorsFacts (clients : Meaning) (def : GroupValue) (k : ℕ) (f : Facts) (entries : List Entry) (play : Story) : Type 0 where
  pub kind : kind_of_def clients def ≡ Some play.kind
  pub group : play.group ≡ group_id_of def
  pub groups : f.groups ≡ known_of def ∷ []
  pub levels : f.levels ≡ (facts (one_session def)).levels
  pub sessions : f.sessions ≡ (facts (one_session def)).sessions
  pub takes : takes_of f.takes 0 ≡ k
  pub held : f.held ≡ map (arrived 0) play.messages
  pub nodes : play.nodes ≡ map (node_of clients f) f.held
  pub text : play.text ≡ lines_text f.held (ends_told entries)
  -- ids of held messages are distinct, and only held messages are judged or spoken of
  pub once : has_repeat (map (λ h. h.id) f.held) ≡ false
  pub judged : (id : Id) → fin_set.contains f.judged id ≡ true → is_held f.held id ≡ true
  pub within : list_all (λ line. is_held f.held line.1) (ends_told entries) ≡ true

-- a story is that of a legal journal whose session has taken k records
pub record StoryStandsFor (clients : Meaning) (def : GroupValue) (k : ℕ) (journal : List (List Entry)) (play : Story) : Type 0 where
  pub legal : Legal clients journal
  pub mirrors : MirrorsFacts clients def k (facts journal) (entries_of journal) play

-- a story is that of a settled journal of this group that has taken these records
pub record IsStoryOf (clients : Meaning) (def : GroupValue) (records : List Record) (play : Story) : Type 0 where
  pub journal : List (List Entry)
  pub plays : PlaysRecords clients (one_session def) 0 records journal
  pub stands : StoryStandsFor clients def (length records) journal play
  pub settled : IsSettled clients (facts journal)

-- ---- what is kept in memory

-- what is kept of a message: what its line says
abbrev pub head_of : MessageValue → Head
head_of m = record { id = message_id_of m; timestamp = m.timestamp; len = length m.body }

-- as a story, with no more of a message than that
pub record Played : Type 0 where
  pub kind : ℕ
  pub group : Id
  pub heads : List Head
  pub nodes : List Node
  pub text : List ℕ

abbrev pub shown_of : Story → Played
shown_of s = record { kind = s.kind; group = s.group; heads = map head_of s.messages; nodes = s.nodes; text = s.text }

-- what is kept stands for a settled journal of this group that has taken these records
pub record HasPlayed (clients : Meaning) (def : GroupValue) (records : List Record) (play : Played) : Type 0 where
  pub story : Story
  pub told : IsStoryOf clients def records story
  pub shows : shown_of story ≡ play
