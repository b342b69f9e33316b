-- What contracts see of the state of a journal, and what its parts keep.
use Rattle.std.specs.Prelude.{◌≡◌, ℕ, ◌<◌, ◌≤◌, Bool, false, true, ◌&&◌, ◌||◌, cond, List, [], length, map, nat_lt, Option, None, Some, is_some, slice_get, slice_index_or, refl}
use Rattle.std.specs.Coded.{Coded, code_by, coded×}
use Rattle.std.specs.List.{list_all}
use Rattle.sync_rules.specs.declared.answers.Judgement.{Judgement}
use Rattle.sync_rules.specs.declared.entries.Level.TheVariants as level
use Rattle.sync_rules.specs.declared.limits.TheConstants.{MAX_CONTACTS}
use Rattle.sync_rules.specs.Clients.{Meaning}
use Rattle.sync_rules.specs.Lists.{is_among}
use Rattle.sync_rules.specs.Facts.{Facts, Held, Id, LevelMap, group_at, level_at, is_invisible, is_level_shared}
use Rattle.sync_rules.specs.Sessions.{is_author}
use Rattle.sync_rules.specs.Steps.{answer_of}
use Rattle.sync_rules.specs.Views.{place_of}
use Rattle.message_graph.specs.declared.nodes.Node.{Node}
use Rattle.message_graph.specs.Nodes as nodes
use Rattle.retry_table.specs.Table as retry
use Rattle.visibility_table.specs.Table as levels
use Rattle.journal_state.specs.Codes.{facts_code, answers_code}
use Rattle.journal_state.specs.Left.{delivered_among}
use Rattle.journal_state.specs.Room.{Room, room_code, room_in}
use Rattle.journal_state.specs.Parts.{Parts, answers_of, facts_of, name_at, shared_among}

-- the facts of a journal, the judgement of each held message that is judged, in order of arrival, and for how much more there is room
pub record StateValue : Type 0 where
  pub facts : Facts
  pub answers : List (Option Judgement)
  pub room : Room

abbrev pub state_code : Coded StateValue
state_code =
    code_by (Facts × (List (Option Judgement) × Room)) (coded× facts_code (coded× answers_code room_code)) (λ s. (s.facts, (s.answers, s.room)))
    (λ p. record { facts = p.0; answers = p.1.0; room = p.1.1 }) (λ _. refl)

abbrev pub value_of : Parts → StateValue
value_of p = record { facts = facts_of p; answers = answers_of p.nodes p.shares; room = room_in p.space p.retry }

-- the ids of the held messages whose judgement lets them be sent on
abbrev pub shared_of : StateValue → List Id
shared_of s = shared_among s.facts.held s.answers

-- a message may go to a contact as far as the message, its group and its origin go: it is delivered, its group is Shared with the
-- contact, and it was written here or its judgement lets it be sent on
abbrev pub may_go : LevelMap → List Id → List Id → ℕ → Held → Bool
may_go levels delivered shared contact h =
    is_among delivered h.id && (is_level_shared (level_at levels contact h.message.group) && (is_author h.origin || is_among shared h.id))

-- a message may be sent to others as far as the message and its origin go: it is delivered, and it was written here or its judgement
-- lets it be sent on
abbrev pub may_leave : List Id → List Id → Held → Bool
may_leave delivered shared h = is_among delivered h.id && (is_author h.origin || is_among shared h.id)

-- the group in which such a message is released
abbrev pub left_in : List Id → List Id → Held → ℕ → Option ℕ
left_in delivered shared h group = cond (may_leave delivered shared h) (Some group) None

-- the id of a held message
abbrev pub id_at : List Held → ℕ → Id
id_at held n = slice_index_or (map (λ h. h.id) held) n []

-- the judgement that is kept of each held message is that of its client
abbrev pub KnowsJudgements : Meaning → StateValue → Type 0
KnowsJudgements clients s = s.answers ≡ map (answer_of clients s.facts) s.facts.held

-- how the node of an id ended
abbrev pub is_delivered_in : Option Node → Bool
is_delivered_in None = false
is_delivered_in (Some node) = nodes.is_delivered node.ending

-- the parts are those of one journal
pub record IsState (p : Parts) : Type 0 where
  -- the nodes are the held messages, in order, each with the number of its group, and no two have one id
  pub named : map (λ n. n.name) p.nodes ≡ map (λ h. h.id) p.held
  pub grouped : (n : ℕ) (h : Held) (node : Node) → slice_get p.held n ≡ Some h → slice_get p.nodes n ≡ Some node
      → levels.group_number p.table.groups h.message.group ≡ Some node.group
  pub distinct : (n : ℕ) (h : Held) → slice_get p.held n ≡ Some h → place_of p.held h.id ≡ Some n
  pub each_share : length p.shares ≡ length p.nodes
  -- what is not judged has not ended
  pub order : (n : ℕ) (node : Node) → slice_get p.nodes n ≡ Some node → node.answer ≡ None → node.ending ≡ None
  -- the delivered numbers are those of the nodes that ended so
  pub within : list_all (λ n. nat_lt n (length p.nodes)) p.delivered ≡ true
  pub ended : (id : Id) → is_among (map (name_at p.nodes) p.delivered) id ≡ is_delivered_in (nodes.node_named p.nodes id)
  pub many : length p.delivered ≡ delivered_among p.nodes
  -- there are no rows of messages that are not held, and no wanted ids of contacts that are not known
  pub free_rows : (contact n : ℕ) → length p.held ≤ n → retry.kept_at p.retry contact n ≡ retry.no_kept
  pub free_wants : (contact : ℕ) → p.table.contacts ≤ contact → (retry.wants_of p.retry contact).ids ≡ []
  -- each group is Invisible to a contact that is not known
  pub hidden : (contact : ℕ) (group : Id) → p.table.contacts ≤ contact → level_at p.table.levels contact group ≡ level.Invisible
  -- a group that is not Invisible to some contact is known
  pub shown : (contact : ℕ) (group : Id) → is_invisible (level_at p.table.levels contact group) ≡ false → is_some (group_at p.table.groups group) ≡ true
  -- the messages that may be sent to others are released, each in its group, and no others
  pub released : (n : ℕ) (h : Held) (node : Node) → slice_get p.held n ≡ Some h → slice_get p.nodes n ≡ Some node
      → retry.group_at p.retry n ≡ left_in (map (name_at p.nodes) p.delivered) (shared_among p.held (answers_of p.nodes p.shares)) h node.group
  pub unreleased : (n : ℕ) → length p.held ≤ n → retry.group_at p.retry n ≡ None
  -- a row says that its message may go to its contact where it may
  pub ready : (contact n : ℕ) (h : Held) → contact < MAX_CONTACTS → slice_get p.held n ≡ Some h
      → (retry.kept_at p.retry contact n).ready
      ≡ may_go p.table.levels (map (name_at p.nodes) p.delivered) (shared_among p.held (answers_of p.nodes p.shares)) contact h
