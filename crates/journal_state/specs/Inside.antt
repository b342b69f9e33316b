-- The parts of a state as its fields show them.
use Rattle.std.specs.Prelude.{◌≡◌, ℕ, ◌+◌, ◌≤◌, Bool, true, List, length, nat_lt, vec_capacity, slice_get, Some}
use Rattle.std.specs.List.{list_all}
use Rattle.journal_state.specs.declared.state.State.TheInside.{Inside}
use Rattle.sync_rules.specs.declared.limits.TheConstants.{MAX_CONTACTS, MAX_TRIES}
use Rattle.sync_rules.specs.declared.states.Start.TheVariants as start
use Rattle.sync_rules.specs.Facts.{Row}
use Rattle.sync_rules.specs.Sessions.{may_share}
use Rattle.retry_table.specs.Table as retry
use Rattle.message_graph.specs.declared.nodes.Node.{Node}
use Rattle.journal_state.specs.Parts.{Parts, answer_of_node}
use Rattle.journal_state.specs.Whole.{IsState}

abbrev pub parts : Inside → Parts
parts s = record {
  start = s.start;
  table = s.table;
  held = s.messages.held;
  begun = s.sessions;
  nodes = s.graph.nodes;
  shares = s.shares.items;
  delivered = s.delivered.items;
  retry = s.retry;
  space = s.space;
}

-- each table has room for as many entries
pub record IsRoomy (s : Inside) : Type 0 where
  pub table : s.space ≤ s.table.spare
  pub messages : s.space ≤ s.messages.room
  pub sessions : s.space ≤ s.sessions.room
  pub graph : s.space ≤ s.graph.spare
  pub shares : length s.shares.items + s.space ≤ vec_capacity s.shares

-- what is kept of each message for each contact has at most MAX_TRIES tries, and a time only behind a try
pub record IsLimited (row : Row) : Type 0 where
  pub few : row.tries ≤ MAX_TRIES
  pub wait : row.tries ≡ 0 → row.expiry ≡ 0

abbrev pub LimitsRows : retry.Table → Type 0
LimitsRows table = (contact n : ℕ) → IsLimited (retry.kept_at table contact n).row

-- only a message whose judgement lets it be sent on counts as one that may be shared
abbrev pub IsHonest : List Node → List Bool → Type 0
IsHonest ns shares = (n : ℕ) (node : Node) → slice_get ns n ≡ Some node → slice_get shares n ≡ Some true → may_share (answer_of_node node.answer true) ≡ true

-- the parts are those of one journal, and there is room in each
pub record IsInsideWhole (s : Inside) : Type 0 where
  pub state : IsState (parts s)
  pub roomy : IsRoomy s
  -- there are at most MAX_CONTACTS contacts, and each session is with one of them
  pub few : s.table.contacts ≤ MAX_CONTACTS
  pub met : list_all (λ x. nat_lt x.contact s.table.contacts) s.sessions.sessions ≡ true
  pub honest : IsHonest s.graph.nodes s.shares.items
  pub limited : LimitsRows s.retry
  -- no session has begun in a journal that has no entry
  pub fresh : s.start ≡ start.Empty → s.sessions.begun ≡ 0
