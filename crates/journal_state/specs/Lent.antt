-- The tables that a state lends stand for its journal.
use Rattle.std.specs.Prelude.{◌≡◌, ℕ, ◌<◌, ◌≤◌, List, length, Option, Some, slice_get}
use Rattle.std.specs.Option.{option_map}
use Rattle.std.specs.FinSet as fin_set
use Rattle.sync_rules.specs.declared.answers.Judgement.{Judgement}
use Rattle.sync_rules.specs.declared.answers.Judgement.TheVariants as judgement
use Rattle.sync_rules.specs.declared.limits.TheConstants.{MAX_CONTACTS}
use Rattle.sync_rules.specs.Lists.{is_among}
use Rattle.sync_rules.specs.Facts.{Held, row_at, wanted_from}
use Rattle.message_graph.specs.declared.nodes.Judged.{Judged}
use Rattle.message_graph.specs.declared.nodes.Judged.TheVariants as judged
use Rattle.message_graph.specs.declared.nodes.Node.{Node}
use Rattle.message_graph.specs.Nodes.{ending_by}
use Rattle.retry_table.specs.Table as retry
use Rattle.visibility_table.specs.Table as levels
use Rattle.journal_state.specs.Whole.{StateValue, may_go, shared_of}

-- the row of each contact and held message is that of the facts, and says whether the message may go to the contact; there are no
-- other rows, and the wanted ids are those of the facts
pub record StandsForRows (s : StateValue) (table : retry.Table) : Type 0 where
  pub row : (contact n : ℕ) (h : Held) → slice_get s.facts.held n ≡ Some h → (retry.kept_at table contact n).row ≡ row_at s.facts.rows contact h.id
  pub ready : (contact n : ℕ) (h : Held) → contact < MAX_CONTACTS → slice_get s.facts.held n ≡ Some h
      → (retry.kept_at table contact n).ready ≡ may_go s.facts.levels s.facts.delivered (shared_of s) contact h
  pub others : (contact n : ℕ) → length s.facts.held ≤ n → retry.kept_at table contact n ≡ retry.no_kept
  pub wants : (contact : ℕ) → (retry.wants_of table contact).ids ≡ wanted_from s.facts.wanted contact

-- a judgement as a node has it
abbrev pub judged_of : Judgement → Judged
judged_of judgement.Refuse = judged.Refused
judged_of (judgement.Accept deps share) = judged.Accepted deps

-- a node is that of a held message: its id, the place of its group among the groups, its judgement if it is judged, and its end
pub record IsNodeOf (s : StateValue) (h : Held) (answer : Option Judgement) (node : Node) : Type 0 where
  pub named : node.name ≡ h.id
  pub grouped : levels.group_number s.facts.groups h.message.group ≡ Some node.group
  pub answered : node.answer ≡ option_map judged_of answer
  pub ended : node.ending ≡ ending_by (fin_set.contains s.facts.invalid h.id) (is_among s.facts.delivered h.id)

-- the nodes are the held messages in order of arrival
pub record StandsForNodes (s : StateValue) (nodes : List Node) : Type 0 where
  pub many : length nodes ≡ length s.facts.held
  pub each : (n : ℕ) (h : Held) (answer : Option Judgement) (node : Node) → slice_get s.facts.held n ≡ Some h → slice_get s.answers n ≡ Some answer
      → slice_get nodes n ≡ Some node → IsNodeOf s h answer node
