-- What the parts of the state stand for.
use Rattle.std.specs.Prelude.{ℕ, zero, suc, ◌+◌, Bool, false, cond, List, [], ◌∷◌, map, Option, None, Some, is_some, slice_index_or}
use Rattle.std.specs.FinMap as fin_map
use Rattle.std.specs.FinSet as fin_set
use Rattle.sync_rules.specs.declared.answers.Judgement.{Judgement}
use Rattle.sync_rules.specs.declared.answers.Judgement.TheVariants as judgement
use Rattle.sync_rules.specs.declared.states.Start.{Start}
use Rattle.sync_rules.specs.Facts.{Facts, Held, Id, Ids, Rows, Wants, put_row}
use Rattle.sync_rules.specs.Sessions.{may_share}
use Rattle.message_graph.specs.declared.nodes.Judged.{Judged}
use Rattle.message_graph.specs.declared.nodes.Judged.TheVariants as judged
use Rattle.message_graph.specs.declared.nodes.Node.{Node}
use Rattle.message_graph.specs.Nodes as nodes
use Rattle.retry_table.specs.Table as retry
use Rattle.visibility_table.specs.Table as levels
use Rattle.journal_state.specs.Begun.{Begun}

-- how the journal began; contacts, groups and levels; the held messages in order of arrival; the sessions; a node of the waiting
-- graph for each held message, and whether it may be sent on; the numbers of the delivered messages in the order of their delivery;
-- rows and wanted ids
pub record Parts : Type 0 where
  pub start : Start
  pub table : levels.TableOfLevels
  pub held : List Held
  pub begun : Begun
  pub nodes : List Node
  pub shares : List Bool
  pub delivered : List ℕ
  pub retry : retry.Table
  -- for how many more entries there is room
  pub space : ℕ

-- ---- answers

abbrev pub answer_of_node : Option Judged → Bool → Option Judgement
answer_of_node None share = None
answer_of_node (Some judged.Refused) share = Some judgement.Refuse
answer_of_node (Some (judged.Accepted names)) share = Some (judgement.Accept names share)

-- the judgement of each held message that is judged, in order of arrival
abbrev pub answers_of : List Node → List Bool → List (Option Judgement)
answers_of [] shares = []
answers_of (n ∷ ns) [] = answer_of_node n.answer false ∷ answers_of ns []
answers_of (n ∷ ns) (share ∷ shares) = answer_of_node n.answer share ∷ answers_of ns shares

-- the ids of the held messages whose judgement lets them be sent on
abbrev pub shared_among : List Held → List (Option Judgement) → List Id
shared_among [] answers = []
shared_among (h ∷ hs) [] = []
shared_among (h ∷ hs) (answer ∷ answers) = cond (may_share answer) (h.id ∷ shared_among hs answers) (shared_among hs answers)

-- ---- ids

-- the names of the nodes that pass a test
abbrev pub names_where : (Node → Bool) → List Node → List Id
names_where test [] = []
names_where test (n ∷ ns) = cond (test n) (n.name ∷ names_where test ns) (names_where test ns)

abbrev pub ids_where : (Node → Bool) → List Node → Ids
ids_where test ns = fin_set.from_list (names_where test ns)

abbrev pub is_judged : Node → Bool
is_judged n = is_some n.answer

abbrev pub is_invalid : Node → Bool
is_invalid n = nodes.is_invalid n.ending

-- the name of the node of a number
abbrev pub name_at : List Node → ℕ → Id
name_at ns n = slice_index_or (map (λ x. x.name) ns) n []

-- ---- rows and wanted ids

-- the rows of a contact put into a map
abbrev pub put_rows : ℕ → List retry.KeptRow → List Held → Rows → Rows
put_rows contact [] held rows = rows
put_rows contact (k ∷ ks) [] rows = rows
put_rows contact (k ∷ ks) (h ∷ hs) rows = put_row (put_rows contact ks hs rows) (contact, h.id) k.row

-- the rows of all contacts from that one on
abbrev pub rows_from : ℕ → List (List retry.KeptRow) → List Held → Rows
rows_from contact [] held = fin_map.empty
rows_from contact (rows ∷ more) held = put_rows contact rows held (rows_from (contact + 1) more held)

-- the rows that are not all false and zero
abbrev pub rows_in : retry.Table → List Held → Rows
rows_in table held = rows_from 0 table.rows held

-- the ids wanted from the contacts below that one
abbrev pub wants_in : retry.Table → ℕ → Wants
wants_in table zero = fin_map.empty
wants_in table (suc contact) = fin_map.insert (wants_in table contact) contact (retry.wants_of table contact).ids

-- ---- the facts

abbrev pub facts_of : Parts → Facts
facts_of p = record {
  start = p.start;
  contacts = p.table.contacts;
  groups = p.table.groups;
  levels = p.table.levels;
  begun = p.begun.begun;
  sessions = p.begun.sessions;
  takes = p.begun.takes;
  held = p.held;
  judged = ids_where is_judged p.nodes;
  invalid = ids_where is_invalid p.nodes;
  delivered = map (name_at p.nodes) p.delivered;
  rows = rows_in p.retry p.held;
  wanted = wants_in p.retry p.table.contacts;
}
