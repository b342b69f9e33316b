-- What a report says of a journal.
use Rattle.std.specs.Prelude.{◌≡◌, List, length, count_by}
use Rattle.std.specs.FinSet as fin_set
use Rattle.sync_rules.specs.declared.entries.Entry.{Entry}
use Rattle.sync_rules.specs.Allows.{is_settled}
use Rattle.sync_rules.specs.Clients.{Meaning}
use Rattle.sync_rules.specs.Facts.{entries_of, facts}
use Rattle.sync_rules.specs.Rounds.{bad, good, graph_of}
use Rattle.journal_audit.specs.declared.report.Report.{Report}

-- its batches and entries, its good and its bad messages, by as many rounds as messages are held and by what clients say of
-- each held message, judged or not, and whether it is settled
pub record IsReport (clients : Meaning) (journal : List (List Entry)) (r : Report) : Type 0 where
  pub batches : r.batches ≡ length journal
  pub entries : r.entries ≡ length (entries_of journal)
  pub good : r.good ≡ count_by (λ h. good (graph_of clients (facts journal)) (length (facts journal).held) h.id) (facts journal).held
  pub bad : r.bad ≡ count_by (λ h. bad (graph_of clients (facts journal)) (length (facts journal).held) h.id) (facts journal).held
  pub settled : r.settled ≡ is_settled clients (facts journal)

-- what a settled report says of the messages that were delivered and of those that are invalid
pub record EndsAreCounted (journal : List (List Entry)) (r : Report) : Type 0 where
  pub good : r.good ≡ length (facts journal).delivered
  pub bad : r.bad ≡ count_by (λ h. fin_set.contains (facts journal).invalid h.id) (facts journal).held
