use Rattle.journal_audit.proofs.SessionLists.{session_number}
use Rattle.journal_audit.proofs.view.FactsViewJournalView.session_of.Goals as goal

pub returns-clause-numbered : goal.returns-clause-numbered
returns-clause-numbered c = session_number c.self.inside.facts.now.sessions.listed c.args.number c.find.result c.find.ensures
