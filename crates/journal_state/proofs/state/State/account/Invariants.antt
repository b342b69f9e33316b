-- So many of the messages are told.
use Rattle.journal_state.specs.Telling.{TellsTo}
use Rattle.journal_state.specs.Whole.{KnowsJudgements}
use Rattle.journal_state.proofs.state.State.account.Given as goal

abbrev pub invariant-loop-n : goal.invariant-loop-n
invariant-loop-n g l = record {
  told : TellsTo (g.C.Clients.meaning l.clients) l.self.facts l.fresh.facts l.n l.told.items;
  knows : KnowsJudgements (g.C.Clients.meaning l.clients) l.fresh;
}
