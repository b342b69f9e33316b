-- Some of the steps that were open are made and told, and fewer are left with each.
use Rattle.sync_rules.specs.Left.{left_of}
use Rattle.journal_state.specs.Whole.{KnowsJudgements}
use Rattle.journal_state.proofs.Telling.{IsTelling}
use Rattle.journal_state.proofs.state.State.tell_steps.Given as goal

abbrev pub invariant-steps : goal.invariant-steps
invariant-steps g l = record {
  telling : IsTelling (g.C.Clients.meaning l.clients) l.initial.self.facts l.self.facts l.initial.told.items l.told.items;
  knows : KnowsJudgements (g.C.Clients.meaning l.clients) l.self;
}

abbrev pub decreases-steps : goal.decreases-steps
decreases-steps g l = left_of l.self.facts
