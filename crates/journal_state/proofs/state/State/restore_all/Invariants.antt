-- The rows and wanted ids so far suited: what is left of them decides, and leads to the same facts.
use Rattle.std.proofs.Common.{◌≡◌, drop, take}
use Rattle.sync_rules.specs.declared.states.Start.TheVariants as start
use Rattle.sync_rules.specs.Allows.{are_rows}
use Rattle.sync_rules.specs.Clients.{Meaning}
use Rattle.sync_rules.specs.Facts.{after_all}
use Rattle.journal_state.specs.Whole.{KnowsJudgements}
use Rattle.journal_state.proofs.Fronts.{HasPlayed}
use Rattle.journal_state.proofs.state.State.restore_all.Given as goal

abbrev pub invariant-loop-entry : goal.invariant-loop-entry
invariant-loop-entry l = record {
  opening : l.self.facts.start ≡ start.Opening;
  left : are_rows l.self.facts (drop l.entry-index l.entries) ≡ are_rows l.initial.self.facts l.entries;
  leads : after_all l.self.facts (drop l.entry-index l.entries) ≡ after_all l.initial.self.facts l.entries;
  played : (clients : Meaning) → HasPlayed clients l.initial.self.facts l.self.facts (take l.entry-index l.entries);
  knows : (clients : Meaning) → KnowsJudgements clients l.initial.self → KnowsJudgements clients l.self;
}
