-- The steps so far were those entries: what is left of them decides, and leads to the same facts.
use Rattle.std.proofs.Common.{◌≡◌, drop, take}
use Rattle.sync_rules.specs.Facts.{after_all}
use Rattle.sync_rules.specs.Allows.{settles}
use Rattle.journal_state.specs.Whole.{KnowsJudgements}
use Rattle.journal_state.proofs.Fronts.{HasPlayed}
use Rattle.journal_state.proofs.state.State.play.Given as goal

abbrev pub invariant-loop-entry : goal.invariant-loop-entry
invariant-loop-entry g l = record {
  knows : KnowsJudgements (g.C.Clients.meaning l.clients) l.self;
  left : settles (g.C.Clients.meaning l.clients) l.self.facts (drop l.entry-index l.entries) ≡ settles (g.C.Clients.meaning l.clients) l.initial.self.facts l.entries;
  leads : after_all l.self.facts (drop l.entry-index l.entries) ≡ after_all l.initial.self.facts l.entries;
  played : HasPlayed (g.C.Clients.meaning l.clients) l.initial.self.facts l.self.facts (take l.entry-index l.entries);
}
