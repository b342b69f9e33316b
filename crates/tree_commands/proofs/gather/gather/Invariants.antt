use Rattle.std.proofs.Common.{◌≡◌, ◌≤◌, length, take}
use Rattle.std.specs.List.{filter}
use Rattle.sync_rules.specs.Clients.{Meaning}
use Rattle.sync_rules.specs.Facts.{held_at}
use Rattle.sync_rules.specs.Steps.{is_beside}
use Rattle.journal_state.specs.Whole.{KnowsJudgements}
use Rattle.tree_commands.specs.Gathered.{IsThreadOf}
use Rattle.tree_commands.proofs.gather.gather.Given as goal

abbrev pub invariant-delivered : goal.invariant-delivered
invariant-delivered l = record {
  of : (clients : Meaning) → KnowsJudgements clients l.store.state
      → IsThreadOf clients l.store.state.facts
      (filter (λ id. is_beside l.group (held_at l.store.state.facts.held id))
      (take l.k l.store.state.facts.delivered)) l.thread;
  few : length l.thread.numbers ≤ l.k;
  sized : l.thread.held ≡ length l.store.state.facts.held;
}
