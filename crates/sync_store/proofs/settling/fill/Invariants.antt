use Rattle.std.proofs.Common.{◌≡◌, ◌≤◌, vec_capacity, vec_len}
use Rattle.journal_state.specs.Whole.{KnowsJudgements}
use Rattle.sync_rules.specs.declared.limits.TheConstants.{MAX_STEPS}
use Rattle.sync_rules.specs.Facts.{after_all}
use Rattle.sync_rules.specs.Legal.{IsSettling}
use Rattle.sync_store.proofs.settling.fill.Given as goal

-- the steps so far are the entries, and the state has made them
abbrev pub invariant-steps : goal.invariant-steps
invariant-steps g l = record {
  settling : IsSettling (g.C.Clients.meaning l.clients) l.fn.state.facts l.entries.items;
  made : l.state.facts ≡ after_all l.fn.state.facts l.entries.items;
  knows : KnowsJudgements (g.C.Clients.meaning l.clients) l.state;
  count : vec_len l.entries ≡ l._made;
  capacity : MAX_STEPS ≤ vec_capacity l.entries;
}
