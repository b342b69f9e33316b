use Rattle.std.proofs.Common.{◌≡◌, List, length, nat_lt, slice_get, sym, ap, subst, ◌∙◌, arith}
use Rattle.std.specs.List.{list_all}
use Rattle.message_graph.specs.Nodes as nodes
use Rattle.visibility_table.specs.Table as levels
use Rattle.sync_rules.specs.declared.entries.Session.{Session}
use Rattle.sync_rules.specs.declared.states.Start.TheVariants as start
use Rattle.journal_state.specs.Parts.{Parts}
use Rattle.journal_state.specs.Whole.{IsState, value_of}
use Rattle.journal_state.proofs.Empty.{empty_parts, empty_is_state, empty_facts, not_there}
use Rattle.journal_state.proofs.Limited.{limits_none}
use Rattle.journal_state.proofs.state.State.over.Goals as goal

made : (c : goal.After-new-6) → ◌≡◌ {A = Parts} (record {
  start = start.Empty;
  table = c.args.table;
  held = c.new-3.result.held;
  begun = c.new-4.result;
  nodes = c.in_ok-graph.graph.nodes;
  shares = c.new-5.result.items;
  delivered = c.new-6.result.items;
  retry = c.in_ok-retry.retry;
  space = 0;
}) (empty_parts c.args.table.groups c.new-4.result.room c.in_ok-retry.retry)
made c = λ k. record {
  start = start.Empty;
  table = c.requires k;
  held = c.new-3.ensures k;
  begun = record c.new-4.result { begun = c.new-4.ensures.begun k; sessions = c.new-4.ensures.sessions k; takes = c.new-4.ensures.takes k };
  nodes = (c.in_ok-graph.ensures k).nodes;
  shares = c.new-5.ensures.items k;
  delivered = c.new-6.ensures.items k;
  retry = c.in_ok-retry.retry;
  space = 0;
}

pub invariant_of-result : goal.invariant_of-result
invariant_of-result c = record {
  state = subst IsState (sym (made c)) (empty_is_state c.args.table.groups c.new-4.result.room c.in_ok-retry.retry c.in_ok-retry.ensures);
  roomy = record {
    table = omega arith;
    messages = omega arith;
    sessions = omega arith;
    graph = omega arith;
    shares = let none = ap length c.new-5.ensures.items in omega (arith, none);
  };
  few = let none = ap (λ (t : levels.TableOfLevels). t.contacts) c.requires in omega (arith, none);
  met = ap (λ (ss : List Session). list_all (λ x. nat_lt x.contact c.args.table.contacts) ss) c.new-4.ensures.sessions;
  honest = λ n node at share. absurd (not_there n node (sym (ap (λ (g : nodes.Shown). slice_get g.nodes n) c.in_ok-graph.ensures) ∙ at));
  limited = limits_none c.in_ok-retry.retry c.in_ok-retry.ensures;
  fresh = λ empty. c.new-4.ensures.begun;
}

pub returns : goal.returns
returns c = record {
  facts = ap (λ (p : Parts). (value_of p).facts) (made c) ∙ empty_facts c.args.table.groups c.new-4.result.room c.in_ok-retry.retry;
  answers = ap (λ (p : Parts). (value_of p).answers) (made c);
}
