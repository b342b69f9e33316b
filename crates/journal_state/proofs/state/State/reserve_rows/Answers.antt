use Rattle.std.proofs.Common.{ap, subst, ◌∙◌, arith}
use Rattle.journal_state.specs.Room.{KeepsRoom, room_in}
use Rattle.journal_state.specs.Whole.{StateValue}
use Rattle.journal_state.specs.Inside.{parts}
use Rattle.journal_state.proofs.Kept.{same_state, same_facts}
use Rattle.retry_table.specs.Table as retry
use Rattle.journal_state.proofs.Limited.{limits_same}
use Rattle.journal_state.proofs.Tables.{NoLess, no_less, room_kept}
use Rattle.journal_state.proofs.state.State.reserve_rows.Goals as goal

kept : (c : goal.After-reserve) → NoLess c.self.inside.retry c.reserve.new.self
kept c = no_less c.reserve.result c.self.inside.retry c.reserve.new.self c.args.contact c.in_steps-numbers.result c.args.wants c.reserve.ensures.ok c.reserve.ensures.err

pub invariant_of-self : goal.invariant_of-self
invariant_of-self c = record {
  state = same_state (parts c.self.inside) c.self.invariant.state c.reserve.new.self c.self.inside.space (kept c).same;
  roomy = record {
    table = c.self.invariant.roomy.table;
    messages = c.self.invariant.roomy.messages;
    sessions = c.self.invariant.roomy.sessions;
    graph = c.self.invariant.roomy.graph;
    shares = c.self.invariant.roomy.shares;
  };
  few = c.self.invariant.few;
  met = c.self.invariant.met;
  honest = c.self.invariant.honest;
  limited =
      limits_same c.self.inside.retry c.reserve.new.self (λ contact n. ap (λ (x : retry.KeptRow). x.row) ((kept c).same.rows contact n)) c.self.invariant.limited;
  fresh = c.self.invariant.fresh;
}

pub returns-clause-facts : goal.returns-clause-facts
returns-clause-facts c =
    same_facts (parts c.self.inside) c.self.invariant.state c.reserve.new.self c.self.inside.space (kept c).same
    ∙ ap (λ (v : StateValue). v.facts) c.self.view_is

pub returns-clause-kept : goal.returns-clause-kept
returns-clause-kept c =
    subst (λ (v : StateValue). KeepsRoom v.room (room_in c.self.inside.space c.reserve.new.self)) c.self.view_is
    (room_kept c.self.inside.space c.self.inside.space c.self.inside.retry c.reserve.new.self (omega arith) (kept c).rows (kept c).wants)
