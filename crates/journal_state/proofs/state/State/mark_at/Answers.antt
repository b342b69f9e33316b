use Rattle.std.proofs.Common.{◌≡◌, ◌<◌, ◌≤◌, List, Some, length, slice_get, ap, sym, subst, ◌∙◌, arith}
use Rattle.sync_rules.specs.Facts.{Held, change_row}
use Rattle.retry_table.specs.Table as retry
use Rattle.journal_state.specs.Marks.{marked}
use Rattle.journal_state.specs.Room.{KeepsRoom, rows_room, room_in}
use Rattle.journal_state.specs.Whole.{StateValue, id_at, value_of}
use Rattle.journal_state.specs.Inside.{parts}
use Rattle.journal_state.proofs.Kept.{marked_state, marked_facts}
use Rattle.journal_state.proofs.Limited.{limited_mark, limits_kept}
use Rattle.journal_state.proofs.Listed.{id_there}
use Rattle.journal_state.proofs.Seen.{there}
use Rattle.journal_state.proofs.Tables.{kept_length, room_kept, rows_room_is}
use Rattle.journal_state.proofs.state.State.mark_at.Goals as goal

here : (c : goal.After-mark_row) → (h : Held) × (slice_get c.self.inside.messages.held c.args.n ≡ Some h)
here c = there c.self.inside.messages.held c.args.n (subst (λ (v : StateValue). c.args.n < length v.facts.held) (sym c.self.view_is) c.requires.held)

within : (c : goal.After-mark_row) → c.args.n < length (retry.rows_of c.self.inside.retry c.args.contact)
within c =
    let room : length c.self.inside.messages.held ≤ rows_room (room_in c.self.inside.space c.self.inside.retry) c.args.contact =
    subst (λ (v : StateValue). length v.facts.held ≤ rows_room v.room c.args.contact) (sym c.self.view_is) c.requires.room in
    let rows = rows_room_is c.self.inside.space c.self.inside.retry c.args.contact in
    let below : c.args.n < length c.self.inside.messages.held = subst (λ (v : StateValue). c.args.n < length v.facts.held) (sym c.self.view_is) c.requires.held in
    omega (arith, room, rows, below)

pub invariant_of-self : goal.invariant_of-self
invariant_of-self c = record {
  state = marked_state (parts c.self.inside) c.self.invariant.state c.args.contact c.args.n (here c).0 (here c).1 (marked c.args.mark) c.mark_row.new.retry c.mark_row.ensures (within c);
  roomy = record {
    table = c.self.invariant.roomy.table;
    messages = c.self.invariant.roomy.messages;
    sessions = c.self.invariant.roomy.sessions;
    graph = c.self.invariant.roomy.graph;
    shares = c.self.invariant.roomy.shares;
  };
  few = c.self.invariant.few;
  met = c.self.invariant.met;
  honest = c.self.invariant.honest;
  limited =
      limits_kept c.self.inside.retry c.mark_row.new.retry c.args.contact c.args.n
      (retry.with_row (marked c.args.mark) (retry.kept_at c.self.inside.retry c.args.contact c.args.n)) c.mark_row.ensures (within c)
      (limited_mark c.args.mark (retry.kept_at c.self.inside.retry c.args.contact c.args.n).row
      (c.self.invariant.limited c.args.contact c.args.n)) c.self.invariant.limited;
  fresh = c.self.invariant.fresh;
}

pub returns-clause-facts : goal.returns-clause-facts
returns-clause-facts c =
    marked_facts (parts c.self.inside) c.self.invariant.state c.args.contact c.args.n (here c).0 (here c).1 (marked c.args.mark) c.mark_row.new.retry c.mark_row.ensures (within c)
    ∙ ((λ i. record (value_of (parts c.self.inside)).facts { rows = change_row (value_of (parts c.self.inside)).facts.rows c.args.contact (sym (id_there c.self.inside.messages.held c.args.n (here c).0 (here c).1) i) (marked c.args.mark) })
    ∙ ap (λ (v : StateValue). record v.facts { rows = change_row v.facts.rows c.args.contact (id_at v.facts.held c.args.n) (marked c.args.mark) }) c.self.view_is)

pub returns-clause-room : goal.returns-clause-room
returns-clause-room c =
    let long = kept_length c.self.inside.retry c.mark_row.new.retry c.args.contact c.args.n (retry.with_row (marked c.args.mark) (retry.kept_at c.self.inside.retry c.args.contact c.args.n)) c.mark_row.ensures in
    subst (λ (v : StateValue). KeepsRoom v.room (room_in c.self.inside.space c.mark_row.new.retry)) c.self.view_is
    (room_kept c.self.inside.space c.self.inside.space c.self.inside.retry c.mark_row.new.retry (omega arith)
    (λ k. let e = long k in omega (arith, e))
    (λ k. let e = ap (λ (ws : List retry.WantedFromContact). (retry.wants_of (record c.self.inside.retry { wants = ws }) k).room) c.mark_row.ensures.wants in omega (arith, e)))
