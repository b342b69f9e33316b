use Rattle.std.proofs.Common.{◌<◌, ◌≤◌, length, ap, sym, subst, ◌∙◌, arith}
use Rattle.sync_rules.specs.Facts.{change_row}
use Rattle.sync_rules.specs.Views.{IsPlace}
use Rattle.retry_table.specs.Table as retry
use Rattle.journal_state.specs.Room.{rows_room, room_in}
use Rattle.journal_state.specs.Whole.{StateValue, value_of}
use Rattle.journal_state.specs.Inside.{parts}
use Rattle.journal_state.proofs.Kept.{marked_state, marked_facts}
use Rattle.journal_state.proofs.Limited.{limited_tried, limits_kept}
use Rattle.journal_state.proofs.Tables.{rows_room_is}
use Rattle.journal_state.proofs.state.State.put_row.Goals as goal

place : (c : goal.After-restore) → IsPlace c.self.inside.messages.held c.args.tried.now.id c.args.number
place c = subst (λ (v : StateValue). IsPlace v.facts.held c.args.tried.now.id c.args.number) (sym c.self.view_is) c.requires.place

within : (c : goal.After-restore) → c.args.number < length (retry.rows_of c.self.inside.retry c.args.tried.now.contact)
within c =
    let room : length c.self.inside.messages.held ≤ rows_room (room_in c.self.inside.space c.self.inside.retry) c.args.tried.now.contact =
    subst (λ (v : StateValue). length v.facts.held ≤ rows_room v.room c.args.tried.now.contact) (sym c.self.view_is) c.requires.room in
    let rows = rows_room_is c.self.inside.space c.self.inside.retry c.args.tried.now.contact in
    let below = (place c).within in
    omega (arith, room, rows, below)

pub invariant_of-self : goal.invariant_of-self
invariant_of-self c =
    let was = retry.kept_at c.self.inside.retry c.args.tried.now.contact c.args.number in
    record {
      state = marked_state (parts c.self.inside) c.self.invariant.state c.args.tried.now.contact c.args.number (place c).message (place c).stands
          (retry.row_restored c.args.tried.now) c.restore.new.self c.restore.ensures (within c);
      roomy = record {
        table = c.self.invariant.roomy.table;
        messages = c.self.invariant.roomy.messages;
        sessions = c.self.invariant.roomy.sessions;
        graph = c.self.invariant.roomy.graph;
        shares = c.self.invariant.roomy.shares;
      };
      few = c.self.invariant.few;
      met = c.self.invariant.met;
      honest = c.self.invariant.honest;
      limited =
          limits_kept c.self.inside.retry c.restore.new.self c.args.tried.now.contact c.args.number (retry.with_row (retry.row_restored c.args.tried.now) was) c.restore.ensures (within c)
          (limited_tried c.args.tried.now was.row c.requires.few c.requires.wait) c.self.invariant.limited;
      fresh = c.self.invariant.fresh;
    }

pub returns-clause-facts : goal.returns-clause-facts
returns-clause-facts c =
    marked_facts (parts c.self.inside) c.self.invariant.state c.args.tried.now.contact c.args.number (place c).message (place c).stands
    (retry.row_restored c.args.tried.now) c.restore.new.self c.restore.ensures (within c)
    ∙ ((λ i. record (value_of (parts c.self.inside)).facts {
      rows = change_row (value_of (parts c.self.inside)).facts.rows c.args.tried.now.contact ((place c).named i) (retry.row_restored c.args.tried.now);
    })
    ∙ ap (λ (v : StateValue). record v.facts { rows = change_row v.facts.rows c.args.tried.now.contact c.args.tried.now.id (retry.row_restored c.args.tried.now) }) c.self.view_is)
