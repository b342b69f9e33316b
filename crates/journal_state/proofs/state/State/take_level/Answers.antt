use Rattle.std.proofs.Common.{◌≡◌, ◌-◌, ◌<◌, ◌≤◌, Bool, true, nat_lt, Some, length, is_some, ap, sym, subst, ◌∙◌, arith}
use Rattle.std.specs.List.{list_all}
use Rattle.sync_rules.specs.declared.entries.Entry.TheVariants as entry
use Rattle.sync_rules.specs.declared.entries.Session.{Session}
use Rattle.sync_rules.specs.Facts.{group_at, is_level_shared}
use Rattle.visibility_table.specs.Table as levels
use Rattle.retry_table.specs.Table as retry
use Rattle.journal_state.specs.Room.{room_in, rows_room}
use Rattle.journal_state.proofs.Tables.{rows_room_is}
use Rattle.journal_state.specs.Parts.{Parts}
use Rattle.journal_state.specs.Taking.{TakesButBeginning}
use Rattle.journal_state.specs.Whole.{StateValue, value_of}
use Rattle.journal_state.specs.Inside.{parts}
use Rattle.journal_state.proofs.Levelled.{level_row, level_state, level_facts, levels_room, released_within}
use Rattle.journal_state.proofs.Limited.{limits_same}
use Rattle.journal_state.proofs.Took.{took}
use Rattle.journal_state.proofs.state.State.take_level.Goals as goal

numbered : (c : goal.After-set_group) → levels.group_number c.self.inside.table.groups c.args.group ≡ Some c.unwrap-number.result
numbered c = sym c.group.ensures.number ∙ c.unwrap-number.ensures

done : (c : goal.After-set_group) → retry.SetsGroup c.self.inside.retry c.set_group.new.self c.args.contact c.unwrap-number.result (is_level_shared c.args.level)
done c = subst (λ (b : Bool). retry.SetsGroup c.self.inside.retry c.set_group.new.self c.args.contact c.unwrap-number.result b) c.is_shared.ensures c.set_group.ensures

pub set_group-requires : goal.set_group-requires
set_group-requires c =
    let rows : length c.self.inside.messages.held ≤ rows_room (room_in c.self.inside.space c.self.inside.retry) c.args.contact =
    subst (λ (v : StateValue). length v.facts.held ≤ rows_room v.room c.args.contact) (sym c.self.view_is) c.requires.kind.1 in
    let is = rows_room_is c.self.inside.space c.self.inside.retry c.args.contact in
    λ n e. released_within (parts c.self.inside) c.self.invariant.state n c.unwrap-number.result (length (retry.rows_of c.self.inside.retry c.args.contact)) e (omega (arith, rows, is))

pub invariant_of-self : goal.invariant_of-self
invariant_of-self c =
    let contacts : c.self.inside.table.contacts ≡ c.apply.new.self.contacts = sym (ap (λ (t : levels.TableOfLevels). t.contacts) c.apply.ensures) in
    let spare : c.apply.new.self.spare ≡ c.self.inside.table.spare - 1 = ap (λ (t : levels.TableOfLevels). t.spare) c.apply.ensures in
    let known : is_some (group_at c.self.inside.table.groups c.args.group) ≡ true = ap (λ (v : StateValue). is_some (group_at v.facts.groups c.args.group)) c.self.view_is ∙ c.requires.kind.0 in
    let met : c.args.contact < c.self.inside.table.contacts = subst (λ (v : StateValue). c.args.contact < v.facts.contacts) (sym c.self.view_is) c.requires.kind.2 in
    record {
      state = level_state (parts c.self.inside) c.self.invariant.state c.args.contact c.args.group c.args.level c.apply.new.self c.apply.ensures c.unwrap-number.result (numbered c)
          c.set_group.new.self (done c) (c.self.inside.space - 1) met known;
      roomy = record {
        table = let m = c.self.invariant.roomy.table in omega (arith, m, spare);
        messages = let m = c.self.invariant.roomy.messages in omega (arith, m);
        sessions = let m = c.self.invariant.roomy.sessions in omega (arith, m);
        graph = let m = c.self.invariant.roomy.graph in omega (arith, m);
        shares = let m = c.self.invariant.roomy.shares in omega (arith, m);
      };
      few = let m = c.self.invariant.few in omega (arith, contacts, m);
      met = subst (λ n. list_all (λ (x : Session). nat_lt x.contact n) c.self.inside.sessions.sessions ≡ true) contacts c.self.invariant.met;
      honest = c.self.invariant.honest;
      limited =
          limits_same c.self.inside.retry c.set_group.new.self
          (level_row (parts c.self.inside) c.self.invariant.state c.args.contact c.args.group c.args.level c.apply.new.self c.apply.ensures c.unwrap-number.result (numbered c)
          c.set_group.new.self (done c) (c.self.inside.space - 1)) c.self.invariant.limited;
      fresh = c.self.invariant.fresh;
    }

pub returns : goal.returns
returns c =
    let after_it : Parts = record (parts c.self.inside) { table = c.apply.new.self; retry = c.set_group.new.self; space = c.self.inside.space - 1 } in
    subst (λ (v : StateValue). TakesButBeginning v (value_of after_it) (entry.Level c.args.contact c.args.group c.args.level)) c.self.view_is
    (record {
      facts = level_facts (parts c.self.inside) c.self.invariant.state c.args.contact c.args.group c.args.level c.apply.new.self c.apply.ensures c.unwrap-number.result (numbered c)
          c.set_group.new.self (done c) (c.self.inside.space - 1);
      knows = λ clients k. k ∙ took clients (value_of (parts c.self.inside)).facts (value_of after_it).facts (entry.Level c.args.contact c.args.group c.args.level)
          (level_facts (parts c.self.inside) c.self.invariant.state c.args.contact c.args.group c.args.level c.apply.new.self c.apply.ensures c.unwrap-number.result (numbered c)
          c.set_group.new.self (done c) (c.self.inside.space - 1));
      room = levels_room c.self.inside.space c.self.inside.retry c.set_group.new.self c.args.contact c.unwrap-number.result (is_level_shared c.args.level) (done c);
    })
