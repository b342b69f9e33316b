use Rattle.std.proofs.Common.{◌≡◌, ◌-◌, true, nat_lt, ap, sym, subst, arith}
use Rattle.std.specs.List.{list_all}
use Rattle.sync_rules.specs.declared.entries.Entry.TheVariants as entry
use Rattle.sync_rules.specs.declared.entries.Session.{Session}
use Rattle.visibility_table.specs.Table as levels
use Rattle.journal_state.specs.Parts.{Parts}
use Rattle.journal_state.specs.Taking.{TakesButBeginning}
use Rattle.journal_state.specs.Whole.{StateValue, value_of}
use Rattle.journal_state.specs.Inside.{parts}
use Rattle.journal_state.proofs.Entries.{group_state, group_facts, group_knows}
use Rattle.journal_state.proofs.Tables.{room_one}
use Rattle.journal_state.proofs.state.State.take_group.Goals as goal

pub invariant_of-self : goal.invariant_of-self
invariant_of-self c =
    let contacts : c.self.inside.table.contacts ≡ c.add_group.new.self.contacts = sym (ap (λ (t : levels.TableOfLevels). t.contacts) c.add_group.ensures) in
    let spare : c.add_group.new.self.spare ≡ c.self.inside.table.spare - 1 = ap (λ (t : levels.TableOfLevels). t.spare) c.add_group.ensures in
    record {
      state = group_state (parts c.self.inside) c.self.invariant.state c.args.def c.add_group.new.self c.add_group.ensures (c.self.inside.space - 1);
      roomy = record {
        table = let m = c.self.invariant.roomy.table in omega (arith, m, spare);
        messages = let m = c.self.invariant.roomy.messages in omega (arith, m);
        sessions = let m = c.self.invariant.roomy.sessions in omega (arith, m);
        graph = let m = c.self.invariant.roomy.graph in omega (arith, m);
        shares = let m = c.self.invariant.roomy.shares in omega (arith, m);
      };
      limited = c.self.invariant.limited;
      fresh = c.self.invariant.fresh;
      few = let m = c.self.invariant.few in omega (arith, contacts, m);
      met = subst (λ n. list_all (λ (x : Session). nat_lt x.contact n) c.self.inside.sessions.sessions ≡ true) contacts c.self.invariant.met;
      honest = c.self.invariant.honest;
    }

pub returns : goal.returns
returns c =
    let after_it : Parts = record (parts c.self.inside) { table = c.add_group.new.self; space = c.self.inside.space - 1 } in
    subst (λ (v : StateValue). TakesButBeginning v (value_of after_it) (entry.Group c.args.def)) c.self.view_is
    (record {
      facts = group_facts (parts c.self.inside) c.self.invariant.state c.args.def c.add_group.new.self c.add_group.ensures (c.self.inside.space - 1);
      knows = group_knows (parts c.self.inside) c.self.invariant.state c.args.def c.add_group.new.self c.add_group.ensures (c.self.inside.space - 1);
      room = room_one c.self.inside.space c.self.inside.retry;
    })
