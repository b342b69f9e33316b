use Rattle.std.proofs.Common.{◌≡◌, ◌+◌, ◌-◌, nat_lt, ap, sym, subst, ◌∙◌, arith}
use Rattle.sync_rules.specs.declared.entries.Entry.TheVariants as entry
use Rattle.sync_rules.specs.declared.entries.Session.{Session}
use Rattle.visibility_table.specs.Table as levels
use Rattle.journal_state.specs.Parts.{Parts}
use Rattle.journal_state.specs.Taking.{TakesButBeginning}
use Rattle.journal_state.specs.Whole.{StateValue, value_of}
use Rattle.journal_state.specs.Inside.{parts}
use Rattle.journal_state.proofs.Entries.{contact_state, contact_facts, all_weaker, below_more}
use Rattle.journal_state.proofs.Took.{took}
use Rattle.journal_state.proofs.Tables.{room_one}
use Rattle.journal_state.proofs.state.State.take_contact.Goals as goal

pub invariant_of-self : goal.invariant_of-self
invariant_of-self c =
    let number : c.args.contact ≡ c.self.inside.table.contacts = c.requires.kind.0 ∙ sym (ap (λ (v : StateValue). v.facts.contacts) c.self.view_is) in
    let contacts : c.apply.new.self.contacts ≡ c.self.inside.table.contacts + 1 = ap (λ (t : levels.TableOfLevels). t.contacts) c.apply.ensures in
    let spare : c.apply.new.self.spare ≡ c.self.inside.table.spare - 0 = ap (λ (t : levels.TableOfLevels). t.spare) c.apply.ensures in
    record {
      state = contact_state (parts c.self.inside) c.self.invariant.state c.args.contact c.apply.new.self c.apply.ensures (c.self.inside.space - 1);
      roomy = record {
        table = let m = c.self.invariant.roomy.table in omega (arith, m, spare);
        messages = let m = c.self.invariant.roomy.messages in omega (arith, m);
        sessions = let m = c.self.invariant.roomy.sessions in omega (arith, m);
        graph = let m = c.self.invariant.roomy.graph in omega (arith, m);
        shares = let m = c.self.invariant.roomy.shares in omega (arith, m);
      };
      limited = c.self.invariant.limited;
      fresh = c.self.invariant.fresh;
      few = let below = c.requires.kind.1 in omega (arith, number, contacts, below);
      met = all_weaker (λ (x : Session). nat_lt x.contact c.self.inside.table.contacts) (λ (x : Session). nat_lt x.contact c.apply.new.self.contacts)
          (λ x. below_more x.contact c.self.inside.table.contacts c.apply.new.self.contacts (omega (arith, contacts)))
          c.self.inside.sessions.sessions c.self.invariant.met;
      honest = c.self.invariant.honest;
    }

pub returns : goal.returns
returns c =
    let number : c.args.contact ≡ c.self.inside.table.contacts = c.requires.kind.0 ∙ sym (ap (λ (v : StateValue). v.facts.contacts) c.self.view_is) in
    let after_it : Parts = record (parts c.self.inside) { table = c.apply.new.self; space = c.self.inside.space - 1 } in
    subst (λ (v : StateValue). TakesButBeginning v (value_of after_it) (entry.Contact c.args.contact)) c.self.view_is
    (record {
      facts = contact_facts (parts c.self.inside) c.self.invariant.state c.args.contact c.apply.new.self c.apply.ensures (c.self.inside.space - 1) number;
      knows = λ clients k. k ∙ took clients (value_of (parts c.self.inside)).facts (value_of after_it).facts (entry.Contact c.args.contact)
          (contact_facts (parts c.self.inside) c.self.invariant.state c.args.contact c.apply.new.self c.apply.ensures (c.self.inside.space - 1) number);
      room = room_one c.self.inside.space c.self.inside.retry;
    })
