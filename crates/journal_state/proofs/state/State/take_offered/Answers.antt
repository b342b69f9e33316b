use Rattle.std.proofs.Common.{◌≡◌, ◌-◌, ◌^◌, ◌<◌, ◌≤◌, length, refl, sym, ap, subst, ◌∙◌}
use Rattle.std.specs.FinMap as fin_map
use Rattle.sync_rules.specs.declared.entries.Entry.TheVariants as entry
use Rattle.sync_rules.specs.Facts.{contact_in, contact_of, is_held, wanted_from, with_want}
use Rattle.journal_state.specs.Room.{wants_room}
use Rattle.journal_state.proofs.Took.{moves_same}
use Rattle.journal_state.proofs.state.State.take_offered.Goals as goal

pub want-requires : goal.want-requires
want-requires c = record {
  known = c.known_session-contact.ensures.known;
  room = subst (λ n. 1 ≤ wants_room c.args.self.now.room n) (ap contact_in c.known_session-contact.ensures.found) c.requires.kind.1;
  few = subst (λ n. length (wanted_from c.args.self.now.facts.wanted n) < 2 ^ 32 - 1) (ap contact_in c.known_session-contact.ensures.found) c.requires.kind.2;
}

pub returns : goal.returns
returns c =
    let contact : c.known_session-contact.result.contact ≡ contact_of c.args.self.now.facts.sessions c.args.session = sym (ap contact_in c.known_session-contact.ensures.found) in
    moves_same c.args.self.now c.want.new.self (entry.Offered c.args.session c.args.id)
    (c.want.ensures.facts
    ∙ (λ i. record c.args.self.now.facts {
      wanted = fin_map.insert c.args.self.now.facts.wanted (contact i)
          (with_want (is_held c.args.self.now.facts.held c.args.id) (wanted_from c.args.self.now.facts.wanted (contact i)) c.args.id);
    }))
    c.want.ensures.answers (λ clients. refl) c.want.ensures.room
