use Rattle.std.proofs.Common.{◌≡◌, ◌≤◌, length, refl, sym, ap, subst, ◌∙◌}
use Rattle.sync_rules.specs.declared.entries.Entry.TheVariants as entry
use Rattle.sync_rules.specs.Facts.{change_row, contact_in, contact_of, row_heard}
use Rattle.journal_state.specs.Room.{rows_room}
use Rattle.journal_state.proofs.Took.{moves_same, kept_spends}
use Rattle.journal_state.proofs.state.State.take_again.Goals as goal

pub mark-requires-clause-room : goal.mark-requires-clause-room
mark-requires-clause-room c =
    subst (λ n. length c.args.self.now.facts.held ≤ rows_room c.args.self.now.room n) (ap contact_in c.known_session-contact.ensures.found) c.requires.kind.on.rows

pub returns : goal.returns
returns c =
    let contact : c.known_session-contact.result.contact ≡ contact_of c.args.self.now.facts.sessions c.args.session = sym (ap contact_in c.known_session-contact.ensures.found) in
    moves_same c.args.self.now c.mark.new.self (entry.Again c.args.session c.args.id)
    (c.mark.ensures.facts ∙ (λ i. record c.args.self.now.facts { rows = change_row c.args.self.now.facts.rows (contact i) c.args.id row_heard }))
    c.mark.ensures.answers (λ clients. refl) (kept_spends c.args.self.now.room c.mark.new.self.room c.mark.ensures.room)
