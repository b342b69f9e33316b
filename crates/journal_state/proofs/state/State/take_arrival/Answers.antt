use Rattle.std.proofs.Common.{◌≡◌, ℕ, ◌+◌, ◌≤◌, List, [], ◌∷◌, ◌++◌, length, refl, sym, ap, subst, ◌∙◌, arith, length-append}
use Rattle.sync_ids.specs.Ids.{message_id_of}
use Rattle.sync_rules.specs.declared.states.Origin.TheVariants as origin
use Rattle.sync_rules.specs.Facts.{Facts, Held, arrived, change_row, contact_in, contact_of, row_heard, wanted_by_none}
use Rattle.journal_state.specs.Room.{rows_room}
use Rattle.journal_state.specs.Whole.{id_at}
use Rattle.journal_state.proofs.Listed.{id_there}
use Rattle.journal_state.proofs.MoreHeld.{end_here}
use Rattle.journal_state.proofs.Took.{knows_after, spends_kept}
use Rattle.journal_state.proofs.state.State.take_arrival.Goals as goal

longer : (held new : List Held) (h : Held) → new ≡ held ++ h ∷ [] → length new ≡ length held + 1
longer held new h is = ap length is ∙ length-append held (h ∷ [])

-- the message that was held last stands at its number
named_last : (held new : List Held) (h : Held) (n : ℕ) → new ≡ held ++ h ∷ [] → n ≡ length held → id_at new n ≡ h.id
named_last held new h n is number = (λ i. id_at (is i) (number i)) ∙ id_there (held ++ h ∷ []) (length held) h (end_here held h)

pub mark_at-requires-clause-held : goal.mark_at-requires-clause-held
mark_at-requires-clause-held c =
    let more : Held = record { id = message_id_of c.args.message; message = c.args.message; origin = origin.From c.known_session-contact.result.contact } in
    let long = longer c.args.self.now.facts.held c.hold-number.new.self.facts.held more (ap (λ (f : Facts). f.held) c.hold-number.ensures.facts) in
    omega (arith, long, c.hold-number.ensures.number)

pub mark_at-requires-clause-room : goal.mark_at-requires-clause-room
mark_at-requires-clause-room c =
    let more : Held = record { id = message_id_of c.args.message; message = c.args.message; origin = origin.From c.known_session-contact.result.contact } in
    let long = longer c.args.self.now.facts.held c.hold-number.new.self.facts.held more (ap (λ (f : Facts). f.held) c.hold-number.ensures.facts) in
    let room : length c.args.self.now.facts.held + 1 ≤ rows_room c.args.self.now.room c.known_session-contact.result.contact =
    subst (λ n. length c.args.self.now.facts.held + 1 ≤ rows_room c.args.self.now.room n) (ap contact_in c.known_session-contact.ensures.found) c.requires.can.kind.2 in
    let rows = c.hold-number.ensures.room.rows c.known_session-contact.result.contact in
    omega (arith, long, room, rows)

pub returns : goal.returns
returns c =
    let old = c.args.self.now.facts in
    let mid = c.hold-number.new.self.facts in
    let more : Held = record { id = message_id_of c.args.message; message = c.args.message; origin = origin.From c.known_session-contact.result.contact } in
    let named : id_at mid.held c.hold-number.result ≡ message_id_of c.args.message =
    named_last old.held mid.held more c.hold-number.result (ap (λ (f : Facts). f.held) c.hold-number.ensures.facts) c.hold-number.ensures.number in
    let contact : c.known_session-contact.result.contact ≡ contact_of old.sessions c.args.session = sym (ap contact_in c.known_session-contact.ensures.found) in
    record {
      facts =
          c.mark_at.ensures.facts
          ∙ ((λ i. record (c.hold-number.ensures.facts i) { rows = change_row (c.hold-number.ensures.facts i).rows c.known_session-contact.result.contact (named i) row_heard })
          ∙ (λ i. record old {
            held = old.held ++ arrived (contact i) c.args.message ∷ [];
            rows = change_row old.rows (contact i) (message_id_of c.args.message) row_heard;
            wanted = wanted_by_none old.wanted (message_id_of c.args.message);
          }));
      knows = λ clients k. knows_after clients c.hold-number.new.self c.mark_at.new.self
          (record mid { rows = change_row mid.rows c.known_session-contact.result.contact (id_at mid.held c.hold-number.result) row_heard })
          c.mark_at.ensures.facts c.mark_at.ensures.answers refl (c.hold-number.ensures.knows clients k);
      room = spends_kept c.args.self.now.room c.hold-number.new.self.room c.mark_at.new.self.room c.hold-number.ensures.room c.mark_at.ensures.room;
    }
