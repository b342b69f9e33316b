use Rattle.std.proofs.Common.{◌≡◌, refl, sym, ap, subst, ◌∙◌}
use Rattle.std.specs.FinMap as fin_map
use Rattle.sync_rules.specs.declared.entries.Entry.TheVariants as entry
use Rattle.sync_rules.specs.declared.entries.Out.{Out}
use Rattle.sync_rules.specs.declared.entries.Out.TheVariants as out
use Rattle.sync_rules.specs.Lists.{firsts}
use Rattle.sync_rules.specs.Facts.{change_row, change_rows, contact_in, contact_of, latency_in, latency_of, row_acked, row_offered, row_sent, wanted_from, without_each}
use Rattle.journal_state.specs.Taking.{CanSend, TakesButBeginning}
use Rattle.journal_state.proofs.Took.{moves_same, kept_spends}
use Rattle.journal_state.proofs.state.State.take_out.Goals as goal

pub returns-in-Acks : goal.returns-in-Acks
returns-in-Acks c =
    let old = c.args.self.now.facts in
    let contact : c.known_session-on.result.contact ≡ contact_of old.sessions c.args.session = sym (ap contact_in c.known_session-on.ensures.found) in
    let can : CanSend old (out.Acks c.in-Acks.ids) = subst (CanSend old) c.in-Acks.is c.requires.kind.1 in
    let ids : c.as_slice.result.now ≡ firsts c.in-Acks.ids = c.as_slice.ensures.value ∙ sym can.1 in
    subst (λ (what : Out). TakesButBeginning c.args.self.now c.mark_all.new.self (entry.Out c.args.session c.args.now what)) (sym c.in-Acks.is)
    (moves_same c.args.self.now c.mark_all.new.self (entry.Out c.args.session c.args.now (out.Acks c.in-Acks.ids))
    (c.mark_all.ensures.facts ∙ (λ i. record old { rows = change_rows old.rows (contact i) (ids i) row_acked }))
    c.mark_all.ensures.answers (λ clients. refl) (kept_spends c.args.self.now.room c.mark_all.new.self.room c.mark_all.ensures.room))

pub returns-in-Requests : goal.returns-in-Requests
returns-in-Requests c =
    let old = c.args.self.now.facts in
    let contact : c.known_session-on.result.contact ≡ contact_of old.sessions c.args.session = sym (ap contact_in c.known_session-on.ensures.found) in
    subst (λ (what : Out). TakesButBeginning c.args.self.now c.unwant.new.self (entry.Out c.args.session c.args.now what)) (sym c.in-Requests.is)
    (moves_same c.args.self.now c.unwant.new.self (entry.Out c.args.session c.args.now (out.Requests c.in-Requests.ids))
    (c.unwant.ensures.facts
    ∙ (λ i. record old { wanted = fin_map.insert old.wanted (contact i) (without_each (c.as_slice-in-Requests.ensures.value i) (wanted_from old.wanted (contact i))) }))
    c.unwant.ensures.answers (λ clients. refl) c.unwant.ensures.room)

pub returns-in-Offers : goal.returns-in-Offers
returns-in-Offers c =
    let old = c.args.self.now.facts in
    let contact : c.known_session-on.result.contact ≡ contact_of old.sessions c.args.session = sym (ap contact_in c.known_session-on.ensures.found) in
    let latency : c.known_session-on.result.latency ≡ latency_of old.sessions c.args.session = sym (ap latency_in c.known_session-on.ensures.found) in
    let can : CanSend old (out.Offers c.in-Offers.ids) = subst (CanSend old) c.in-Offers.is c.requires.kind.1 in
    let ids : c.as_slice-in-Offers.result.now ≡ firsts c.in-Offers.ids = c.as_slice-in-Offers.ensures.value ∙ sym can.1 in
    subst (λ (what : Out). TakesButBeginning c.args.self.now c.mark_all-in-Offers.new.self (entry.Out c.args.session c.args.now what)) (sym c.in-Offers.is)
    (moves_same c.args.self.now c.mark_all-in-Offers.new.self (entry.Out c.args.session c.args.now (out.Offers c.in-Offers.ids))
    (c.mark_all-in-Offers.ensures.facts ∙ (λ i. record old { rows = change_rows old.rows (contact i) (ids i) (row_offered c.args.now (latency i)) }))
    c.mark_all-in-Offers.ensures.answers (λ clients. refl) (kept_spends c.args.self.now.room c.mark_all-in-Offers.new.self.room c.mark_all-in-Offers.ensures.room))

pub returns-in-Send : goal.returns-in-Send
returns-in-Send c =
    let old = c.args.self.now.facts in
    let contact : c.known_session-on.result.contact ≡ contact_of old.sessions c.args.session = sym (ap contact_in c.known_session-on.ensures.found) in
    let latency : c.known_session-on.result.latency ≡ latency_of old.sessions c.args.session = sym (ap latency_in c.known_session-on.ensures.found) in
    subst (λ (what : Out). TakesButBeginning c.args.self.now c.mark.new.self (entry.Out c.args.session c.args.now what)) (sym c.in-Send.is)
    (moves_same c.args.self.now c.mark.new.self (entry.Out c.args.session c.args.now (out.Send c.in-Send.id))
    (c.mark.ensures.facts ∙ (λ i. record old { rows = change_row old.rows (contact i) c.in-Send.id (row_sent c.args.now (latency i)) }))
    c.mark.ensures.answers (λ clients. refl) (kept_spends c.args.self.now.room c.mark.new.self.room c.mark.ensures.room))
