use Rattle.std.proofs.Common.{OnOk, subst}
use Rattle.sync_rules.specs.Facts.{Facts}
use Rattle.journal_audit.specs.Changes.{BecomesFacts}
use Rattle.journal_audit.specs.Plain.{facts_of}
use Rattle.journal_audit.proofs.Took.{acks_facts, offers_facts}
use Rattle.journal_audit.proofs.facts.PlainFacts.take_out.Goals as goal

pub returns-in-Acks : goal.returns-in-Acks
returns-in-Acks c =
    let p = c.args.self.now in
    subst (λ (f : Facts). OnOk c.change_rows.result (BecomesFacts p c.change_rows.new.self f))
    (acks_facts (facts_of p) c.args.session c.args.now c.contact_of-contact.result c.args.what c.in-Acks.ids c.as_slice.result.now c.in-Acks.is c.requires.fits (c.as_slice.ensures.value)
    c.contact_of-contact.ensures)
    c.change_rows.ensures

pub returns-in-Offers : goal.returns-in-Offers
returns-in-Offers c =
    let p = c.args.self.now in
    subst (λ (f : Facts). OnOk c.change_rows-in-Offers.result (BecomesFacts p c.change_rows-in-Offers.new.self f))
    (offers_facts (facts_of p) c.args.session c.args.now c.contact_of-contact.result c.latency_of-latency.result c.args.what c.in-Offers.ids
    c.as_slice-in-Offers.result.now c.in-Offers.is c.requires.fits (c.as_slice-in-Offers.ensures.value) c.contact_of-contact.ensures c.latency_of-latency.ensures)
    c.change_rows-in-Offers.ensures
