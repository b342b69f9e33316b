use Rattle.std.proofs.Common.{ap, ◌∙◌}
use Rattle.sync_rules.specs.declared.states.Origin.TheVariants as origin
use Rattle.sync_rules.specs.Facts.{Facts}
use Rattle.journal_audit.specs.Lines.{held_in}
use Rattle.journal_audit.specs.Plain.{facts_of}
use Rattle.journal_audit.proofs.Took.{arrived_facts, arrived_held}
use Rattle.journal_audit.proofs.facts.PlainFacts.take_arrival.Goals as goal

pub change_row-requires-clause-held : goal.change_row-requires-clause-held
change_row-requires-clause-held g c =
    arrived_held (held_in c.hold.new.self.messages.lines) (held_in c.args.self.now.messages.lines) (origin.From c.contact_of-contact.result) c.args.message c.in_ok-id.id
    (ap (λ (f : Facts). f.held) c.in_ok-id.ensures.held.facts) c.requires.fits.new c.in_ok-id.ensures.id

pub returns : goal.returns
returns g c = record {
  facts = c.in_ok-change_row.ensures.facts ∙ arrived_facts (facts_of c.args.self.now) c.args.session c.contact_of-contact.result c.args.message c.in_ok-id.id (facts_of c.hold.new.self) c.contact_of-contact.ensures c.in_ok-id.ensures.id c.in_ok-id.ensures.held.facts;
  sound = c.in_ok-change_row.ensures.sound;
  knows = c.in_ok-change_row.ensures.knows (g.C.Clients.meaning c.args.clients.now) c.in_ok-id.ensures.held.knows;
}
