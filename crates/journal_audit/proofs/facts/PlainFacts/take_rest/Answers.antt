use Rattle.journal_audit.proofs.Took.{entry_now}
use Rattle.journal_audit.proofs.facts.PlainFacts.take_rest.Goals as goal

pub returns-in-Contact : goal.returns-in-Contact
returns-in-Contact g c = entry_now (g.C.Clients.meaning c.args.clients.now) c.args.self.now c.take_contact.new.self c.take_contact.result c.args.entry c.in-Contact.is c.requires.knows c.take_contact.ensures

pub returns-in-Group : goal.returns-in-Group
returns-in-Group g c = entry_now (g.C.Clients.meaning c.args.clients.now) c.args.self.now c.take_group.new.self c.take_group.result c.args.entry c.in-Group.is c.requires.knows c.take_group.ensures

pub returns-in-Level : goal.returns-in-Level
returns-in-Level g c = entry_now (g.C.Clients.meaning c.args.clients.now) c.args.self.now c.take_level.new.self c.take_level.result c.args.entry c.in-Level.is c.requires.knows c.take_level.ensures

pub returns-in-Session : goal.returns-in-Session
returns-in-Session g c = entry_now (g.C.Clients.meaning c.args.clients.now) c.args.self.now c.take_session.new.self c.take_session.result c.args.entry c.in-Session.is c.requires.knows c.take_session.ensures

pub returns-in-Take : goal.returns-in-Take
returns-in-Take g c = entry_now (g.C.Clients.meaning c.args.clients.now) c.args.self.now c.take_record.new.self c.take_record.result c.args.entry c.in-Take.is c.requires.knows c.take_record.ensures

pub returns-in-Judged : goal.returns-in-Judged
returns-in-Judged g c = entry_now (g.C.Clients.meaning c.args.clients.now) c.args.self.now c.take_judged.new.self c.take_judged.result c.args.entry c.in-Judged.is c.requires.knows c.take_judged.ensures

pub returns-in-Deliver : goal.returns-in-Deliver
returns-in-Deliver g c = entry_now (g.C.Clients.meaning c.args.clients.now) c.args.self.now c.take_delivered.new.self c.take_delivered.result c.args.entry c.in-Deliver.is c.requires.knows c.take_delivered.ensures

pub returns-in-Invalid : goal.returns-in-Invalid
returns-in-Invalid g c = entry_now (g.C.Clients.meaning c.args.clients.now) c.args.self.now c.take_invalid.new.self c.take_invalid.result c.args.entry c.in-Invalid.is c.requires.knows c.take_invalid.ensures

pub returns-in-Again : goal.returns-in-Again
returns-in-Again g c = entry_now (g.C.Clients.meaning c.args.clients.now) c.args.self.now c.take_row.new.self c.take_row.result c.args.entry c.in-Again.is c.requires.knows c.take_row.ensures

pub returns-in-Offered : goal.returns-in-Offered
returns-in-Offered g c = entry_now (g.C.Clients.meaning c.args.clients.now) c.args.self.now c.take_offered.new.self c.take_offered.result c.args.entry c.in-Offered.is c.requires.knows c.take_offered.ensures

pub returns-in-Seen : goal.returns-in-Seen
returns-in-Seen g c = entry_now (g.C.Clients.meaning c.args.clients.now) c.args.self.now c.take_row-in-Seen.new.self c.take_row-in-Seen.result c.args.entry c.in-Seen.is c.requires.knows c.take_row-in-Seen.ensures

pub returns-in-Asked : goal.returns-in-Asked
returns-in-Asked g c = entry_now (g.C.Clients.meaning c.args.clients.now) c.args.self.now c.take_row-in-Asked.new.self c.take_row-in-Asked.result c.args.entry c.in-Asked.is c.requires.knows c.take_row-in-Asked.ensures

pub returns-in-Out : goal.returns-in-Out
returns-in-Out g c = entry_now (g.C.Clients.meaning c.args.clients.now) c.args.self.now c.take_out.new.self c.take_out.result c.args.entry c.in-Out.is c.requires.knows c.take_out.ensures

pub returns-in-Brief : goal.returns-in-Brief
returns-in-Brief g c = entry_now (g.C.Clients.meaning c.args.clients.now) c.args.self.now c.take_brief.new.self c.take_brief.result c.args.entry c.in-Brief.is c.requires.knows c.take_brief.ensures

pub returns-in-Tried : goal.returns-in-Tried
returns-in-Tried g c = entry_now (g.C.Clients.meaning c.args.clients.now) c.args.self.now c.take_tried.new.self c.take_tried.result c.args.entry c.in-Tried.is c.requires.knows c.take_tried.ensures

pub returns-in-Want : goal.returns-in-Want
returns-in-Want g c = entry_now (g.C.Clients.meaning c.args.clients.now) c.args.self.now c.want.new.self c.want.result c.args.entry c.in-Want.is c.requires.knows c.want.ensures
