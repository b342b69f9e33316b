use Rattle.std.proofs.Common.{sym}
use Rattle.client_basic.specs.Bodies.{bundle_meaning}
use Rattle.sync_rules.specs.declared.entries.Entry.TheVariants as entry
use Rattle.world_devices.proofs.AddLaws.{rest_kept}
use Rattle.world_devices.proofs.AllowedLaws.{contact_allowed}
use Rattle.world_devices.proofs.NewLaws.{new_journal_kept, number_is}
use Rattle.world_devices.proofs.RunningLaws.{may_add}
use Rattle.world_devices.proofs.device.Device.add_contact.Goals as goal

pub add-requires : goal.add-requires
add-requires c =
    may_add c.args.self.now.node c.in-Some.store.now _ c.in-Some.ensures tt
    (λ settled. contact_allowed bundle_meaning c.in-Some.store.now.state.facts c.in-Ok.number settled (sym c.in-Ok.ensures))

pub returns-in-Ok-clause-rest : goal.returns-in-Ok-clause-rest
returns-in-Ok-clause-rest c = rest_kept (entry.Contact c.in-Ok.number) c.add.result c.args.self.now c.add.new.self c.add.ensures.adds

pub returns-in-Ok-clause-journal : goal.returns-in-Ok-clause-journal
returns-in-Ok-clause-journal c = λ contacts holds.
    new_journal_kept contacts c.in-Ok.number c.add.result c.args.self.now c.add.new.self
    (number_is contacts c.in-Ok.number c.args.self.now c.in-Some.store.now c.links_stand.ensures
    c.in-Some.ensures c.in-Ok.ensures holds) c.add.ensures.adds holds
