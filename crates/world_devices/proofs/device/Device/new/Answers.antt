use Rattle.std.proofs.Common.{◌≡◌, ℕ, [], arith, subst, ◌∙◌}
use Rattle.world_devices.specs.Devices.{IsAnew}
use Rattle.world_devices.specs.Doing.{KeepsOwn, KeepsRest}
use Rattle.world_devices.specs.Keeping.{WentOn}
use Rattle.world_devices.specs.Linking.{new_journal}
use Rattle.world_devices.specs.Running.{HoldsAfterCrash}
use Rattle.world_devices.proofs.AddLaws.{anew_kept}
use Rattle.world_devices.proofs.KeepLaws.{holds_some}
use Rattle.world_devices.proofs.LeaveLaws.{went_none}
use Rattle.world_devices.proofs.NewLaws.{begun_journal, new_device, unlinked_kept}
use Rattle.world_devices.proofs.NewLaws.{when_done}
use Rattle.world_devices.proofs.device.Device.new.Goals as goal

pub invariant_of-device : goal.invariant_of-device
invariant_of-device c =
    (tt, holds_some (WentOn []) [] c.in-Ok.host (went_none []) c.in-Ok.ensures.holds, omega arith)

pub contacts-init : goal.contacts-init
contacts-init c = record {
  journal = begun_journal c.start.new.self.host (c.in-Ok-start.ensures.loads [] c.in-Ok.ensures.holds);
  unlinked = c.in-Ok-start.ensures.links;
  clock = c.start.ensures.clock;
  anew = subst (λ (k : ℕ). IsAnew k c.start.new.self.host) c.start.ensures.clock
      c.in-Ok-start.ensures.anew;
  unstopped = c.start.ensures.stop;
}

pub contacts-preserved : goal.contacts-preserved
contacts-preserved c =
    let old = c.contacts.device in
    let new = c.add_contact.new.self in
    let came = c.in_ok-add_contact.ensures in
    let ran = c.in_ok-add_contact.field-0 in
    let rest = when_done (KeepsOwn old new × KeepsRest old new) ran c.in-Done.is came.rest in
    record {
      journal = when_done _ ran c.in-Done.is
          (came.journal c.contacts._added c.contacts.invariant.journal);
      unlinked = unlinked_kept ran old new c.in-Done.is came.links c.contacts.invariant.unlinked;
      clock = rest.0.clock ∙ c.contacts.invariant.clock;
      anew = anew_kept _ old new rest.1 c.contacts.invariant.anew;
      unstopped = rest.0.stop ∙ c.contacts.invariant.unstopped;
    }

pub returns : goal.returns
returns c =
    let all : c.contacts._added ≡ c.args.contacts =
    omega (arith, c.contacts.auto._added-end, c.contacts-test.false) in
    let so_far = c.contacts.invariant in
    new_device c.args.contacts c.args.clock c.contacts.device c.links_stand.ensures so_far.unlinked
    (subst (λ (k : ℕ). HoldsAfterCrash (new_journal k) c.contacts.device.host) all so_far.journal)
    so_far.clock so_far.anew so_far.unstopped
