use Rattle.std.proofs.Common.{◌≡◌, None, sym, subst}
use Rattle.sync_world.specs.Doing.{DoesBy}
use Rattle.sync_world.specs.Leaving.{IsSame}
use Rattle.sync_world.specs.Refusing.{refuses}
use Rattle.sync_world.specs.Standing.{AllLinksStand}
use Rattle.sync_world.specs.declared.stage.Stage.{Stage}
use Rattle.world_devices.specs.Refusals.{RefusedBy}
use Rattle.sync_world.proofs.ContactLaws.{contacts_known, world_stepped}
use Rattle.sync_world.proofs.WorldLaws.{many_of}
use Rattle.sync_world.proofs.world.World.step.Goals as goal

pub invariant_of-self : goal.invariant_of-self
invariant_of-self c =
    let made = c.step-made.ensures in
    world_stepped c.args.step.now c.self.inside.stage c.step-made.new.self c.step-made.result
    c.self.invariant (subst AllLinksStand c.as_slice.ensures.value c.links_stand_on.ensures)
    made.goes made.fault made.for_good made.same made.does

pub returns-clause-many : goal.returns-clause-many
returns-clause-many c =
    let laws = c.many_devices.ensures in
    let made = c.step-made.ensures in
    many_of laws.sound laws.seen laws.written laws.rest c.step-made.new.self
    (world_stepped c.args.step.now c.self.inside.stage c.step-made.new.self c.step-made.result
    c.self.invariant (subst AllLinksStand c.as_slice.ensures.value c.links_stand_on.ensures)
    made.goes made.fault made.for_good made.same made.does)
    (subst AllLinksStand c.as_slice-2.ensures.value c.links_stand_on-2.ensures)

pub returns-clause-refused : goal.returns-clause-refused
returns-clause-refused c = λ none.
    let seen = c.self.view_is in
    let unharmed = subst (λ (s : Stage). s.fault ≡ None) (sym seen) none in
    subst (λ (s : Stage). RefusedBy (refuses c.args.step.now s) c.step-made.result) seen
    (c.step-made.ensures.refused unharmed
    (contacts_known c.self.inside.stage c.self.invariant unharmed
    (subst AllLinksStand c.as_slice.ensures.value c.links_stand_on.ensures)))

pub returns-clause-same : goal.returns-clause-same
returns-clause-same c = λ none is.
    let seen = c.self.view_is in
    let unharmed = subst (λ (s : Stage). s.fault ≡ None) (sym seen) none in
    subst (λ (s : Stage). IsSame s c.step-made.new.self) seen
    (c.step-made.ensures.same unharmed
    (contacts_known c.self.inside.stage c.self.invariant unharmed
    (subst AllLinksStand c.as_slice.ensures.value c.links_stand_on.ensures)) is)

pub returns-clause-does : goal.returns-clause-does
returns-clause-does c = λ none.
    let seen = c.self.view_is in
    subst (λ (s : Stage). DoesBy c.args.step.now c.step-made.result s c.step-made.new.self) seen
    (c.step-made.ensures.does (subst (λ (s : Stage). s.fault ≡ None) (sym seen) none))
