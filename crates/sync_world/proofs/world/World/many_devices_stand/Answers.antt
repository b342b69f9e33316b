use Rattle.std.proofs.Common.{subst}
use Rattle.sync_world.specs.Standing.{AllLinksStand, IsManyDevices}
use Rattle.sync_world.specs.declared.stage.Stage.{Stage}
use Rattle.sync_world.proofs.WorldLaws.{many_of}
use Rattle.sync_world.proofs.world.World.many_devices_stand.Goals as goal

pub returns : goal.returns
returns c =
    let laws = c.many_devices.ensures in
    subst (λ (s : Stage). IsManyDevices s.devices.items) c.self.view_is
    (many_of laws.sound laws.seen laws.written laws.rest c.self.inside.stage c.self.invariant
    (subst AllLinksStand c.as_slice.ensures.value c.links_stand_on.ensures))
