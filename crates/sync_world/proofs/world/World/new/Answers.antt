use Rattle.std.proofs.Common.{subst}
use Rattle.sync_world.specs.Standing.{AllLinksStand}
use Rattle.sync_world.proofs.WorldLaws.{many_of}
use Rattle.sync_world.proofs.world.World.new.Goals as goal

pub returns-clause-many : goal.returns-clause-many
returns-clause-many c =
    let laws = c.many_devices.ensures in
    many_of laws.sound laws.seen laws.written laws.rest c.in_ok-stage.stage
    c.in_ok-stage.ensures.world
    (subst AllLinksStand c.as_slice.ensures.value c.links_stand_on.ensures)
