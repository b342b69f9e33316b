use Rattle.std.proofs.Common.{◌≡◌, Some}
use Rattle.std.specs.String.{string_bytes}
use Rattle.sync_world.specs.Showing.{lines_below}
use Rattle.sync_world.proofs.player.Player.text.Given as goal

-- the lines of the devices before this one
abbrev pub invariant-devices : goal.invariant-devices
invariant-devices l =
    lines_below l.self.shown l.self.world.devices.items l.number ≡ Some (string_bytes l.text)
