-- What becomes of a link by a look at what a device sent on it, and where all in flight on it
-- arrives.
use Rattle.std.specs.Prelude.{ℕ, Bool, true, false, ◌||◌, if◌then◌else◌, Option, Some, None}
use Rattle.world_devices.specs.Brought.{sent_by_host}
use Rattle.world_devices.specs.Devices.{DeviceValue}
use Rattle.world_devices.specs.Linking.{end_at, is_shut}
use Rattle.world_links.specs.Ends.{EndValue}
use Rattle.world_links.specs.Links.{cut, side_end, side_of}
use Rattle.world_links.specs.Moves.{has_first}
use Rattle.world_links.specs.declared.link.Link.{Link}
use Rattle.world_links.specs.declared.moves.Side.{Side}
use Rattle.sync_world.specs.Shown.{looked}
use Rattle.sync_world.specs.Staging.{with_end}

-- an end after a look at what its device sent on the link, which has this number there; the device
-- may not have it any more
abbrev pub look_at : DeviceValue → Bool → Option ℕ → EndValue → EndValue
look_at device is_cut None e = e
look_at device is_cut (Some a) e = looked is_cut (sent_by_host device.host a) e

-- whether the device closed the link of this number
abbrev pub shut_at : DeviceValue → Option ℕ → Bool
shut_at device None = false
shut_at device (Some a) = is_shut (end_at device a)

abbrev pub cut_if : Bool → Link → Link
cut_if true l = cut l
cut_if false l = l

abbrev pub look_side : DeviceValue → Link → Option Side → Link
look_side device l None = l
look_side device l (Some from) =
    cut_if (shut_at device (side_end from l).at)
    (with_end from (look_at device l.is_cut (side_end from l).at (side_end from l)) l)

-- a link after a look at the end of a device: what was sent is in flight, and where the device
-- closed the link it is cut
abbrev pub look_link : ℕ → DeviceValue → Link → Link
look_link d device l = look_side device l (side_of d l)

-- whether something on a link is to arrive
abbrev pub is_moving : Link → Bool
is_moving l = if l.is_cut then false else has_first l.near.flight || has_first l.far.flight
