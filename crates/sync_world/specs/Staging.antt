-- What the parts of a step do to devices and links.
use Rattle.std.specs.Prelude.{◌≡◌, ◌⊎◌, ℕ, ◌<◌, ◌≤◌, false, List, ◌++◌, map, length, drop, take}
use Rattle.std.specs.Prelude.{Option, Some, None, Result, Ok, Err, slice_get, slice_set}
use Rattle.outside.specs.HostTold.{host_told}
use Rattle.world_devices.specs.Brought.{brought_on}
use Rattle.world_devices.specs.Devices.{DeviceValue}
use Rattle.world_devices.specs.declared.stop.Ran.{Ran}
use Rattle.world_devices.specs.declared.stop.Ran.TheVariants as ran
use Rattle.world_links.specs.Ends.{EndValue, input_of, new_end}
use Rattle.world_links.specs.Links.{side_end, left_by, other, side_of}
use Rattle.world_links.specs.declared.end.TheConstants.{PIECE_LEN}
use Rattle.world_links.specs.declared.link.Link.{Link}
use Rattle.world_links.specs.declared.moves.Side.{Side}
use Rattle.world_links.specs.declared.moves.Side.TheVariants as side
use Rattle.world_laws.specs.Worlds.{World}
use Rattle.sync_world.specs.Standing.{IsShown}

-- a device that crashed has its links no more
abbrev pub after_ran : Ran → ℕ → List Link → List Link
after_ran ran.Done d links = links
after_ran ran.Crashed d links = map (left_by d) links

-- ---- plans

abbrev pub with_end : Side → EndValue → Link → Link
with_end side.Near e l = record l { near = e }
with_end side.Far e l = record l { far = e }

-- an end that heard more of what it was given
pub record HearsMore (e e' : EndValue) : Type 0 where
  pub is : e' ≡ record e { heard = e'.heard }
  pub input : input_of e' ≡ drop PIECE_LEN (input_of e)
  pub within : e'.heard ≤ length e'.given

-- the link of this number at the device is to bring the next bytes that its end was given
pub record BringsNextBytes (a : ℕ) (old new : DeviceValue) (e e' : EndValue) : Type 0 where
  pub same_node : new.node ≡ old.node
  pub same_links : new.links ≡ old.links
  pub here : a < old.links → brought_on new.host a ≡ brought_on old.host a ++ take PIECE_LEN
      (input_of e)
  pub others : (i : ℕ) → (i ≡ a → ⊥) → brought_on new.host i ≡ brought_on old.host i
  pub hears : HearsMore e e'

-- and this is its end
pub record PlansAt (old new : DeviceValue) (e e' : EndValue) : Type 0 where
  pub number : ℕ
  pub here : e.at ≡ Some number
  pub brings : BringsNextBytes number old new e e'

-- an end is asked, or left
abbrev pub PlansEnd : DeviceValue → DeviceValue → EndValue → EndValue → Type 0
PlansEnd old new e e' = ((new ≡ old) × (e' ≡ e)) ⊎ PlansAt old new e e'

-- the end of the device at one side of a link is asked
pub record PlansSide (d : ℕ) (old new : DeviceValue) (l l' : Link) : Type 0 where
  pub from : Side
  pub own : side_of d l ≡ Some from
  pub plans : PlansAt old new (side_end from l) (side_end from l')
  pub rest : l' ≡ with_end from (side_end from l') l

abbrev pub PlansLink : ℕ → DeviceValue → DeviceValue → Link → Link → Type 0
PlansLink d old new l l' = ((new ≡ old) × (l' ≡ l)) ⊎ PlansSide d old new l l'

-- what was shown is shown still
abbrev pub PlansAll : ℕ → DeviceValue → DeviceValue → List Link → List Link → Type 0
PlansAll d old new links links' =
    (w : World) (devices : List DeviceValue) → slice_get devices d ≡ Some old
    → IsShown w devices links → IsShown w (slice_set devices d new) links'

-- what a crash may leave of the files stays
abbrev pub SameFiles : DeviceValue → DeviceValue → Type 0
SameFiles old new = (host_told new.host).files ≡ (host_told old.host).files

-- ---- links that begin

-- a link that was just made
abbrev pub new_link : ℕ → ℕ → Link
new_link d e = record { near = new_end d; far = new_end e; is_cut = false }

-- an end on which a session began, of which nothing was seen
abbrev pub begun_end : ℕ → ℕ → EndValue → EndValue
begun_end number session e = record e { at = Some number; session = Some session; seen = 0 }

-- a link whose end at a device has this number there, and this session
abbrev pub attached_from : ℕ → ℕ → Option Side → Link → Link
attached_from number session None l = l
attached_from number session (Some from) l =
    with_end from (begun_end number session (side_end from l)) l

abbrev pub attached_at : ℕ → ℕ → ℕ → Link → Link
attached_at d number session l = attached_from number session (side_of d l) l

-- several links, where the one at a place begins
abbrev pub begun_with : ℕ → ℕ → ℕ → ℕ → Option Link → List Link → List Link
begun_with d number session i None links = links
begun_with d number session i (Some l) links = slice_set links i (attached_at d number session l)

-- the end of a device at a link with another one, on which no session began yet
pub record HasFreshEnd (d far i : ℕ) (links : List Link) : Type 0 where
  pub link : Link
  pub stands : slice_get links i ≡ Some link
  pub from : Side
  pub own : side_of d link ≡ Some from
  pub unbegun : (side_end from link).session ≡ None
  pub unplaced : (side_end from link).at ≡ None
  pub unheard : (side_end from link).heard ≡ 0
  pub far_is : (side_end (other from) link).device ≡ far

-- the call was made, and the device did not crash in it
abbrev pub IsCallMade : {E : Type 0} → Result Ran E → Type 0
IsCallMade (Ok ran.Done) = Unit {0}
IsCallMade (Ok ran.Crashed) = ⊥
IsCallMade (Err fault) = ⊥
