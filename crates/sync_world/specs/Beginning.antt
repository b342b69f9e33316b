-- A world that is new.
use Rattle.std.specs.Prelude.{◌≡◌, ℕ, ◌-◌, [], length, None}
use Rattle.std.specs.List.{AllByRecursion}
use Rattle.world_devices.specs.Linking.{IsNewDevice}
use Rattle.sync_world.specs.declared.stage.Stage.{Stage}
use Rattle.sync_world.specs.declared.stage.TheConstants.{FIRST_CLOCK}

-- so many devices, each of which is new, with a contact for each other one and the time of the
-- begin; no link, no label, and no fault
pub record IsNewStage (devices : ℕ) (w : Stage) : Type 0 where
  pub same_number : length w.devices.items ≡ devices
  pub each : AllByRecursion (IsNewDevice (devices - 1) FIRST_CLOCK) w.devices.items
  pub unlinked : w.links.items ≡ []
  pub ungrouped : w.groups ≡ []
  pub unposted : w.posts.items ≡ []
  pub unharmed : w.fault ≡ None
