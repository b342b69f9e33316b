-- What a step that is refused leaves.
use Rattle.std.specs.Prelude.{◌≡◌}
use Rattle.sync_world.specs.declared.stage.Stage.{Stage}

-- the same devices, links, labels and fault
pub record IsSame (old new : Stage) : Type 0 where
  pub devices : new.devices.items ≡ old.devices.items
  pub links : new.links.items ≡ old.links.items
  pub groups : new.groups ≡ old.groups
  pub posts : new.posts.items ≡ old.posts.items
  pub fault : new.fault ≡ old.fault
