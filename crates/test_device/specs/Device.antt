-- A store with its disk.
use Rattle.std.specs.Prelude.{◌≡◌, false, Option}
use Rattle.outside.specs.Files.{Two, File}
use Rattle.sync_rules.specs.Clients.{Meaning}
use Rattle.sync_store.specs.Ready.{IsReady}
use Rattle.sync_store.specs.Store.{StoreValue}

-- the store is ready for a commit or to be settled, unless it is closed
pub record IsTestStore (clients : Meaning) (s : StoreValue)
    (files : Option (Two File)) : Type 0 where
  pub ready : s.closed ≡ false → IsReady clients s files
