-- A store that is ready for a commit, or to be settled.
use Rattle.std.specs.Prelude.{◌≡◌, false, Option}
use Rattle.outside.specs.Files.{Two, File}
use Rattle.sync_rules.specs.Clients.{Meaning}
use Rattle.journal_state.specs.Whole.{KnowsJudgements}
use Rattle.sync_store.specs.Store.{NoneWaits, StoreValue}
use Rattle.sync_store.specs.Fitting.{FitsSome}

-- no call on its disk failed, no frame waits, it knows what these clients said of its messages, and
-- its disk fits it
pub record IsReady (clients : Meaning) (s : StoreValue) (files : Option (Two File)) : Type 0 where
  pub still_open : s.closed ≡ false
  pub none_waits : NoneWaits s
  pub knows : KnowsJudgements clients s.state
  pub fits : FitsSome clients s files
