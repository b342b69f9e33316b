-- A batch that is added to a journal beside the sessions, and settling behind it.
use Rattle.std.specs.Prelude.{Bool, ◌≡◌, ◌⊎◌, ◌*◌, List, ◌∷◌, ◌++◌, length}
use Rattle.sync_rules.specs.declared.entries.Entry.{Entry}
use Rattle.sync_rules.specs.Clients.{Meaning}
use Rattle.sync_rules.specs.Facts.{Journal, after_all, facts}
use Rattle.sync_rules.specs.Legal.{AllSettling}
use Rattle.outside.specs.Outside.{MakesAtMost, Outside}
use Rattle.sync_store.specs.Runs.{AddsBatch}
use Rattle.sync_store.specs.Store.{StoreValue}
use Rattle.sync_node.specs.Cuts.{CutBy}

-- the journal with the batch and settling behind it
pub record AddsOne (clients : Meaning) (j : Journal) (batch : List Entry)
    (whole : Journal) : Type 0 where
  pub more : Journal
  pub settling : AllSettling clients (after_all (facts j) batch) more
  pub is : whole ≡ j ++ (batch ∷ more)

abbrev pub AddsAtMost : Meaning → Journal → List Entry → Journal → Type 0
AddsAtMost clients j batch whole = (whole ≡ j) ⊎ AddsOne clients j batch whole

-- Adding a batch came so far, where the disk failed or not: to nothing, or to the batch and some settling behind it, of which it
-- was broken off in the last one or behind it. Each of these took at most four calls of the disk.
pub record AddsWithin (clients : Meaning) (disk : Bool) (batch : List Entry) (s : StoreValue)
    (o o' : Outside) : Type 0 where
  pub more : Journal
  pub adds : AddsBatch clients s.state.facts batch more
  pub calls : MakesAtMost (4 * length more) o o'
  pub cut : CutBy disk s o o'
