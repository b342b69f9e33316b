-- Which journal suits a run: what its batches add to the journal that it began with.
use Rattle.std.specs.Prelude.{◌≡◌, ℕ, List, ◌++◌}
use Rattle.sync_rules.specs.declared.entries.Session.{Session}
use Rattle.sync_rules.specs.Clients.{Meaning}
use Rattle.sync_rules.specs.Facts.{Journal, facts}
use Rattle.sync_course.specs.Story.{AllSuitPlanned}

-- a journal that goes on from the one of the begin by batches of the run
pub record SuitsRun (clients : Meaning) (begin : Journal) (first : ℕ) (plans : List Session)
    (heard : ℕ → List ℕ) (journal : Journal) : Type 0 where
  pub more : Journal
  pub extends : journal ≡ begin ++ more
  pub suits : AllSuitPlanned clients first plans heard (facts begin) more
