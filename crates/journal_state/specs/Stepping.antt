-- The entry of a step of the waiting graph, and entries that were made or taken one by one.
use Rattle.std.specs.Prelude.{◌≡◌, ◌⊎◌, ℕ, true, List, [], ◌∷◌, ◌++◌, Option, None, Some}
use Rattle.sync_rules.specs.declared.entries.Entry.{Entry}
use Rattle.sync_rules.specs.declared.entries.Entry.TheVariants as entry
use Rattle.sync_rules.specs.Clients.{Meaning}
use Rattle.sync_rules.specs.Facts.{Facts, Id, after, after_all}
use Rattle.sync_rules.specs.Allows.{suits_rows}
use Rattle.sync_rules.specs.Steps.{next}
use Rattle.message_graph.specs.declared.nodes.Step.{Step}
use Rattle.message_graph.specs.declared.nodes.Step.TheVariants as step

-- the entry of a step, by the ids of the numbers
abbrev pub entry_of : (ℕ → Id) → Step → Entry
entry_of name (step.Judge n) = entry.Judged (name n)
entry_of name (step.Invalid n) = entry.Invalid (name n)
entry_of name (step.Deliver n) = entry.Deliver (name n)

-- the facts after a step, by its entry
abbrev pub stepped : Facts → Option Entry → Facts
stepped f None = f
stepped f (Some e) = after f e

-- the entry is the next step, or a row or wanted id that suits
abbrev pub IsStepOrRow : Meaning → Facts → Entry → Type 0
IsStepOrRow clients f e = (next clients f ≡ Some e) ⊎ (suits_rows f e ≡ true)

-- so is each entry of a list after those before it
abbrev pub AreStepsOrRows : Meaning → Facts → List Entry → Type 0
AreStepsOrRows clients f [] = Unit {0}
AreStepsOrRows clients f (e ∷ es) = IsStepOrRow clients f e × AreStepsOrRows clients (after f e) es

-- the facts are those after a front of the entries, each of them the next step, or a row or wanted id that suits
pub record PlaysFront (clients : Meaning) (old new : Facts) (entries : List Entry) : Type 0 where
  pub front : List Entry
  pub rest : List Entry
  pub parts : entries ≡ front ++ rest
  pub steps : AreStepsOrRows clients old front
  pub facts : new ≡ after_all old front
