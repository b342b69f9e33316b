-- A settling batch that is filled at the end of a list of batches.
use Rattle.std.specs.Prelude.{◌≡◌, ℕ, ◌≤◌, List, [], ◌∷◌, ◌++◌, length}
use Rattle.sync_rules.specs.declared.entries.Entry.{Entry}
use Rattle.sync_rules.specs.Clients.{Meaning}
use Rattle.sync_rules.specs.Facts.{facts}
use Rattle.sync_rules.specs.Legal.{IsSettling}

-- one settling batch of at most so many entries stands at the end
pub record AddsSettling (clients : Meaning) (most : ℕ) (old new : List (List Entry)) : Type 0 where
  pub batch : List Entry
  pub stands : new ≡ old ++ batch ∷ []
  pub some : 1 ≤ length batch
  pub few : length batch ≤ most
  pub settling : IsSettling clients (facts old) batch

-- one more entry at the end of the last batch
abbrev pub with_last : List (List Entry) → Entry → List (List Entry)
with_last [] e = []
with_last (b ∷ []) e = (b ++ e ∷ []) ∷ []
with_last (b ∷ c ∷ bs) e = b ∷ with_last (c ∷ bs) e
