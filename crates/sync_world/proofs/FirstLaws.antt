-- A new world.
use Rattle.std.proofs.Common.{◌≡◌, ℕ, zero, suc, List, [], ◌∷◌, refl}
use Rattle.std.specs.List.{AllByRecursion}
use Rattle.sync_rules.specs.Clients.{Meaning}
use Rattle.sync_rules.specs.Facts.{Journal, facts}
use Rattle.sync_rules.specs.Legal.{Legal}
use Rattle.world_laws.specs.Theorem.{IsNewWorld}
use Rattle.world_laws.specs.Worlds.{HasNoBrief, journal_in}
use Rattle.sync_world.specs.Shown.{IsNewJournal, world_of}

legal_in : (clients : Meaning) (js : List Journal) → AllByRecursion (IsNewJournal clients) js
    → (d : ℕ) → Legal clients (journal_in js d)
legal_in clients [] new d = tt
legal_in clients (j ∷ js) new zero = new.0.legal
legal_in clients (j ∷ js) new (suc d) = legal_in clients js new.1 d

plain_in : (clients : Meaning) (js : List Journal) → AllByRecursion (IsNewJournal clients) js
    → (d : ℕ) → HasNoBrief (journal_in js d)
plain_in clients [] new d = refl
plain_in clients (j ∷ js) new zero = new.0.plain
plain_in clients (j ∷ js) new (suc d) = plain_in clients js new.1 d

empty_in : (clients : Meaning) (js : List Journal) → AllByRecursion (IsNewJournal clients) js
    → (d : ℕ) → (facts (journal_in js d)).held ≡ []
empty_in clients [] new d = refl
empty_in clients (j ∷ js) new zero = new.0.empty
empty_in clients (j ∷ js) new (suc d) = empty_in clients js new.1 d

pub first_new : (clients : Meaning) (js : List Journal) → AllByRecursion (IsNewJournal clients) js
    → IsNewWorld clients (world_of js [])
first_new clients js new =
    record {
      legal = legal_in clients js new;
      plain = plain_in clients js new;
      empty = empty_in clients js new;
      unlinked = refl;
    }
