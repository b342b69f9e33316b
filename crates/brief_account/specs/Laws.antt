-- What holds of the brief account of a legal and settled journal.
use Rattle.std.specs.Prelude.{◌≡◌, List}
use Rattle.sync_rules.specs.declared.entries.Entry.{Entry}
use Rattle.sync_rules.specs.Clients.{Meaning}
use Rattle.sync_rules.specs.Facts.{facts}
use Rattle.sync_rules.specs.Legal.{Legal}
use Rattle.sync_rules.specs.Steps.{IsSettled}
use Rattle.brief_account.specs.Brief.{brief, without_sessions}
use Rattle.brief_account.specs.Account.{brief_of}

-- it is legal and settled, and makes known the same but for the sessions
pub record KeepsFacts (clients : Meaning) (journal : List (List Entry)) : Type 0 where
  pub legal : Legal clients (brief journal)
  pub settled : IsSettled clients (facts (brief journal))
  pub same : facts (brief journal) ≡ without_sessions (facts journal)

abbrev pub BriefKeepsFacts : Type 0
BriefKeepsFacts = (clients : Meaning) (journal : List (List Entry)) → Legal clients journal
    → IsSettled clients (facts journal) → KeepsFacts clients journal

-- it is a function of the facts
abbrev pub BriefIsByFacts : Type 0
BriefIsByFacts = (clients : Meaning) (journal : List (List Entry)) → Legal clients journal
    → IsSettled clients (facts journal) → brief journal ≡ brief_of clients (facts journal)
