-- The laws of the crates below that the proofs of this one rest on.
use Rattle.std.specs.Prelude.{ℕ, List}
use Rattle.entry_codec.specs.StandingLaws.{StandingIsLegal}
use Rattle.record_grammar.specs.Laws.{FrontsHaveFronts, RecordsJoin, StreamsGoOn}
use Rattle.sync_rules.specs.declared.entries.Entry.{Entry}
use Rattle.sync_rules.specs.Clients.{Meaning}
use Rattle.sync_rules.specs.Facts.{ExtendsJournal}
use Rattle.sync_rules.specs.Legal.{Legal}
use Rattle.sync_rules.specs.Output.{GoesOnFrom, sent}

-- what a session sends only grows
abbrev pub SentGrows : Type 0
SentGrows = (clients : Meaning) (j before : List (List Entry)) (session : ℕ) → ExtendsJournal j before → Legal clients j → GoesOnFrom (sent j session) (sent before session)

-- what files stand for is legal, and how records are read
pub record DeviceLaws : Type 0 where
  pub legal : StandingIsLegal
  pub fronts : FrontsHaveFronts
  pub go_on : StreamsGoOn
  pub join : RecordsJoin
