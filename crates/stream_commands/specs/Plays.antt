-- What a player has heard.
use Rattle.std.specs.Prelude.{◌≡◌, List, [], ◌∷◌, ◌++◌}
use Rattle.record_grammar.specs.Stream.{records_of}
use Rattle.record_grammar.specs.declared.stream.Item.{Item}
use Rattle.journal_play.specs.Playing.{HasPlayed, Played}
use Rattle.sync_ids.specs.Values.{GroupValue}
use Rattle.sync_ids.specs.declared.records.Record.{Record}
use Rattle.sync_rules.specs.Clients.{Meaning}

-- these records, and then those of the items
abbrev pub and_those_of : List Record → List Item → List Record
and_those_of records [] = records
and_those_of records (item ∷ items) = records ++ records_of (item ∷ items)

-- From a play to a later one, the clients being the same: whatever the first had taken, the other
-- has taken that and the records of these items.
pub record PlaysItems (clients : Meaning) (play : Played) (some : List Item) (clients' : Meaning)
    (play' : Played) : Type 0 where
  pub same : clients' ≡ clients
  pub takes : (def : GroupValue) (records : List Record) → HasPlayed clients def records play
      → HasPlayed clients def (and_those_of records some) play'
