-- The order and the repeats of files change nothing.
use Rattle.std.specs.Prelude.{◌≡◌, ◌≢◌, ◌↔◌, ◌⊎◌, ℕ, true, List, [], ◌∷◌, ◌++◌}
use Rattle.sync_ids.specs.Values.{MessageValue}
use Rattle.sync_ids.specs.Ids.{message_id_of}
use Rattle.sync_ids.specs.declared.records.Record.{Record}
use Rattle.sync_ids.specs.declared.records.Record.TheVariants as record_kind
use Rattle.sync_rules.specs.declared.entries.Entry.{Entry}
use Rattle.sync_rules.specs.Clients.{Meaning}
use Rattle.sync_rules.specs.Facts.{Facts, facts}
use Rattle.sync_rules.specs.Legal.{Legal}
use Rattle.sync_rules.specs.Lists.{In}
use Rattle.mailbox_laws.specs.Boxes.{ReadsBoxes}
use Rattle.mailbox_laws.specs.Effects.{effect, holds}

-- the records of files, file after file
abbrev pub joined : List (List Record) → List Record
joined [] = []
joined (records ∷ rest) = records ++ joined rest

-- each record of the one list is one of the other: how often and in which order they stand does not matter
abbrev pub SameRecords : List Record → List Record → Type 0
SameRecords xs ys = (r : Record) → In r xs ↔ In r ys

-- a message is held, or stands in one of these records
abbrev pub IsThere : Facts → List Record → MessageValue → Type 0
IsThere f records m = (holds f.held m ≡ true) ⊎ In (record_kind.Message m) records

-- of the messages that are held and those in the records, two with one id are one message
abbrev pub HaveOwnIds : Facts → List Record → Type 0
HaveOwnIds f records =
    (m other : MessageValue) → IsThere f records m → IsThere f records other → message_id_of m ≡ message_id_of other → m
    ≡ other

-- two journals of one effect, with the same groups and levels
pub record StartsAlike (contact : ℕ) (f g : Facts) : Type 0 where
  pub groups : f.groups ≡ g.groups
  pub levels : f.levels ≡ g.levels
  pub effect : effect contact f ≡ effect contact g

-- Two lists of files with the same set of records, neither list empty, are read by legal journals of one effect, with
-- the same
-- groups and levels: they leave one effect. Each journal at an end being legal, so is the one that it goes on from.
abbrev pub SetsDecide : Type 0
SetsDecide =
    (clients : Meaning) (contact : ℕ) (old new other end : List (List Entry)) (files others : List (List Record))
    → files ≢ [] → others ≢ [] → SameRecords (joined files) (joined others)
    → ReadsBoxes clients contact old files new → ReadsBoxes clients contact other others end
    → Legal clients new → Legal clients end
    → StartsAlike contact (facts old) (facts other) → HaveOwnIds (facts old) (joined files)
    → effect contact (facts new) ≡ effect contact (facts end)
