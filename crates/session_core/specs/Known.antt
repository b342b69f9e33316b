-- An id that is known before a batch is tested or taken: that of the message that the batch brings.
use Rattle.std.specs.Prelude.{◌≡◌, List, [], ◌∷◌, Option, None, Some, IfSome}
use Rattle.sync_ids.specs.Ids.{message_id_of}
use Rattle.sync_ids.specs.Values.{MessageValue}
use Rattle.sync_rules.specs.declared.entries.Entry.{Entry}
use Rattle.sync_rules.specs.declared.entries.Entry.TheVariants as entry
use Rattle.sync_rules.specs.Facts.{Id}

-- where an id is known, it is that of the message
abbrev pub IsIdOf : Option Id → MessageValue → Type 0
IsIdOf id m = IfSome id (λ i. i ≡ message_id_of m)

-- it is that of the message that an entry brings
abbrev pub IsOfEntry : Option Id → Entry → Type 0
IsOfEntry id (entry.Author m) = IsIdOf id m
IsOfEntry id (entry.Arrive s m) = IsIdOf id m
IsOfEntry id (entry.Kept from m) = IsIdOf id m
IsOfEntry id _ = Unit {0}

-- it is that of each message that entries bring
abbrev pub IsOfAll : Option Id → List Entry → Type 0
IsOfAll id [] = Unit {0}
IsOfAll id (e ∷ es) = IsOfEntry id e × IsOfAll id es

-- the id of the first message that arrives by these entries
abbrev pub id_arrived : List Entry → Option Id
id_arrived [] = None
id_arrived (entry.Arrive s m ∷ es) = Some (message_id_of m)
id_arrived (_ ∷ es) = id_arrived es
