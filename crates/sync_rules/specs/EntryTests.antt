-- Tests of one entry.
use Rattle.std.specs.Prelude.{Bool, false, ◌||◌}
use Rattle.sync_ids.specs.Ids.{message_id_of}
use Rattle.sync_rules.specs.declared.entries.Entry.{Entry}
use Rattle.sync_rules.specs.declared.entries.Entry.TheVariants as entry
use Rattle.sync_rules.specs.Lists.{same_id}
use Rattle.sync_rules.specs.Facts.{Id}

-- the entry brings the message of this id
abbrev pub brings : Id → Entry → Bool
brings id (entry.Author m) = same_id (message_id_of m) id
brings id (entry.Arrive s m) = same_id (message_id_of m) id
brings id (entry.Kept from m) = same_id (message_id_of m) id
brings id _ = false

-- the entry says that the message was judged
abbrev pub judges : Id → Entry → Bool
judges id (entry.Judged x) = same_id x id
judges id _ = false

-- the entry delivers the message
abbrev pub delivers : Id → Entry → Bool
delivers id (entry.Deliver x) = same_id x id
delivers id _ = false

-- the entry says that the message is invalid
abbrev pub invalidates : Id → Entry → Bool
invalidates id (entry.Invalid x) = same_id x id
invalidates id _ = false

-- the entry delivers the message or says that it is invalid
abbrev pub ends : Id → Entry → Bool
ends id e = delivers id e || invalidates id e

-- an entry of settling
abbrev pub IsSettlingEntry : Entry → Type 0
IsSettlingEntry (entry.Judged id) = Unit {0}
IsSettlingEntry (entry.Deliver id) = Unit {0}
IsSettlingEntry (entry.Invalid id) = Unit {0}
IsSettlingEntry _ = ⊥
