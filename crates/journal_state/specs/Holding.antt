-- The held messages, in order of arrival.
use Rattle.std.specs.Prelude.{◌≡◌, ℕ, List}
use Rattle.sync_ids.specs.Ids.{message_id_of}
use Rattle.sync_rules.specs.Facts.{Held}
use Rattle.journal_state.specs.declared.messages.KeptMessage.{KeptMessage}

-- the held messages, and for how many more there is room
pub record Holding : Type 0 where
  pub held : List Held
  pub room : ℕ

-- a message that is kept, as it is held under its own id
abbrev pub held_of : KeptMessage → Held
held_of k = record { id = message_id_of k.message; message = k.message; origin = k.origin }

-- a message is held under its own id
abbrev pub IsOwnId : Held → Type 0
IsOwnId h = h.id ≡ message_id_of h.message
