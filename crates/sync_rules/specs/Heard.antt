-- What a record that is taken makes of what a contact has, and of the held messages.
use Rattle.std.specs.Prelude.{◌≡◌, ℕ, Bool, true, false, not, cond, ◌&&◌, ◌||◌, nat_eq, [], ◌∷◌, ◌++◌, List, Option, None, Some, is_none}
use Rattle.sync_ids.specs.Values.{MessageValue}
use Rattle.sync_ids.specs.Ids.{message_id_of}
use Rattle.sync_ids.specs.declared.records.Record.{Record}
use Rattle.sync_ids.specs.declared.records.Record.TheVariants as record_kind
use Rattle.sync_rules.specs.declared.entries.Entry.TheVariants as entry
use Rattle.sync_rules.specs.Lists.{same_id, is_among}
use Rattle.sync_rules.specs.Facts.{Facts, Held, Id, after_all, arrived, contact_of, held_at, is_invisible, level_at, row_at}
use Rattle.sync_rules.specs.Sessions.{is_shown, is_welcome, taken}

-- nothing is held, or a message in a group that is not Invisible to the contact
abbrev pub is_new_or_shown : Facts → ℕ → Option Held → Bool
is_new_or_shown f contact None = true
is_new_or_shown f contact (Some h) = not (is_invisible (level_at f.levels contact h.message.group))

-- a record from a contact says that the contact has the message of an id
abbrev pub says_seen : Facts → ℕ → Record → Id → Bool
says_seen f contact (record_kind.Ack ids) id = is_among ids id && is_shown f contact id
says_seen f contact (record_kind.Message m) id =
    same_id (message_id_of m) id && (is_welcome f contact m.group && is_new_or_shown f contact (held_at f.held (message_id_of m)))
says_seen f contact (record_kind.Offer ids) id = is_among ids id && is_shown f contact id
says_seen f contact _ id = false

-- a message arrives from a contact: it is welcome, and its id is not held
abbrev pub arrives : Facts → ℕ → MessageValue → Bool
arrives f contact m = is_welcome f contact m.group && is_none (held_at f.held (message_id_of m))

-- the held messages once a record from a contact is taken: one more where a MESSAGE arrives
abbrev pub held_by : Facts → ℕ → Record → List Held
held_by f contact (record_kind.Message m) = cond (arrives f contact m) (f.held ++ arrived contact m ∷ []) f.held
held_by f contact _ = f.held

-- the facts once the session's k-th record is taken
abbrev pub heard : Facts → ℕ → ℕ → Record → Facts
heard f session k r = after_all f (entry.Take session k ∷ taken f session r)

-- what a contact has once a record is taken: what it had, and where the session is one with it, what the record says
abbrev pub SeenByRecords : Type 0
SeenByRecords = (f : Facts) (session k : ℕ) (r : Record) (contact : ℕ) (id : Id)
    → (row_at (heard f session k r).rows contact id).seen
    ≡ ((nat_eq contact (contact_of f.sessions session) && says_seen f (contact_of f.sessions session) r id) || (row_at f.rows contact id).seen)

abbrev pub HeldByRecords : Type 0
HeldByRecords = (f : Facts) (session k : ℕ) (r : Record) → (heard f session k r).held ≡ held_by f (contact_of f.sessions session) r
