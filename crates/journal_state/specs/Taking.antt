-- What a state needs to take entries, and what they make of it.
use Rattle.std.specs.Prelude.{◌≡◌, ℕ, ◌+◌, ◌-◌, ◌^◌, ◌<◌, ◌≤◌, min, true, List, [], ◌∷◌, length, Option, None, Some, is_some, IfSome}
use Rattle.std.specs.List.{list_all}
use Rattle.std.specs.Option.{option_map}
use Rattle.sync_ids.specs.Ids.{group_id_of, message_id_of}
use Rattle.sync_ids.specs.Values.{MessageValue}
use Rattle.sync_rules.specs.declared.entries.Entry.{Entry}
use Rattle.sync_rules.specs.declared.entries.Entry.TheVariants as entry
use Rattle.sync_rules.specs.declared.entries.Out.{Out}
use Rattle.sync_rules.specs.declared.entries.Out.TheVariants as out
use Rattle.sync_rules.specs.declared.entries.Session.{Session}
use Rattle.sync_rules.specs.declared.limits.TheConstants.{MAX_CONTACTS}
use Rattle.sync_rules.specs.Clients.{Meaning}
use Rattle.sync_rules.specs.Lists.{firsts}
use Rattle.sync_rules.specs.Facts.{Facts, Id, after, after_all, contact_of, group_at, held_at, is_held, session_at, start_after, takes_of, wanted_from}
use Rattle.journal_state.specs.Room.{Room, rows_room, wants_room}
use Rattle.journal_state.specs.Whole.{StateValue, KnowsJudgements}

-- ---- room for a batch

-- the contact whose rows and wanted ids an entry and those after it in its batch change, where there is one
abbrev pub contact_by : List Session → Entry → Option ℕ
contact_by sessions (entry.Level contact group level) = Some contact
contact_by sessions (entry.Take s k) = option_map (λ x. x.contact) (session_at sessions s)
contact_by sessions (entry.Out s now what) = option_map (λ x. x.contact) (session_at sessions s)
contact_by sessions _ = None

abbrev pub contact_for : List Session → List Entry → Option ℕ
contact_for sessions [] = None
contact_for sessions (e ∷ es) = contact_by sessions e

-- rows of one contact for all held messages and one more, as far as there are numbers, and room for so many more wanted ids
pub record HasContactRoom (s : StateValue) (count contact : ℕ) : Type 0 where
  pub rows : min (2 ^ 32 - 1) (length s.facts.held + 1) ≤ rows_room s.room contact
  pub wants : count ≤ wants_room s.room contact

-- room for the entries of a batch, and for what they change of their contact
pub record HasRoom (s : StateValue) (es : List Entry) : Type 0 where
  pub entries : length es ≤ s.room.entries
  pub contact : IfSome (contact_for s.facts.sessions es) (HasContactRoom s (length es))

-- there is a number for one more message and record
pub record HasNextNumbers (f : Facts) : Type 0 where
  pub held : length f.held < 2 ^ 32 - 1
  pub records : (session : ℕ) → takes_of f.takes session < 2 ^ 64 - 1

-- ---- one entry

-- a message that may be held: its group is known, its id is new, and there is a number for it
pub record CanHold (f : Facts) (m : MessageValue) : Type 0 where
  pub known : is_some (group_at f.groups m.group) ≡ true
  pub new : held_at f.held (message_id_of m) ≡ None
  pub few : length f.held < 2 ^ 32 - 1

-- a session whose contact has room for the rows of all held messages
pub record HasRowsOfSession (s : StateValue) (session : ℕ) : Type 0 where
  pub known : is_some (session_at s.facts.sessions session) ≡ true
  pub rows : length s.facts.held ≤ rows_room s.room (contact_of s.facts.sessions session)

-- a held message of a session whose contact has room
pub record CanMark (s : StateValue) (session : ℕ) (id : Id) : Type 0 where
  pub on : HasRowsOfSession s session
  pub held : is_held s.facts.held id ≡ true

-- what is sent is of held messages, each named once
abbrev pub CanSend : Facts → Out → Type 0
CanSend f (out.Acks ids) = (list_all (is_held f.held) ids ≡ true) × (firsts ids ≡ ids)
CanSend f (out.Requests ids) = Unit {0}
CanSend f (out.Offers ids) = (list_all (is_held f.held) ids ≡ true) × (firsts ids ≡ ids)
CanSend f (out.Send id) = is_held f.held id ≡ true

-- what a state needs of an entry beside room for one
abbrev pub CanTakeKind : StateValue → Entry → Type 0
CanTakeKind s (entry.Contact c) = (c ≡ s.facts.contacts) × (c < MAX_CONTACTS)
CanTakeKind s (entry.Group def) = (group_at s.facts.groups (group_id_of def) ≡ None) × (length s.facts.groups < 2 ^ 32 - 1)
CanTakeKind s (entry.Level c g l) = (is_some (group_at s.facts.groups g) ≡ true) × (length s.facts.held ≤ rows_room s.room c) × (c < s.facts.contacts)
CanTakeKind s (entry.Session x) = (x.number ≡ s.facts.begun) × (x.contact < s.facts.contacts) × (s.facts.begun < 2 ^ 32 - 1)
CanTakeKind s (entry.Take n k) = takes_of s.facts.takes n < 2 ^ 64 - 1
CanTakeKind s (entry.Author m) = CanHold s.facts m
CanTakeKind s (entry.Arrive n m) =
    CanHold s.facts m × (is_some (session_at s.facts.sessions n) ≡ true) × (length s.facts.held + 1 ≤ rows_room s.room (contact_of s.facts.sessions n))
CanTakeKind s (entry.Again n id) = CanMark s n id
CanTakeKind s (entry.Offered n id) =
    (is_some (session_at s.facts.sessions n) ≡ true) × (1 ≤ wants_room s.room (contact_of s.facts.sessions n))
    × (length (wanted_from s.facts.wanted (contact_of s.facts.sessions n)) < 2 ^ 32 - 1)
CanTakeKind s (entry.Seen n id) = CanMark s n id
CanTakeKind s (entry.Asked n id) = CanMark s n id
CanTakeKind s (entry.Out n now what) = HasRowsOfSession s n × CanSend s.facts what
CanTakeKind s (entry.Brief n) = s.facts.begun ≡ 0
CanTakeKind s (entry.Kept from m) = CanHold s.facts m
CanTakeKind s _ = ⊥

pub record CanTake (s : StateValue) (e : Entry) : Type 0 where
  pub room : 1 ≤ s.room.entries
  pub kind : CanTakeKind s e

-- one entry takes room for one, and one wanted id at most
pub record SpendsRoom (old new : Room) : Type 0 where
  pub entries : old.entries ≤ new.entries + 1
  pub rows : (contact : ℕ) → rows_room old contact ≤ rows_room new contact
  pub wants : (contact : ℕ) → wants_room old contact ≤ wants_room new contact + 1

-- a state took an entry: its facts are those after it, it knows the judgements as before, and room for one is gone
pub record TakesEntry (old new : StateValue) (e : Entry) : Type 0 where
  pub facts : new.facts ≡ after old.facts e
  pub knows : (clients : Meaning) → KnowsJudgements clients old → KnowsJudgements clients new
  pub room : SpendsRoom old.room new.room

-- the facts after an entry, but that the journal began as before
abbrev pub moved : Facts → Entry → Facts
moved f e = record (after f e) { start = f.start }

-- a state took an entry but for how the journal began: it knows the judgements as before, and room for one is gone
pub record TakesButBeginning (old new : StateValue) (e : Entry) : Type 0 where
  pub facts : new.facts ≡ moved old.facts e
  pub knows : (clients : Meaning) → KnowsJudgements clients old → KnowsJudgements clients new
  pub room : SpendsRoom old.room new.room

-- a state that noted of an entry how the journal began
abbrev pub noted : StateValue → Entry → StateValue
noted s e = record s { facts = record s.facts { start = start_after s.facts.start e } }

-- ---- a batch

-- each entry can be taken after those before it
abbrev pub CanTakeAll : StateValue → List Entry → Type 0
CanTakeAll s [] = Unit {0}
CanTakeAll s (e ∷ es) = CanTake s e × ((next : StateValue) → TakesEntry s next e → CanTakeAll next es)

-- a state took all entries
pub record TakesAll (old new : StateValue) (es : List Entry) : Type 0 where
  pub facts : new.facts ≡ after_all old.facts es
  pub knows : (clients : Meaning) → KnowsJudgements clients old → KnowsJudgements clients new
