-- What the facts of every legal journal are: sessions, held messages, groups, levels, rows, wanted ids and ends that fit
-- together.
use Rattle.std.specs.Prelude.{◌≡◌, ℕ, ◌<◌, ◌≤◌, true, false, List, [], ◌∷◌, length, Some, None, is_some}
use Rattle.std.specs.List.{AllByRecursion}
use Rattle.std.specs.FinMap as fin_map
use Rattle.std.specs.FinSet as fin_set
use Rattle.sync_ids.specs.Ids.{group_id_of, message_id_of}
use Rattle.sync_rules.specs.declared.entries.Level.{Level}
use Rattle.sync_rules.specs.declared.entries.Session.{Session}
use Rattle.sync_rules.specs.declared.states.Origin.{Origin}
use Rattle.sync_rules.specs.declared.states.Origin.TheVariants as origin
use Rattle.sync_rules.specs.declared.limits.TheConstants.{MAX_CONTACTS, MAX_GROUPS, MAX_TRIES, MAX_WANTED}
use Rattle.sync_rules.specs.Lists.{is_among, has_repeat}
use Rattle.sync_rules.specs.Facts.{Facts, Held, Id, Known, Row, group_at, held_at, is_held, session_at, takes_of, is_invisible, is_no_row, wanted_from}
use Rattle.sync_rules.specs.Legal.{suits_nonce}

-- ---- sessions

-- each session has a smaller number than those after it
abbrev pub AreAscending : List Session → Type 0
AreAscending [] = Unit {0}
AreAscending (s ∷ ss) = AllByRecursion (λ t. s.number < t.number) ss × AreAscending ss

-- a session that is found under a number: it has that number, below the number of sessions begun; its contact is known, its
-- latency is at least 1, and it has a nonce only in interactive mode
pub record IsSessionOf (f : Facts) (n : ℕ) (s : Session) : Type 0 where
  pub numbered : s.number ≡ n
  pub begun : n < f.begun
  pub known_contact : s.contact < f.contacts
  pub some_latency : 1 ≤ s.latency
  pub suited_nonce : suits_nonce s.mode s.nonce ≡ true

pub record HasSessions (f : Facts) : Type 0 where
  pub ascending : AreAscending f.sessions
  pub below : AllByRecursion (λ s. s.number < f.begun) f.sessions
  pub each : (n : ℕ) (s : Session) → session_at f.sessions n ≡ Some s → IsSessionOf f n s
  -- a session that has not begun has taken nothing
  pub untaken : (n : ℕ) → session_at f.sessions n ≡ None → takes_of f.takes n ≡ 0

-- ---- groups and held messages

abbrev pub ids_of_groups : List Known → List Id
ids_of_groups [] = []
ids_of_groups (g ∷ gs) = g.id ∷ ids_of_groups gs

abbrev pub ids_of_held : List Held → List Id
ids_of_held [] = []
ids_of_held (h ∷ hs) = h.id ∷ ids_of_held hs

pub record IsGroupOf (id : Id) (g : Known) : Type 0 where
  pub named : g.id ≡ id
  pub is_id : id ≡ group_id_of g.def

pub record HasGroups (f : Facts) : Type 0 where
  pub few_contacts : f.contacts ≤ MAX_CONTACTS
  pub few : length f.groups ≤ MAX_GROUPS
  pub distinct : has_repeat (ids_of_groups f.groups) ≡ false
  pub each : (id : Id) (g : Known) → group_at f.groups id ≡ Some g → IsGroupOf id g

-- a message came from a contact that is known, or was written here
abbrev pub IsKnownOrigin : Facts → Origin → Type 0
IsKnownOrigin f origin.Author = Unit {0}
IsKnownOrigin f (origin.From contact) = contact < f.contacts

-- a message that is found under an id: that is its id, its group is known, and the contact that it came from is known
pub record IsHeldOf (f : Facts) (id : Id) (h : Held) : Type 0 where
  pub named : h.id ≡ id
  pub is_id : id ≡ message_id_of h.message
  pub known_group : is_some (group_at f.groups h.message.group) ≡ true
  pub known_origin : IsKnownOrigin f h.origin

pub record HasHeld (f : Facts) : Type 0 where
  pub distinct : has_repeat (ids_of_held f.held) ≡ false
  pub each : (id : Id) (h : Held) → held_at f.held id ≡ Some h → IsHeldOf f id h

-- ---- levels, rows and wanted ids

-- a level that is stored is not Invisible, and is one of a known group for a known contact
pub record IsLevelOf (f : Facts) (contact : ℕ) (group : Id) (l : Level) : Type 0 where
  pub not_invisible : is_invisible l ≡ false
  pub known_contact : contact < f.contacts
  pub known_group : is_some (group_at f.groups group) ≡ true

abbrev pub HasLevels : Facts → Type 0
HasLevels f = (contact : ℕ) (group : Id) (l : Level) → fin_map.get f.levels (contact, group) ≡ Some l → IsLevelOf f contact group l

-- a row that is stored is not empty, and is one of a held message for a known contact, with at most MAX_TRIES tries
pub record IsRowOf (f : Facts) (contact : ℕ) (id : Id) (r : Row) : Type 0 where
  pub not_empty : is_no_row r ≡ false
  pub known_contact : contact < f.contacts
  pub held : is_held f.held id ≡ true
  pub few_tries : r.tries ≤ MAX_TRIES

abbrev pub HasRows : Facts → Type 0
HasRows f = (contact : ℕ) (id : Id) (r : Row) → fin_map.get f.rows (contact, id) ≡ Some r → IsRowOf f contact id r

-- wanted ids are distinct, not held, and at most MAX_WANTED for each contact; and lists of them are stored for known contacts
pub record HasWanted (f : Facts) : Type 0 where
  pub known_contact : (contact : ℕ) (ids : List Id) → fin_map.get f.wanted contact ≡ Some ids → contact < f.contacts
  pub distinct : (contact : ℕ) → has_repeat (wanted_from f.wanted contact) ≡ false
  pub not_held : (contact : ℕ) (id : Id) → is_among (wanted_from f.wanted contact) id ≡ true → is_held f.held id ≡ false
  pub few : (contact : ℕ) → length (wanted_from f.wanted contact) ≤ MAX_WANTED

-- ---- ends

-- a judged message is held; a message with an end is judged, and no message is delivered and invalid; each is delivered once
pub record HasEnds (f : Facts) : Type 0 where
  pub judged_held : (id : Id) → fin_set.contains f.judged id ≡ true → is_held f.held id ≡ true
  pub delivered_judged : (id : Id) → is_among f.delivered id ≡ true → fin_set.contains f.judged id ≡ true
  pub invalid_judged : (id : Id) → fin_set.contains f.invalid id ≡ true → fin_set.contains f.judged id ≡ true
  pub apart : (id : Id) → is_among f.delivered id ≡ true → fin_set.contains f.invalid id ≡ false
  pub distinct : has_repeat f.delivered ≡ false

pub record IsConsistent (f : Facts) : Type 0 where
  pub sessions : HasSessions f
  pub groups : HasGroups f
  pub held : HasHeld f
  pub levels : HasLevels f
  pub rows : HasRows f
  pub wanted : HasWanted f
  pub ends : HasEnds f
