-- The laws of legal journals.
use Rattle.std.specs.Prelude.{◌≡◌, ◌↔◌, ◌⊎◌, ℕ, ◌≤◌, Bool, true, false, ◌&&◌, List, ◌∷◌, ◌++◌, length, count_by, Some, is_some}
use Rattle.std.specs.List.{list_any, list_all}
use Rattle.sync_ids.specs.Values.{MessageValue}
use Rattle.sync_ids.specs.Ids.{message_id_of}
use Rattle.sync_rules.specs.declared.answers.Judgement.TheVariants as judgement
use Rattle.sync_rules.specs.declared.entries.Entry.{Entry}
use Rattle.sync_rules.specs.declared.entries.Entry.TheVariants as entry
use Rattle.sync_rules.specs.declared.states.Fate.TheVariants as fate_kind
use Rattle.sync_rules.specs.declared.states.Origin.{Origin}
use Rattle.sync_rules.specs.declared.states.Origin.TheVariants as origin
use Rattle.sync_rules.specs.Clients.{Meaning}
use Rattle.sync_rules.specs.Facts.{Facts, Held, Id, facts, nothing, after_all, entries_of, held_at, is_held, session_at, contact_of, level_at, is_invisible}
use Rattle.sync_rules.specs.Steps.{is_beside, verdict_in, fate}
use Rattle.sync_rules.specs.Rounds.{good, bad, graph_of}
use Rattle.sync_rules.specs.EntryTests.{brings, judges, delivers, ends}

-- ---- once

-- each id has at most one Author, Arrive or Kept entry
abbrev pub BringsOnce : List (List Entry) → Type 0
BringsOnce journal = (id : Id) → count_by (brings id) (entries_of journal) ≤ 1

-- each id has at most one Judged entry
abbrev pub JudgesOnce : List (List Entry) → Type 0
JudgesOnce journal = (id : Id) → count_by (judges id) (entries_of journal) ≤ 1

-- each id has at most one of Deliver and Invalid
abbrev pub EndsOnce : List (List Entry) → Type 0
EndsOnce journal = (id : Id) → count_by (ends id) (entries_of journal) ≤ 1

-- ---- order

-- what a delivery after these entries rests on: the message is held and was judged, its client accepts it, and each
-- dependency is held in the same group and was delivered
pub record IsRightly (clients : Meaning) (before : List Entry) (id : Id) : Type 0 where
  pub message : Held
  pub held : held_at (after_all nothing before).held id ≡ Some message
  pub judged : list_any (judges id) before ≡ true
  pub deps : List Id
  pub share : Bool
  pub accepted : verdict_in clients (after_all nothing before).groups message.message ≡ judgement.Accept deps share
  pub served : list_all (λ d. is_beside message.message.group (held_at (after_all nothing before).held d) && list_any (delivers d) before) deps ≡ true

-- each Deliver entry rests on the entries before it
abbrev pub IsInOrder : Meaning → List (List Entry) → Type 0
IsInOrder clients journal =
    (before behind : List Entry) (id : Id) → entries_of journal ≡ before ++ entry.Deliver id ∷ behind → IsRightly clients before id

-- ---- origin

-- the message stands in an Author entry
pub record IsAuthored (entries : List Entry) (m : MessageValue) : Type 0 where
  pub before : List Entry
  pub behind : List Entry
  pub stands : entries ≡ before ++ entry.Author m ∷ behind

-- the message stands in an Arrive entry of a session with this contact, for whom its group was not Invisible there
pub record IsFrom (entries : List Entry) (m : MessageValue) (contact : ℕ) : Type 0 where
  pub before : List Entry
  pub behind : List Entry
  pub session : ℕ
  pub stands : entries ≡ before ++ entry.Arrive session m ∷ behind
  pub known_session : is_some (session_at (after_all nothing before).sessions session) ≡ true
  pub same_contact : contact_of (after_all nothing before).sessions session ≡ contact
  pub shown : is_invisible (level_at (after_all nothing before).levels contact m.group) ≡ false

-- the message stands in a Kept entry with this origin: in the journal that the brief account stands for it came so
pub record StandsInKept (entries : List Entry) (m : MessageValue) (from : Origin) : Type 0 where
  pub before : List Entry
  pub behind : List Entry
  pub stands : entries ≡ before ++ entry.Kept from m ∷ behind

abbrev pub CameSo : List Entry → MessageValue → Origin → Type 0
CameSo entries m origin.Author = IsAuthored entries m ⊎ StandsInKept entries m origin.Author
CameSo entries m (origin.From contact) = IsFrom entries m contact ⊎ StandsInKept entries m (origin.From contact)

-- each held message has its own id and the origin that its entry shows
pub record HasOrigin (entries : List Entry) (h : Held) : Type 0 where
  pub named : h.id ≡ message_id_of h.message
  pub came : CameSo entries h.message h.origin

-- ---- the settled law

-- what the rounds say of a message, n being the number of held messages
pub record IsDecided (clients : Meaning) (f : Facts) (n : ℕ) (id : Id) : Type 0 where
  pub delivered : (fate f id ≡ Some fate_kind.Delivered) ↔ (good (graph_of clients f) n id ≡ true)
  pub invalid : (fate f id ≡ Some fate_kind.Invalid) ↔ (bad (graph_of clients f) n id ≡ true)
  pub pending : good (graph_of clients f) n id ≡ false → bad (graph_of clients f) n id ≡ false → fate f id ≡ Some fate_kind.Pending

-- each held message is Delivered exactly where it is good, Invalid exactly where it is bad, and else Pending
abbrev pub DecidesStates : Meaning → Facts → Type 0
DecidesStates clients f = (id : Id) → is_held f.held id ≡ true → IsDecided clients f (length f.held) id

-- the good and the bad messages of one journal stay so in another
pub record IsKeptBy (clients : Meaning) (f later : Facts) : Type 0 where
  pub good : (k : ℕ) (id : Id) → good (graph_of clients f) k id ≡ true → good (graph_of clients later) k id ≡ true
  pub bad : (k : ℕ) (id : Id) → bad (graph_of clients f) k id ≡ true → bad (graph_of clients later) k id ≡ true
  pub held : length f.held ≤ length later.held

-- each held message of a journal shows its origin
abbrev pub HasOwnOrigin : List (List Entry) → Type 0
HasOwnOrigin journal = (id : Id) (h : Held) → held_at (facts journal).held id ≡ Some h → HasOrigin (entries_of journal) h
