-- Which batch may follow which journal, by the facts of the journal alone, and which journals are legal.
use Rattle.std.specs.Prelude.{◌≡◌, ℕ, ◌<◌, ◌≤◌, Bool, true, false, not, ◌&&◌, nat_eq, List, [], ◌∷◌, length, Option, Some, None, is_some, is_none}
use Rattle.std.specs.List.{list_all}
use Rattle.sync_ids.specs.Values.{GroupValue, MessageValue}
use Rattle.sync_ids.specs.Ids.{group_id_of, message_id_of}
use Rattle.sync_ids.specs.Records.{IsRecord}
use Rattle.sync_ids.specs.declared.records.Record.{Record}
use Rattle.sync_rules.specs.declared.answers.Judgement.{Judgement}
use Rattle.sync_rules.specs.declared.answers.Judgement.TheVariants as judgement
use Rattle.sync_rules.specs.declared.entries.Entry.{Entry}
use Rattle.sync_rules.specs.declared.entries.Entry.TheVariants as entry
use Rattle.sync_rules.specs.declared.entries.Mode.{Mode}
use Rattle.sync_rules.specs.declared.entries.Mode.TheVariants as mode_kind
use Rattle.sync_rules.specs.declared.entries.Out.{Out}
use Rattle.sync_rules.specs.declared.entries.Session.{Session}
use Rattle.sync_rules.specs.declared.entries.Tried.{Tried}
use Rattle.sync_rules.specs.declared.states.Origin.{Origin}
use Rattle.sync_rules.specs.declared.states.Origin.TheVariants as origin
use Rattle.sync_rules.specs.declared.states.Start.TheVariants as start
use Rattle.sync_rules.specs.declared.limits.TheConstants.{MAX_CONTACTS, MAX_GROUPS, MAX_ROWS, MAX_SESSIONS, MAX_STEPS, MAX_TRIES, MAX_WANTED}
use Rattle.sync_rules.specs.Clients.{Meaning}
use Rattle.sync_rules.specs.Lists.{is_among}
use Rattle.sync_rules.specs.Facts.{Facts, Id, group_at, held_at, is_held, is_no_row, row_at, session_at, takes_of, wanted_from, after, after_all, nothing}
use Rattle.sync_rules.specs.Steps.{IsSettled, next, verdict_in, kind_of_def, is_served}
use Rattle.sync_rules.specs.Sessions.{taken, due}

-- a nonce only in interactive mode
abbrev pub suits_nonce : Mode → Option Id → Bool
suits_nonce mode_kind.Interactive given = true
suits_nonce mode_kind.Batch given = is_none given

-- a session that may begin: it has the next number, below MAX_SESSIONS, its contact is known, its latency is at least 1,
-- and it has a nonce only in interactive mode
pub record MayBegin (f : Facts) (s : Session) : Type 0 where
  pub numbered : s.number ≡ f.begun
  pub few : s.number < MAX_SESSIONS
  pub known_contact : s.contact < f.contacts
  pub some_latency : 1 ≤ s.latency
  pub suited_nonce : suits_nonce s.mode s.nonce ≡ true

-- the judgement is Accept, and each dependency is a delivered message of the group
abbrev pub accepts_served : Facts → Id → Judgement → Bool
accepts_served f group judgement.Refuse = false
accepts_served f group (judgement.Accept deps share) = list_all (is_served f group) deps

-- a message that may be written: its group is known, its id is not held, its client accepts it, and each dependency is a
-- delivered message of the same group
pub record MayAuthor (clients : Meaning) (f : Facts) (m : MessageValue) : Type 0 where
  pub known_group : is_some (group_at f.groups m.group) ≡ true
  pub new : is_some (held_at f.held (message_id_of m)) ≡ false
  pub accepted : accepts_served f m.group (verdict_in clients f.groups m) ≡ true

-- a group that may be added: its client is known, its id is new, and fewer than MAX_GROUPS groups are known
pub record MayAddGroup (clients : Meaning) (f : Facts) (def : GroupValue) : Type 0 where
  pub known_client : is_some (kind_of_def clients def) ≡ true
  pub new : is_some (group_at f.groups (group_id_of def)) ≡ false
  pub few : length f.groups < MAX_GROUPS

-- what follows a Take: the session exists, the record has the session's next number, and the rest is what some record is
-- taken as
pub record MayTake (f : Facts) (session k : ℕ) (rest : List Entry) : Type 0 where
  pub known_session : is_some (session_at f.sessions session) ≡ true
  pub numbered : k ≡ takes_of f.takes session
  pub read : Record
  pub within : IsRecord read
  pub taken_so : rest ≡ taken f session read

-- ---- a brief account

-- a message that is kept of one written here may be written; of one that came, the contact is known
abbrev pub IsKeptFrom : Meaning → Facts → Origin → MessageValue → Type 0
IsKeptFrom clients f origin.Author m = accepts_served f m.group (verdict_in clients f.groups m) ≡ true
IsKeptFrom clients f (origin.From contact) m = contact < f.contacts

-- a message that may be kept: its group is known, its id is not held, and so with where it came from
pub record MayKeep (clients : Meaning) (f : Facts) (from : Origin) (m : MessageValue) : Type 0 where
  pub known_group : is_some (group_at f.groups m.group) ≡ true
  pub new : is_some (held_at f.held (message_id_of m)) ≡ false
  pub kept_from : IsKeptFrom clients f from m

-- nothing is kept of a message for a contact
abbrev pub is_empty_row : Tried → Bool
is_empty_row t = not t.seen && (not t.owed && (not t.asked && nat_eq t.tries 0))

-- a row that may be stated: its contact is known and its message is held, its tries are within MAX_TRIES, it has no wait
-- without a try, it is not empty, and none was stated before for the pair
pub record MayRestore (f : Facts) (t : Tried) : Type 0 where
  pub known_contact : t.contact < f.contacts
  pub held : is_held f.held t.id ≡ true
  pub few_tries : t.tries ≤ MAX_TRIES
  pub no_wait : t.tries ≡ 0 → t.expiry ≡ 0
  pub not_empty : is_empty_row t ≡ false
  pub first : is_no_row (row_at f.rows t.contact t.id) ≡ true

-- an id that may be stated as wanted: its contact is known, it is not held and not yet wanted from the contact, and fewer
-- than MAX_WANTED ids are
pub record MayWant (f : Facts) (contact : ℕ) (id : Id) : Type 0 where
  pub known_contact : contact < f.contacts
  pub not_held : is_held f.held id ≡ false
  pub not_wanted : is_among (wanted_from f.wanted contact) id ≡ false
  pub few : length (wanted_from f.wanted contact) < MAX_WANTED

-- an entry of a batch of rows and wanted ids suits the facts
abbrev pub SuitsRows : Facts → Entry → Type 0
SuitsRows f (entry.Tried t) = MayRestore f t
SuitsRows f (entry.Want contact id) = MayWant f contact id
SuitsRows f _ = ⊥

-- each entry of a list suits the facts after those before it
abbrev pub AreRows : Facts → List Entry → Type 0
AreRows f [] = Unit {0}
AreRows f (e ∷ es) = SuitsRows f e × AreRows (after f e) es

-- a batch of rows and wanted ids: 1 to MAX_ROWS entries, each of which suits, in a brief account
pub record IsRowsBatch (clients : Meaning) (f : Facts) (es : List Entry) : Type 0 where
  pub opening : f.start ≡ start.Opening
  pub settled : IsSettled clients f
  pub some : 1 ≤ length es
  pub few : length es ≤ MAX_ROWS
  pub suits : AreRows f es

-- ---- batches

-- each entry of a list is the next step after those before it
abbrev pub IsSettling : Meaning → Facts → List Entry → Type 0
IsSettling clients f [] = Unit {0}
IsSettling clients f (e ∷ es) = (next clients f ≡ Some e) × IsSettling clients (after f e) es

-- a settling batch: 1 to MAX_STEPS entries, each the next step
abbrev pub IsSettlingBatch : Meaning → Facts → List Entry → Type 0
IsSettlingBatch clients f es = (1 ≤ length es) × (length es ≤ MAX_STEPS) × IsSettling clients f es

-- what a session may send: exactly what is due on it
abbrev pub IsDue : Meaning → Facts → Option Session → ℕ → Out → Type 0
IsDue clients f None now what = ⊥
IsDue clients f (Some s) now what = due clients f s now ≡ Some what

-- what is asked of an entry that is a batch by itself, beside a settled journal
abbrev pub MayStandAlone : Meaning → Facts → Entry → Type 0
MayStandAlone clients f (entry.Contact c) = (c ≡ f.contacts) × (c < MAX_CONTACTS)
MayStandAlone clients f (entry.Group def) = MayAddGroup clients f def
MayStandAlone clients f (entry.Level c g l) = (c < f.contacts)
    × (is_some (group_at f.groups g) ≡ true)
MayStandAlone clients f (entry.Session s) = MayBegin f s
MayStandAlone clients f (entry.Author m) = MayAuthor clients f m
MayStandAlone clients f (entry.Out s now what) = IsDue clients f (session_at f.sessions s) now what
MayStandAlone clients f (entry.Kept from m) = (f.start ≡ start.Opening) × MayKeep clients f from m
MayStandAlone clients f _ = ⊥

-- the batches that may follow a journal of these facts: a record that is taken, steps of settling, the first of a brief
-- account, its rows and wanted ids, or one entry by itself. Before any but steps and the first of a brief account the
-- journal is settled
abbrev pub Allowed : Meaning → Facts → List Entry → Type 0
Allowed clients f [] = ⊥
Allowed clients f (entry.Take s k ∷ rest) = IsSettled clients f × MayTake f s k rest
Allowed clients f (entry.Judged id ∷ rest) = IsSettlingBatch clients f (entry.Judged id ∷ rest)
Allowed clients f (entry.Deliver id ∷ rest) = IsSettlingBatch clients f (entry.Deliver id ∷ rest)
Allowed clients f (entry.Invalid id ∷ rest) = IsSettlingBatch clients f (entry.Invalid id ∷ rest)
Allowed clients f (entry.Brief n ∷ rest) = (rest ≡ []) × (f.start ≡ start.Empty)
Allowed clients f (entry.Tried t ∷ rest) = IsRowsBatch clients f (entry.Tried t ∷ rest)
Allowed clients f (entry.Want contact id ∷ rest) = IsRowsBatch clients f (entry.Want contact id ∷ rest)
Allowed clients f (e ∷ rest) = (rest ≡ []) × IsSettled clients f × MayStandAlone clients f e

-- batches of which each is allowed after those before it
abbrev pub GoesOn : Meaning → Facts → List (List Entry) → Type 0
GoesOn clients f [] = Unit {0}
GoesOn clients f (b ∷ bs) = Allowed clients f b × GoesOn clients (after_all f b) bs

-- a legal journal
abbrev pub Legal : Meaning → List (List Entry) → Type 0
Legal clients journal = GoesOn clients nothing journal

-- batches of settling alone
abbrev pub AllSettling : Meaning → Facts → List (List Entry) → Type 0
AllSettling clients f [] = Unit {0}
AllSettling clients f (b ∷ bs) = IsSettlingBatch clients f b × AllSettling clients (after_all f b) bs
