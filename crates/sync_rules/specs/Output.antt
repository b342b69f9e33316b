-- What goes out: what each output may name, and the records that a session sends.
use Rattle.std.specs.Prelude.{◌≡◌, ℕ, true, cond, nat_eq, List, [], ◌∷◌, ◌++◌, Option, Some, None}
use Rattle.sync_ids.specs.declared.records.Record.{Record}
use Rattle.sync_ids.specs.declared.records.Record.TheVariants as record_kind
use Rattle.sync_rules.specs.declared.entries.Entry.{Entry}
use Rattle.sync_rules.specs.declared.entries.Entry.TheVariants as entry
use Rattle.sync_rules.specs.declared.entries.Out.{Out}
use Rattle.sync_rules.specs.declared.entries.Out.TheVariants as out
use Rattle.sync_rules.specs.declared.entries.Session.{Session}
use Rattle.sync_rules.specs.declared.states.Fate.TheVariants as fate_kind
use Rattle.sync_rules.specs.Lists.{is_among}
use Rattle.sync_rules.specs.Facts.{Facts, Held, Id, facts, nothing, after_all, entries_of, held_at, is_held, session_at, contact_of, level_at, is_level_shared}
use Rattle.sync_rules.specs.Steps.{fate}

-- ---- what an output may name

-- a message that may go out: it is held and Delivered, and its group is Shared with the contact
pub record IsOpen (f : Facts) (contact : ℕ) (id : Id) : Type 0 where
  pub message : Held
  pub held : held_at f.held id ≡ Some message
  pub delivered : fate f id ≡ Some fate_kind.Delivered
  pub shared : is_level_shared (level_at f.levels contact message.message.group) ≡ true

abbrev pub AllOpen : Facts → ℕ → List Id → Type 0
AllOpen f contact ids = (id : Id) → is_among ids id ≡ true → IsOpen f contact id

abbrev pub AllHeld : Facts → List Id → Type 0
AllHeld f ids = (id : Id) → is_among ids id ≡ true → is_held f.held id ≡ true

-- what is acknowledged is held; what is offered or sent may go out
abbrev pub NamesTheOpen : Facts → ℕ → Out → Type 0
NamesTheOpen f contact (out.Acks ids) = AllHeld f ids
NamesTheOpen f contact (out.Requests ids) = Unit {0}
NamesTheOpen f contact (out.Offers ids) = AllOpen f contact ids
NamesTheOpen f contact (out.Send id) = IsOpen f contact id

-- each Out entry of a journal names such messages, by the facts at its place
abbrev pub SendsTheOpen : List (List Entry) → Type 0
SendsTheOpen journal = (before behind : List Entry) (session now : ℕ) (what : Out)
    → entries_of journal ≡ before ++ entry.Out session now what ∷ behind
    → NamesTheOpen (after_all nothing before) (contact_of (after_all nothing before).sessions session) what

-- ---- the records of a session

abbrev pub message_record : Option Held → List Record
message_record None = []
message_record (Some h) = record_kind.Message h.message ∷ []

-- the record of one output; of a message that is not held there is none, and a legal journal sends no such message
abbrev pub out_records : List Held → Out → List Record
out_records held (out.Acks ids) = record_kind.Ack ids ∷ []
out_records held (out.Requests ids) = record_kind.Request ids ∷ []
out_records held (out.Offers ids) = record_kind.Offer ids ∷ []
out_records held (out.Send id) = message_record (held_at held id)

-- the record of an entry, where it is an output of the session
abbrev pub records_by : List Held → ℕ → Entry → List Record
records_by held session (entry.Out s now what) = cond (nat_eq s session) (out_records held what) []
records_by held session _ = []

abbrev pub records_in : List Held → ℕ → List Entry → List Record
records_in held session [] = []
records_in held session (e ∷ es) = records_by held session e ++ records_in held session es

-- the nonce of a session that has one (this project's profile)
abbrev pub nonce_record : Option Id → List Record
nonce_record None = []
nonce_record (Some nonce) = record_kind.Priority nonce ∷ []

-- what a session begins with: the one version 0, and its nonce (BSP, "Records")
abbrev pub first_records : Session → List Record
first_records s = record_kind.Versions (0 ∷ []) ∷ nonce_record s.nonce

abbrev pub sent_if_begun : Option Session → List (List Entry) → ℕ → List Record
sent_if_begun None journal session = []
sent_if_begun (Some s) journal session = first_records s ++ records_in (facts journal).held session
    (entries_of journal)

-- what a session sends, as a list of records: none where there is no such session; else what it begins with, and a record
-- for each of its outputs
abbrev pub sent : List (List Entry) → ℕ → List Record
sent journal session = sent_if_begun (session_at (facts journal).sessions session) journal session

-- one list of records goes on from another
pub record GoesOnFrom (records before : List Record) : Type 0 where
  pub more : List Record
  pub goes_on : records ≡ before ++ more
