-- Whether a batch may follow a journal, as a test: what `Allowed` says of the facts of the journal, by cases on the
-- first entry.
use Rattle.std.specs.Prelude.{◌≡◌, ℕ, Bool, true, false, not, ◌&&◌, ◌||◌, nat_eq, nat_lt, nat_le, List, [], ◌∷◌, length, Option, Some, None, is_some, is_none}
use Rattle.std.specs.List.{filter_map, list_all}
use Rattle.std.specs.Cmp.Lexicographic.{pointwise}
use Rattle.sync_ids.specs.Values.{GroupValue, MessageValue}
use Rattle.sync_ids.specs.Ids.{group_id_of, message_id_of}
use Rattle.sync_ids.specs.declared.lists.TheConstants.{MAX_IDS, MAX_VERSIONS}
use Rattle.sync_ids.specs.declared.message.TheConstants.{MAX_BODY, MAX_TIMESTAMP}
use Rattle.sync_ids.specs.declared.records.Record.{Record}
use Rattle.sync_ids.specs.declared.records.Record.TheVariants as record_kind
use Rattle.sync_rules.specs.declared.entries.Entry.{Entry}
use Rattle.sync_rules.specs.declared.entries.Entry.TheVariants as entry
use Rattle.sync_rules.specs.declared.entries.Out.{Out}
use Rattle.sync_rules.specs.declared.entries.Out.TheVariants as out
use Rattle.sync_rules.specs.declared.entries.Session.{Session}
use Rattle.sync_rules.specs.declared.entries.Tried.{Tried}
use Rattle.sync_rules.specs.declared.states.Origin.{Origin}
use Rattle.sync_rules.specs.declared.states.Origin.TheVariants as origin
use Rattle.sync_rules.specs.declared.states.Start.{Start}
use Rattle.sync_rules.specs.declared.states.Start.TheVariants as start
use Rattle.sync_rules.specs.declared.limits.TheConstants.{MAX_CONTACTS, MAX_GROUPS, MAX_ROWS, MAX_SESSIONS, MAX_STEPS, MAX_TRIES, MAX_WANTED}
use Rattle.sync_rules.specs.Clients.{Meaning}
use Rattle.sync_rules.specs.Lists.{same_id, is_among}
use Rattle.sync_rules.specs.Facts.{Facts, Id, group_at, held_at, is_held, is_no_row, row_at, session_at, takes_of, wanted_from, after}
use Rattle.sync_rules.specs.Steps.{next, verdict_in, kind_of_def}
use Rattle.sync_rules.specs.Sessions.{taken, due}
use Rattle.sync_rules.specs.Legal.{Allowed, suits_nonce, accepts_served, is_empty_row}

-- ---- equal values

-- whether two lists of ids are the same
abbrev pub same_ids : List Id → List Id → Bool
same_ids a b = pointwise same_id a b

-- whether two messages are the same
abbrev pub same_message : MessageValue → MessageValue → Bool
same_message a b = same_id a.group b.group && (nat_eq a.timestamp b.timestamp && same_id a.body b.body)

-- whether two pairs of a session's number and an id are the same
abbrev pub same_pair : ℕ → Id → ℕ → Id → Bool
same_pair s id t other = nat_eq s t && same_id id other

-- whether an entry is this one
abbrev pub is_arrive : ℕ → MessageValue → Entry → Bool
is_arrive s m (entry.Arrive t other) = nat_eq s t && same_message m other
is_arrive s m _ = false

abbrev pub is_again : ℕ → Id → Entry → Bool
is_again s id (entry.Again t other) = same_pair s id t other
is_again s id _ = false

abbrev pub is_offered : ℕ → Id → Entry → Bool
is_offered s id (entry.Offered t other) = same_pair s id t other
is_offered s id _ = false

abbrev pub is_seen : ℕ → Id → Entry → Bool
is_seen s id (entry.Seen t other) = same_pair s id t other
is_seen s id _ = false

abbrev pub is_asked : ℕ → Id → Entry → Bool
is_asked s id (entry.Asked t other) = same_pair s id t other
is_asked s id _ = false

abbrev pub is_judged : Id → Entry → Bool
is_judged id (entry.Judged other) = same_id id other
is_judged id _ = false

abbrev pub is_deliver : Id → Entry → Bool
is_deliver id (entry.Deliver other) = same_id id other
is_deliver id _ = false

abbrev pub is_invalid : Id → Entry → Bool
is_invalid id (entry.Invalid other) = same_id id other
is_invalid id _ = false

-- whether two entries are the same, of the kinds that settling and records make; never for another kind
abbrev pub same_entry : Entry → Entry → Bool
same_entry (entry.Arrive s m) e = is_arrive s m e
same_entry (entry.Again s id) e = is_again s id e
same_entry (entry.Offered s id) e = is_offered s id e
same_entry (entry.Seen s id) e = is_seen s id e
same_entry (entry.Asked s id) e = is_asked s id e
same_entry (entry.Judged id) e = is_judged id e
same_entry (entry.Deliver id) e = is_deliver id e
same_entry (entry.Invalid id) e = is_invalid id e
same_entry _ e = false

-- whether an output is this one
abbrev pub is_acks : List Id → Out → Bool
is_acks ids (out.Acks others) = same_ids ids others
is_acks ids _ = false

abbrev pub is_requests : List Id → Out → Bool
is_requests ids (out.Requests others) = same_ids ids others
is_requests ids _ = false

abbrev pub is_offers : List Id → Out → Bool
is_offers ids (out.Offers others) = same_ids ids others
is_offers ids _ = false

abbrev pub is_send : Id → Out → Bool
is_send id (out.Send other) = same_id id other
is_send id _ = false

-- whether two outputs are the same
abbrev pub same_out : Out → Out → Bool
same_out (out.Acks ids) what = is_acks ids what
same_out (out.Requests ids) what = is_requests ids what
same_out (out.Offers ids) what = is_offers ids what
same_out (out.Send id) what = is_send id what

-- whether there is something, and it is this
abbrev pub is_some_of : {A : Type 0} → (A → A → Bool) → Option A → A → Bool
is_some_of same None a = false
is_some_of same (Some b) a = same b a

-- ---- one entry

-- no step is open
abbrev pub is_settled : Meaning → Facts → Bool
is_settled clients f = is_none (next clients f)

-- a group may be added
abbrev pub may_add_group : Meaning → Facts → GroupValue → Bool
may_add_group clients f def =
    is_some (kind_of_def clients def) && (is_none (group_at f.groups (group_id_of def)) && nat_lt (length f.groups) MAX_GROUPS)

-- a session may begin
abbrev pub may_begin : Facts → Session → Bool
may_begin f s =
    nat_eq s.number f.begun
    && (nat_lt s.number MAX_SESSIONS && (nat_lt s.contact f.contacts && (nat_le 1 s.latency && suits_nonce s.mode s.nonce)))

-- a message may be written
abbrev pub may_author : Meaning → Facts → MessageValue → Bool
may_author clients f m =
    is_some (group_at f.groups m.group)
    && (is_none (held_at f.held (message_id_of m)) && accepts_served f m.group (verdict_in clients f.groups m))

-- this is what is due on a session
abbrev pub is_due_on : Meaning → Facts → Option Session → ℕ → Out → Bool
is_due_on clients f None now what = false
is_due_on clients f (Some s) now what = is_some_of same_out (due clients f s now) what

-- ---- what a record is taken as

-- a list has one element at least and no more than this
abbrev pub is_within : {A : Type 0} → ℕ → List A → Bool
is_within most xs = nat_le 1 (length xs) && nat_le (length xs) most

-- an id has 32 bytes
abbrev pub is_whole : Id → Bool
is_whole id = nat_eq (length id) 32

-- a list of ids within its limits
abbrev pub is_id_list : List Id → Bool
is_id_list ids = is_within MAX_IDS ids && list_all is_whole ids

-- a message within its limits
abbrev pub is_message : MessageValue → Bool
is_message m =
    nat_eq (length m.group) 32
    && (nat_le m.timestamp MAX_TIMESTAMP && (nat_le 1 (length m.body) && nat_le (length m.body) MAX_BODY))

-- a record within its limits
abbrev pub is_record : Record → Bool
is_record (record_kind.Ack ids) = is_id_list ids
is_record (record_kind.Message m) = is_message m
is_record (record_kind.Offer ids) = is_id_list ids
is_record (record_kind.Request ids) = is_id_list ids
is_record (record_kind.Versions versions) = is_within MAX_VERSIONS versions
is_record (record_kind.Priority nonce) = nat_eq (length nonce) 16

-- the id that an entry of a heard list names
abbrev pub id_named : Entry → Option Id
id_named (entry.Again s id) = Some id
id_named (entry.Offered s id) = Some id
id_named (entry.Seen s id) = Some id
id_named (entry.Asked s id) = Some id
id_named _ = None

-- the ids that entries of a heard list name
abbrev pub ids_named : List Entry → List Id
ids_named entries = filter_map id_named entries

-- a record that is taken as nothing
abbrev pub nothing_said : Record
nothing_said = record_kind.Versions (0 ∷ [])

-- the record that lists just what these entries name, of the kind that the first of them shows. If any record is taken as
-- these entries, then this one is
abbrev pub read_as : List Entry → Record
read_as (entry.Arrive s m ∷ rest) = record_kind.Message m
read_as (entry.Again s id ∷ rest) = record_kind.Offer (ids_named (entry.Again s id ∷ rest))
read_as (entry.Offered s id ∷ rest) = record_kind.Offer (ids_named (entry.Offered s id ∷ rest))
read_as (entry.Seen s id ∷ rest) = record_kind.Ack (ids_named (entry.Seen s id ∷ rest))
read_as (entry.Asked s id ∷ rest) = record_kind.Request (ids_named (entry.Asked s id ∷ rest))
read_as _ = nothing_said

-- a record is within its limits and is taken as these entries
abbrev pub gives : Facts → ℕ → List Entry → Record → Bool
gives f session entries r = is_record r && pointwise same_entry entries (taken f session r)

-- these entries may follow a Take: the session exists, the record has the session's next number, and a record gives them
abbrev pub may_take : Facts → ℕ → ℕ → List Entry → Bool
may_take f session k entries =
    is_some (session_at f.sessions session)
    && (nat_eq k (takes_of f.takes session) && gives f session entries (read_as entries))

-- ---- settling

-- each entry of a list is the next step after those before it
abbrev pub settles : Meaning → Facts → List Entry → Bool
settles clients f [] = true
settles clients f (e ∷ es) = is_some_of same_entry (next clients f) e && settles clients (after f e) es

-- ---- a brief account

abbrev pub is_empty_start : Start → Bool
is_empty_start start.Empty = true
is_empty_start start.Opening = false
is_empty_start start.Going = false

abbrev pub is_opening : Start → Bool
is_opening start.Empty = false
is_opening start.Opening = true
is_opening start.Going = false

abbrev pub is_kept_from : Meaning → Facts → Origin → MessageValue → Bool
is_kept_from clients f origin.Author m = accepts_served f m.group (verdict_in clients f.groups m)
is_kept_from clients f (origin.From contact) m = nat_lt contact f.contacts

-- a message may be kept
abbrev pub may_keep : Meaning → Facts → Origin → MessageValue → Bool
may_keep clients f from m =
    is_some (group_at f.groups m.group)
    && (is_none (held_at f.held (message_id_of m)) && is_kept_from clients f from m)

-- a row may be stated
abbrev pub may_restore : Facts → Tried → Bool
may_restore f t =
    nat_lt t.contact f.contacts
    && (is_held f.held t.id
    && (nat_le t.tries MAX_TRIES
    && ((not (nat_eq t.tries 0) || nat_eq t.expiry 0)
    && (not (is_empty_row t) && is_no_row (row_at f.rows t.contact t.id)))))

-- an id may be stated as wanted
abbrev pub may_want : Facts → ℕ → Id → Bool
may_want f contact id =
    nat_lt contact f.contacts
    && (not (is_held f.held id)
    && (not (is_among (wanted_from f.wanted contact) id) && nat_lt (length (wanted_from f.wanted contact)) MAX_WANTED))

-- an entry of a batch of rows and wanted ids suits the facts
abbrev pub suits_rows : Facts → Entry → Bool
suits_rows f (entry.Tried t) = may_restore f t
suits_rows f (entry.Want contact id) = may_want f contact id
suits_rows f _ = false

-- each entry of a list suits the facts after those before it
abbrev pub are_rows : Facts → List Entry → Bool
are_rows f [] = true
are_rows f (e ∷ es) = suits_rows f e && are_rows (after f e) es

-- ---- batches

abbrev pub is_empty : List Entry → Bool
is_empty [] = true
is_empty (e ∷ es) = false

-- nothing stands behind a batch's first entry, and the journal is settled
abbrev pub alone : Meaning → Facts → List Entry → Bool
alone clients f rest = is_empty rest && is_settled clients f

-- at most MAX_STEPS entries, each the next step
abbrev pub is_settling : Meaning → Facts → List Entry → Bool
is_settling clients f es = nat_le (length es) MAX_STEPS && settles clients f es

-- at most MAX_ROWS rows and wanted ids in a brief account
abbrev pub is_rows : Meaning → Facts → List Entry → Bool
is_rows clients f es = is_opening f.start && (is_settled clients f && (nat_le (length es) MAX_ROWS && are_rows f es))

-- an entry may be a batch by itself
abbrev pub may_stand_alone : Meaning → Facts → Entry → Bool
may_stand_alone clients f (entry.Contact c) = nat_eq c f.contacts && nat_lt c MAX_CONTACTS
may_stand_alone clients f (entry.Group def) = may_add_group clients f def
may_stand_alone clients f (entry.Level c g l) = nat_lt c f.contacts && is_some (group_at f.groups g)
may_stand_alone clients f (entry.Session s) = may_begin f s
may_stand_alone clients f (entry.Author m) = may_author clients f m
may_stand_alone clients f (entry.Out s now what) =
    is_due_on clients f (session_at f.sessions s) now what
may_stand_alone clients f (entry.Kept from m) = is_opening f.start && may_keep clients f from m
may_stand_alone clients f _ = false

-- whether a batch may follow a journal of these facts
abbrev pub allows : Meaning → Facts → List Entry → Bool
allows clients f [] = false
allows clients f (entry.Take s k ∷ rest) = is_settled clients f && may_take f s k rest
allows clients f (entry.Judged id ∷ rest) = is_settling clients f (entry.Judged id ∷ rest)
allows clients f (entry.Deliver id ∷ rest) = is_settling clients f (entry.Deliver id ∷ rest)
allows clients f (entry.Invalid id ∷ rest) = is_settling clients f (entry.Invalid id ∷ rest)
allows clients f (entry.Brief n ∷ rest) = is_empty rest && is_empty_start f.start
allows clients f (entry.Tried t ∷ rest) = is_rows clients f (entry.Tried t ∷ rest)
allows clients f (entry.Want contact id ∷ rest) = is_rows clients f (entry.Want contact id ∷ rest)
allows clients f (e ∷ rest) = alone clients f rest && may_stand_alone clients f e

-- the first entry of a settling batch
abbrev pub is_settling_kind : List Entry → Bool
is_settling_kind (entry.Judged id ∷ rest) = true
is_settling_kind (entry.Deliver id ∷ rest) = true
is_settling_kind (entry.Invalid id ∷ rest) = true
is_settling_kind _ = false

-- the first entry of a batch of rows and wanted ids
abbrev pub is_rows_kind : List Entry → Bool
is_rows_kind (entry.Tried t ∷ rest) = true
is_rows_kind (entry.Want contact id ∷ rest) = true
is_rows_kind _ = false

-- the first entry of a batch of a brief account's own kinds
abbrev pub is_account_kind : List Entry → Bool
is_account_kind (entry.Brief n ∷ rest) = true
is_account_kind (entry.Kept from m ∷ rest) = true
is_account_kind (entry.Tried t ∷ rest) = true
is_account_kind (entry.Want contact id ∷ rest) = true
is_account_kind _ = false

-- the test of a batch says yes exactly where the batch may follow a journal of these facts
abbrev pub AllowsIsAllowed : Type 0
AllowsIsAllowed = (clients : Meaning) (f : Facts) (b : List Entry)
    → (allows clients f b ≡ true → Allowed clients f b) × (Allowed clients f b → allows clients f b ≡ true)
