-- What a record is taken as, and what is due on a session.
use Rattle.std.specs.Prelude.{ℕ, ◌-◌, Bool, true, false, not, cond, ◌&&◌, ◌||◌, nat_le, nat_lt, List, [], ◌∷◌, ◌++◌, length, take, Option, Some, None, is_some}
use Rattle.std.specs.Option.{option_or}
use Rattle.sync_ids.specs.Values.{MessageValue}
use Rattle.sync_ids.specs.Ids.{message_id_of}
use Rattle.sync_ids.specs.declared.lists.TheConstants.{MAX_IDS}
use Rattle.sync_ids.specs.declared.records.Record.{Record}
use Rattle.sync_ids.specs.declared.records.Record.TheVariants as record_kind
use Rattle.sync_rules.specs.declared.answers.Judgement.{Judgement}
use Rattle.sync_rules.specs.declared.answers.Judgement.TheVariants as judgement
use Rattle.sync_rules.specs.declared.entries.Entry.{Entry}
use Rattle.sync_rules.specs.declared.entries.Entry.TheVariants as entry
use Rattle.sync_rules.specs.declared.entries.Mode.{Mode}
use Rattle.sync_rules.specs.declared.entries.Mode.TheVariants as mode_kind
use Rattle.sync_rules.specs.declared.entries.Out.{Out}
use Rattle.sync_rules.specs.declared.entries.Out.TheVariants as out
use Rattle.sync_rules.specs.declared.entries.Session.{Session}
use Rattle.sync_rules.specs.declared.states.Origin.{Origin}
use Rattle.sync_rules.specs.declared.states.Origin.TheVariants as origin
use Rattle.sync_rules.specs.declared.limits.TheConstants.{MAX_WANTED}
use Rattle.sync_rules.specs.Clients.{Meaning}
use Rattle.sync_rules.specs.Lists.{is_among, firsts}
use Rattle.sync_rules.specs.Facts.{Facts, Held, Id, Row, held_at, group_at, contact_of, level_at, is_invisible, is_level_shared, row_at, wanted_from, expiry_after, one_more_try}
use Rattle.sync_rules.specs.Steps.{answer_of}

-- ---- what a record is taken as

-- a held message whose group is not Invisible to the contact
abbrev pub is_shown_held : Facts → ℕ → Option Held → Bool
is_shown_held f contact None = false
is_shown_held f contact (Some h) = not (is_invisible (level_at f.levels contact h.message.group))

-- an id is held in a group that is not Invisible to the contact
abbrev pub is_shown : Facts → ℕ → Id → Bool
is_shown f contact id = is_shown_held f contact (held_at f.held id)

-- a message may come from the contact: its group is known and not Invisible to the contact
abbrev pub is_welcome : Facts → ℕ → Id → Bool
is_welcome f contact group = is_some (group_at f.groups group) && not (is_invisible (level_at f.levels contact group))

abbrev pub one_if : Bool → Entry → List Entry
one_if true e = e ∷ []
one_if false e = []

-- a MESSAGE: none where its group is not known or is Invisible to the contact; it arrives where its id is not held; it
-- came again where its id is held in a group that is not Invisible to the contact
abbrev pub taken_message_of : Facts → ℕ → ℕ → MessageValue → Option Held → List Entry
taken_message_of f session contact m None = entry.Arrive session m ∷ []
taken_message_of f session contact m (Some h) =
    one_if (not (is_invisible (level_at f.levels contact h.message.group))) (entry.Again session (message_id_of m))

abbrev pub taken_message : Facts → ℕ → ℕ → MessageValue → List Entry
taken_message f session contact m =
    cond (is_welcome f contact m.group) (taken_message_of f session contact m (held_at f.held (message_id_of m))) []

-- an ACK: seen, for each id that is held, in a group not Invisible to the contact, and not yet seen by it
abbrev pub taken_acks : Facts → ℕ → ℕ → List Id → List Entry
taken_acks f session contact [] = []
taken_acks f session contact (id ∷ ids) =
    one_if (is_shown f contact id && not (row_at f.rows contact id).seen) (entry.Seen session id) ++ taken_acks f session contact ids

-- a REQUEST: asked, for each id that is held in a group not Invisible to the contact
abbrev pub taken_requests : Facts → ℕ → ℕ → List Id → List Entry
taken_requests f session contact [] = []
taken_requests f session contact (id ∷ ids) =
    one_if (is_shown f contact id) (entry.Asked session id) ++ taken_requests f session contact ids

-- an id is remembered: it is not held and not yet wanted from the contact, and there is room for one more
abbrev pub is_remembered : Facts → ℕ → ℕ → Id → Bool
is_remembered f contact room id =
    not (is_some (held_at f.held id)) && (not (is_among (wanted_from f.wanted contact) id) && nat_lt 0 room)

-- one id of an OFFER: a held one came again, one that is not held is remembered
abbrev pub taken_offer : Facts → ℕ → ℕ → ℕ → Id → List Entry
taken_offer f session contact room id =
    one_if (is_shown f contact id) (entry.Again session id) ++ one_if (is_remembered f contact room id) (entry.Offered session id)

-- how much room one id takes
abbrev pub room_after : Bool → ℕ → ℕ
room_after true room = room - 1
room_after false room = room

-- an OFFER, with room for so many further wanted ids
abbrev pub taken_offers : Facts → ℕ → ℕ → ℕ → List Id → List Entry
taken_offers f session contact room [] = []
taken_offers f session contact room (id ∷ ids) =
    taken_offer f session contact room id
    ++ taken_offers f session contact (room_after (is_remembered f contact room id) room) ids

-- what a record from this contact is taken as, the entries after Take. Of a list only the first occurrence of an id
-- counts, and ids are treated in order; no more than MAX_WANTED ids are wanted from a contact
abbrev pub taken_from : Facts → ℕ → ℕ → Record → List Entry
taken_from f session contact (record_kind.Ack ids) = taken_acks f session contact (firsts ids)
taken_from f session contact (record_kind.Message m) = taken_message f session contact m
taken_from f session contact (record_kind.Offer ids) =
    taken_offers f session contact (MAX_WANTED - length (wanted_from f.wanted contact)) (firsts ids)
taken_from f session contact (record_kind.Request ids) = taken_requests f session contact (firsts ids)
taken_from f session contact (record_kind.Versions versions) = []
taken_from f session contact (record_kind.Priority nonce) = []

-- what a record heard on a session is taken as
abbrev pub taken : Facts → ℕ → Record → List Entry
taken f session r = taken_from f session (contact_of f.sessions session) r

-- ---- what is due

abbrev pub is_author : Origin → Bool
is_author origin.Author = true
is_author (origin.From contact) = false

abbrev pub may_share : Option Judgement → Bool
may_share None = false
may_share (Some judgement.Refuse) = false
may_share (Some (judgement.Accept deps share)) = share

-- the ids of the held messages that pass a test, in order of arrival
abbrev pub ids_where : (Held → Bool) → List Held → List Id
ids_where test [] = []
ids_where test (h ∷ hs) = cond (test h) (h.id ∷ ids_where test hs) (ids_where test hs)

-- the ids of the held messages whose judgement lets them be sent on: all that sending reads of the clients
abbrev pub shared_ids : Meaning → Facts → List Id
shared_ids clients f = ids_where (λ h. may_share (answer_of clients f h)) f.held

-- a message may be sent to a contact: it is delivered, its group is Shared with the contact, the contact has not seen it,
-- and it was written here or its judgement lets it be sent on
abbrev pub is_sendable : Facts → List Id → ℕ → Held → Bool
is_sendable f shared contact h =
    is_among f.delivered h.id
    && (is_level_shared (level_at f.levels contact h.message.group)
    && (not (row_at f.rows contact h.id).seen && (is_author h.origin || is_among shared h.id)))

-- the ids that wait for an acknowledgement to the contact
abbrev pub owed_to : Facts → ℕ → List Id
owed_to f contact = take MAX_IDS (ids_where (λ h. (row_at f.rows contact h.id).owed) f.held)

-- the ids to request from the contact
abbrev pub wanted_of : Facts → ℕ → List Id
wanted_of f contact = take MAX_IDS (wanted_from f.wanted contact)

-- a message that is to be sent now: in interactive mode one that was asked for, in batch mode one whose time has come
abbrev pub is_ripe : Mode → ℕ → Row → Bool
is_ripe mode_kind.Interactive now r = r.asked
is_ripe mode_kind.Batch now r = nat_le r.expiry now

abbrev pub first_id : List Id → Option Id
first_id [] = None
first_id (id ∷ ids) = Some id

-- the message to be sent now
abbrev pub send_of : Facts → List Id → ℕ → Mode → ℕ → Option Id
send_of f shared contact mode now =
    first_id (ids_where (λ h. is_sendable f shared contact h && is_ripe mode now (row_at f.rows contact h.id)) f.held)

-- the ids to offer now
abbrev pub offers_of : Facts → List Id → ℕ → ℕ → List Id
offers_of f shared contact now =
    take MAX_IDS
    (ids_where (λ h. is_sendable f shared contact h
    && (not (row_at f.rows contact h.id).asked && nat_le (row_at f.rows contact h.id).expiry now)) f.held)

-- a try at this time, on a session of this latency, would set an expiry that is less than the one that stands
abbrev pub is_sooner : ℕ → ℕ → Row → Bool
is_sooner latency now r = nat_lt (expiry_after now latency (one_more_try r.tries)) r.expiry

-- a message that goes again before its time, since this way is quicker: it was not asked for, and a try would be sooner
abbrev pub goes_sooner : ℕ → ℕ → Row → Bool
goes_sooner latency now r = not r.asked && is_sooner latency now r

-- the first message to be sent before its time
abbrev pub sooner_of : Facts → List Id → ℕ → ℕ → ℕ → Option Id
sooner_of f shared contact latency now =
    first_id (ids_where (λ h. is_sendable f shared contact h && goes_sooner latency now (row_at f.rows contact h.id)) f.held)

-- the ids to offer before their time
abbrev pub sooner_offers_of : Facts → List Id → ℕ → ℕ → ℕ → List Id
sooner_offers_of f shared contact latency now =
    take MAX_IDS (ids_where (λ h. is_sendable f shared contact h && goes_sooner latency now (row_at f.rows contact h.id)) f.held)

abbrev pub acks_due : List Id → Option Out
acks_due [] = None
acks_due (id ∷ ids) = Some (out.Acks (id ∷ ids))

abbrev pub requests_due : Mode → List Id → Option Out
requests_due mode_kind.Batch ids = None
requests_due mode_kind.Interactive [] = None
requests_due mode_kind.Interactive (id ∷ ids) = Some (out.Requests (id ∷ ids))

abbrev pub send_due : Option Id → Option Out
send_due None = None
send_due (Some id) = Some (out.Send id)

abbrev pub offers_due : Mode → List Id → Option Out
offers_due mode_kind.Batch ids = None
offers_due mode_kind.Interactive [] = None
offers_due mode_kind.Interactive (id ∷ ids) = Some (out.Offers (id ∷ ids))

-- before its time: in batch mode one message, in interactive mode offers
abbrev pub sooner_due : Mode → Option Id → List Id → Option Out
sooner_due mode_kind.Batch first ids = send_due first
sooner_due mode_kind.Interactive first ids = offers_due mode_kind.Interactive ids

-- what is due whatever the latency: the first of these that exists. Acknowledgements; in interactive mode requests; one
-- message; in interactive mode offers
abbrev pub due_on_any_way : Facts → List Id → Session → ℕ → Option Out
due_on_any_way f shared s now =
    option_or (acks_due (owed_to f s.contact))
    (option_or (requests_due s.mode (wanted_of f s.contact))
    (option_or (send_due (send_of f shared s.contact s.mode now))
    (offers_due s.mode (offers_of f shared s.contact now))))

-- what is due on a session at a time: what is due whatever the latency; and behind all that what goes again before its
-- time, since this way is quicker
abbrev pub due_by : Facts → List Id → Session → ℕ → Option Out
due_by f shared s now =
    option_or (due_on_any_way f shared s now)
    (sooner_due s.mode (sooner_of f shared s.contact s.latency now) (sooner_offers_of f shared s.contact s.latency now))

abbrev pub due : Meaning → Facts → Session → ℕ → Option Out
due clients f s now = due_by f (shared_ids clients f) s now
