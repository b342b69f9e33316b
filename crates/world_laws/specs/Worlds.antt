-- A world of devices that are linked: the journal of each device, and for each link what is in flight on it and what each of
-- its ends was given. A step of a world is that one device runs, or that two are linked.
use Rattle.std.specs.Prelude.{◌≡◌, ◌⊎◌, ℕ, zero, suc, ◌-◌, Bool, true, false, cond, nat_lt, List, [], ◌∷◌, ◌++◌, Option, Some, None}
use Rattle.std.specs.List.{list_all}
use Rattle.sync_ids.specs.Ids.{message_id_of}
use Rattle.sync_ids.specs.declared.records.Record.{Record}
use Rattle.sync_ids.specs.declared.records.Record.TheVariants as record_kind
use Rattle.sync_rules.specs.declared.entries.Entry.{Entry}
use Rattle.sync_rules.specs.declared.entries.Entry.TheVariants as entry
use Rattle.sync_rules.specs.declared.entries.Session.{Session}
use Rattle.sync_rules.specs.Clients.{Meaning}
use Rattle.sync_rules.specs.Lists.{In, same_id, is_among}
use Rattle.sync_rules.specs.Facts.{Facts, Id, Journal, after_all, facts, session_at}
use Rattle.sync_rules.specs.Legal.{GoesOn}
use Rattle.sync_rules.specs.Output.{sent}
use Rattle.sync_rules.specs.Sessions.{taken}

-- no batch of a journal begins a brief account
abbrev pub begins_no_brief : List Entry → Bool
begins_no_brief (entry.Brief n ∷ rest) = false
begins_no_brief _ = true

abbrev pub HasNoBrief : Journal → Type 0
HasNoBrief j = list_all begins_no_brief j ≡ true

-- ---- worlds

-- one end of a link: its device, the session that the device has on it once there is one, the records in flight from it, and
-- all the records that it was given
pub record End : Type 0 where
  pub device : ℕ
  pub session : Option ℕ
  pub flight : List Record
  pub given : List Record

-- a link, by the end that dialled and the other
pub record WorldLink : Type 0 where
  pub near : End
  pub far : End

-- a link as seen in one direction
pub record Way : Type 0 where
  pub sender : End
  pub receiver : End

pub record World : Type 0 where
  pub journals : List Journal
  pub links : List WorldLink

-- the journal of a device, empty where there is no such device
abbrev pub journal_in : List Journal → ℕ → Journal
journal_in [] d = []
journal_in (j ∷ js) zero = j
journal_in (j ∷ js) (suc d) = journal_in js d

abbrev pub journal_at : World → ℕ → Journal
journal_at w d = journal_in w.journals d

abbrev pub link_in : List WorldLink → ℕ → Option WorldLink
link_in [] i = None
link_in (l ∷ ls) zero = Some l
link_in (l ∷ ls) (suc i) = link_in ls i

-- from the near end, or from the far one
abbrev pub way_of : Bool → WorldLink → Way
way_of true l = record { sender = l.near; receiver = l.far }
way_of false l = record { sender = l.far; receiver = l.near }

abbrev pub way_in : Bool → Option WorldLink → Option Way
way_in near None = None
way_in near (Some l) = Some (way_of near l)

-- the two ways of a link, by its number
abbrev pub way_at : World → ℕ → Bool → Option Way
way_at w i near = way_in near (link_in w.links i)

-- the contact that a device has for another one: there is one for each other device, in order
abbrev pub contact_for : ℕ → ℕ → ℕ
contact_for d e = cond (nat_lt e d) e (e - 1)

-- ---- what a device heard

-- an ACK, OFFER or MESSAGE names an id
abbrev pub names : Record → Id → Bool
names (record_kind.Ack ids) id = is_among ids id
names (record_kind.Message m) id = same_id (message_id_of m) id
names (record_kind.Offer ids) id = is_among ids id
names _ id = false

-- a batch of a record is what one of the records heard on its session is taken as
abbrev pub IsHeard : (ℕ → List Record) → Facts → List Entry → Type 0
IsHeard heard f (entry.Take s k ∷ rest) = (r : Record) × In r (heard s) × (rest ≡ taken f s r)
IsHeard heard f _ = Unit {0}

abbrev pub AllHeard : (ℕ → List Record) → Facts → List (List Entry) → Type 0
AllHeard heard f [] = Unit {0}
AllHeard heard f (b ∷ bs) = IsHeard heard f b × AllHeard heard (after_all f b) bs

-- ---- steps

-- a session of a journal, with this contact
pub record HasSession (j : Journal) (number contact : ℕ) : Type 0 where
  pub session : Session
  pub known : session_at (facts j).sessions number ≡ Some session
  pub same_contact : session.contact ≡ contact

-- a record is one of those that a session sends, by its journal
pub record IsSent (j : Journal) (session : Option ℕ) (r : Record) : Type 0 where
  pub number : ℕ
  pub on : session ≡ Some number
  pub inside : In r (sent j number)

-- the sender of a way is this device, and it begins a session with the contact for the receiver
pub record WayBeginsSession (d : ℕ) (j : Journal) (old new : Way) : Type 0 where
  pub own : old.sender.device ≡ d
  pub fresh : old.sender.session ≡ None
  pub number : ℕ
  pub begun : new.sender.session ≡ Some number
  pub known : HasSession j number (contact_for d old.receiver.device)

-- the sender of a way is this device, and its session sends the record
pub record WaySendsRecord (d : ℕ) (j : Journal) (old new : Way) (r : Record) : Type 0 where
  pub own : old.sender.device ≡ d
  pub is : IsSent j new.sender.session r

-- what becomes of a way while a device runs, j being its journal afterwards: devices stay, and a session stays or begins; what
-- is in flight was so before or is sent by the device; what the receiver was given it was given before, or it was in flight
pub record WayRuns (d : ℕ) (j : Journal) (old new : Way) : Type 0 where
  pub sender : new.sender.device ≡ old.sender.device
  pub receiver : new.receiver.device ≡ old.receiver.device
  pub session : (new.sender.session ≡ old.sender.session) ⊎ WayBeginsSession d j old new
  pub flight : (r : Record) → In r new.sender.flight → In r old.sender.flight ⊎ WaySendsRecord d j old new r
  pub given : (r : Record) → In r new.receiver.given → In r old.receiver.given ⊎ In r old.sender.flight

abbrev pub WaysRun : ℕ → Journal → Option Way → Option Way → Type 0
WaysRun d j None None = Unit {0}
WaysRun d j (Some old) (Some new) = WayRuns d j old new
WaysRun d j _ _ = ⊥

-- a record that an end of the device with this session was given
pub record WasGiven (w : World) (d session : ℕ) (r : Record) : Type 0 where
  pub link : ℕ
  pub near : Bool
  pub way : Way
  pub stands : way_at w link near ≡ Some way
  pub own : way.receiver.device ≡ d
  pub on : way.receiver.session ≡ Some session
  pub inside : In r way.receiver.given

-- one device runs: its journal goes on by batches that may follow, none of which begins a brief account, each record that they
-- take was given to an end of it, and each way of each link goes on. Where no batch is added this is any loss, repeat, swap or carrying of what is in flight, a
-- cut, a restart or a crash; where some are, the device may have stopped anywhere behind the last of them
pub record RunsDevice (clients : Meaning) (d : ℕ) (old new : World) : Type 0 where
  pub more : List (List Entry)
  pub goes_on : journal_at new d ≡ journal_at old d ++ more
  pub allowed : GoesOn clients (facts (journal_at old d)) more
  pub plain : HasNoBrief more
  pub others : (e : ℕ) → (e ≡ d → ⊥) → journal_at new e ≡ journal_at old e
  pub heard : ℕ → List Record
  pub all_heard : AllHeard heard (facts (journal_at old d)) more
  pub was_given : (session : ℕ) (r : Record) → In r (heard session) → WasGiven new d session r
  pub ways : (i : ℕ) (near : Bool) → WaysRun d (journal_at new d) (way_at old i near) (way_at new i near)

-- an end of a link that is new
abbrev pub unused_end : ℕ → End
unused_end d = record { device = d; session = None; flight = []; given = [] }

-- two devices are linked: there is one more link, on which nothing was sent
pub record Linked (d e : ℕ) (old new : World) : Type 0 where
  pub two : d ≡ e → ⊥
  pub journals : new.journals ≡ old.journals
  pub links : new.links ≡ old.links ++ record { near = unused_end d; far = unused_end e } ∷ []

abbrev pub IsStep : Meaning → World → World → Type 0
IsStep clients old new = ((d : ℕ) × RunsDevice clients d old new) ⊎ ((d : ℕ) × (e : ℕ) × Linked d e old new)

-- the worlds of a list are each a step from the one before, the first from a given one
abbrev pub AreSteps : Meaning → World → List World → Type 0
AreSteps clients w [] = Unit {0}
AreSteps clients w (x ∷ xs) = IsStep clients w x × AreSteps clients x xs

-- the last world of a list, or the given one where there is none
abbrev pub last_of : World → List World → World
last_of w [] = w
last_of w (x ∷ xs) = last_of x xs
