-- What the calls of one link's turn came to: where they led on the machine of the turn, or where
-- they stopped. One name for each piece of work, and one for where it stops.
use Rattle.std.specs.Prelude.{◌≡◌, ℕ, zero, suc, ◌+◌, ◌<◌, Bool, true, false, cond, nat_eq, nat_lt, List, [], ◌∷◌, length, Result, IfErr, OnOk}
use Rattle.outside.specs.Outside.{Outside}
use Rattle.record_grammar.specs.declared.stream.Item.{Item}
use Rattle.record_grammar.specs.declared.stream.Item.TheVariants as item
use Rattle.sync_ids.specs.declared.records.Record.{Record}
use Rattle.sync_rules.specs.declared.entries.Out.{Out}
use Rattle.sync_rules.specs.Clients.{Meaning}
use Rattle.sync_rules.specs.Legal.{Allowed}
use Rattle.sync_rules.specs.Steps.{IsSettled}
use Rattle.sync_store.specs.Commits.{needed}
use Rattle.sync_store.specs.Store.{StoreValue}
use Rattle.sync_course.specs.Acts.{Act, batches_in}
use Rattle.sync_course.specs.Links as course_links
use Rattle.sync_course.specs.Links.{items_after, link_after_take}
use Rattle.sync_course.specs.LinkTurns.{Asks, Doing, Done, IsEnough, LinkStep, Puts, Sends, Spot, Takes, Waits, out_batch}
use Rattle.sync_course.specs.Owing.{ActStep, Owing, paid}
use Rattle.sync_course.specs.Reading.{HasRead, IsReading}
use Rattle.sync_course.specs.declared.TheConstants.{MAX_OUTPUTS}
use Rattle.sync_course.specs.declared.ends.LinkEnd.TheVariants as link_end
use Rattle.sync_node.specs.declared.fault.Fault.{Fault}
use Rattle.sync_node.specs.declared.fault.Fault.TheVariants as fault
use Rattle.sync_node.specs.declared.link.Link.{Link}
use Rattle.sync_node.specs.Batches.{JoinHalts}
use Rattle.sync_node.specs.Courses.{IsLinkRead, IsReadyToSend, IsTaking, link_at, sends_on, spot_at}
use Rattle.sync_node.specs.Going.{LetsNothingFall}
use Rattle.sync_node.specs.Keeps.{StaysGathering, StoreGathers, stop_of}
use Rattle.sync_node.specs.Sending.{StaysOrFails}
use Rattle.sync_node.specs.Went.{Goes, Halted, HaltsBroken, Makes, Stopped, Went}

-- ---- the machine of a link's turn

-- the link has this number, and the session of link 0 is the first
abbrev pub LinkActs : Meaning → ℕ → ℕ → Owing Spot → Act → Owing Spot → Type 0
LinkActs clients first n = ActStep (λ (p : Spot). p.facts) first (LinkStep clients n (first + n))

-- a link's turn led from one place to another, and what was owed was sent
abbrev pub LinkWent : Meaning → ℕ → ℕ → Spot → Spot → StoreValue → StoreValue → Outside → Outside
    → Type 0
LinkWent clients n session p q s s' o o' =
    (first : ℕ) → session ≡ first + n
    → Went clients (LinkActs clients first n) (paid p) (paid q) s s' o o'

-- and so many batches were committed on the way
abbrev pub LinkMakes : Meaning → ℕ → ℕ → Spot → Spot → StoreValue → StoreValue → Outside → Outside
    → ℕ → Type 0
LinkMakes clients n session p q s s' o o' count =
    (first : ℕ) → session ≡ first + n
    → Makes clients (LinkActs clients first n) (paid p) (paid q) s s' o o' count

-- it stopped at a place at which the link stands so
abbrev pub LinkStopped : Meaning → ℕ → ℕ → Spot → course_links.Link → StoreValue → StoreValue
    → Outside → Outside → Fault → Type 0
LinkStopped clients n session p link s s' o o' e =
    (first : ℕ) → session ≡ first + n
    → Stopped clients (LinkActs clients first n) (λ (q : Owing Spot). q.at.link ≡ link) (paid p) s s' o o' e

-- the same of what is under way, whose batches wait
abbrev pub LinkUnder : Meaning → ℕ → ℕ → Spot → Spot → StoreValue → StoreValue → Outside → Outside
    → Type 0
LinkUnder clients n session p q s s' o o' =
    (first : ℕ) → session ≡ first + n
    → Goes clients (LinkActs clients first n) (paid p) (paid q) s s' o o'

abbrev pub LinkHalted : Meaning → ℕ → ℕ → Spot → course_links.Link → StoreValue → StoreValue
    → Outside → Outside → Fault → Type 0
LinkHalted clients n session p link s s' o o' e =
    (first : ℕ) → session ≡ first + n
    → Halted clients (LinkActs clients first n) (λ (q : Owing Spot). q.at.link ≡ link) (paid p) s s' o o' e

-- ---- a record that is taken

-- the record at the front of the items was taken, and the journal settled; its batches wait
pub record RecordTaken (clients : Meaning) (session : ℕ) (r : Record) (s s' : StoreValue)
    (o o' : Outside) : Type 0 where
  pub settled : IsSettled clients s'.state.facts
  pub went : (n place : ℕ) (its : List Item) (p : Spot) → p.doing ≡ Takes (item.One place r ∷ its)
      → p.facts ≡ s.state.facts
      → LinkUnder clients n session p
      (record {
        doing = Takes (items_after r its);
        link = link_after_take place r p.link;
        moved = p.moved;
        facts = s'.state.facts;
      }) s s' o o'

pub record RecordHalted (clients : Meaning) (session : ℕ) (r : Record) (s s' : StoreValue)
    (o o' : Outside) (e : Fault) : Type 0 where
  pub halts : (n place : ℕ) (its : List Item) (p : Spot)
      → p.doing ≡ Takes (item.One place r ∷ its) → p.facts ≡ s.state.facts
      → LinkHalted clients n session p (link_after_take place r p.link) s s' o o' e

-- the record, by what the work of taking it answers, and what it keeps
pub record RecordWorks (clients : Meaning) (session : ℕ) (r : Record) (s s' : StoreValue)
    (o o' : Outside) (result : Result (Unit {0}) Fault) : Type 0 where
  pub went : OnOk result (RecordTaken clients session r s s' o o')
  pub halted : IfErr result (RecordHalted clients session r s s' o o')
  pub goes : LetsNothingFall o o'
  pub keeps : StoreGathers (StaysGathering clients s s' o') clients s s' o o' (stop_of result)

-- ---- the items of a piece

-- the next item was taken or passed over, or there was none
abbrev pub TakesOrPassesItem : Meaning → ℕ → List ℕ → List Item → Bool → List ℕ → Link → Link → StoreValue
    → StoreValue → Outside → Outside → Bool → Type 0
TakesOrPassesItem clients n heard its moved left l l' s s' o o' true =
    (others : List Item) × IsTaking heard left l' others l'.end
    × LinkUnder clients n l.session.number (spot_at (Takes its) l heard moved s.state.facts)
    (spot_at (Takes others) l' heard moved s'.state.facts) s s' o o'
TakesOrPassesItem clients n heard its moved left l l' s s' o o' false =
    HasRead heard l'.reader
    × LinkUnder clients n l.session.number (spot_at (Takes its) l heard moved s.state.facts)
    (spot_at Waits l' heard moved s'.state.facts) s s' o o'

-- one item was, or, where more may come, some of them
pub record NextWent (piece left : List ℕ) (clients : Meaning) (n : ℕ) (l l' : Link)
    (s s' : StoreValue) (o o' : Outside) (more : Bool) : Type 0 where
  pub leads : (heard : List ℕ) (its : List Item) (moved : Bool) → IsReading heard piece l.reader its
      → TakesOrPassesItem clients n heard its moved left l l' s s' o o' more

pub record ItemsHalted (piece : List ℕ) (clients : Meaning) (n : ℕ) (l l' : Link)
    (s s' : StoreValue) (o o' : Outside) (e : Fault) : Type 0 where
  pub halts : (heard : List ℕ) (its : List Item) (moved : Bool) → IsReading heard piece l.reader its
      → LinkHalted clients n l.session.number
      (spot_at (Takes its) l heard moved s.state.facts) (link_at l' heard) s s' o o' e

-- all of them were, and the link waits for the clock, once what waits is added
pub record PieceWent (piece : List ℕ) (clients : Meaning) (n : ℕ) (l l' : Link)
    (s s' : StoreValue) (o o' : Outside) (u : Unit {0}) : Type 0 where
  pub has_read : (heard : List ℕ) (its : List Item) → IsReading heard piece l.reader its
      → l'.end ≡ link_end.Going → HasRead heard l'.reader
  pub went : (heard : List ℕ) (its : List Item) (moved : Bool) → IsReading heard piece l.reader its
      → LinkUnder clients n l.session.number (spot_at (Takes its) l heard moved s.state.facts)
      (spot_at Waits l' heard moved s'.state.facts) s s' o o'

-- ---- a piece, once what waited of it was added

pub record PieceTaken (piece : List ℕ) (clients : Meaning) (n : ℕ) (l l' : Link)
    (s s' : StoreValue) (o o' : Outside) (u : Unit {0}) : Type 0 where
  pub has_read : (heard : List ℕ) (its : List Item) → IsReading heard piece l.reader its
      → l'.end ≡ link_end.Going → HasRead heard l'.reader
  pub went : (heard : List ℕ) (its : List Item) (moved : Bool) → IsReading heard piece l.reader its
      → LinkWent clients n l.session.number (spot_at (Takes its) l heard moved s.state.facts)
      (spot_at Waits l' heard moved s'.state.facts) s s' o o'

pub record ItemsStopped (piece : List ℕ) (clients : Meaning) (n : ℕ) (l l' : Link)
    (s s' : StoreValue) (o o' : Outside) (e : Fault) : Type 0 where
  pub stops : (heard : List ℕ) (its : List Item) (moved : Bool) → IsReading heard piece l.reader its
      → LinkStopped clients n l.session.number
      (spot_at (Takes its) l heard moved s.state.facts) (link_at l' heard) s s' o o' e

-- ---- hearing

pub record HeardTo (clients : Meaning) (n : ℕ) (l l' : Link) (s s' : StoreValue) (o o' : Outside)
    (heard : List ℕ) (moved idle : Bool) : Type 0 where
  pub heard' : List ℕ
  pub doing : Doing
  pub has_read : IsLinkRead heard' l'
  pub ready : IsReadyToSend doing l'
  pub went : LinkWent clients n l.session.number (spot_at Asks l heard moved s.state.facts)
      (spot_at doing l' heard' (cond idle moved true) s'.state.facts) s s' o o'

-- the link was asked once, and what came was taken
pub record HearingWent (clients : Meaning) (n : ℕ) (l l' : Link) (s s' : StoreValue)
    (o o' : Outside) (idle : Bool) : Type 0 where
  pub leads : (heard : List ℕ) (moved : Bool) → IsLinkRead heard l
      → HeardTo clients n l l' s s' o o' heard moved idle

pub record HearingStopped (clients : Meaning) (n : ℕ) (l l' : Link) (s s' : StoreValue)
    (o o' : Outside) (e : Fault) : Type 0 where
  pub stops : (heard : List ℕ) (moved : Bool) → IsLinkRead heard l
      → (heard' : List ℕ) × LinkStopped clients n l.session.number
      (spot_at Asks l heard moved s.state.facts) (link_at l' heard') s s' o o' e

-- ---- sending

-- what a link does that commits outputs: it sends, and behind one that was committed its bytes are to
-- go out
abbrev pub puts_on : ℕ → ℕ → ℕ → Doing
puts_on now room zero = Sends now room
puts_on now room (suc made) = Puts now room

-- a place at which these bytes are owed on the link of this number
abbrev pub owing_on : {P : Type 0} → ℕ → List ℕ → P → Owing P
owing_on n bytes p = record { at = p; owed = λ link. cond (nat_eq n link) bytes [] }

-- acts that commit so many batches are under way, from one place to another
pub record MakesUnder {P : Type 0} (clients : Meaning) (step : P → Act → P → Type 0) (from to : P)
    (s s' : StoreValue) (o o' : Outside) (count : ℕ) : Type 0 where
  pub goes : Goes clients step from to s s' o o'
  pub counts : length (batches_in goes.acts) ≡ count

-- One more output was committed, behind so many whose bytes are owed: its bytes are owed behind them.
pub record OutJoined (now made : ℕ) (bytes : List ℕ) (made' : ℕ) (bytes' : List ℕ)
    (clients : Meaning) (n : ℕ) (l l' : Link) (s s' : StoreValue) (o o' : Outside)
    (u : Unit {0}) : Type 0 where
  pub one_more : made' ≡ suc made
  pub goes : (heard : List ℕ) (moved : Bool) (room first : ℕ) → l.session.number ≡ first + n
      → MakesUnder clients (LinkActs clients first n)
      (owing_on n bytes (spot_at (puts_on now (suc room) made) l heard moved s.state.facts))
      (owing_on n bytes' (spot_at (Puts now room) l heard true s'.state.facts)) s s' o o' 1

-- it was not, and those before are as they were
pub record OutHalted (now made : ℕ) (bytes : List ℕ) (made' : ℕ) (bytes' : List ℕ)
    (clients : Meaning) (n : ℕ) (l l' : Link) (s s' : StoreValue) (o o' : Outside)
    (e : Fault) : Type 0 where
  pub same_made : made' ≡ made
  pub same_bytes : bytes' ≡ bytes
  pub what : Out
  pub allowed : Allowed clients s.state.facts (out_batch l.session.number now what)
  pub halts : JoinHalts clients (out_batch l.session.number now what) s s' o o' e

-- So many outputs at a reading are under way, each a batch, and of all of them these bytes are owed;
-- the store gathers, settled, with its sessions.
pub record OutsUnder (now made : ℕ) (bytes : List ℕ) (clients : Meaning) (n : ℕ) (l : Link)
    (s s' : StoreValue) (o o' : Outside) : Type 0 where
  pub room : ℕ
  pub rest : room + made ≡ MAX_OUTPUTS
  pub none : made ≡ 0 → bytes ≡ []
  pub stays : StaysGathering clients s s' o'
  pub goes : (heard : List ℕ) (moved : Bool) (first : ℕ) → l.session.number ≡ first + n
      → MakesUnder clients (LinkActs clients first n)
      (paid (spot_at (Sends now MAX_OUTPUTS) l heard moved s.state.facts))
      (owing_on n bytes
      (spot_at (puts_on now room made) l heard (cond (nat_lt 0 made) true moved) s'.state.facts))
      s s' o o' made

-- nothing more is due then, or the room for them is used up
pub record OutsJoined (now made : ℕ) (bytes : List ℕ) (clients : Meaning) (n : ℕ) (l l' : Link)
    (s s' : StoreValue) (o o' : Outside) (u : Unit {0}) : Type 0 where
  pub under : OutsUnder now made bytes clients n l s s' o o'
  pub enough : (room : ℕ) → room + made ≡ MAX_OUTPUTS
      → IsEnough clients s'.state.facts l.session.number now room

-- with the next output the journal would pass the limit
pub record OutsOver (now made : ℕ) (bytes : List ℕ) (clients : Meaning) (n : ℕ) (l : Link)
    (s s' : StoreValue) (o o' : Outside) : Type 0 where
  pub under : OutsUnder now made bytes clients n l s s' o o'
  pub less : made < MAX_OUTPUTS
  pub what : Out
  pub allowed : Allowed clients s'.state.facts (out_batch l.session.number now what)
  pub over : s'.limit < needed s' (out_batch l.session.number now what)

-- a call of the disk failed in adding them, and none was sent
pub record OutsBroke (now : ℕ) (clients : Meaning) (n : ℕ) (l : Link) (s s' : StoreValue)
    (o o' : Outside) : Type 0 where
  pub halts : (heard : List ℕ) (moved : Bool) (first : ℕ) → l.session.number ≡ first + n
      → HaltsBroken clients (LinkActs clients first n)
      (λ (q : Owing Spot). q.at.link ≡ link_at l heard)
      (paid (spot_at (Sends now MAX_OUTPUTS) l heard moved s.state.facts)) s s' o o'

-- by the fault, why no more outputs were committed
abbrev pub OutsHalted : ℕ → ℕ → List ℕ → Meaning → ℕ → Link → Link → StoreValue → StoreValue
    → Outside → Outside → Fault → Type 0
OutsHalted now made bytes clients n l l' s s' o o' fault.Memory =
    OutsUnder now made bytes clients n l s s' o o'
OutsHalted now made bytes clients n l l' s s' o o' fault.Full =
    OutsOver now made bytes clients n l s s' o o'
OutsHalted now made bytes clients n l l' s s' o o' fault.DiskFault =
    OutsBroke now clients n l s s' o o'

-- so many outputs were made at a reading; the link goes on sending, unless the send failed
pub record OutsWent (now made : ℕ) (clients : Meaning) (n : ℕ) (l l' : Link) (s s' : StoreValue)
    (o o' : Outside) : Type 0 where
  pub room : ℕ
  pub rest : room + made ≡ MAX_OUTPUTS
  pub makes : (heard : List ℕ) (moved : Bool)
      → LinkMakes clients n l.session.number
      (spot_at (Sends now MAX_OUTPUTS) l heard moved s.state.facts)
      (spot_at (sends_on now room l') l' heard (cond (nat_lt 0 made) true moved) s'.state.facts) s s' o o' made
  pub sent : StaysOrFails l l'

-- all that was due at a reading was sent, so many outputs
pub record DueWent (now : ℕ) (clients : Meaning) (n : ℕ) (l l' : Link) (s s' : StoreValue)
    (o o' : Outside) (made : ℕ) : Type 0 where
  pub makes : (heard : List ℕ) (moved : Bool)
      → LinkMakes clients n l.session.number
      (spot_at (Sends now MAX_OUTPUTS) l heard moved s.state.facts)
      (spot_at Done l' heard (cond (nat_lt 0 made) true moved) s'.state.facts) s s' o o' made
  pub sent : StaysOrFails l l'

pub record DueStopped (now : ℕ) (clients : Meaning) (n : ℕ) (l l' : Link) (s s' : StoreValue)
    (o o' : Outside) (e : Fault) : Type 0 where
  pub stops : (heard : List ℕ) (moved : Bool)
      → LinkStopped clients n l.session.number
      (spot_at (Sends now MAX_OUTPUTS) l heard moved s.state.facts) (link_at l' heard) s s' o o' e

-- what was due on a link was sent, unless it is closed
pub record SendingWent (clients : Meaning) (n : ℕ) (l l' : Link) (s s' : StoreValue)
    (o o' : Outside) (made : ℕ) : Type 0 where
  pub went : (heard : List ℕ) (moved : Bool) (doing : Doing) → IsReadyToSend doing l
      → LinkWent clients n l.session.number (spot_at doing l heard moved s.state.facts)
      (spot_at Done l' heard (cond (nat_lt 0 made) true moved) s'.state.facts) s s' o o'
  pub sent : StaysOrFails l l'

pub record SendingStopped (clients : Meaning) (n : ℕ) (l l' : Link) (s s' : StoreValue)
    (o o' : Outside) (e : Fault) : Type 0 where
  pub stops : (heard : List ℕ) (moved : Bool) (doing : Doing) → IsReadyToSend doing l
      → LinkStopped clients n l.session.number
      (spot_at doing l heard moved s.state.facts) (link_at l' heard) s s' o o' e

-- ---- a link's turn

pub record TurnedTo (clients : Meaning) (n : ℕ) (l l' : Link) (s s' : StoreValue) (o o' : Outside)
    (heard : List ℕ) (moved still : Bool) : Type 0 where
  pub heard' : List ℕ
  pub has_read : IsLinkRead heard' l'
  pub went : LinkWent clients n l.session.number (spot_at Asks l heard moved s.state.facts)
      (spot_at Done l' heard' (cond still moved true) s'.state.facts) s s' o o'

pub record TurnWent (clients : Meaning) (n : ℕ) (l l' : Link) (s s' : StoreValue) (o o' : Outside)
    (still : Bool) : Type 0 where
  pub leads : (heard : List ℕ) (moved : Bool) → IsLinkRead heard l
      → TurnedTo clients n l l' s s' o o' heard moved still
