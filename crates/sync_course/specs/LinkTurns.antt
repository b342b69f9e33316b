-- What one link does in its turn, step by step.
use Rattle.std.specs.Prelude.{◌≡◌, ◌⊎◌, ℕ, zero, suc, Bool, true, false, List, [], ◌∷◌, ◌++◌, take, Option, None, Some}
use Rattle.outside.specs.declared.host.Heard.{Heard}
use Rattle.outside.specs.declared.host.Heard.TheVariants as answer
use Rattle.outside.specs.Links.{Reply, got, idle, ended}
use Rattle.record_grammar.specs.Stream.{ending}
use Rattle.record_grammar.specs.declared.stream.Item.{Item}
use Rattle.record_grammar.specs.declared.stream.Item.TheVariants as item
use Rattle.sync_ids.specs.declared.records.Record.{Record}
use Rattle.sync_rules.specs.declared.entries.Entry.{Entry}
use Rattle.sync_rules.specs.declared.entries.Entry.TheVariants as entry
use Rattle.sync_rules.specs.declared.entries.Out.{Out}
use Rattle.sync_rules.specs.declared.entries.Session.{Session}
use Rattle.sync_rules.specs.Clients.{Meaning}
use Rattle.sync_rules.specs.Facts.{Facts, after_all, session_at, takes_of}
use Rattle.sync_rules.specs.Legal.{Allowed, IsDue, IsSettlingBatch}
use Rattle.sync_rules.specs.Sessions.{due, taken}
use Rattle.sync_rules.specs.Steps.{IsSettled}
use Rattle.sync_rules.specs.Hearing.{take_batch}
use Rattle.sync_course.specs.declared.ends.LinkEnd.TheVariants as end
use Rattle.sync_course.specs.declared.TheConstants.{MAX_OUTPUTS}
use Rattle.sync_course.specs.Events.{Event, Commit, Hear, Miss, Read, Break, Pass}
use Rattle.sync_course.specs.Links.{Link, is_going, is_sent_to, items_after, link_after_take}
use Rattle.sync_course.specs.Links.{new_items, stands_behind, stands_ended}

-- What a link does: it asks for bytes; it takes these items; it waits for the clock; it sends, at this reading, so many outputs
-- more; it puts the bytes of an output out; or its turn is done.
pub data Doing : Type 0 where
  Asks : Doing
  Takes : List Item → Doing
  Waits : Doing
  Sends : ℕ → ℕ → Doing
  Puts : ℕ → ℕ → Doing
  Done : Doing

-- a place in a link's turn: what the link does, the link, whether the turn of all links moved, and the facts of the journal
pub record Spot : Type 0 where
  pub doing : Doing
  pub link : Link
  pub moved : Bool
  pub facts : Facts

-- nothing is due on a session
abbrev pub IsNothingDue : Meaning → Facts → Option Session → ℕ → Type 0
IsNothingDue clients f None now = Unit {0}
IsNothingDue clients f (Some s) now = due clients f s now ≡ None

-- the batch of a record that is the next of its session
abbrev pub next_take : Facts → ℕ → Record → List Entry
next_take f session r = take_batch f session (takes_of f.takes session) r

-- the batch of an output
abbrev pub out_batch : ℕ → ℕ → Out → List Entry
out_batch session now what = entry.Out session now what ∷ []

-- ---- where each step leads

-- bytes: their items are to be taken. Nothing for now: nothing changes. The end: the link is not asked any more.
abbrev pub heard_spot : Reply → Spot → Spot
heard_spot (got bytes) p = record {
  doing = Takes (new_items p.link.heard bytes);
  link = record p.link { heard = p.link.heard ++ bytes };
  moved = true;
  facts = p.facts;
}
heard_spot idle p = record p { doing = Waits }
heard_spot ended p = record {
  doing = Waits;
  link = record p.link { stands = stands_ended (ending 0 p.link.heard) };
  moved = true;
  facts = p.facts;
}

-- a call on the link failed: it is closed
abbrev pub failed_spot : Spot → Spot
failed_spot p = record { doing = Done; link = record p.link { stands = end.Failed }; moved = true; facts = p.facts }

-- by an answer of the link, with the buffer after the call
abbrev pub answered_spot : Heard → List ℕ → Spot → Spot
answered_spot (answer.Got n) buf p = heard_spot (got (take n buf)) p
answered_spot answer.Idle buf p = heard_spot idle p
answered_spot answer.End buf p = heard_spot ended p
answered_spot answer.Failed buf p = failed_spot p

-- the record at the front of the items was taken
abbrev pub taken_spot : ℕ → Record → List Item → List Entry → Spot → Spot
taken_spot place r its batch p = record {
  doing = Takes (items_after r its);
  link = link_after_take place r p.link;
  moved = p.moved;
  facts = after_all p.facts batch;
}

-- all items were taken
abbrev pub all_taken_spot : Spot → Spot
all_taken_spot p = record p {
  doing = Waits;
  link = record p.link { stands = stands_behind p.link.stands (ending 0 p.link.heard) };
}

-- an output was committed
abbrev pub out_spot : ℕ → ℕ → List Entry → Spot → Spot
out_spot now room batch p = record { doing = Puts now room; link = p.link; moved = true; facts = after_all p.facts batch }

-- ---- the steps

-- a settling batch
abbrev pub SettlesOn : Meaning → List Entry → Spot → Spot → Type 0
SettlesOn clients batch p q = IsSettlingBatch clients p.facts batch × (q ≡ record p { facts = after_all p.facts batch })

-- the batch of the record at the front of the items
abbrev pub TakesNext : Meaning → ℕ → List Item → List Entry → Spot → Spot → Type 0
TakesNext clients session (item.One place r ∷ its) batch p q =
    (batch ≡ next_take p.facts session r) × Allowed clients p.facts batch × (q ≡ taken_spot place r its batch p)
TakesNext clients session _ batch p q = ⊥

-- a skipped record at the front of the items is passed over; behind the last item the link stands by all that it heard
abbrev pub PassesItem : List Item → Spot → Spot → Type 0
PassesItem [] p q = q ≡ all_taken_spot p
PassesItem (item.One place r ∷ its) p q = ⊥
PassesItem (item.Skipped place type_byte len ∷ its) p q = q ≡ record p { doing = Takes its }

-- an output that is due
pub record PutsOut (clients : Meaning) (session now room : ℕ) (batch : List Entry) (p q : Spot) : Type 0 where
  pub what : Out
  pub is : batch ≡ out_batch session now what
  pub is_due : IsDue clients p.facts (session_at p.facts.sessions session) now what
  pub allowed : Allowed clients p.facts batch
  pub leads : q ≡ out_spot now room batch p

-- the next output, where there is room for one
abbrev pub SendsNext : Meaning → ℕ → ℕ → ℕ → List Entry → Spot → Spot → Type 0
SendsNext clients session now zero batch p q = ⊥
SendsNext clients session now (suc room) batch p q = PutsOut clients session now room batch p q

-- the room for outputs is used up, or nothing is due
abbrev pub IsEnough : Meaning → Facts → ℕ → ℕ → ℕ → Type 0
IsEnough clients f session now zero = Unit {0}
IsEnough clients f session now (suc room) = IsNothingDue clients f (session_at f.sessions session) now

-- by what it does, a step of the link of this number, with this session
abbrev pub StepOf : Meaning → ℕ → ℕ → Doing → Event → Spot → Spot → Type 0
-- it asks while it is going
StepOf clients n session Asks (Hear on reply) p q = (on ≡ n) × (is_going p.link.stands ≡ true) × (q ≡ heard_spot reply p)
StepOf clients n session Asks (Miss on) p q = (on ≡ n) × (is_going p.link.stands ≡ true) × (q ≡ failed_spot p)
StepOf clients n session Asks Pass p q = (is_going p.link.stands ≡ false) × (q ≡ record p { doing = Waits })
-- it takes the items one by one, and settling ends before the next
StepOf clients n session (Takes its) (Commit batch) p q = SettlesOn clients batch p q ⊎ TakesNext clients session its batch p q
StepOf clients n session (Takes its) Pass p q = IsSettled clients p.facts × PassesItem its p q
-- the clock is read once, unless the link is closed
StepOf clients n session Waits (Read on now) p q =
    (on ≡ n) × (is_sent_to p.link.stands ≡ true) × (q ≡ record p { doing = Sends now MAX_OUTPUTS })
StepOf clients n session Waits Pass p q = (is_sent_to p.link.stands ≡ false) × (q ≡ record p { doing = Done })
-- it sends what is due at this reading; an output is committed, and then its bytes go out
StepOf clients n session (Sends now room) (Commit batch) p q = SendsNext clients session now room batch p q
StepOf clients n session (Sends now room) Pass p q = IsEnough clients p.facts session now room × (q ≡ record p { doing = Done })
StepOf clients n session (Puts now room) Pass p q = q ≡ record p { doing = Sends now room }
StepOf clients n session (Puts now room) (Break on) p q = (on ≡ n) × (q ≡ failed_spot p)
StepOf clients n session _ _ p q = ⊥

abbrev pub LinkStep : Meaning → ℕ → ℕ → Spot → Event → Spot → Type 0
LinkStep clients n session p e q = StepOf clients n session p.doing e p q
