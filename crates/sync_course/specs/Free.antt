-- What a node may do, in whatever order its calls are made: the machine of a run without the order of its stages.
use Rattle.std.specs.Prelude.{◌≡◌, ◌⊎◌, ℕ, ◌+◌, Bool, true, List, [], ◌∷◌, ◌++◌, length, Some, slice_get, slice_set}
use Rattle.sync_rules.specs.declared.entries.Entry.{Entry}
use Rattle.sync_rules.specs.declared.entries.Entry.TheVariants as entry
use Rattle.sync_rules.specs.declared.entries.Session.{Session}
use Rattle.sync_rules.specs.Clients.{Meaning}
use Rattle.sync_rules.specs.Facts.{Facts, after_all}
use Rattle.sync_rules.specs.Legal.{Allowed, IsSettlingBatch}
use Rattle.sync_course.specs.declared.TheConstants.{MAX_OUTPUTS}
use Rattle.sync_course.specs.declared.ends.LinkEnd.{LinkEnd}
use Rattle.sync_course.specs.declared.ends.LinkEnd.TheVariants as end
use Rattle.sync_course.specs.Events.{Event, Commit, Break, Pass}
use Rattle.sync_course.specs.Links.{Link, is_sent_to, link_of, without_redundant}
use Rattle.sync_course.specs.LinkTurns.{Doing, Asks, Done, LinkStep, Sends, Spot, Waits}
use Rattle.sync_course.specs.Owing.{Owing}
use Rattle.sync_course.specs.Turns.{Greets, Place, Stage, Works}

-- what a node has in hand: nothing; a session that has begun, on whose link it is to greet; or the link of this number, which does
-- this
pub data Hold : Type 0 where
  Rests : Hold
  Begins : Session → Hold
  Holds : ℕ → Doing → Hold

-- a place of a node: what it has in hand, the links, and the facts of the journal
pub record Free : Type 0 where
  pub hold : Hold
  pub links : List Link
  pub facts : Facts

-- where a node begins
abbrev pub first_free : Facts → Free
first_free f = record { hold = Rests; links = []; facts = f }

-- one entry that adds a contact, a group or a message, or sets a level
abbrev pub IsPlain : List Entry → Type 0
IsPlain (entry.Contact c ∷ []) = Unit {0}
IsPlain (entry.Group def ∷ []) = Unit {0}
IsPlain (entry.Level c g l ∷ []) = Unit {0}
IsPlain (entry.Author m ∷ []) = Unit {0}
IsPlain _ = ⊥

-- nothing is under way
abbrev pub IsNothingUnderWay : Hold → Type 0
IsNothingUnderWay Rests = Unit {0}
IsNothingUnderWay (Holds n Asks) = Unit {0}
IsNothingUnderWay (Holds n Waits) = Unit {0}
IsNothingUnderWay (Holds n Done) = Unit {0}
IsNothingUnderWay _ = ⊥

-- ---- where each step leads

-- a link as it is in hand
abbrev pub spot_in : Doing → Link → Bool → Free → Spot
spot_in doing link moved p = record { doing = doing; link = link; moved = moved; facts = p.facts }

-- the place in which the link of this number has come there
abbrev pub holding : ℕ → Spot → Free → Free
holding n s p = record { hold = Holds n s.doing; links = slice_set p.links n s.link; facts = s.facts }

-- the place after a link was attached, or after its greeting failed
abbrev pub joined_by : Session → LinkEnd → Free → Free
joined_by s stands p = record p { hold = Rests; links = p.links ++ link_of s stands ∷ [] }

-- ---- the steps

-- the journal is settled, or goes on by a plain entry
abbrev pub SettlesOrAdds : Meaning → List Entry → Free → Free → Type 0
SettlesOrAdds clients batch p q =
    (IsSettlingBatch clients p.facts batch ⊎ (IsPlain batch × Allowed clients p.facts batch))
    × (q ≡ record p { facts = after_all p.facts batch })

-- a session begins
pub record BeginsSession (clients : Meaning) (batch : List Entry) (p q : Free) : Type 0 where
  pub session : Session
  pub is : batch ≡ entry.Session session ∷ []
  pub allowed : Allowed clients p.facts batch
  pub leads : q ≡ record p { hold = Begins session; facts = after_all p.facts batch }

-- nothing or an idle link is taken in hand
pub record TakesInHand (p q : Free) : Type 0 where
  pub hold : Hold
  pub idle : IsNothingUnderWay hold
  pub leads : q ≡ record p { hold = hold }

-- a link that is not closed is, to send what is due at this reading
pub record TurnsToSend (p q : Free) : Type 0 where
  pub number : ℕ
  pub now : ℕ
  pub link : Link
  pub there : slice_get p.links number ≡ Some link
  pub is_open : is_sent_to link.stands ≡ true
  pub leads : q ≡ record p { hold = Holds number (Sends now MAX_OUTPUTS) }

-- where nothing is under way: another link is taken in hand, or redundant ones are closed
abbrev pub TakesUpOrCloses : Hold → Free → Free → Type 0
TakesUpOrCloses hold p q = IsNothingUnderWay hold × (TakesInHand p q ⊎ (TurnsToSend p q ⊎ (q ≡ record p { hold = Rests; links = without_redundant p.links })))

-- a step of the link that is in hand, whether or not the turn moved so far
pub record LinkMoves (clients : Meaning) (first n : ℕ) (doing : Doing) (e : Event) (p q : Free) : Type 0 where
  pub link : Link
  pub there : slice_get p.links n ≡ Some link
  pub moved : Bool
  pub spot : Spot
  pub steps : LinkStep clients n (first + n) (spot_in doing link moved p) e spot
  pub leads : q ≡ holding n spot p

-- by what is in hand, an event
abbrev pub HoldStep : Meaning → ℕ → Hold → Event → Free → Free → Type 0
HoldStep clients first Rests (Commit batch) p q = SettlesOrAdds clients batch p q ⊎ BeginsSession clients batch p q
HoldStep clients first (Begins s) Pass p q = q ≡ joined_by s end.Going p
HoldStep clients first (Begins s) (Break on) p q = (on ≡ length p.links) × (q ≡ joined_by s end.Failed p)
HoldStep clients first (Holds n doing) e p q = LinkMoves clients first n doing e p q
HoldStep clients first _ _ p q = ⊥

-- the same; or nothing that is told of: the place stays, or something else is taken in hand
abbrev pub FreeFrom : Meaning → ℕ → Hold → Event → Free → Free → Type 0
FreeFrom clients first hold Pass p q = (q ≡ p) ⊎ (TakesUpOrCloses hold p q ⊎ HoldStep clients first hold Pass p q)
FreeFrom clients first hold e p q = HoldStep clients first hold e p q

-- a step of a node, whose first link has this session
abbrev pub FreeStep : Meaning → ℕ → Free → Event → Free → Type 0
FreeStep clients first p e q = FreeFrom clients first p.hold e p q

-- ---- a run

-- what a run has in hand at a stage
abbrev pub hold_at : Stage → Hold
hold_at (Greets s left) = Begins s
hold_at (Works n doing) = Holds n doing
hold_at _ = Rests

-- a place of a run, but for the order
abbrev pub forget : Place → Free
forget p = record { hold = hold_at p.stage; links = p.links; facts = p.facts }

abbrev pub owing_free : Owing Place → Owing Free
owing_free p = record { at = forget p.at; owed = p.owed }
