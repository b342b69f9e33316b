-- The turns of a run over its links, from the first place to the end.
use Rattle.std.specs.Prelude.{◌≡◌, ◌⊎◌, ℕ, suc, ◌+◌, Bool, false, not, cond, ◌&&◌, ◌||◌, nat_lt, nat_le, List, [], ◌∷◌, ◌++◌, length, Option, None, Some, slice_get, slice_set}
use Rattle.std.specs.List.{list_any}
use Rattle.sync_rules.specs.declared.entries.Entry.TheVariants as entry
use Rattle.sync_rules.specs.declared.entries.Session.{Session}
use Rattle.sync_rules.specs.Clients.{Meaning}
use Rattle.sync_rules.specs.Facts.{Facts, after_all}
use Rattle.sync_rules.specs.Legal.{Allowed, IsSettlingBatch}
use Rattle.sync_rules.specs.Steps.{IsSettled}
use Rattle.sync_course.specs.declared.ends.LinkEnd.TheVariants as end
use Rattle.sync_course.specs.Events.{Event, Commit, Break, Pass}
use Rattle.sync_course.specs.Paths.{Path}
use Rattle.sync_course.specs.Links.{Link, is_going, link_of, without_redundant}
use Rattle.sync_course.specs.LinkTurns.{Doing, Asks, Done, LinkStep, Spot}

-- what a run is asked for: the number of the first link's session, how many turns it makes at most, and how many still turns one
-- behind the other end it
pub record Terms : Type 0 where
  pub first : ℕ
  pub turns : ℕ
  pub quiet : ℕ

-- The run settles the journal; it begins these sessions; it greets on the link of this session, with these left; it is between
-- two turns; the link of this number has its turn and does this; or it ended.
pub data Stage : Type 0 where
  Settles : List Session → Stage
  Attaches : List Session → Stage
  Greets : Session → List Session → Stage
  Between : Stage
  Works : ℕ → Doing → Stage
  Ended : Stage

-- a place in a run: its stage, the links, whether this turn moved, how many of the last turns were all still, how many turns were
-- made, and the facts of the journal
pub record Place : Type 0 where
  pub stage : Stage
  pub links : List Link
  pub moved : Bool
  pub still : ℕ
  pub made : ℕ
  pub facts : Facts

-- where a run with these sessions begins
abbrev pub first_place : List Session → Facts → Place
first_place sessions f = record { stage = Settles sessions; links = []; moved = false; still = 0; made = 0; facts = f }

-- ---- when a run is over

abbrev pub some_going : List Link → Bool
some_going links = list_any (λ (link : Link). is_going link.stands) links

-- A run is over after a still turn where no link is asked any more, or the last `quiet` turns were all still.
abbrev pub over_by : ℕ → ℕ → Bool → Bool
over_by quiet still asked = nat_lt 0 still && (not asked || nat_le quiet still)

abbrev pub is_over : ℕ → Place → Bool
is_over quiet p = over_by quiet p.still (some_going p.links)

-- it ends where it is over or has made its turns
abbrev pub is_at_end : Terms → Place → Bool
is_at_end terms p = is_over terms.quiet p || nat_le terms.turns p.made

-- ---- the links

-- a link as it has its turn
abbrev pub spot_of : Doing → Link → Place → Spot
spot_of doing link p = record { doing = doing; link = link; moved = p.moved; facts = p.facts }

-- the place in which the link of this number has come there
abbrev pub with_spot : ℕ → Spot → Place → Place
with_spot n s p = record p { stage = Works n s.doing; links = slice_set p.links n s.link; moved = s.moved; facts = s.facts }

-- the place once all links had their turn: it was still where it did not move
abbrev pub turn_ended : Place → Place
turn_ended p = record p {
  stage = Between;
  links = without_redundant p.links;
  still = cond p.moved 0 (suc p.still);
  made = suc p.made;
}

-- the place after a link was attached
abbrev pub attached : Session → List Session → Place → Place
attached s left p = record p { stage = Attaches left; links = p.links ++ link_of s end.Going ∷ [] }

-- the place after its greeting failed
abbrev pub unattached : Session → List Session → Place → Place
unattached s left p = record p { stage = Attaches left; links = p.links ++ link_of s end.Failed ∷ [] }

-- ---- the steps

-- a step of a link
pub record WorksOn (clients : Meaning) (terms : Terms) (n : ℕ) (doing : Doing) (link : Link) (e : Event) (p q : Place) : Type 0 where
  pub spot : Spot
  pub steps : LinkStep clients n (terms.first + n) (spot_of doing link p) e spot
  pub leads : q ≡ with_spot n spot p

-- once its turn is done the next link has its
abbrev pub GoesToNext : ℕ → Doing → Event → Place → Place → Type 0
GoesToNext n Done Pass p q = q ≡ record p { stage = Works (suc n) Asks }
GoesToNext n _ _ p q = ⊥

-- behind the last link the turn ends
abbrev pub EndsTurn : Doing → Event → Place → Place → Type 0
EndsTurn Asks Pass p q = q ≡ turn_ended p
EndsTurn _ _ p q = ⊥

abbrev pub TurnStep : Meaning → Terms → ℕ → Doing → Option Link → Event → Place → Place → Type 0
TurnStep clients terms n doing None e p q = EndsTurn doing e p q
TurnStep clients terms n doing (Some link) e p q = WorksOn clients terms n doing link e p q ⊎ GoesToNext n doing e p q

-- by its stage, a step of a run
abbrev pub StageStep : Meaning → Terms → Stage → Event → Place → Place → Type 0
StageStep clients terms (Settles sessions) (Commit batch) p q =
    IsSettlingBatch clients p.facts batch × (q ≡ record p { facts = after_all p.facts batch })
StageStep clients terms (Settles sessions) Pass p q = IsSettled clients p.facts × (q ≡ record p { stage = Attaches sessions })
-- a session begins, and then it greets
StageStep clients terms (Attaches (s ∷ left)) (Commit batch) p q =
    (batch ≡ entry.Session s ∷ []) × Allowed clients p.facts batch × (q ≡ record p { stage = Greets s left; facts = after_all p.facts batch })
StageStep clients terms (Greets s left) Pass p q = q ≡ attached s left p
StageStep clients terms (Greets s left) (Break on) p q = (on ≡ length p.links) × (q ≡ unattached s left p)
StageStep clients terms (Attaches []) Pass p q = q ≡ record p { stage = Between }
-- a turn begins, or the run ends
StageStep clients terms Between Pass p q =
    q ≡ cond (is_at_end terms p) (record p { stage = Ended }) (record p { stage = Works 0 Asks; moved = false })
StageStep clients terms (Works n doing) e p q = TurnStep clients terms n doing (slice_get p.links n) e p q
StageStep clients terms _ _ p q = ⊥

abbrev pub RunStep : Meaning → Terms → Place → Event → Place → Type 0
RunStep clients terms p e q = StageStep clients terms p.stage e p q

-- ---- courses

-- the whole course of a run over a journal of these facts: a path from the first place to the end. The first link has the next session
pub record Course (clients : Meaning) (terms : Terms) (sessions : List Session) (f : Facts) (events : List Event) (last : Place) : Type 0 where
  pub numbered : terms.first ≡ f.begun
  pub path : Path (RunStep clients terms) (first_place sessions f) events last
  pub at_end : last.stage ≡ Ended

-- one that was broken off: a path to any place
pub record Broken (clients : Meaning) (terms : Terms) (sessions : List Session) (f : Facts) (events : List Event) (last : Place) : Type 0 where
  pub numbered : terms.first ≡ f.begun
  pub path : Path (RunStep clients terms) (first_place sessions f) events last
