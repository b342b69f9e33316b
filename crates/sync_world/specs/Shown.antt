-- The links of a world of bytes, shown as the links of a world of records: of which the theorem of
-- many devices speaks.
use Rattle.std.specs.Prelude.{◌≡◌, ◌⊎◌, ℕ, ◌==◌, ◌||◌, ◌&&◌, Bool, true, false}
use Rattle.std.specs.Prelude.{if◌then◌else◌, nat_eq, List, [], ◌∷◌, ◌++◌, map, length}
use Rattle.std.specs.Prelude.{Option, Some, None}
use Rattle.std.specs.List.{AllByRecursion}
use Rattle.sync_ids.specs.declared.records.Record.{Record}
use Rattle.sync_ids.specs.Records.{IsRecord}
use Rattle.record_grammar.specs.Spelling.{spelled, spelling}
use Rattle.entry_codec.specs.Spelling.{IsEntry}
use Rattle.sync_rules.specs.Clients.{Meaning}
use Rattle.sync_rules.specs.Lists.{In}
use Rattle.sync_rules.specs.Facts.{Journal, facts}
use Rattle.sync_rules.specs.Legal.{Legal}
use Rattle.world_links.specs.declared.link.Link.{Link}
use Rattle.world_links.specs.declared.moves.Move.{Move}
use Rattle.world_links.specs.declared.moves.Move.TheVariants as move
use Rattle.world_links.specs.declared.moves.Side.{Side}
use Rattle.world_links.specs.declared.moves.Side.TheVariants as side
use Rattle.world_links.specs.Ends.{EndValue, flight_behind}
use Rattle.world_links.specs.Links.{all_carried}
use Rattle.world_laws.specs.Moves.{Move as WorldMove, Carry, Lose, Repeat, Swap}
use Rattle.world_laws.specs.Worlds.{AreSteps, End, HasNoBrief, HasSession, IsSent}
use Rattle.world_laws.specs.Worlds.{WorldLink as RecordLink, World, contact_for, last_of}
use Rattle.world_laws.specs.Worlds.{link_in, way_of}

-- ---- what is shown

-- An end in bytes shows an end of records: it has the same device and session, what is in flight
-- from it are the spellings of the records in flight, and what it was given are those of the
-- records that it was given, one behind the other.
pub record ShowsEnd (e : EndValue) (x : End) : Type 0 where
  pub device : x.device ≡ e.device
  pub session : x.session ≡ e.session
  pub flight : e.flight ≡ map spelling x.flight
  pub given : e.given ≡ spelled x.given
  pub flight_within : AllByRecursion IsRecord x.flight
  pub given_within : AllByRecursion IsRecord x.given

-- both ends of a link show those of another one
pub record ShowsLink (l : Link) (x : RecordLink) : Type 0 where
  pub near : ShowsEnd l.near x.near
  pub far : ShowsEnd l.far x.far

-- there are as many, and each shows the one in its place
abbrev pub ShowsLinks : List Link → List RecordLink → Type 0
ShowsLinks [] [] = Unit {0}
ShowsLinks [] (x ∷ xs) = ⊥
ShowsLinks (l ∷ ls) [] = ⊥
ShowsLinks (l ∷ ls) (x ∷ xs) = ShowsLink l x × ShowsLinks ls xs

-- ---- moves

-- a move on a link, as a move of its records; and whether a side is the near one
abbrev pub move_of : Move → WorldMove
move_of move.Carry = Carry
move_of move.Lose = Lose
move_of move.Repeat = Repeat
move_of move.Swap = Swap

abbrev pub is_near : Side → Bool
is_near side.Near = true
is_near side.Far = false

-- an end from which nothing is in flight any more, and a link that is cut
abbrev pub emptied_end : End → End
emptied_end x = record x { flight = [] }

abbrev pub emptied : RecordLink → RecordLink
emptied x = record { near = emptied_end x.near; far = emptied_end x.far }

-- a link of which a device was one end is cut
abbrev pub left_link : ℕ → RecordLink → RecordLink
left_link d x = if (x.near.device == d) || (x.far.device == d) then emptied x else x

-- an end that was given these too
abbrev pub given_more : List Record → End → End
given_more rs x = record x { given = x.given ++ rs }

-- a link after all that is in flight from the near end, or from the far one, arrived at the other
-- end
abbrev pub carried : Bool → RecordLink → RecordLink
carried true x = record { near = emptied_end x.near; far = given_more x.near.flight x.far }
carried false x = record { near = given_more x.far.flight x.near; far = emptied_end x.far }

-- a link in bytes after all that is in flight on it arrived, first what its near end sent; one that
-- is cut stays
abbrev pub link_arrived : Link → Link
link_arrived l = if l.is_cut then l else all_carried side.Far (all_carried side.Near l)

-- ---- worlds that are reached

-- a list of steps leads from one world to another
pub record ReachesWorld (clients : Meaning) (w w' : World) : Type 0 where
  pub worlds : List World
  pub steps : AreSteps clients w worlds
  pub last : last_of w worlds ≡ w'

-- steps that leave all journals as they are
pub record MovesTo (clients : Meaning) (w w' : World) : Type 0 where
  pub reached : ReachesWorld clients w w'
  pub journals : w'.journals ≡ w.journals

-- a world with these journals and links
abbrev pub world_of : List Journal → List RecordLink → World
world_of js xs = record { journals = js; links = xs }

-- what links show after moves, whatever the journals are
pub record MovesShown (clients : Meaning) (ls : List Link) (xs : List RecordLink) : Type 0 where
  pub after : List RecordLink
  pub shown : ShowsLinks ls after
  pub moves : (js : List Journal) → MovesTo clients (world_of js xs) (world_of js after)

-- ---- a device runs

-- an end of the device began a session, with the contact for the device at the other end
pub record BeginsAt (d : ℕ) (j : Journal) (other : ℕ) (old new : End) : Type 0 where
  pub own : old.device ≡ d
  pub fresh : old.session ≡ None
  pub number : ℕ
  pub begun : new.session ≡ Some number
  pub known : HasSession j number (contact_for d other)

-- a record that an end of the device sent, by its journal
pub record SendsAt (d : ℕ) (j : Journal) (old new : End) (r : Record) : Type 0 where
  pub own : old.device ≡ d
  pub is : IsSent j new.session r

-- What becomes of an end of a link while a device runs, j being its journal afterwards and other
-- the device at the link's other end: it keeps its device, what it was given, and its session, or
-- the device begins one there; and what is in flight was so before, or the device sent it.
pub record EndRuns (d : ℕ) (j : Journal) (other : ℕ) (old new : End) : Type 0 where
  pub device : new.device ≡ old.device
  pub given : new.given ≡ old.given
  pub session : (new.session ≡ old.session) ⊎ BeginsAt d j other old new
  pub flight : (r : Record) → In r new.flight → In r old.flight ⊎ SendsAt d j old new r

pub record RunsLinkOfDevice (d : ℕ) (j : Journal) (old new : RecordLink) : Type 0 where
  pub near : EndRuns d j old.far.device old.near new.near
  pub far : EndRuns d j old.near.device old.far new.far

abbrev pub LinksRun : ℕ → Journal → List RecordLink → List RecordLink → Type 0
LinksRun d j [] [] = Unit {0}
LinksRun d j [] (y ∷ ys) = ⊥
LinksRun d j (x ∷ xs) [] = ⊥
LinksRun d j (x ∷ xs) (y ∷ ys) = RunsLinkOfDevice d j x y × LinksRun d j xs ys

-- the records that ends of a device with this session were given, of one end and of all links
abbrev pub is_session : Option ℕ → ℕ → Bool
is_session None session = false
is_session (Some number) session = nat_eq number session

abbrev pub given_on : ℕ → ℕ → End → List Record
given_on d session x = if nat_eq x.device d && is_session x.session session then x.given else []

abbrev pub heard_by : ℕ → List RecordLink → ℕ → List Record
heard_by d [] session = []
heard_by d (x ∷ xs) session =
    given_on d session x.near ++ (given_on d session x.far ++ heard_by d xs session)

-- ---- the beginning

-- a legal journal that begins no brief account and holds no message
pub record IsNewJournal (clients : Meaning) (j : Journal) : Type 0 where
  pub legal : Legal clients j
  pub plain : HasNoBrief j
  pub empty : (facts j).held ≡ []

-- a journal that is legal and within the limits of its entries
pub record IsWithinJournal (clients : Meaning) (j : Journal) : Type 0 where
  pub legal : Legal clients j
  pub within : AllByRecursion (AllByRecursion IsEntry) j

-- ---- where something stands

-- the link of a number, which this one in bytes shows
pub record ShownAt (l : Link) (xs : List RecordLink) (i : ℕ) : Type 0 where
  pub link : RecordLink
  pub stands : link_in xs i ≡ Some link
  pub shown : ShowsLink l link

-- an end of a device that was given a record on a session
pub record IsGivenAt (d session : ℕ) (xs : List RecordLink) (r : Record) : Type 0 where
  pub number : ℕ
  pub near : Bool
  pub link : RecordLink
  pub stands : link_in xs number ≡ Some link
  pub own : (way_of near link).receiver.device ≡ d
  pub on : (way_of near link).receiver.session ≡ Some session
  pub inside : In r (way_of near link).receiver.given

-- ---- what is shown while a device runs

-- an end in bytes shows one that comes of this end while the device runs; so do a link, and several
pub record ShownEndRuns (d : ℕ) (j : Journal) (other : ℕ) (e : EndValue) (x : End) : Type 0 where
  pub after : End
  pub shown : ShowsEnd e after
  pub runs : EndRuns d j other x after

pub record ShownLinkRuns (d : ℕ) (j : Journal) (l : Link) (x : RecordLink) : Type 0 where
  pub after : RecordLink
  pub shown : ShowsLink l after
  pub runs : RunsLinkOfDevice d j x after

pub record ShownLinksRun (d : ℕ) (j : Journal) (ls : List Link)
    (xs : List RecordLink) : Type 0 where
  pub after : List RecordLink
  pub shown : ShowsLinks ls after
  pub runs : LinksRun d j xs after

-- an end after a look at what was sent there
abbrev pub looked : Bool → List ℕ → EndValue → EndValue
looked cut sent e = record e { flight = flight_behind cut sent e; seen = length sent }
