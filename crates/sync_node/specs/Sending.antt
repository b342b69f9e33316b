-- How a link stands, and what hearing and sending on it does.
use Rattle.sync_course.specs.declared.ends.LinkEnd.{LinkEnd}
use Rattle.std.specs.Prelude.{◌≡◌, ℕ, zero, suc, Bool, true, false, cond, List, Option, Some, None, Contains, ◌⊎◌, Result, Ok, Err, length, slice_get}
use Rattle.sync_ids.specs.declared.records.Record.{Record}
use Rattle.sync_node.specs.declared.fault.Fault.{Fault}
use Rattle.sync_node.specs.declared.fault.Fault.TheVariants as fault
use Rattle.sync_node.specs.declared.link.Link.{Link}
use Rattle.outside.specs.declared.failed.Failed.{Failed}
use Rattle.outside.specs.Host.{SendsOnLink, SendsPart}
use Rattle.outside.specs.Outside.{Outside, LinkCall}
use Rattle.sync_course.specs.declared.ends.LinkEnd.TheVariants as link_end
use Rattle.sync_ids.specs.declared.records.Record.TheVariants as record_kind

-- the link is not closed
abbrev pub MaySend : LinkEnd → Type 0
MaySend link_end.Going = Unit {0}
MaySend link_end.Clean = Unit {0}
MaySend _ = ⊥

-- the nonce that is known once a record was heard too: the first
abbrev pub nonce_with : Option (List ℕ) → Record → Option (List ℕ)
nonce_with None (record_kind.Priority nonce) = Some nonce
nonce_with None _ = None
nonce_with (Some nonce) _ = Some nonce

-- VERSIONS at a place that lack version 0 close the link; no other record does
abbrev pub ClosesBy : ℕ → Record → LinkEnd → LinkEnd → Type 0
ClosesBy place (record_kind.Versions versions) old new =
    (Contains versions 0 → new ≡ old) × ((Contains versions 0 → ⊥) → new ≡ link_end.NoVersion place)
ClosesBy place _ old new = new ≡ old

pub record LearnsNonce (place : ℕ) (r : Record) (old new : Link) : Type 0 where
  pub same_session : new.session ≡ old.session
  pub same_reader : new.reader ≡ old.reader
  pub nonce : new.nonce ≡ nonce_with old.nonce r
  pub end : ClosesBy place r old.end new.end

-- a failed send closes the link
abbrev pub EndsBy : Result (Unit {0}) Failed → Link → Link → Type 0
EndsBy (Ok _) old new = new ≡ old
EndsBy (Err _) old new = new ≡ record old { end = link_end.Failed }

-- these bytes were sent on a link, or a front of them
pub record SendsOn (link : ℕ) (bytes : List ℕ) (old new : Link) (o o' : Outside) : Type 0 where
  pub result : Result (Unit {0}) Failed
  pub call : LinkCall (SendsPart o link bytes) o o'
  pub sends : SendsOnLink link bytes result o.links o'.links
  pub ends : EndsBy result old new

-- so many outputs, whose bytes these are, went out in one call, or a front of the bytes; where there
-- were none nothing was called
abbrev pub SendsOuts : {H : Type 0} → ℕ → ℕ → List ℕ → Link → Link → H → H → Outside → Outside
    → Type 0
SendsOuts zero link bytes old new host host' o o' = (new ≡ old) × (host' ≡ host)
SendsOuts (suc made) link bytes old new host host' o o' = SendsOn link bytes old new o o'

-- whether a call of the disk failed
abbrev pub has_broken : Result (Unit {0}) Fault → Bool
has_broken (Err fault.DiskFault) = true
has_broken _ = false

-- what sending so many outputs answers, by what stopped it, if anything did: on a link that is
-- closed by then there is no next output that could find no room
abbrev pub outs_answer : Result (Unit {0}) Fault → ℕ → Bool → Result ℕ Fault
outs_answer (Ok _) made is_open = Ok made
outs_answer (Err fault.Full) made is_open = cond is_open (Err fault.Full) (Ok made)
outs_answer (Err e) made is_open = Err e

-- a link is as it was, or a send on it failed
abbrev pub StaysOrFails : Link → Link → Type 0
StaysOrFails old new = (new ≡ old) ⊎ (new ≡ record old { end = link_end.Failed })

-- ---- links of which some are closed since another one with the same contact is kept

-- the link of a number stayed as it was, or it was asked and was closed
pub record StaysOrCloses (links : List Link) (number : ℕ) (l : Link) : Type 0 where
  pub before : Link
  pub was : slice_get links number ≡ Some before
  pub is : (l ≡ before) ⊎ ((before.end ≡ link_end.Going) × (l ≡ record before { end = link_end.Redundant }))

pub record ClosesSome (old new : List Link) : Type 0 where
  pub same_number : length new ≡ length old
  pub each : (number : ℕ) (l : Link) → slice_get new number ≡ Some l → StaysOrCloses old number l
