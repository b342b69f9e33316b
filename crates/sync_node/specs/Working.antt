-- What work on one link needs, and what is left of a piece once a record was taken.
use Rattle.std.specs.Prelude.{◌≡◌, ℕ, ◌<◌, Some, ◌+◌, Bool, true, false, List, [], length}
use Rattle.outside.specs.Outside.{Outside}
use Rattle.record_stream.specs.Reading.{AwaitsBytes}
use Rattle.sync_rules.specs.declared.entries.Session.{Session}
use Rattle.sync_rules.specs.Clients.{Meaning}
use Rattle.sync_rules.specs.Facts.{session_at}
use Rattle.sync_rules.specs.Steps.{IsSettled}
use Rattle.sync_store.specs.Store.{StoreValue}
use Rattle.sync_store.specs.Groups.{IsGathering}
use Rattle.sync_store.specs.Ready.{IsReady}
use Rattle.sync_node.specs.declared.link.Link.{Link}
use Rattle.sync_course.specs.declared.ends.LinkEnd.TheVariants as link_end

-- a session may go on on a link: the store is ready and settled and has it, and the link was
-- dialled
pub record IsAble (clients : Meaning) (link : ℕ) (session : Session) (s : StoreValue)
    (o : Outside) : Type 0 where
  pub ready : IsReady clients s o.files
  pub settled : IsSettled clients s.state.facts
  pub known : session_at s.state.facts.sessions session.number ≡ Some session
  pub dialled : link < o.links.dialled

-- a link that is still asked has given each item that stands whole in the bytes that its reader
-- holds
abbrev pub HasGivenItems : Link → Type 0
HasGivenItems l = l.end ≡ link_end.Going → AwaitsBytes l.reader

-- and so a link of a node may be worked on
pub record MayWork (clients : Meaning) (link : ℕ) (l : Link) (s : StoreValue)
    (o : Outside) : Type 0 where
  pub able : IsAble clients link l.session s o
  pub waits : HasGivenItems l

-- the same in the middle of a piece: batches may wait
pub record MayGather (clients : Meaning) (link : ℕ) (session : Session) (s : StoreValue)
    (o : Outside) : Type 0 where
  pub waits : IsGathering clients s o.files
  pub settled : IsSettled clients s.state.facts
  pub known : session_at s.state.facts.sessions session.number ≡ Some session
  pub dialled : link < o.links.dialled

-- a store in which a session may take a record
pub record IsOpenToTake (clients : Meaning) (session : Session) (s : StoreValue)
    (o : Outside) : Type 0 where
  pub waits : IsGathering clients s o.files
  pub settled : IsSettled clients s.state.facts
  pub known : session_at s.state.facts.sessions session.number ≡ Some session

-- fewer bytes are left, held or of the piece; or nothing is left of the piece, and no item stands
-- whole in what is held
abbrev pub LeavesLess : Link → List ℕ → Link → List ℕ → Bool → Type 0
LeavesLess old piece new left true =
    length new.reader.bytes + length left < length old.reader.bytes + length piece
LeavesLess old piece new left false = (left ≡ []) × HasGivenItems new
