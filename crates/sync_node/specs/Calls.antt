-- What each call of a node says of its answer, of what it leaves, and of where it stops; where it led
-- is said beside.
use Rattle.std.specs.Prelude.{◌≡◌, true, false, Result, Ok, Err}
use Rattle.outside.specs.Faults.{CountRose}
use Rattle.outside.specs.Outside.{Outside}
use Rattle.sync_rules.specs.Clients.{Meaning}
use Rattle.sync_store.specs.Ready.{IsReady}
use Rattle.sync_store.specs.Store.{StoreValue}
use Rattle.sync_node.specs.declared.fault.Fault.{Fault}
use Rattle.sync_node.specs.declared.fault.Fault.TheVariants as fault
use Rattle.sync_node.specs.declared.fault.NodeFault.{NodeFault}
use Rattle.sync_node.specs.declared.fault.NodeFault.TheVariants as node
use Rattle.sync_node.specs.Causes.{FailByCause}
use Rattle.sync_node.specs.Going.{LetsNothingFall}
use Rattle.sync_node.specs.Node.{AnswersAndCloses, IsAside, IsNode, NodeValue, StaysClosed}
use Rattle.sync_node.specs.Keeps.{IsReadyOrRose}
use Rattle.sync_node.specs.Starting.{StartStops, StartsNone}

-- what it answers, and whether the node is closed then: where it was closed nothing is done
pub record CallAnswers {T H : Type 0} (n n' : NodeValue) (host host' : H)
    (result : Result T NodeFault) : Type 0 where
  pub closed : n.closed ≡ true → StaysClosed n n' host host' result
  pub opened : n.closed ≡ false → AnswersAndCloses result n'

-- whatever it answers: the node is one still, with its limit, its format and its first session;
-- nothing falls; and a link stands failed only where it did so before or a call on it failed
pub record CallGoes (n n' : NodeValue) (o o' : Outside) : Type 0 where
  pub node : IsNode n'
  pub goes : LetsNothingFall o o'
  pub same_limit : n'.store.limit ≡ n.store.limit
  pub same_format : n'.store.format ≡ n.store.format
  pub same_first : n'.first ≡ n.first
  pub cause : FailByCause n.links n'.links o o'

-- the same of a call over a store that is lent to it
pub record AsideGoes (n n' : NodeValue) (o o' : Outside) : Type 0 where
  pub aside : IsAside n'
  pub goes : LetsNothingFall o o'
  pub same_limit : n'.store.limit ≡ n.store.limit
  pub same_format : n'.store.format ≡ n.store.format
  pub same_first : n'.first ≡ n.first
  pub cause : FailByCause n.links n'.links o o'

-- by the answer of a node: this of the fault that stopped its work
abbrev pub StopsBy : {T : Type 0} → (Fault → Type 0) → Result T NodeFault → Type 0
StopsBy P (Ok _) = Unit {0}
StopsBy P (Err node.Memory) = P fault.Memory
StopsBy P (Err node.Full) = P fault.Full
StopsBy P (Err node.DiskFault) = P fault.DiskFault
StopsBy P (Err node.Closed) = Unit {0}

-- where memory or room was wanting the store is ready; where a call of the disk failed the count of
-- its failures rose
abbrev pub CallStops : {T : Type 0} → Meaning → NodeValue → Outside → Outside → Result T NodeFault
    → Type 0
CallStops clients n' o o' result = StopsBy (IsReadyOrRose clients n'.store o o') result

-- a session is begun whole or, for want of memory or of room, not at all
abbrev pub AttachStops : {T H : Type 0} → Meaning → NodeValue → NodeValue → H → H → Outside → Outside
    → Result T NodeFault → Type 0
AttachStops clients n n' host host' o o' result =
    StopsBy (StartStops clients n.store n'.store host host' o o') result

-- a batch for which there is no room is not added at all; memory may also be wanting while it settles
abbrev pub AddingLeaves : {H : Type 0} → Meaning → StoreValue → StoreValue → H → H → Outside
    → Outside → Fault → Type 0
AddingLeaves clients s s' host host' o o' fault.Memory = IsReady clients s' o'.files
AddingLeaves clients s s' host host' o o' fault.Full = StartsNone clients s s' host host' o'
AddingLeaves clients s s' host host' o o' fault.DiskFault = CountRose o.disk_faults o'.disk_faults

abbrev pub AddCallStops : {T H : Type 0} → Meaning → NodeValue → NodeValue → H → H → Outside → Outside
    → Result T NodeFault → Type 0
AddCallStops clients n n' host host' o o' result =
    StopsBy (AddingLeaves clients n.store n'.store host host' o o') result
