-- A session that begins on a link.
use Rattle.std.specs.Prelude.{◌≡◌, ℕ, Some}
use Rattle.outside.specs.Faults.{CountRose}
use Rattle.outside.specs.Outside.{Outside}
use Rattle.sync_rules.specs.declared.entries.Session.{Session}
use Rattle.sync_rules.specs.Clients.{Meaning}
use Rattle.sync_rules.specs.Facts.{session_at}
use Rattle.sync_rules.specs.Steps.{IsSettled}
use Rattle.sync_store.specs.Store.{StoreValue}
use Rattle.sync_store.specs.Ready.{IsReady}
use Rattle.sync_node.specs.declared.fault.Fault.{Fault}
use Rattle.sync_node.specs.declared.fault.Fault.TheVariants as fault
use Rattle.sync_node.specs.declared.link.Link.{Link}
use Rattle.sync_course.specs.declared.ends.LinkEnd.TheVariants as link_end
use Rattle.sync_node.specs.Batches.{IsUndone}
use Rattle.sync_node.specs.Working.{HasGivenItems}

-- a link on which a session has begun; it failed only by a call on it
pub record SessionBegan (clients : Meaning) (number : ℕ) (session : Session) (l : Link)
    (s s' : StoreValue) (o o' : Outside) : Type 0 where
  pub ready : IsReady clients s' o'.files
  pub settled : IsSettled clients s'.state.facts
  pub numbered : l.session.number ≡ session.number
  pub known : session_at s'.state.facts.sessions l.session.number ≡ Some l.session
  pub waits : HasGivenItems l
  pub cause : l.end ≡ link_end.Failed
      → CountRose (o.links.faults number) (o'.links.faults number)

-- the store is ready, and nothing was done
pub record StartsNone {H : Type 0} (clients : Meaning) (s s' : StoreValue) (host host' : H)
    (o' : Outside) : Type 0 where
  pub ready : IsReady clients s' o'.files
  pub undone : IsUndone s s' host host'

-- by the fault: nothing was done, or a call of the disk failed
abbrev pub StartStops : {H : Type 0} → Meaning → StoreValue → StoreValue → H → H → Outside → Outside
    → Fault → Type 0
StartStops clients s s' host host' o o' fault.Memory = StartsNone clients s s' host host' o'
StartStops clients s s' host host' o o' fault.Full = StartsNone clients s s' host host' o'
StartStops clients s s' host host' o o' fault.DiskFault = CountRose o.disk_faults o'.disk_faults
