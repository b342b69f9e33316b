-- What the calls of a node that stays need and leave.
use Rattle.std.specs.Prelude.{◌≡◌, ◌⊎◌, ℕ, true, false, List, length, Option, None, IfSome}
use Rattle.outside.specs.Outside.{Outside}
use Rattle.sync_rules.specs.Clients.{Meaning}
use Rattle.sync_store.specs.Store.{StoreValue}
use Rattle.sync_words.specs.declared.outcome.Outcome.{Outcome}
use Rattle.sync_words.specs.declared.outcome.Outcome.TheVariants as outcome
use Rattle.store_commands.specs.Serving.{IsReadyToServe}
use Rattle.sync_node.specs.Node.{AsideValue, IsAside, node_with}
use Rattle.node_service.specs.declared.node.Reply.{Reply}
use Rattle.node_life.specs.Leaving.{WordsLeave}
use Rattle.resident.specs.declared.resident.Resident.{Resident}

-- The sessions of an era may go on over this store: no call of them failed, they are in its journal,
-- and their links are those that the host has taken up.
pub record RunsBeside (a : AsideValue) (s : StoreValue) (o : Outside) : Type 0 where
  pub still_open : a.closed ≡ false
  pub sessions : IsAside (node_with a s)
  pub dialled : o.links.dialled ≡ length a.links

-- its store is loaded as the files are, and where an era runs its sessions may go on
pub record Stays (clients : Meaning) (r : Resident) (o : Outside) : Type 0 where
  pub ready : IsReadyToServe clients r.store o
  pub era : IfSome r.aside (λ a. RunsBeside a r.store o)

-- so where it has not ended
abbrev pub MayStay : Meaning → Resident → Outside → Type 0
MayStay clients r o = r.ended ≡ false → Stays clients r o

-- ---- a request

-- the era ended before a request that may change sessions, or it may not
abbrev pub EndsBefore : (words : List ℕ) → (r r' : Resident) → Type 0
EndsBefore words r r' = (r' ≡ record r { aside = None }) ⊎ ((r' ≡ r) × WordsLeave words)

-- behind a fault of the disk no era runs
abbrev pub era_behind : Outcome → Option AsideValue → Option AsideValue
era_behind outcome.DiskFault era = None
era_behind _ era = era

-- what is said where it has ended
pub record EndedReply (reply : Reply) : Type 0 where
  pub came : reply.came ≡ outcome.DiskFault
  pub unshown : reply.shown ≡ false
  pub ends : reply.ends ≡ true
