-- The group of a piece: what waited of it was added, or the disk failed in that.
use Rattle.std.proofs.Common.{◌≡◌, ℕ, List, [], refl, sym, subst, Option, None, Some, Result, Ok, Err}
use Rattle.std.specs.Prelude.{IfErr, IsErrAnd, OnOk}
use Rattle.outside.specs.Outside.{Outside}
use Rattle.sync_rules.specs.Clients.{Meaning}
use Rattle.sync_store.specs.Ready.{IsReady}
use Rattle.sync_store.specs.Store.{IsStore, StoreValue}
use Rattle.sync_node.specs.declared.fault.Fault.{Fault}
use Rattle.sync_node.specs.declared.fault.Fault.TheVariants as fault
use Rattle.sync_node.specs.declared.link.Link.{Link}
use Rattle.sync_node.specs.Batches.{Flushed}
use Rattle.sync_node.specs.Did.{UnderwayBreaks}
use Rattle.sync_node.specs.Keeps.{LinkGathers, LinkWorks}
use Rattle.sync_node.specs.OnLinks.{ItemsHalted, ItemsStopped, PieceTaken, PieceWent}
use Rattle.sync_node.proofs.KeepLaws.{gather_broke, gather_failed, gather_flushed, gather_stopped, was}
use Rattle.sync_node.proofs.LinkActs.{items_broken, items_flushed, items_full_broke}
use Rattle.sync_node.proofs.LinkActs.{items_starved_broke, piece_broke, piece_flushed}

abbrev GroupWorked : Meaning → ℕ → List ℕ → Link → Link → StoreValue → StoreValue → Outside → Outside
    → Result (Unit {0}) Fault → Type 0
GroupWorked clients n piece l l' s s' o o' r =
    LinkWorks (PieceTaken piece) (ItemsStopped piece) clients n l l' s s' o o' r

module _ {clients : Meaning} {n : ℕ} {piece : List ℕ} {l l' : Link} {s s1 s2 : StoreValue}
    {o o1 o2 : Outside} (store : IsStore s) (ready : IsReady clients s o.files) where
  -- by what the flush behind the whole piece answered
  pub group_ends : PieceWent piece clients n l l' s s1 o o1 tt
      → LinkGathers clients n l l' s s1 o o1 None → (r : Result (Unit {0}) Fault)
      → OnOk r (Flushed clients s1 s2 o1 o2)
      → IfErr r (λ e. (e ≡ fault.DiskFault) × UnderwayBreaks clients [] s1 s2 o1 o2) → GroupWorked clients n piece l l' s s2 o o2 r
  group_ends went keeps (Ok u) flushed broke = record {
    went = piece_flushed store ready went flushed;
    stopped = tt;
    keeps = gather_flushed keeps flushed;
  }
  group_ends went keeps (Err e) flushed broke =
      subst (λ (x : Fault). GroupWorked clients n piece l l' s s2 o o2 (Err x)) (sym broke.0) (record {
        went = tt;
        stopped = piece_broke store ready went broke.1;
        keeps = gather_broke keeps broke.1;
      })

  -- memory or room had been wanting, and what came before was added
  pub group_stops : (e : Fault) → (e ≡ fault.DiskFault → ⊥)
      → ItemsHalted piece clients n l l' s s1 o o1 e
      → LinkGathers clients n l l' s s1 o o1 (Some e) → Flushed clients s1 s2 o1 o2
      → GroupWorked clients n piece l l' s s2 o o2 (Err e)
  group_stops e other halted keeps flushed = record {
    went = tt;
    stopped = items_flushed store ready e other halted flushed;
    keeps = gather_stopped e other keeps flushed;
  }

  -- or the disk failed in that
  pub group_starved_broke : ItemsHalted piece clients n l l' s s1 o o1 fault.Memory
      → LinkGathers clients n l l' s s1 o o1 (Some fault.Memory) → (r : Result (Unit {0}) Fault)
      → (e : Fault) → IsErrAnd r (λ x. x ≡ e)
      → (e ≡ fault.DiskFault) × UnderwayBreaks clients [] s1 s2 o1 o2 → GroupWorked clients n piece l l' s s2 o o2 r
  group_starved_broke halted keeps r e is broke =
      was r e (λ (x : Result (Unit {0}) Fault). GroupWorked clients n piece l l' s s2 o o2 x) is (subst (λ (x : Fault). GroupWorked clients n piece l l' s s2 o o2 (Err x)) (sym broke.0) (record {
        went = tt;
        stopped = items_starved_broke store ready halted broke.1;
        keeps = gather_broke keeps broke.1;
      }))

  pub group_full_broke : ItemsHalted piece clients n l l' s s1 o o1 fault.Full
      → LinkGathers clients n l l' s s1 o o1 (Some fault.Full) → (r : Result (Unit {0}) Fault)
      → (e : Fault) → IsErrAnd r (λ x. x ≡ e)
      → (e ≡ fault.DiskFault) × UnderwayBreaks clients [] s1 s2 o1 o2 → GroupWorked clients n piece l l' s s2 o o2 r
  group_full_broke halted keeps r e is broke =
      was r e (λ (x : Result (Unit {0}) Fault). GroupWorked clients n piece l l' s s2 o o2 x) is (subst (λ (x : Fault). GroupWorked clients n piece l l' s s2 o o2 (Err x)) (sym broke.0) (record {
        went = tt;
        stopped = items_full_broke store ready halted broke.1;
        keeps = gather_broke keeps broke.1;
      }))

-- the disk had failed before
pub group_failed : {clients : Meaning} {n : ℕ} {piece : List ℕ} {l l' : Link} {s s' : StoreValue}
    {o o' : Outside} → IsStore s → IsReady clients s o.files
    → ItemsHalted piece clients n l l' s s' o o' fault.DiskFault
    → LinkGathers clients n l l' s s' o o' (Some fault.DiskFault)
    → LinkWorks (PieceTaken piece) (ItemsStopped piece) clients n l l' s s' o o'
    (Err fault.DiskFault)
group_failed store ready halted keeps = record {
  went = tt;
  stopped = items_broken store ready halted;
  keeps = gather_failed keeps;
}
