-- Where in a start a disk failed.
use Rattle.std.proofs.Common.{◌≡◌, ℕ, zero, suc, ◌+◌, ◌*◌, List, [], ◌∷◌, ◌++◌, length, append-nil, append_assoc, replicate, Option, None, Some, Result, Ok, Err}
use Rattle.std.proofs.Common.{refl, sym, ap, ◌∙◌, subst, inl, inr, arith}
use Rattle.std.specs.Result.{IsErrAnd, IsErrOf}
use Rattle.std.specs.Option.{option_to_list}
use Rattle.std.proofs.lemmas.List.{length-replicate}
use Rattle.std.proofs.lemmas.List.Concat.{flat_map-append}
use Rattle.outside.specs.Calls.{Calls, ChangesNone, more_calls}
use Rattle.outside.specs.Changes.{Change, of_disk, on_disk}
use Rattle.outside.specs.Disk.{RelatesTold}
use Rattle.outside.specs.HostTold.{host_told}
use Rattle.outside.specs.Made.{BreaksIn, DoesAll, MadeAll, changes_of}
use Rattle.outside.specs.MemDisk.{calls_of}
use Rattle.outside.specs.MemHost.{MemHostValue}
use Rattle.outside.specs.Outside.{MakesAtMost, MakesJust, Outside}
use Rattle.outside.proofs.CallCounts.{most_more, most_then}
use Rattle.outside.proofs.MadeSteps.{breaks_then}
use Rattle.client_basic.specs.Bodies.{bundle_meaning}
use Rattle.entry_codec.specs.Standing.{journal}
use Rattle.file_standing.specs.Standing.{stands}
use Rattle.frame_journal.specs.Appends.{BreaksAppends, appends}
use Rattle.sync_rules.specs.Facts.{Journal}
use Rattle.sync_store.specs.Asking.{LoadDoes, LooksBehind, barrier_calls}
use Rattle.sync_store.specs.Store.{StoreValue}
use Rattle.sync_store.specs.declared.fault.LoadFault.{LoadFault}
use Rattle.sync_store.specs.declared.fault.LoadFault.TheVariants as load
use Rattle.world_devices.specs.Devices.{LeavesDisk}
use Rattle.world_devices.specs.Doing.{BreaksSettling, StartBreaks, StartCut, load_calls, loading}
use Rattle.world_devices.specs.Running.{HoldsAfterCrash}
use Rattle.world_devices.proofs.KeepLaws.{crash_same}

-- ---- behind calls that make none of the disk

leaves_does : (h h' : MemHostValue) → LeavesDisk h h' → DoesAll [] (host_told h) (host_told h')
leaves_does h h' disk = record {
  done = record {
    more = disk.unchanged.more;
    grown = disk.unchanged.grown;
    are = disk.unchanged.none;
    made = disk.made;
  };
}

looks_shift : (h h' at : MemHostValue) → LeavesDisk h h' → LooksBehind (calls_of h'.disk) (calls_of at.disk)
    → LooksBehind (calls_of h.disk) (calls_of at.disk)
looks_shift h h' at disk l =
    let n = disk.unchanged in
    let m = l.barrier in
    record {
      mid = l.mid;
      barrier = record {
        more = n.more ++ m.more;
        grown =
            m.grown ∙ ap (λ (x : List Change). x ++ m.more) n.grown
            ∙ append_assoc h.disk.calls n.more m.more;
        are =
            flat_map-append on_disk n.more m.more ∙ ap (λ (x : List Change). x ++ of_disk m.more) n.none
            ∙ m.are;
        made = m.made ∙ ap (more_calls 2) disk.made;
      };
      looks = l.looks;
      later = l.later;
    }

breaks_shift : (j : Journal) (h h' at : MemHostValue) → LeavesDisk h h'
    → StartBreaks j (host_told h') (host_told at) → StartBreaks j (host_told h) (host_told at)
breaks_shift j h h' at disk (inl barrier) =
    inl (breaks_then [] barrier_calls (host_told h) (host_told h') (host_told at) (leaves_does h h' disk) barrier)
breaks_shift j h h' at disk (inr (inl looks)) = inr (inl (
  looks_shift h h' at disk looks.0,
  most_more (0 + load_calls j) (load_calls j) (host_told h) (host_told at) (omega arith)
      (most_then 0 (load_calls j) (host_told h) (host_told h') (host_told at)
      (record { made = omega (arith, disk.made) }) looks.1),
))
breaks_shift j h h' at disk (inr (inr settling)) = inr (inr (record {
  file = settling.file;
  end = settling.end;
  added = settling.added;
  frames = settling.frames;
  breaks =
      breaks_then [] (loading j ++ appends settling.file settling.end settling.added) (host_told h)
      (host_told h') (host_told at) (leaves_does h h' disk) settling.breaks;
}))

pub cut_shift : (h h' at : MemHostValue) → LeavesDisk h h' → StartCut h' at → StartCut h at
cut_shift h h' at disk cut j holds =
    breaks_shift j h h' at disk
    (cut j (crash_same (λ left. stands bundle_meaning left ≡ journal j) (host_told h)
    (host_told h') disk.files holds))

-- ---- behind a load

looks_change : (n : ℕ) → changes_of (replicate n None) ≡ []
looks_change zero = refl
looks_change (suc n) = looks_change n

loaded_all : (j : Journal) (a b : Calls) → LooksBehind a b → b.made ≡ more_calls (2 * length j + 6) a.made
    → MadeAll (loading j) a b
loaded_all j a b l made =
    let n = 2 * length j + 4 in
    let long : 2 * length j + 6 ≡ suc (suc (length (replicate {A = Option Change} n None))) =
    omega (arith, length-replicate {A = Option Change} n None) in
    record {
      more = l.barrier.more ++ l.looks.more;
      grown =
          l.looks.grown ∙ ap (λ (x : List Change). x ++ l.looks.more) l.barrier.grown
          ∙ append_assoc a.changes l.barrier.more l.looks.more;
      are =
          flat_map-append on_disk l.barrier.more l.looks.more
          ∙ ap (λ (x : List Change). x ++ of_disk l.looks.more) l.barrier.are
          ∙ ap (λ (x : List Change). changes_of barrier_calls ++ x) (l.looks.none ∙ sym (looks_change n))
          ∙ sym (flat_map-append option_to_list barrier_calls (replicate n None));
      made = made ∙ ap (λ (k : ℕ). more_calls k a.made) long;
    }

-- a load that was broken off
pub load_cut : (result : Result StoreValue LoadFault) (h h' : MemHostValue)
    → result ≡ Err load.DiskFault → LoadDoes result (host_told h) (host_told h')
    → ((j : Journal) → HoldsAfterCrash j h → MakesAtMost (load_calls j) (host_told h) (host_told h'))
    → StartCut h h'
load_cut result h h' is does most j holds =
    elim (subst (λ (r : Result StoreValue LoadFault). LoadDoes r (host_told h) (host_told h')) is does) [
      | inl barrier ↦ inl barrier
      | inr looks ↦ inr (inl (looks, most j holds))
    ]

-- settling behind a load that was broken off
pub settle_cut : (s : StoreValue) (h h' at : MemHostValue)
    → LooksBehind (calls_of h.disk) (calls_of h'.disk)
    → ((j : Journal) → HoldsAfterCrash j h → MakesJust (2 * length j + 6) (host_told h) (host_told h'))
    → BreaksAppends s.file s.end (host_told h') (host_told at) → StartCut h at
settle_cut s h h' at looks just broke j holds = inr (inr (record {
  file = s.file;
  end = s.end;
  added = broke.added;
  frames = broke.frames;
  breaks =
      breaks_then (loading j) (appends s.file s.end broke.added) (host_told h) (host_told h')
      (host_told at)
      (record { done = loaded_all j (calls_of h.disk) (calls_of h'.disk) looks (just j holds).made })
      broke.breaks;
}))

-- the fault of an answer that hands it on
pub same_fault : {A E : Type 0} (r : Result A E) (e f : E) → IsErrAnd r (λ x. x ≡ e) → IsErrOf r f → e ≡ f
same_fault (Ok a) e f is same = absurd is
same_fault (Err x) e f is same = sym is ∙ (let one : x ≡ f = cc in one)
