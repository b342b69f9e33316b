-- Where calls led, one behind the other, on any machine whose steps are acts.
use Rattle.std.proofs.Common.{◌≡◌, ◌⊎◌, List, [], ◌∷◌, ◌++◌, refl, sym, subst, inl, inr}
use Rattle.outside.specs.Faults.{CountRose}
use Rattle.outside.specs.Outside.{Outside}
use Rattle.sync_rules.specs.Clients.{Meaning}
use Rattle.sync_store.specs.Ready.{IsReady}
use Rattle.sync_store.specs.Store.{StoreValue}
use Rattle.sync_rules.specs.declared.entries.Entry.{Entry}
use Rattle.sync_rules.specs.Facts.{Journal}
use Rattle.sync_course.specs.Acts.{Act, Does, commit_acts}
use Rattle.sync_course.specs.Events.{Commit}
use Rattle.sync_course.specs.Owing.{Owing, OwesNothing}
use Rattle.sync_course.proofs.PathLaws.{path_one, path_then}
use Rattle.sync_node.specs.declared.fault.Fault.{Fault}
use Rattle.sync_node.specs.declared.fault.Fault.TheVariants as fault
use Rattle.sync_node.specs.Batches.{CommitStops, NodeStaysIdle}
use Rattle.sync_node.specs.Did.{Did, DidSome}
use Rattle.sync_node.specs.Went.{HasSoon, Stopped, StopsBroken, Went}
use Rattle.sync_node.proofs.DidLaws.{did_none, did_then, some_then}
use Rattle.sync_node.proofs.CauseLaws.{rose_before}

-- a front of one batch has it or not
front_of_one : (b : List Entry) (front others : Journal) → b ∷ [] ≡ front ++ others
    → ((front ≡ []) × (others ≡ b ∷ [])) ⊎ ((front ≡ b ∷ []) × (others ≡ []))
front_of_one b [] others parts = inl (refl, sym parts)
front_of_one b (x ∷ []) others parts =
    let one : b ∷ [] ≡ x ∷ others = parts in
    inr (cc, cc)
front_of_one b (x ∷ (y ∷ ys)) others parts =
    let two : b ∷ [] ≡ x ∷ (y ∷ (ys ++ others)) = parts in
    cc

module _ {P : Type 0} (clients : Meaning) (step : P → Act → P → Type 0) where
  pub went_none : (p : P) (s : StoreValue) (o : Outside) → Went clients step p p s s o o
  went_none p s o = record { acts = []; path = refl; did = did_none clients s o }

  -- one act
  pub went_one : (p q : P) (a : Act) (s s' : StoreValue) (o o' : Outside) → step p a q
      → Did clients (a ∷ []) s s' o o' → Went clients step p q s s' o o'
  went_one p q a s s' o o' steps did = record {
    acts = a ∷ [];
    path = path_one step p q a steps;
    did = did;
  }

  pub went_then : (p q r : P) (s s1 s2 : StoreValue) (o o1 o2 : Outside)
      → Went clients step p q s s1 o o1 → Went clients step q r s1 s2 o1 o2
      → Went clients step p r s s2 o o2
  went_then p q r s s1 s2 o o1 o2 first second = record {
    acts = first.acts ++ second.acts;
    path = path_then step p q r first.acts second.acts first.path second.path;
    did = did_then first.did second.did;
  }

-- ---- where calls stopped

-- what has something now has it soon
pub has_now : {P : Type 0} (step : P → Act → P → Type 0) (Has : P → Type 0) (p : P) → Has p
    → HasSoon step Has p
has_now step Has p has = record { acts = []; quiet = tt; next = p; path = refl; has = has }

module _ {Q : Type 0} (clients : Meaning) (step : Owing Q → Act → Owing Q → Type 0)
    (Has : Owing Q → Type 0) where
  -- calls stopped behind others
  pub stopped_then : (p q : Owing Q) (s s1 s2 : StoreValue) (o o1 o2 : Outside) (e : Fault)
      → Went clients step p q s s1 o o1 → Stopped clients step Has q s1 s2 o1 o2 e
      → Stopped clients step Has p s s2 o o2 e
  stopped_then p q s s1 s2 o o1 o2 fault.Memory first second = record {
    to = second.to;
    went = went_then clients step p q second.to s s1 s2 o o1 o2 first second.went;
    clear = second.clear;
    stands = second.stands;
    ready = second.ready;
  }
  stopped_then p q s s1 s2 o o1 o2 fault.Full first second = record {
    to = second.to;
    went = went_then clients step p q second.to s s1 s2 o o1 o2 first second.went;
    clear = second.clear;
    stands = second.stands;
    ready = second.ready;
    batch = second.batch;
    next = second.next;
    steps = second.steps;
    over = second.over;
  }
  stopped_then p q s s1 s2 o o1 o2 fault.DiskFault first second = record {
    to = second.to;
    acts = first.acts ++ second.acts;
    path = path_then step p q second.to first.acts second.acts first.path second.path;
    next = second.next;
    quiet = second.quiet;
    beyond = second.beyond;
    goes_on = second.goes_on;
    did = some_then first.did second.did;
    stands = second.stands;
    rose = rose_before _ _ _ first.did.goes.later second.rose;
  }

  -- memory was wanting before anything was done
  pub no_memory : (p : Owing Q) (s : StoreValue) (o : Outside) → OwesNothing p
      → IsReady clients s o.files
      → HasSoon step Has p → Stopped clients step Has p s s o o fault.Memory
  no_memory p s o clear ready stands = record {
    to = p;
    went = went_none clients step p s o;
    clear = clear;
    stands = stands;
    ready = ready;
  }

  -- a batch was to be committed where nothing was owed, and what the code has stands behind it
  module _ (p q : Owing Q) (b : List Entry) (clear : OwesNothing p)
      (steps : step p (Does (Commit b)) q) (has : Has q)
      (s s' : StoreValue) (o o' : Outside) where
    will_stand : HasSoon step Has p
    will_stand = record {
      acts = Does (Commit b) ∷ [];
      quiet = (tt, tt);
      next = q;
      path = path_one step p q (Does (Commit b)) steps;
      has = has;
    }

    no_calls : NodeStaysIdle clients s s' o o' → Went clients step p p s s' o o'
    no_calls idle = record { acts = []; path = refl; did = idle.did }

    -- the batch does not stand, or it does
    none_stands : DidSome clients [] (Does (Commit b) ∷ []) s s' o o'
        → CountRose o.disk_faults o'.disk_faults → StopsBroken clients step Has p s s' o o'
    none_stands did rose = record {
      to = p;
      acts = [];
      path = refl;
      next = Does (Commit b) ∷ [];
      quiet = (tt, tt);
      beyond = q;
      goes_on = path_one step p q (Does (Commit b)) steps;
      did = did;
      stands = will_stand;
      rose = rose;
    }

    one_stands : DidSome clients (Does (Commit b) ∷ []) [] s s' o o'
        → CountRose o.disk_faults o'.disk_faults → StopsBroken clients step Has p s s' o o'
    one_stands did rose = record {
      to = q;
      acts = Does (Commit b) ∷ [];
      path = path_one step p q (Does (Commit b)) steps;
      next = [];
      quiet = tt;
      beyond = q;
      goes_on = refl;
      did = did;
      stands = has_now step Has q has;
      rose = rose;
    }

    by_front : (front others : Journal) → b ∷ [] ≡ front ++ others
        → DidSome clients (commit_acts front) (commit_acts others) s s' o o'
        → CountRose o.disk_faults o'.disk_faults → StopsBroken clients step Has p s s' o o'
    by_front front others parts did rose = elim (front_of_one b front others parts) [
      | inl none ↦
          none_stands
          (subst (λ (bs : Journal). DidSome clients [] (commit_acts bs) s s' o o') none.1
          (subst (λ (bs : Journal). DidSome clients (commit_acts bs) (commit_acts others) s s' o o')
          none.0 did))
          rose
      | inr one ↦
          one_stands
          (subst (λ (bs : Journal). DidSome clients (Does (Commit b) ∷ []) (commit_acts bs) s s' o o')
          one.1
          (subst (λ (bs : Journal). DidSome clients (commit_acts bs) (commit_acts others) s s' o o')
          one.0 did))
          rose
    ]

    pub commit_stopped : (e : Fault) → CommitStops clients b s s' o o' e
        → Stopped clients step Has p s s' o o' e
    commit_stopped fault.Memory stops = record {
      to = p;
      went = no_calls stops;
      clear = clear;
      stands = will_stand;
      ready = stops.ready;
    }
    commit_stopped fault.Full stops = record {
      to = p;
      went = no_calls stops.idle;
      clear = clear;
      stands = will_stand;
      ready = stops.idle.ready;
      batch = b;
      next = q;
      steps = steps;
      over = stops.over;
    }
    commit_stopped fault.DiskFault stops =
        by_front stops.front stops.others stops.parts stops.did stops.rose
