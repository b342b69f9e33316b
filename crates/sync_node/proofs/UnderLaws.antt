-- Acts whose batches wait: one behind the other, and what a flush makes of them.
use Rattle.std.proofs.Common.{◌≡◌, ◌<◌, true, false, List, [], ◌∷◌, ◌++◌, append-nil, refl, sym, ◌∙◌, ap, subst, arith}
use Rattle.outside.specs.Faults.{CountRose}
use Rattle.outside.specs.Outside.{Outside}
use Rattle.outside.proofs.CallSteps.{run_none, run_then}
use Rattle.sync_rules.specs.Clients.{Meaning}
use Rattle.sync_rules.specs.declared.entries.Entry.{Entry}
use Rattle.sync_rules.specs.Facts.{Journal, after_all}
use Rattle.entry_codec.specs.Payloads.{payload_len}
use Rattle.entry_codec.specs.Standing.{room_of}
use Rattle.journal_state.specs.Whole.{StateValue}
use Rattle.sync_store.specs.Commits.{needed}
use Rattle.sync_store.specs.Fitting.{FitsSome, ImagesStand}
use Rattle.sync_store.specs.Gathering.{AddsBehind, GathersBehind, IsAdded, KeepsJournal}
use Rattle.sync_store.specs.Ready.{IsReady}
use Rattle.sync_store.specs.Runs.{RunsBy}
use Rattle.sync_store.specs.Store.{IsStore, StoreValue, format_meant, written_in}
use Rattle.sync_store.proofs.Behind.{added_all, behind_adds, behind_none, behind_then}
use Rattle.sync_course.specs.Acts.{Act, AreQuiet, Does, batches_in}
use Rattle.sync_course.specs.Events.{Pass}
use Rattle.sync_course.specs.Owing.{Owing}
use Rattle.sync_course.specs.Paths.{Path}
use Rattle.sync_course.proofs.ActLaws.{batches_in-append, quiet_append, quiet_behind}
use Rattle.sync_course.proofs.PathLaws.{path_parts, path_then}
use Rattle.sync_node.specs.Batches.{Flushed}
use Rattle.sync_node.specs.Did.{Did, Underway, UnderwayBreaks}
use Rattle.sync_node.specs.Went.{Goes, Halted, HaltsBroken, HasSoon, Stopped, StopsBroken, Went}
use Rattle.sync_node.specs.declared.fault.Fault.{Fault}
use Rattle.sync_node.specs.declared.fault.Fault.TheVariants as fault
use Rattle.sync_node.proofs.CauseLaws.{rose_before}
use Rattle.sync_node.proofs.PrimLaws.{DidFront, did_quiet_acts, did_some_quiet}
use Rattle.sync_node.proofs.SafeLaws.{goes_none}
use Rattle.sync_node.proofs.WorkLaws.{goes_then}

-- ---- acts, one behind the other

pub under_none : ImagesStand → (clients : Meaning) (s : StoreValue) (o : Outside)
    → Underway clients [] s s o o
under_none images clients s o = record {
  quiet = tt;
  gathers = behind_none clients images s o;
  run = run_none o;
  goes = goes_none o;
  limit = refl;
  format = refl;
}

pub under_then : {clients : Meaning} {acts bs : List Act} {s s1 s2 : StoreValue}
    {o o1 o2 : Outside} → Underway clients acts s s1 o o1 → Underway clients bs s1 s2 o1 o2
    → Underway clients (acts ++ bs) s s2 o o2
under_then {clients = clients} {acts = acts} {bs = bs} {s = s} {s1 = s1} {s2 = s2} {o = o} {o1 =
    o1} {o2 = o2} first second = record {
      quiet = quiet_append acts bs first.quiet second.quiet;
      gathers =
          subst (λ (l : Journal). GathersBehind clients s s2 o o2 l) (sym (batches_in-append acts bs))
          (behind_then clients s s1 s2 o o1 o2 (batches_in acts) (batches_in bs) first.gathers
          second.gathers);
      run = run_then o o1 o2 first.run second.run;
      goes = goes_then o o1 o2 first.goes second.goes;
      limit = second.limit ∙ first.limit;
      format = second.format ∙ first.format;
    }

-- behind what calls nothing
pub under_passed : {clients : Meaning} {acts : List Act} {s s' : StoreValue} {o o' : Outside}
    → Underway clients acts s s' o o' → Underway clients (Does Pass ∷ acts) s s' o o'
under_passed under = record {
  quiet = (tt, under.quiet);
  gathers = under.gathers;
  run = under.run;
  goes = under.goes;
  limit = under.limit;
  format = under.format;
}

-- a call of the disk failed behind others
pub under_breaks : {clients : Meaning} {acts bs : List Act} {s s1 s2 : StoreValue}
    {o o1 o2 : Outside} → Underway clients acts s s1 o o1
    → UnderwayBreaks clients bs s1 s2 o1 o2 → UnderwayBreaks clients (acts ++ bs) s s2 o o2
under_breaks {clients = clients} {acts = acts} {bs = bs} {s = s} {s1 = s1} {s2 = s2} {o = o} {o1 =
    o1} {o2 = o2} first second = record {
      quiet = quiet_append acts bs first.quiet second.quiet;
      adds =
          subst (λ (l : Journal). AddsBehind clients s s2 o o2 l) (sym (batches_in-append acts bs))
          (behind_adds clients s s1 s2 o o1 o2 (batches_in acts) (batches_in bs) first.gathers
          second.adds);
      shut = second.shut;
      run = run_then o o1 o2 first.run second.run;
      goes = goes_then o o1 o2 first.goes second.goes;
      limit = second.limit ∙ first.limit;
      format = second.format ∙ first.format;
      rose = rose_before _ _ _ first.goes.later second.rose;
    }

-- ---- what a flush makes of them, where none waited before

added_runs : (clients : Meaning) (acts : List Act) (s s' : StoreValue) (o o' : Outside)
    → IsStore s → IsReady clients s o.files → (bs : Journal) → bs ≡ batches_in acts
    → AddsBehind clients s s' o o' bs → RunsBy clients s s' o o' (batches_in acts)
added_runs clients acts s s' o o' store ready bs is adds =
    subst (λ (l : Journal). RunsBy clients s s' o o' l) is
    (added_all clients s s' o o' bs store ready.still_open ready.none_waits adds).runs

module _ {clients : Meaning} {acts : List Act} {s : StoreValue} {o : Outside} (store : IsStore s)
    (ready : IsReady clients s o.files) where
  -- they are done
  pub under_flushed : {s1 s2 : StoreValue} {o1 o2 : Outside} → Underway clients acts s s1 o o1
      → Flushed clients s1 s2 o1 o2 → Did clients acts s s2 o o2
  under_flushed {s1 = s1} {s2 = s2} {o1 = o1} {o2 = o2} under flushed =
      did_quiet_acts clients s s2 o o2 acts under.quiet ready.fits
      (added_runs clients acts s s2 o o2 store ready (batches_in acts ++ [])
      (append-nil (batches_in acts))
      (behind_adds clients s s1 s2 o o1 o2 (batches_in acts) [] under.gathers flushed.adds))
      flushed.still_open

  -- some of them are, where a call of the disk failed
  pub under_broke : {s' : StoreValue} {o' : Outside} → UnderwayBreaks clients acts s s' o o'
      → DidFront clients acts s s' o o'
  under_broke {s' = s'} {o' = o'} breaks =
      did_some_quiet clients s s' o o' acts breaks.quiet ready.fits
      (added_runs clients acts s s' o o' store ready (batches_in acts) refl breaks.adds)
      ready.still_open breaks.shut

-- ---- on a machine

module _ (clients : Meaning) {P : Type 0} (step : P → Act → P → Type 0) where
  pub gone_none : ImagesStand → (p : P) (s : StoreValue) (o : Outside)
      → Goes clients step p p s s o o
  gone_none images p s o =
      record { acts = []; path = refl; under = under_none images clients s o }

  pub gone_then : (p q r : P) (s s1 s2 : StoreValue) (o o1 o2 : Outside)
      → Goes clients step p q s s1 o o1 → Goes clients step q r s1 s2 o1 o2
      → Goes clients step p r s s2 o o2
  gone_then p q r s s1 s2 o o1 o2 first second = record {
    acts = first.acts ++ second.acts;
    path = path_then step p q r first.acts second.acts first.path second.path;
    under = under_then first.under second.under;
  }

  -- what was under way was added
  pub gone_flushed : (p q : P) (s s1 s2 : StoreValue) (o o1 o2 : Outside) → IsStore s
      → IsReady clients s o.files → Goes clients step p q s s1 o o1
      → Flushed clients s1 s2 o1 o2 → Went clients step p q s s2 o o2
  gone_flushed p q s s1 s2 o o1 o2 store ready goes flushed = record {
    acts = goes.acts;
    path = goes.path;
    did = under_flushed store ready goes.under flushed;
  }

-- what the journal needs with a batch is the same behind a flush
needed_kept : (s s1 : StoreValue) (batch : List Entry) → KeepsJournal s s1
    → needed s1 batch ≡ needed s batch
needed_kept s s1 batch same =
    omega (
      arith,
      same.end,
      ap (λ n. payload_len (format_meant n) batch) same.format,
      ap (λ n. room_of (format_meant n) (after_all s1.state.facts batch)) same.format,
      ap (λ (v : StateValue). room_of (written_in s) (after_all v.facts batch)) same.state,
    )

pub over_flushed : (s s1 : StoreValue) (batch : List Entry) → KeepsJournal s s1
    → s.limit < needed s batch → s1.limit < needed s1 batch
over_flushed s s1 batch same over =
    omega (arith, over, same.limit, needed_kept s s1 batch same)

-- ---- where work halted

module _ (clients : Meaning) {Q : Type 0} (step : Owing Q → Act → Owing Q → Type 0)
    (Has : Owing Q → Type 0) where
  -- behind other work
  pub halted_then : (p q : Owing Q) (s s1 s2 : StoreValue) (o o1 o2 : Outside) (e : Fault)
      → Goes clients step p q s s1 o o1 → Halted clients step Has q s1 s2 o1 o2 e
      → Halted clients step Has p s s2 o o2 e
  halted_then p q s s1 s2 o o1 o2 fault.Memory first second = record {
    to = second.to;
    went = gone_then clients step p q second.to s s1 s2 o o1 o2 first second.went;
    clear = second.clear;
    stands = second.stands;
    waits = second.waits;
  }
  halted_then p q s s1 s2 o o1 o2 fault.Full first second = record {
    to = second.to;
    went = gone_then clients step p q second.to s s1 s2 o o1 o2 first second.went;
    clear = second.clear;
    stands = second.stands;
    waits = second.waits;
    batch = second.batch;
    next = second.next;
    steps = second.steps;
    over = second.over;
  }
  halted_then p q s s1 s2 o o1 o2 fault.DiskFault first second = record {
    to = second.to;
    acts = first.acts ++ second.acts;
    path = path_then step p q second.to first.acts second.acts first.path second.path;
    breaks = under_breaks first.under second.breaks;
    stands = second.stands;
  }

  -- a call of the disk failed behind what was under way, and the code has what stands there
  pub halted_broken : (p q : Owing Q) (s s1 s2 : StoreValue) (o o1 o2 : Outside)
      → Goes clients step p q s s1 o o1 → HasSoon step Has q
      → UnderwayBreaks clients [] s1 s2 o1 o2 → HaltsBroken clients step Has p s s2 o o2
  halted_broken p q s s1 s2 o o1 o2 goes stands breaks = record {
    to = q;
    acts = goes.acts;
    path = goes.path;
    breaks =
        subst (λ (acts : List Act). UnderwayBreaks clients acts s s2 o o2) (append-nil goes.acts)
        (under_breaks goes.under breaks);
    stands = stands;
  }

  -- what was under way was added, where memory or room was wanting
  pub stopped_flushed : (p : Owing Q) (s s1 s2 : StoreValue) (o o1 o2 : Outside) → IsStore s
      → IsReady clients s o.files → (e : Fault) → (e ≡ fault.DiskFault → ⊥)
      → Halted clients step Has p s s1 o o1 e → Flushed clients s1 s2 o1 o2
      → Stopped clients step Has p s s2 o o2 e
  stopped_flushed p s s1 s2 o o1 o2 store ready fault.Memory other halts flushed = record {
    to = halts.to;
    went = gone_flushed clients step p halts.to s s1 s2 o o1 o2 store ready halts.went flushed;
    clear = halts.clear;
    stands = halts.stands;
    ready = flushed.ready;
  }
  stopped_flushed p s s1 s2 o o1 o2 store ready fault.Full other halts flushed = record {
    to = halts.to;
    went = gone_flushed clients step p halts.to s s1 s2 o o1 o2 store ready halts.went flushed;
    clear = halts.clear;
    stands = halts.stands;
    ready = flushed.ready;
    batch = halts.batch;
    next = halts.next;
    steps = halts.steps;
    over = over_flushed s1 s2 halts.batch flushed.keeps halts.over;
  }
  stopped_flushed p s s1 s2 o o1 o2 store ready fault.DiskFault other halts flushed =
      absurd (other refl)

  -- where the disk failed some of it stands
  pub stopped_broken : (p : Owing Q) (s s' : StoreValue) (o o' : Outside) → IsStore s
      → IsReady clients s o.files → HaltsBroken clients step Has p s s' o o'
      → StopsBroken clients step Has p s s' o o'
  stopped_broken p s s' o o' store ready halts =
      let some = under_broke store ready halts.breaks in
      let whole = subst (λ (acts : List Act). Path step p acts halts.to) some.parts halts.path in
      let mid = path_parts step p halts.to some.first some.second whole in
      let quiet =
      quiet_behind some.first some.second
      (subst (λ (acts : List Act). AreQuiet acts) some.parts halts.breaks.quiet) in
      record {
        to = mid.0;
        acts = some.first;
        path = mid.1;
        next = some.second;
        quiet = quiet;
        beyond = halts.to;
        goes_on = mid.2;
        did = some.did;
        stands = record {
          acts = some.second ++ halts.stands.acts;
          quiet = quiet_append some.second halts.stands.acts quiet halts.stands.quiet;
          next = halts.stands.next;
          path =
              path_then step mid.0 halts.to halts.stands.next some.second halts.stands.acts mid.2
              halts.stands.path;
          has = halts.stands.has;
        };
        rose = halts.breaks.rose;
      }
