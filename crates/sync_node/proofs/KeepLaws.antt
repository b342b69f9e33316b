-- What work leaves, whatever was heard: one piece of it after another.
use Rattle.std.proofs.Common.{◌≡◌, refl, sym, subst, Result, Ok, Err, ℕ, ◌≤◌, List, [], ◌∷◌, ap, ◌∙◌, arith, inl, inr, Option, None, Some}
use Rattle.std.specs.Prelude.{IsErrAnd, IfErr, OnOk}
use Rattle.journal_state.specs.Whole.{StateValue}
use Rattle.sync_store.specs.Store.{IsStore, StoreValue}
use Rattle.sync_store.proofs.Gathered.{gathering_none}
use Rattle.outside.specs.Outside.{Outside}
use Rattle.sync_rules.specs.declared.entries.Entry.{Entry}
use Rattle.sync_rules.specs.declared.entries.Session.{Session}
use Rattle.sync_rules.specs.Clients.{Meaning}
use Rattle.sync_rules.specs.Facts.{Facts, Journal, after_all, session_at, takes_of}
use Rattle.sync_rules.specs.Legal.{Allowed}
use Rattle.sync_rules.specs.Sessions.{taken}
use Rattle.sync_rules.specs.Steps.{IsSettled}
use Rattle.sync_rules.specs.declared.entries.Out.{Out}
use Rattle.sync_ids.specs.declared.records.Record.{Record}
use Rattle.record_stream.specs.Reading.{AwaitsBytes}
use Rattle.sync_course.specs.Acts.{Act, commit_acts}
use Rattle.sync_rules.specs.Growth.{OnlySettles}
use Rattle.sync_rules.proofs.StepKinds.{all_settling_only, settled_stays, takes_one}
use Rattle.sync_store.specs.Ready.{IsReady}
use Rattle.sync_node.specs.declared.fault.Fault.{Fault}
use Rattle.sync_node.specs.declared.link.Link.{Link}
use Rattle.sync_node.specs.Batches.{AddStops, Breaks, CommitStops, Committed, Flushed, IsUndoneBy}
use Rattle.sync_node.specs.Batches.{JoinHalts, Joined, SettleHalts, Settled}
use Rattle.sync_node.specs.Causes.{LinkGoes}
use Rattle.sync_node.specs.Did.{Did, Underway, UnderwayBreaks}
use Rattle.sync_node.specs.Going.{LetsNothingFall}
use Rattle.sync_node.specs.Keeps.{GatherWorks, HasOrHalts, HasOrStops, IsReadyOrRose, LinkGathers, LinkKeeps, LinkWorks, OfLink, StaysGathering, StaysSettled, StoreGathers, StoreKeeps, WaitsOrRose, stop_of}
use Rattle.sync_node.specs.Working.{IsAble, MayGather}
use Rattle.sync_node.specs.OnRuns.{GreetsBy}
use Rattle.sync_node.specs.Sending.{SendsOn}
use Rattle.sync_node.specs.Starting.{SessionBegan, StartStops}
use Rattle.sync_course.specs.LinkTurns.{next_take, out_batch}
use Rattle.sync_node.proofs.CauseLaws.{link_kept, link_sent, link_then, rose_before}
use Rattle.sync_node.proofs.OutLaws.{still_so}
use Rattle.sync_node.proofs.TakeLaws.{IsNextTake}
use Rattle.sync_course.specs.declared.ends.LinkEnd.TheVariants as link_end
use Rattle.sync_node.specs.declared.fault.Fault.TheVariants as fault
use Rattle.sync_rules.specs.declared.entries.Entry.TheVariants as entry

-- what is said of a call that handed an error on
pub was : {T E : Type 0} (r : Result T E) (e : E) (P : Result T E → Type 0)
    → IsErrAnd r (λ y. y ≡ e) → P (Err e) → P r
was (Ok x) e P is p = absurd is
was (Err y) e P is p = subst (λ x. P (Err x)) (sym is) p

-- ---- answers

pub stops_later : (clients : Meaning) (s : StoreValue) (o o1 o2 : Outside) (e : Fault)
    → o.disk_faults ≤ o1.disk_faults → IsReadyOrRose clients s o1 o2 e
    → IsReadyOrRose clients s o o2 e
stops_later clients s o o1 o2 fault.Memory later ready = ready
stops_later clients s o o1 o2 fault.Full later ready = ready
stops_later clients s o o1 o2 fault.DiskFault later rose =
    rose_before o.disk_faults o1.disk_faults o2.disk_faults later rose

pub answered_then : (P Q : Type 0) (clients : Meaning) (s : StoreValue) (o o1 o2 : Outside)
    (stop : Option Fault) → (P → Q) → o.disk_faults ≤ o1.disk_faults
    → HasOrStops P clients s o1 o2 stop → HasOrStops Q clients s o o2 stop
answered_then P Q clients s o o1 o2 None then later p = then p
answered_then P Q clients s o o1 o2 (Some e) then later p =
    stops_later clients s o o1 o2 e later p

-- ---- a store

pub settled_then : (clients : Meaning) (s s1 s2 : StoreValue) (o1 o2 : Outside)
    → StaysSettled clients s s1 o1 → StaysSettled clients s1 s2 o2 → StaysSettled clients s s2 o2
settled_then clients s s1 s2 o1 o2 first second = record {
  ready = second.ready;
  settled = second.settled;
  same_sessions = second.same_sessions ∙ first.same_sessions;
  same_begun = second.same_begun ∙ first.same_begun;
}

-- ---- batches

-- what a fault of the store leaves
pub record StopsLeft (clients : Meaning) (s s' : StoreValue) (o o' : Outside)
    (e : Fault) : Type 0 where
  pub goes : LetsNothingFall o o'
  pub same_limit : s'.limit ≡ s.limit
  pub same_format : s'.format ≡ s.format
  pub stops : IsReadyOrRose clients s' o o' e

pub keeps_left : (P : Type 0) (clients : Meaning) (s s' : StoreValue) (o o' : Outside) (e : Fault)
    → StopsLeft clients s s' o o' e → StoreKeeps P clients s s' o o' (Some e)
keeps_left P clients s s' o o' e left = record {
  same_limit = left.same_limit;
  same_format = left.same_format;
  answered = left.stops;
}

left_by : (clients : Meaning) (acts : List Act) (s s' : StoreValue) (o o' : Outside) (e : Fault)
    → Did clients acts s s' o o' → IsReadyOrRose clients s' o o' e
    → StopsLeft clients s s' o o' e
left_by clients acts s s' o o' e did stops =
    record { goes = did.goes; same_limit = did.limit; same_format = did.format; stops = stops }

left_broken : (clients : Meaning) (may : Journal) (s s' : StoreValue) (o o' : Outside)
    → Breaks clients may s s' o o' → StopsLeft clients s s' o o' fault.DiskFault
left_broken clients may s s' o o' breaks = record {
  goes = breaks.did.goes;
  same_limit = breaks.did.limit;
  same_format = breaks.did.format;
  stops = breaks.rose;
}

pub commit_left : (clients : Meaning) (batch : List Entry) (s s' : StoreValue) (o o' : Outside)
    (e : Fault) → CommitStops clients batch s s' o o' e → StopsLeft clients s s' o o' e
commit_left clients batch s s' o o' fault.Memory stops =
    left_by clients [] s s' o o' fault.Memory stops.did stops.ready
commit_left clients batch s s' o o' fault.Full stops =
    left_by clients [] s s' o o' fault.Full stops.idle.did stops.idle.ready
commit_left clients batch s s' o o' fault.DiskFault stops =
    left_broken clients (batch ∷ []) s s' o o' stops

pub add_left : (clients : Meaning) (batch : List Entry) (s s' : StoreValue) (o o' : Outside)
    (e : Fault) → AddStops clients batch s s' o o' e → StopsLeft clients s s' o o' e
add_left clients batch s s' o o' fault.Memory stops =
    left_by clients (commit_acts stops.more) s s' o o' fault.Memory stops.did stops.ready
add_left clients batch s s' o o' fault.Full stops =
    left_by clients [] s s' o o' fault.Full stops.idle.did stops.idle.ready
add_left clients batch s s' o o' fault.DiskFault stops =
    left_broken clients stops.more s s' o o' stops.breaks

-- ---- a link

-- the link alone changed, and a call was made that leaves the files
pub work_link : {clients : Meaning} {n : ℕ} {l l' : Link} {s : StoreValue} {o o' : Outside}
    → LinkGoes n l l' o o' → o'.files ≡ o.files → IsAble clients n l.session s o
    → LinkKeeps clients n l l' s s o o' None
work_link {clients = clients} {s = s} goes same able = record {
  link = goes;
  store = record {
    same_limit = refl;
    same_format = refl;
    answered = record {
      ready = subst (λ f. IsReady clients s f) (sym same) able.ready;
      settled = able.settled;
      same_sessions = refl;
      same_begun = refl;
    };
  };
}

pub work_none : {clients : Meaning} {n : ℕ} {l l' : Link} {s : StoreValue} {o : Outside}
    → LinkGoes n l l' o o → IsAble clients n l.session s o → LinkKeeps clients n l l' s s o o None
work_none goes able = work_link goes refl able

pub work_then : {clients : Meaning} {n : ℕ} {l l1 l2 : Link} {s s1 s2 : StoreValue}
    {o o1 o2 : Outside} {stop : Option Fault} → LinkKeeps clients n l l1 s s1 o o1 None
    → LinkKeeps clients n l1 l2 s1 s2 o1 o2 stop → LinkKeeps clients n l l2 s s2 o o2 stop
work_then {clients = clients} {s = s} {s1 = s1} {s2 = s2} {o = o} {o1 = o1} {o2 = o2} {stop =
    stop} first second = record {
      link = link_then first.link second.link;
      store = record {
        same_limit = second.store.same_limit ∙ first.store.same_limit;
        same_format = second.store.same_format ∙ first.store.same_format;
        answered =
            answered_then (StaysSettled clients s1 s2 o2) (StaysSettled clients s s2 o2) clients s2
            o
            o1 o2 stop (settled_then clients s s1 s2 o1 o2 first.store.answered)
            first.link.goes.later second.store.answered;
      };
    }

-- what is wanting then is memory
pub memory_keeps : {clients : Meaning} {n : ℕ} {l l' : Link} {s s' : StoreValue} {o o' : Outside}
    → LinkKeeps clients n l l' s s' o o' None
    → LinkKeeps clients n l l' s s' o o' (Some fault.Memory)
memory_keeps keeps = record {
  link = keeps.link;
  store = record {
    same_limit = keeps.store.same_limit;
    same_format = keeps.store.same_format;
    answered = keeps.store.answered.ready;
  };
}

-- ---- work on a link, by what it answers

module _ {T : Type 0} {Went : OfLink T} {Stops : OfLink Fault} {clients : Meaning} {n : ℕ}
    {l l' : Link} {s s' : StoreValue} {o o' : Outside} (r : Result T Fault) where
  -- a fault that was handed on
  pub works_was : (e : Fault) → IsErrAnd r (λ y. y ≡ e) → Stops clients n l l' s s' o o' e
      → LinkKeeps clients n l l' s s' o o' (Some e)
      → LinkWorks Went Stops clients n l l' s s' o o' r
  works_was e is stops keeps =
      was r e (LinkWorks Went Stops clients n l l' s s' o o') is
      (record { went = tt; stopped = stops; keeps = keeps })

  -- what is wanting is memory
  pub works_halt : IsErrAnd r (λ y. y ≡ fault.Memory) → Stops clients n l l' s s' o o' fault.Memory
      → LinkKeeps clients n l l' s s' o o' None → LinkWorks Went Stops clients n l l' s s' o o' r
  works_halt is stops keeps = works_was fault.Memory is stops (memory_keeps keeps)

-- ---- what the next piece of work needs

pub able_kept : {clients : Meaning} {n : ℕ} {l l' : Link} {s s' : StoreValue} {o o' : Outside}
    → IsAble clients n l.session s o → LinkKeeps clients n l l' s s' o o' None
    → IsAble clients n l'.session s' o'
able_kept {l = l} {s' = s'} able keeps = record {
  ready = keeps.store.answered.ready;
  settled = keeps.store.answered.settled;
  known =
      subst (λ (y : Session). session_at s'.state.facts.sessions y.number ≡ Some y)
      (sym keeps.link.same_session)
      (ap (λ t. session_at t l.session.number) keeps.store.answered.same_sessions ∙ able.known);
  dialled = omega (arith, able.dialled, keeps.link.goes.links.dialled);
}

-- ---- an output

pub put_broke : (clients : Meaning) (n : ℕ) (l : Link) (s s' : StoreValue) (o o' : Outside)
    (batch : List Entry) (e : Fault) → CommitStops clients batch s s' o o' e
    → LinkKeeps clients n l l s s' o o' (Some e)
put_broke clients n l s s' o o' batch e stops =
    let left = commit_left clients batch s s' o o' e stops in
    record {
      link = link_kept left.goes refl refl;
      store = keeps_left (StaysSettled clients s s' o') clients s s' o o' e left;
    }

pub put_keeps : (clients : Meaning) (n now : ℕ) (what : Out) (l l' : Link)
    (s s1 : StoreValue) (o o1 o2 : Outside) (bytes : List ℕ) (batch : List Entry)
    → batch ≡ out_batch l.session.number now what → IsAble clients n l.session s o
    → Committed clients batch s s1 o o1 → SendsOn n bytes l l' o1 o2
    → LinkKeeps clients n l l' s s1 o o2 None
put_keeps clients n now what l l' s s1 o o1 o2 bytes batch is able commits sends =
    let facts : s1.state.facts ≡ after_all s.state.facts (out_batch l.session.number now what) =
    commits.facts ∙ ap (λ (b : List Entry). after_all s.state.facts b) is in
    record {
      link = link_then {l1 = l} (link_kept commits.did.goes refl refl) (link_sent sends);
      store = record {
        same_limit = commits.did.limit;
        same_format = commits.did.format;
        answered = record {
          ready = subst (λ f. IsReady clients s1 f) (sym sends.call.same_files) commits.ready;
          settled =
              subst (λ (f : Facts). IsSettled clients f) (sym facts)
              (settled_stays clients s.state.facts (out_batch l.session.number now what) refl
              able.settled);
          same_sessions = ap (λ (f : Facts). f.sessions) facts;
          same_begun = ap (λ (f : Facts). f.begun) facts;
        };
      };
    }

-- ---- work before what waits of it is added

halts_later : (clients : Meaning) (s : StoreValue) (o o1 o2 : Outside) (e : Fault)
    → o.disk_faults ≤ o1.disk_faults → WaitsOrRose clients s o1 o2 e → WaitsOrRose clients s o o2 e
halts_later clients s o o1 o2 fault.Memory later waits = waits
halts_later clients s o o1 o2 fault.Full later waits = waits
halts_later clients s o o1 o2 fault.DiskFault later rose =
    rose_before o.disk_faults o1.disk_faults o2.disk_faults later rose

gathered_then : (P Q : Type 0) (clients : Meaning) (s : StoreValue) (o o1 o2 : Outside)
    (stop : Option Fault) → (P → Q) → o.disk_faults ≤ o1.disk_faults
    → HasOrHalts P clients s o1 o2 stop → HasOrHalts Q clients s o o2 stop
gathered_then P Q clients s o o1 o2 None then later p = then p
gathered_then P Q clients s o o1 o2 (Some e) then later p =
    halts_later clients s o o1 o2 e later p

pub gathering_then : (clients : Meaning) (s s1 s2 : StoreValue) (o1 o2 : Outside)
    → StaysGathering clients s s1 o1 → StaysGathering clients s1 s2 o2
    → StaysGathering clients s s2 o2
gathering_then clients s s1 s2 o1 o2 first second = record {
  waits = second.waits;
  settled = second.settled;
  same_sessions = second.same_sessions ∙ first.same_sessions;
  same_begun = second.same_begun ∙ first.same_begun;
}

-- what a fault leaves of it
pub record HaltsLeft (clients : Meaning) (s s' : StoreValue) (o o' : Outside)
    (e : Fault) : Type 0 where
  pub goes : LetsNothingFall o o'
  pub same_limit : s'.limit ≡ s.limit
  pub same_format : s'.format ≡ s.format
  pub halts : WaitsOrRose clients s' o o' e

pub gathers_left : (P : Type 0) (clients : Meaning) (s s' : StoreValue) (o o' : Outside)
    (e : Fault) → HaltsLeft clients s s' o o' e → StoreGathers P clients s s' o o' (Some e)
gathers_left P clients s s' o o' e left = record {
  same_limit = left.same_limit;
  same_format = left.same_format;
  answered = left.halts;
}

halt_left : (clients : Meaning) (acts : List Act) (s s' : StoreValue) (o o' : Outside) (e : Fault)
    → Underway clients acts s s' o o' → WaitsOrRose clients s' o o' e
    → HaltsLeft clients s s' o o' e
halt_left clients acts s s' o o' e under halts =
    record { goes = under.goes; same_limit = under.limit; same_format = under.format; halts = halts }

broke_left : (clients : Meaning) (acts : List Act) (s s' : StoreValue) (o o' : Outside)
    → UnderwayBreaks clients acts s s' o o' → HaltsLeft clients s s' o o' fault.DiskFault
broke_left clients acts s s' o o' breaks = record {
  goes = breaks.goes;
  same_limit = breaks.limit;
  same_format = breaks.format;
  halts = breaks.rose;
}

pub join_left : (clients : Meaning) (batch : List Entry) (s s' : StoreValue) (o o' : Outside)
    (e : Fault) → JoinHalts clients batch s s' o o' e → HaltsLeft clients s s' o o' e
join_left clients batch s s' o o' fault.Memory halts =
    halt_left clients [] s s' o o' fault.Memory halts.under halts.waits
join_left clients batch s s' o o' fault.Full halts =
    halt_left clients [] s s' o o' fault.Full halts.idle.under halts.idle.waits
join_left clients batch s s' o o' fault.DiskFault halts =
    broke_left clients [] s s' o o' halts

settle_left : (clients : Meaning) (s s' : StoreValue) (o o' : Outside) (e : Fault)
    → SettleHalts clients s s' o o' e → HaltsLeft clients s s' o o' e
settle_left clients s s' o o' fault.Memory halts =
    halt_left clients (commit_acts halts.more) s s' o o' fault.Memory halts.under halts.waits
settle_left clients s s' o o' fault.Full halts = absurd halts
settle_left clients s s' o o' fault.DiskFault halts =
    broke_left clients (commit_acts halts.more) s s' o o' halts.breaks

pub settle_goes : (clients : Meaning) (s s' : StoreValue) (o o' : Outside)
    (r : Result (Unit {0}) Fault) → OnOk r (Settled clients s s' o o')
    → IfErr r (SettleHalts clients s s' o o') → LetsNothingFall o o'
settle_goes clients s s' o o' (Ok x) went halted = went.by.under.goes
settle_goes clients s s' o o' (Err e) went halted = (settle_left clients s s' o o' e halted).goes

settled_only : (clients : Meaning) (s s' : StoreValue) (o o' : Outside)
    → Settled clients s s' o o' → OnlySettles s.state.facts s'.state.facts
settled_only clients s s' o o' went =
    subst (λ (f : Facts). OnlySettles s.state.facts f) (sym went.by.facts)
    (all_settling_only clients s.state.facts went.by.more went.by.settling)

pub settle_keeps : (clients : Meaning) (s s' : StoreValue) (o o' : Outside)
    (r : Result (Unit {0}) Fault) → OnOk r (Settled clients s s' o o')
    → IfErr r (SettleHalts clients s s' o o')
    → StoreGathers (StaysGathering clients s s' o') clients s s' o o' (stop_of r)
settle_keeps clients s s' o o' (Ok x) went halted =
    let only = settled_only clients s s' o o' went in
    record {
      same_limit = went.by.under.limit;
      same_format = went.by.under.format;
      answered = record {
        waits = went.by.waits;
        settled = went.settled;
        same_sessions = only.sessions;
        same_begun = only.begun;
      };
    }
settle_keeps clients s s' o o' (Err e) went halted =
    gathers_left (StaysGathering clients s s' o') clients s s' o o' e
    (settle_left clients s s' o o' e halted)

pub gather_none : {clients : Meaning} {n : ℕ} {l l' : Link} {s : StoreValue} {o : Outside}
    → LinkGoes n l l' o o → MayGather clients n l.session s o
    → LinkGathers clients n l l' s s o o None
gather_none goes may = record {
  link = goes;
  store = record {
    same_limit = refl;
    same_format = refl;
    answered = record {
      waits = may.waits;
      settled = may.settled;
      same_sessions = refl;
      same_begun = refl;
    };
  };
}

pub gather_then : {clients : Meaning} {n : ℕ} {l l1 l2 : Link} {s s1 s2 : StoreValue}
    {o o1 o2 : Outside} {stop : Option Fault} → LinkGathers clients n l l1 s s1 o o1 None
    → LinkGathers clients n l1 l2 s1 s2 o1 o2 stop → LinkGathers clients n l l2 s s2 o o2 stop
gather_then {clients = clients} {s = s} {s1 = s1} {s2 = s2} {o = o} {o1 = o1} {o2 = o2} {stop =
    stop} first second = record {
      link = link_then first.link second.link;
      store = record {
        same_limit = second.store.same_limit ∙ first.store.same_limit;
        same_format = second.store.same_format ∙ first.store.same_format;
        answered =
            gathered_then (StaysGathering clients s1 s2 o2) (StaysGathering clients s s2 o2) clients
            s2
            o
            o1 o2 stop (gathering_then clients s s1 s2 o1 o2 first.store.answered)
            first.link.goes.later second.store.answered;
      };
    }

-- what is wanting then is memory
gather_memory : {clients : Meaning} {n : ℕ} {l l' : Link} {s s' : StoreValue} {o o' : Outside}
    → LinkGathers clients n l l' s s' o o' None
    → LinkGathers clients n l l' s s' o o' (Some fault.Memory)
gather_memory keeps = record {
  link = keeps.link;
  store = record {
    same_limit = keeps.store.same_limit;
    same_format = keeps.store.same_format;
    answered = keeps.store.answered.waits;
  };
}

module _ {T : Type 0} {Went : OfLink T} {Halts : OfLink Fault} {clients : Meaning} {n : ℕ}
    {l l' : Link} {s s' : StoreValue} {o o' : Outside} (r : Result T Fault) where
  -- a fault that was handed on
  pub gathers_was : (e : Fault) → IsErrAnd r (λ y. y ≡ e) → Halts clients n l l' s s' o o' e
      → LinkGathers clients n l l' s s' o o' (Some e)
      → GatherWorks Went Halts clients n l l' s s' o o' r
  gathers_was e is halts keeps =
      was r e (GatherWorks Went Halts clients n l l' s s' o o') is
      (record { went = tt; halted = halts; keeps = keeps })

  -- what is wanting is memory
  pub gathers_halt : IsErrAnd r (λ y. y ≡ fault.Memory)
      → Halts clients n l l' s s' o o' fault.Memory
      → LinkGathers clients n l l' s s' o o' None → GatherWorks Went Halts clients n l l' s s' o o' r
  gathers_halt is halts keeps = gathers_was fault.Memory is halts (gather_memory keeps)

-- what the next piece of it needs
pub may_kept : {clients : Meaning} {n : ℕ} {l l' : Link} {s s' : StoreValue} {o o' : Outside}
    → MayGather clients n l.session s o → LinkGathers clients n l l' s s' o o' None
    → MayGather clients n l'.session s' o'
may_kept {l = l} {s' = s'} may keeps = record {
  waits = keeps.store.answered.waits;
  settled = keeps.store.answered.settled;
  known =
      subst (λ (y : Session). session_at s'.state.facts.sessions y.number ≡ Some y)
      (sym keeps.link.same_session)
      (ap (λ t. session_at t l.session.number) keeps.store.answered.same_sessions ∙ may.known);
  dialled = omega (arith, may.dialled, keeps.link.goes.links.dialled);
}

pub may_begin : {clients : Meaning} {n : ℕ} {session : Session} {s : StoreValue} {o : Outside}
    → IsStore s → IsAble clients n session s o → MayGather clients n session s o
may_begin {clients = clients} {s = s} {o = o} store able = record {
  waits = gathering_none clients s o.files store able.ready;
  settled = able.settled;
  known = able.known;
  dialled = able.dialled;
}

-- ---- and what a flush leaves of it

flushed_link : {n : ℕ} {l l' : Link} {o o1 o2 : Outside} → LinkGoes n l l' o o1
    → LetsNothingFall o1 o2 → LinkGoes n l l' o o2
flushed_link {l' = l'} first goes = link_then {l1 = l'} first (link_kept goes refl refl)

module _ {clients : Meaning} {n : ℕ} {l l' : Link} {s s1 s2 : StoreValue} {o o1 o2 : Outside} where
  -- all of it was done
  pub gather_flushed : LinkGathers clients n l l' s s1 o o1 None → Flushed clients s1 s2 o1 o2
      → LinkKeeps clients n l l' s s2 o o2 None
  gather_flushed first flushed = record {
    link = flushed_link first.link flushed.goes;
    store = record {
      same_limit = flushed.keeps.limit ∙ first.store.same_limit;
      same_format = flushed.keeps.format ∙ first.store.same_format;
      answered = record {
        ready = flushed.ready;
        settled =
            subst (λ (v : StateValue). IsSettled clients v.facts) (sym flushed.keeps.state)
            first.store.answered.settled;
        same_sessions =
            ap (λ (v : StateValue). v.facts.sessions) flushed.keeps.state
            ∙ first.store.answered.same_sessions;
        same_begun =
            ap (λ (v : StateValue). v.facts.begun) flushed.keeps.state
            ∙ first.store.answered.same_begun;
      };
    };
  }

  -- it had been stopped
  pub gather_stopped : (e : Fault) → (e ≡ fault.DiskFault → ⊥)
      → LinkGathers clients n l l' s s1 o o1 (Some e) → Flushed clients s1 s2 o1 o2
      → LinkKeeps clients n l l' s s2 o o2 (Some e)
  gather_stopped fault.Memory other first flushed = record {
    link = flushed_link first.link flushed.goes;
    store = record {
      same_limit = flushed.keeps.limit ∙ first.store.same_limit;
      same_format = flushed.keeps.format ∙ first.store.same_format;
      answered = flushed.ready;
    };
  }
  gather_stopped fault.Full other first flushed = record {
    link = flushed_link first.link flushed.goes;
    store = record {
      same_limit = flushed.keeps.limit ∙ first.store.same_limit;
      same_format = flushed.keeps.format ∙ first.store.same_format;
      answered = flushed.ready;
    };
  }
  gather_stopped fault.DiskFault other first flushed = absurd (other refl)

  -- the disk failed
  pub gather_broke : {stop : Option Fault} → LinkGathers clients n l l' s s1 o o1 stop
      → UnderwayBreaks clients [] s1 s2 o1 o2
      → LinkKeeps clients n l l' s s2 o o2 (Some fault.DiskFault)
  gather_broke first breaks = record {
    link = flushed_link first.link breaks.goes;
    store = record {
      same_limit = breaks.limit ∙ first.store.same_limit;
      same_format = breaks.format ∙ first.store.same_format;
      answered =
          rose_before o.disk_faults o1.disk_faults o2.disk_faults first.link.goes.later breaks.rose;
    };
  }

-- it had failed before
pub gather_failed : {clients : Meaning} {n : ℕ} {l l' : Link} {s s' : StoreValue} {o o' : Outside}
    → LinkGathers clients n l l' s s' o o' (Some fault.DiskFault)
    → LinkKeeps clients n l l' s s' o o' (Some fault.DiskFault)
gather_failed keeps = record {
  link = keeps.link;
  store = record {
    same_limit = keeps.store.same_limit;
    same_format = keeps.store.same_format;
    answered = keeps.store.answered;
  };
}

-- ---- a record

pub take_keeps : {clients : Meaning} {session : ℕ} {r : Record} {s mid s' : StoreValue}
    {o m o' : Outside} {batch : List Entry} {stop : Option Fault}
    → IsNextTake clients session r s batch → Joined clients batch s mid o m
    → StoreGathers (StaysGathering clients mid s' o') clients mid s' m o' stop
    → StoreGathers (StaysGathering clients s s' o') clients s s' o o' stop
take_keeps {clients = clients} {session = session} {r = r} {s = s} {mid = mid} {s' = s'} {o = o} {m =
    m} {o' = o'} {stop = stop} take joined keeps =
    let one =
    takes_one clients s.state.facts session (takes_of s.state.facts.takes session)
    (taken s.state.facts session r)
    (subst (λ (b : List Entry). Allowed clients s.state.facts b) take.is take.allowed) in
    let facts : mid.state.facts ≡ after_all s.state.facts (next_take s.state.facts session r) =
    joined.facts ∙ ap (λ (b : List Entry). after_all s.state.facts b) take.is in
    record {
      same_limit = keeps.same_limit ∙ joined.under.limit;
      same_format = keeps.same_format ∙ joined.under.format;
      answered =
          gathered_then (StaysGathering clients mid s' o') (StaysGathering clients s s' o') clients s'
          o
          m o' stop
          (λ stays. record {
            waits = stays.waits;
            settled = stays.settled;
            same_sessions =
                stays.same_sessions ∙ (ap (λ (f : Facts). f.sessions) facts ∙ one.sessions);
            same_begun = stays.same_begun ∙ (ap (λ (f : Facts). f.begun) facts ∙ one.begun);
          }) joined.under.goes.later keeps.answered;
    }

-- ---- a session that begins

-- the batch of a session
abbrev pub session_batch : Session → List Entry
session_batch x = entry.Session x ∷ []

pub has_begun : (clients : Meaning) (n : ℕ) (x begun : Session) (first second : List ℕ)
    (l0 l : Link) (s s1 : StoreValue) (o o1 o2 : Outside) (batch : List Entry)
    → batch ≡ session_batch x → IsSettled clients s.state.facts
    → Committed clients batch s s1 o o1
    → Some begun ≡ session_at s1.state.facts.sessions x.number → begun.number ≡ x.number
    → l0.session ≡ begun → AwaitsBytes l0.reader → l0.end ≡ link_end.Going
    → GreetsBy n first second l0 l o1 o2 → LinkGoes n l0 l o1 o2
    → SessionBegan clients n x l s s1 o o2
has_begun clients n x begun first second l0 l s s1 o o1 o2 batch is settled commits found numbered session awaits going greets goes =
    let facts : s1.state.facts ≡ after_all s.state.facts (session_batch x) =
    commits.facts ∙ ap (λ (b : List Entry). after_all s.state.facts b) is in
    let same : l.session ≡ begun = goes.same_session ∙ session in
    let there : session_at s1.state.facts.sessions begun.number ≡ Some begun =
    ap (λ k. session_at s1.state.facts.sessions k) numbered ∙ sym found in
    record {
      ready = subst (λ f. IsReady clients s1 f) (sym greets.same_files) commits.ready;
      settled =
          subst (λ (f : Facts). IsSettled clients f) (sym facts)
          (settled_stays clients s.state.facts (session_batch x) refl settled);
      numbered = ap (λ (y : Session). y.number) same ∙ numbered;
      known =
          subst (λ (y : Session). session_at s1.state.facts.sessions y.number ≡ Some y) (sym same)
          there;
      waits = still_so AwaitsBytes l0 l greets.sent (λ _. awaits);
      cause = λ failed.
          let all = link_then {l = l0} {l1 = l0} (link_kept commits.did.goes refl refl) goes in
          elim (all.cause failed) [
            | inl before ↦
                absurd (let e : link_end.Going ≡ link_end.Failed = sym going ∙ before in cc)
            | inr rose ↦ rose
          ];
    }

pub start_stops : {H : Type 0} (clients : Meaning) (batch : List Entry) (s s' : StoreValue)
    (host host' : H) (o o' : Outside) (e : Fault) → CommitStops clients batch s s' o o' e
    → IsUndoneBy s s' host host' e → StartStops clients s s' host host' o o' e
start_stops clients batch s s' host host' o o' fault.Memory stops undone =
    record { ready = stops.ready; undone = undone }
start_stops clients batch s s' host host' o o' fault.Full stops undone =
    record { ready = stops.idle.ready; undone = undone }
start_stops clients batch s s' host host' o o' fault.DiskFault stops undone = stops.rose
