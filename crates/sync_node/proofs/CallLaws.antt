-- What the calls of a node over a store answer and leave, of the work that they hand on.
use Rattle.std.proofs.Common.{◌≡◌, ℕ, ◌<◌, Bool, true, false, List, length, get_or, set, refl, sym}
use Rattle.std.proofs.Common.{ap, ◌∙◌, subst, inl, arith, None, Some, Result, Ok, Err}
use Rattle.std.specs.Prelude.{IfErr, IfOk, IfSome, IsErrOf, OnOk}
use Rattle.std.specs.List.{slice_get}
use Rattle.std.proofs.lemmas.List.{length-set}
use Rattle.std.proofs.lemmas.Option.{slice_get-get_or}
use Rattle.outside.specs.Outside.{Outside}
use Rattle.sync_rules.specs.declared.entries.Entry.{Entry}
use Rattle.sync_rules.specs.Clients.{Meaning}
use Rattle.sync_store.specs.Store.{StoreValue}
use Rattle.sync_node.specs.declared.fault.Fault.{Fault}
use Rattle.sync_node.specs.declared.fault.Fault.TheVariants as node_fault
use Rattle.sync_node.specs.declared.fault.NodeFault.{NodeFault}
use Rattle.sync_node.specs.declared.fault.NodeFault.TheVariants as fault
use Rattle.sync_node.specs.declared.link.Link.{Link}
use Rattle.sync_course.specs.Free.{IsPlain}
use Rattle.sync_node.specs.Batches.{AddStops, Added, IsUndone}
use Rattle.sync_node.specs.Calls.{AddingLeaves, AsideGoes, CallAnswers, CallStops, StopsBy}
use Rattle.sync_node.specs.Causes.{LinksGo}
use Rattle.sync_node.specs.Faults.{answer_of, has_failed}
use Rattle.sync_node.specs.Keeps.{HasOrStops, IsReadyOrRose, LinkKeeps, LinksKeep, LinksWork, OfLinks, StayAttached, stop_of}
use Rattle.sync_node.specs.Node.{AnswersAndCloses, AreAttached, AsideValue, IsAside, KeepsSessions, MayGoOn, MayRun, NodeValue, node_with}
use Rattle.sync_node.specs.OnRuns.{ByFault}
use Rattle.sync_node.specs.Sending.{ClosesSome}
use Rattle.sync_node.specs.Working.{HasGivenItems, MayWork}
use Rattle.sync_node.proofs.BatchLaws.{add_attached, add_may}
use Rattle.sync_node.proofs.CauseLaws.{all_attached, closed_attached, link_able, links_go_closed}
use Rattle.sync_node.proofs.CauseLaws.{links_go_on, links_go_same, links_go_set, links_may}
use Rattle.sync_node.proofs.CauseLaws.{same_long, sessions_closed, sessions_set}
use Rattle.sync_node.proofs.KeepLaws.{add_left, keeps_left, stops_later}
use Rattle.sync_node.proofs.RunActLaws.{InRun}
use Rattle.sync_node.proofs.SafeLaws.{goes_none}

-- ---- the links of a node, one after another

pub links_keep_none : {clients : Meaning} {links : List Link} {s : StoreValue} {o : Outside}
    → MayGoOn clients links s o → LinksKeep clients links links s s o o None
links_keep_none {links = links} {o = o} may = record {
  go = links_go_same links links o o refl (goes_none o);
  same_sessions = refl;
  store = record {
    same_limit = refl;
    same_format = refl;
    answered = record { may = may; attached = λ first attached. attached };
  };
}

-- one of the links was worked on; where that was not stopped its reader waits for bytes
pub links_keep_next : {T : Type 0} {clients : Meaning} {place : ℕ} {links links1 : List Link}
    {l l' : Link} {s s1 s2 : StoreValue} {o o1 o2 : Outside} (work : Result T Fault)
    → LinksKeep clients links links1 s s1 o o1 None → slice_get links1 place ≡ Some l
    → LinkKeeps clients place l l' s1 s2 o1 o2 (stop_of work) → OnOk work (HasGivenItems l')
    → LinksKeep clients links (set links1 place l') s s2 o o2 (stop_of work)
links_keep_next {T = T} {clients = clients} {place = place} {links = links} {links1 = links1} {l =
    l} {l' = l'} {s = s} {s1 = s1} {s2 = s2} {o = o} {o1 = o1} {o2 =
    o2} work keeps here turned waits = record {
      go = links_go_set place links links1 l l' o o1 o2 keeps.go here turned.link;
      same_sessions =
          sessions_set place links1 l l' here turned.link.same_session ∙ keeps.same_sessions;
      store = record {
        same_limit = turned.store.same_limit ∙ keeps.store.same_limit;
        same_format = turned.store.same_format ∙ keeps.store.same_format;
        answered = by_work work turned waits;
      };
    }
  where
    by_work : (work : Result T Fault) → LinkKeeps clients place l l' s1 s2 o1 o2 (stop_of work)
        → OnOk work (HasGivenItems l')
        → HasOrStops (StayAttached clients links (set links1 place l') s s2 o2) clients s2 o o2
        (stop_of work)
    by_work (Ok x) turned waits = record {
      may =
          links_go_on clients place links1 (set links1 place l') l l' s1 s2 o1 o2
          keeps.store.answered.may (length-set links1 place l') turned;
      attached = λ first attached.
          all_attached clients first place links1 l l' s1 s2 o1 o2
          (keeps.store.answered.attached first attached) here turned waits;
    }
    by_work (Err e) turned waits =
        stops_later clients s2 o o1 o2 e keeps.go.goes.later turned.store.answered

-- the redundant links were closed
pub links_keep_closed : {clients : Meaning} {links mid links' : List Link} {s s' : StoreValue}
    {o o' : Outside} → LinksKeep clients links mid s s' o o' None → ClosesSome mid links'
    → LinksKeep clients links links' s s' o o' None
links_keep_closed {clients = clients} {links = links} {mid = mid} {links' = links'} {s' = s'} {o =
    o} {o' = o'} keeps closes = record {
      go = links_go_closed links mid links' o o' keeps.go closes;
      same_sessions = sessions_closed mid links' closes ∙ keeps.same_sessions;
      store = record {
        same_limit = keeps.store.same_limit;
        same_format = keeps.store.same_format;
        answered = record {
          may = links_may clients mid links' s' o' closes.same_number keeps.store.answered.may;
          attached = λ first attached.
              closed_attached first mid links' s' (keeps.store.answered.attached first attached)
              closes;
        };
      };
    }

-- they were lent
pub links_work_as : {T : Type 0} {Went : OfLinks T} {Stops : OfLinks Fault} {clients : Meaning}
    {links lent new kept : List Link} {s s' : StoreValue} {o o' : Outside} {r : Result T Fault}
    → lent ≡ links → kept ≡ new → LinksWork Went Stops clients lent new s s' o o' r
    → LinksWork Went Stops clients links kept s s' o o' r
links_work_as {Went = Went} {Stops = Stops} {clients = clients} {lent = lent} {kept = kept} {s =
    s} {s' = s'} {o = o} {o' = o'} {r = r} is is_kept works =
    subst (λ (ls : List Link). LinksWork Went Stops clients ls kept s s' o o' r) is
    (subst (λ (ls : List Link). LinksWork Went Stops clients lent ls s s' o o' r) (sym is_kept)
    works)

-- ---- what every call leaves

pub never : {A : Type 0} (b : Bool) → b ≡ true → b ≡ false → A
never b closed opened = let e : true ≡ false = sym closed ∙ opened in cc

pub record CallLeaves {T H : Type 0} (clients : Meaning) (n n' : NodeValue) (host host' : H)
    (o o' : Outside) (result : Result T NodeFault) : Type 0 where
  pub answers : CallAnswers n n' host host' result
  pub may : MayRun clients n' o'
  pub goes : AsideGoes n n' o o'

-- of a node that was closed
pub leaves_closed : {H : Type 0} (T : Type 0) (clients : Meaning) (n : NodeValue) (host : H)
    (o : Outside) → IsAside n → n.closed ≡ true
    → CallLeaves {T = T} clients n n host host o o (Err fault.Closed)
leaves_closed T clients n host o node closed = record {
  answers = record {
    closed = λ _. record { answer = refl; same = refl; same_host = refl };
    opened = never n.closed closed;
  };
  may = never n.closed closed;
  goes = record {
    aside = node;
    goes = goes_none o;
    same_limit = refl;
    same_format = refl;
    same_first = refl;
    cause = λ number stands. inl stands;
  };
}

-- ---- by what the work of a node came to

module _ {T : Type 0} (work : Result T Fault) {result : Result T NodeFault}
    (is : result ≡ answer_of work) where
  pub went_by : (P : T → Type 0) → IfOk work P → IfOk result P
  went_by P went = subst (λ (r : Result T NodeFault). IfOk r P) (sym is) (by work went)
    where
      by : (w : Result T Fault) → IfOk w P → IfOk (answer_of w) P
      by (Ok x) went = went
      by (Err e) went = tt

  pub stopped_by : (P : Fault → Type 0) → IfErr work P → IfErr result (ByFault P)
  stopped_by P stopped =
      subst (λ (r : Result T NodeFault). IfErr r (ByFault P)) (sym is) (by work stopped)
    where
      by : (w : Result T Fault) → IfErr w P → IfErr (answer_of w) (ByFault P)
      by (Ok x) stopped = tt
      by (Err node_fault.Memory) stopped = stopped
      by (Err node_fault.DiskFault) stopped = stopped
      by (Err node_fault.Full) stopped = stopped

  pub stops_by : (P : Fault → Type 0) → IfErr work P → StopsBy P result
  stops_by P stopped =
      subst (λ (r : Result T NodeFault). StopsBy P r) (sym is) (by work stopped)
    where
      by : (w : Result T Fault) → IfErr w P → StopsBy P (answer_of w)
      by (Ok x) stopped = tt
      by (Err node_fault.Memory) stopped = stopped
      by (Err node_fault.DiskFault) stopped = stopped
      by (Err node_fault.Full) stopped = stopped

  pub leaves_by : {H : Type 0} (clients : Meaning) (n n' : NodeValue) (host host' : H)
      (o o' : Outside) → n.closed ≡ false → IsAside n' → n'.first ≡ n.first
      → n'.closed ≡ has_failed work → LinksGo n.links n'.links o o'
      → n'.store.limit ≡ n.store.limit → n'.store.format ≡ n.store.format
      → OnOk work (MayGoOn clients n'.links n'.store o')
      → CallLeaves clients n n' host host' o o' result
  leaves_by clients n n' host host' o o' opened node first closed go limit format may = record {
    answers = record {
      closed = λ yes. never n.closed yes opened;
      opened = λ _.
          subst (λ (r : Result T NodeFault). AnswersAndCloses r n') (sym is) (by work closed);
    };
    may = by_ok work closed may;
    goes = record {
      aside = node;
      goes = go.goes;
      same_limit = limit;
      same_format = format;
      same_first = first;
      cause = go.cause;
    };
  }
    where
      by : (w : Result T Fault) → n'.closed ≡ has_failed w → AnswersAndCloses (answer_of w) n'
      by (Ok x) closed = closed
      by (Err node_fault.Memory) closed = closed
      by (Err node_fault.DiskFault) closed = closed
      by (Err node_fault.Full) closed = closed

      by_ok : (w : Result T Fault) → n'.closed ≡ has_failed w
          → OnOk w (MayGoOn clients n'.links n'.store o') → MayRun clients n' o'
      by_ok (Ok x) closed may = λ _. may
      by_ok (Err e) closed may = never n'.closed closed

-- what is said of the fault that stopped some work
pub if_stopped : {T : Type 0} (work : Result T Fault) (P : Fault → Type 0)
    → IfSome (stop_of work) P → IfErr work P
if_stopped (Ok x) P stopped = tt
if_stopped (Err e) P stopped = stopped

-- ---- work over the links of a node

-- what stands beside a store, whose fields are used
module _ {a b : AsideValue} (is : a ≡ b) (s : StoreValue) where
  pub with_is : node_with a s ≡ node_with b s
  with_is = ap (λ (x : AsideValue). node_with x s) is

  pub aside_is : IsAside (node_with b s) → IsAside (node_with a s)
  aside_is aside = subst (λ (x : AsideValue). IsAside (node_with x s)) (sym is) aside

module _ {clients : Meaning} {n m : NodeValue} {o : Outside} (is : n ≡ m) (may : MayRun clients m o)
    (opened : n.closed ≡ false) where
  pub node_may : MayGoOn clients n.links n.store o
  node_may = subst (λ (x : NodeValue). MayRun clients x o) (sym is) may opened

  module _ (node : IsAside n) {number : ℕ} {l : Link} (within : number < length m.links)
      (found : l ≡ get_or n.links number l) where
    -- the link of this number
    pub node_link : InRun n.first number n.links l
    node_link =
        let here : number < length n.links =
        subst (λ (x : NodeValue). number < length x.links) (sym is) within in
        let at : slice_get n.links number ≡ Some l =
        slice_get-get_or n.links number l here ∙ ap (λ (x : Link). Some x) (sym found) in
        record { at = at; numbered = ((node.attached opened).each number l at).numbered }

    -- may be worked on
    pub node_able : MayWork clients number l n.store o
    node_able =
        link_able clients n.first number n.links l n.store o node_may (node.attached opened)
        node_link.at

    -- and was
    pub node_works : {T : Type 0} {l' : Link} {s' : StoreValue} {o' : Outside}
        (work : Result T Fault) → LinkKeeps clients number l l' n.store s' o o' (stop_of work)
        → OnOk work (HasGivenItems l')
        → LinksKeep clients n.links (set n.links number l') n.store s' o o' (stop_of work)
    node_works work keeps waits =
        links_keep_next work (links_keep_none node_may) node_link.at keeps waits

pub record CallWorks {T H : Type 0} (clients : Meaning) (n n' : NodeValue) (host host' : H)
    (o o' : Outside) (result : Result T NodeFault) : Type 0 where
  pub leaves : CallLeaves clients n n' host host' o o' result
  pub kept : KeepsSessions n n'
  pub stops : CallStops clients n' o o' result

module _ {T : Type 0} (work : Result T Fault) {clients : Meaning} {first : ℕ}
    {links links' : List Link} {closed closed' : Bool} {s s' : StoreValue} {o o' : Outside}
    (node : IsAside (record { store = s; first = first; links = links; closed = closed }))
    (opened : closed ≡ false) (is : closed' ≡ has_failed work)
    (keeps : LinksKeep clients links links' s s' o o' (stop_of work)) where
  -- the node is one still
  pub node_by : IsAside (record { store = s'; first = first; links = links'; closed = closed' })
  node_by =
      let long : length links' ≡ length links = same_long links' links keeps.same_sessions in
      record {
        few = omega (arith, long, node.few);
        attached = by work is keeps.store.answered;
      }
    where
      by : (w : Result T Fault) → closed' ≡ has_failed w
          → HasOrStops (StayAttached clients links links' s s' o') clients s' o o' (stop_of w)
          → closed' ≡ false → AreAttached first links' s'.state.facts
      by (Ok x) closed has still = has.attached first (node.attached opened)
      by (Err e) closed has still = never closed' closed still

  pub works_by : {H : Type 0} {result : Result T NodeFault} (host host' : H)
      → result ≡ answer_of work
      → CallWorks clients (record { store = s; first = first; links = links; closed = closed })
      (record { store = s'; first = first; links = links'; closed = closed' }) host host' o o' result
  works_by host host' answer = record {
    leaves =
        leaves_by work answer clients (record { store = s; first = first; links = links; closed = closed })
        (record { store = s'; first = first; links = links'; closed = closed' }) host host' o o'
        opened node_by refl is keeps.go keeps.store.same_limit keeps.store.same_format
        (by work keeps.store.answered).0;
    kept = record { same_first = refl; same_sessions = keeps.same_sessions };
    stops = stops_by work answer (IsReadyOrRose clients s' o o') (by work keeps.store.answered).1;
  }
    where
      by : (w : Result T Fault)
          → HasOrStops (StayAttached clients links links' s s' o') clients s' o o' (stop_of w)
          → OnOk w (MayGoOn clients links' s' o') × IfErr w (IsReadyOrRose clients s' o o')
      by (Ok x) has = (has.may, tt)
      by (Err e) has = (tt, has)

-- ---- a batch that is added

pub adding_left : {H : Type 0} (clients : Meaning) (batch : List Entry) (s s' : StoreValue)
    (host host' : H) (o o' : Outside) (work : Result (Unit {0}) Fault)
    → IfErr work (AddStops clients batch s s' o o')
    → (IsErrOf work node_fault.Full → IsUndone s s' host host')
    → IfErr work (AddingLeaves clients s s' host host' o o')
adding_left clients batch s s' host host' o o' (Ok x) so none = tt
adding_left clients batch s s' host host' o o' (Err node_fault.Memory) so none = so.ready
adding_left clients batch s s' host host' o o' (Err node_fault.DiskFault) so none = so.breaks.rose
adding_left clients batch s s' host host' o o' (Err node_fault.Full) so none =
    record { ready = so.idle.ready; undone = none refl }

pub add_keeps : (clients : Meaning) (batch : List Entry) (links : List Link) (s s' : StoreValue)
    (o o' : Outside) (work : Result (Unit {0}) Fault) → IsPlain batch → MayGoOn clients links s o
    → OnOk work (Added clients batch s s' o o') → IfErr work (AddStops clients batch s s' o o')
    → LinksKeep clients links links s s' o o' (stop_of work)
add_keeps clients batch links s s' o o' (Ok x) plain may added stops = record {
  go = links_go_same links links o o' refl added.by.did.goes;
  same_sessions = refl;
  store = record {
    same_limit = added.by.did.limit;
    same_format = added.by.did.format;
    answered = record {
      may = add_may clients batch links s s' o o' added may;
      attached = λ first attached.
          add_attached clients batch first links s s' o o' added plain attached;
    };
  };
}
add_keeps clients batch links s s' o o' (Err f) plain may added stops =
    let left = add_left clients batch s s' o o' f stops in
    record {
      go = links_go_same links links o o' refl left.goes;
      same_sessions = refl;
      store = keeps_left (StayAttached clients links links s s' o') clients s s' o o' f left;
    }
