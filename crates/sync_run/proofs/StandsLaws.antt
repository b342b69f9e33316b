-- How a node stands behind parts of a run, one after the other.
use Rattle.std.proofs.Common.{◌≡◌, ℕ, List, length, ap, sym, ◌∙◌, inl, refl, Result, Ok, Err}
use Rattle.std.specs.Prelude.{IsErrAnd}
use Rattle.std.proofs.lemmas.List.{length-map}
use Rattle.outside.specs.Outside.{Outside}
use Rattle.sync_rules.specs.Clients.{Meaning}
use Rattle.sync_rules.specs.declared.entries.Session.{Session}
use Rattle.sync_node.specs.Causes.{sessions_of}
use Rattle.sync_node.specs.declared.link.Link.{Link}
use Rattle.sync_node.specs.declared.fault.NodeFault.{NodeFault}
use Rattle.sync_node.specs.declared.fault.NodeFault.TheVariants as fault
use Rattle.sync_node.specs.Node.{AnswersAndCloses, IsNode, MayRun, NodeValue}
use Rattle.sync_node.specs.Calls.{AttachStops, CallGoes, CallStops}
use Rattle.sync_run.specs.Parts.{StandsBy}
use Rattle.sync_node.proofs.SafeLaws.{goes_none}
use Rattle.sync_node.proofs.WorkLaws.{goes_then}
use Rattle.sync_run.proofs.RunActs.{passed}
use Rattle.sync_run.proofs.CauseLaws.{causes_then, rose_before}

-- ---- what is kept

pub keeps_none : (n : NodeValue) (o : Outside) → IsNode n → CallGoes n n o o
keeps_none n o node = record {
  node = node;
  goes = goes_none o;
  same_first = refl;
  same_limit = refl;
  same_format = refl;
  cause = λ number stands. inl stands;
}

pub keeps_then : (n0 n1 n2 : NodeValue) (o0 o1 o2 : Outside) → CallGoes n0 n1 o0 o1
    → CallGoes n1 n2 o1 o2 → CallGoes n0 n2 o0 o2
keeps_then n0 n1 n2 o0 o1 o2 first second = record {
  node = second.node;
  goes = goes_then o0 o1 o2 first.goes second.goes;
  same_first = second.same_first ∙ first.same_first;
  same_limit = second.same_limit ∙ first.same_limit;
  same_format = second.same_format ∙ first.same_format;
  cause =
      causes_then n0.links n1.links n2.links o0 o1 o2 first.goes second.goes first.cause second.cause;
}

-- ---- where a call stopped

-- a call of a node stopped behind others, and its fault goes on by `?`
module _ (T U : Type 0) (clients : Meaning) (n0 n n' : NodeValue) (o0 o o' : Outside)
    (first : CallGoes n0 n o0 o) where
  stopped_on : (x : NodeFault) → AnswersAndCloses {T = T} (Err x) n'
      → CallStops {T = T} clients n' o o' (Err x)
      → AnswersAndCloses {T = U} (Err x) n' × CallStops {T = U} clients n' o0 o' (Err x)
  stopped_on fault.Memory answer stops = (answer, stops)
  stopped_on fault.Full answer stops = (answer, stops)
  stopped_on fault.DiskFault answer stops =
      (answer, rose_before o0.disk_faults o.disk_faults o'.disk_faults first.goes.later stops)
  stopped_on fault.Closed answer stops = absurd answer

  pub stands_stopped : (count : ℕ) (r : Result U NodeFault) (x : NodeFault)
      → IsErrAnd r (λ y. y ≡ x) → CallGoes n n' o o' → AnswersAndCloses {T = T} (Err x) n'
      → MayRun clients n' o' → CallStops {T = T} clients n' o o' (Err x)
      → StandsBy clients count n0 n' o0 o' r
  stands_stopped count r x is second answer may stops =
      let both = stopped_on x answer stops in
      passed (StandsBy {T = U} clients count n0 n' o0 o') r x is (record {
        goes = keeps_then n0 n n' o0 o o' first second;
        answer = both.0;
        may = may;
        stops = both.1;
        number = tt;
      })

  -- the same of a part of a run
  pub stands_on : (count count' : ℕ) (r : Result U NodeFault) (x : NodeFault)
      → IsErrAnd r (λ y. y ≡ x) → StandsBy {T = T} clients count n n' o o' (Err x)
      → StandsBy clients count' n0 n' o0 o' r
  stands_on count count' r x is stands =
      stands_stopped count' r x is stands.goes stands.answer stands.may stands.stops

-- behind another part
pub stands_then : {T : Type 0} (clients : Meaning) (n0 n n' : NodeValue) (o0 o o' : Outside)
    → CallGoes n0 n o0 o → (count count' : ℕ) → count ≡ count' → (r : Result T NodeFault)
    → StandsBy clients count n n' o o' r → StandsBy clients count' n0 n' o0 o' r
stands_then {T = T} clients n0 n n' o0 o o' first count count' same (Ok t) stands = record {
  goes = keeps_then n0 n n' o0 o o' first stands.goes;
  answer = stands.answer;
  may = stands.may;
  stops = tt;
  number = stands.number ∙ same;
}
stands_then {T = T} clients n0 n n' o0 o o' first count count' same (Err x) stands =
    stands_on T T clients n0 n n' o0 o o' first count count' (Err x) x refl stands

-- where a session could not begin
pub attach_stops : (T H : Type 0) (clients : Meaning) (n n' : NodeValue) (host host' : H)
    (o o' : Outside) (x : NodeFault) → AttachStops {T = T} clients n n' host host' o o' (Err x)
    → CallStops {T = T} clients n' o o' (Err x)
attach_stops T H clients n n' host host' o o' fault.Memory stops = stops.ready
attach_stops T H clients n n' host host' o o' fault.Full stops = stops.ready
attach_stops T H clients n n' host host' o o' fault.DiskFault stops = stops
attach_stops T H clients n n' host host' o o' fault.Closed stops = tt

-- a turn leaves the sessions on the links
pub same_number : (links links' : List Link) → sessions_of links' ≡ sessions_of links
    → length links' ≡ length links
same_number links links' same =
    sym (long links') ∙ ap (λ (ss : List Session). length ss) same ∙ long links
  where
    long : (ls : List Link) → length (sessions_of ls) ≡ length ls
    long ls = length-map ls (λ (l : Link). l.session)
