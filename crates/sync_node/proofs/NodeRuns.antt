-- The course of a node's calls as events, from where they led and stopped as acts.
use Rattle.std.proofs.Common.{◌≡◌, ℕ, Bool, List}
use Rattle.outside.specs.Outside.{Outside}
use Rattle.sync_rules.specs.declared.entries.Session.{Session}
use Rattle.sync_rules.specs.Clients.{Meaning}
use Rattle.sync_store.specs.Store.{StoreValue}
use Rattle.sync_course.specs.Links as course_links
use Rattle.sync_course.specs.Owing.{Owing, paid}
use Rattle.sync_course.specs.Turns.{Place, RunStep, Terms}
use Rattle.sync_course.specs.Acts.{Act}
use Rattle.sync_node.specs.Cuts.{CutBy, is_of_disk}
use Rattle.sync_node.specs.declared.fault.Fault.{Fault}
use Rattle.sync_node.specs.declared.fault.Fault.TheVariants as fault
use Rattle.sync_node.specs.Went.{Stopped}
use Rattle.sync_node.specs.declared.link.Link.{Link}
use Rattle.sync_node.specs.Courses.{BreaksBeginning, BreaksTurn, MakesTurn, RunBreaks, RunRuns}
use Rattle.sync_node.specs.OnRuns.{BeginStopped, RoundStopped, RoundWent, RunStopped, RunWent}
use Rattle.sync_node.proofs.EventLaws.{breaks_of, runs_of}

module _ (clients : Meaning) (terms : Terms) where
  pub run_went : (p q : Place) (s s' : StoreValue) (o o' : Outside)
      → RunWent clients terms p q s s' o o' → RunRuns clients terms p q s s' o o'
  run_went p q s s' o o' went =
      runs_of clients (λ (x : Place). x.facts) terms.first (RunStep clients terms) (paid p) (paid q)
      s s' o o' went

  run_breaks : (p : Place) (links : List course_links.Link) (s s' : StoreValue) (o o' : Outside)
      (e : Fault) → RunStopped clients terms p links s s' o o' e → RunBreaks clients terms p s o o'
  run_breaks p links s s' o o' e stops =
      breaks_of clients (λ (x : Place). x.facts) terms.first (RunStep clients terms)
      (λ (q : Owing Place). q.at.links ≡ links) (paid p) s s' o o' e stops

-- the calls of the disk, where a run was broken off
cut_of : {P : Type 0} (clients : Meaning) (step : Owing P → Act → Owing P → Type 0)
    (Has : Owing P → Type 0) (p : Owing P)
    (s s' : StoreValue) (o o' : Outside) (e : Fault) → Stopped clients step Has p s s' o o' e
    → CutBy (is_of_disk e) s o o'
cut_of clients step Has p s s' o o' fault.Memory stops = (s'.end, stops.went.did.appends)
cut_of clients step Has p s s' o o' fault.Full stops = (s'.end, stops.went.did.appends)
cut_of clients step Has p s s' o o' fault.DiskFault stops = stops.did.breaks

module _ (clients : Meaning) (first : ℕ) (links links' : List Link) (s s' : StoreValue)
    (o o' : Outside) where
  -- a turn
  pub turn_made : (quiet : Bool) → RoundWent clients first links links' s s' o o' quiet
      → MakesTurn clients first links links' s s' o o' quiet
  turn_made quiet w = record {
    leads = λ terms heard moved still made same read more.
        let t = w.leads terms heard moved still made same read more in
        record {
          heard' = t.heard';
          has_read = t.has_read;
          runs = run_went clients terms _ _ s s' o o' t.went;
        };
  }

  pub turn_breaks : (e : Fault) → RoundStopped clients first links links' s s' o o' e
      → BreaksTurn clients (is_of_disk e) first links s o o'
  turn_breaks e w = record {
    stops = λ terms heard moved still made same read more.
        let stopped = (w.stops terms heard moved still made same read more).1 in
        (run_breaks clients terms _ _ s s' o o' e stopped, cut_of clients _ _ _ s s' o o' e stopped);
  }

-- a session that begins
pub beginning_breaks : (clients : Meaning) (session : Session) (links links' : List Link)
    (s s' : StoreValue) (o o' : Outside) (e : Fault)
    → BeginStopped clients session links links' s s' o o' e
    → BreaksBeginning clients (is_of_disk e) session links s o o'
beginning_breaks clients session links links' s s' o o' e w = record {
  stops = λ terms left heard moved still made.
      let stopped = w.stops terms left heard moved still made in
      (run_breaks clients terms _ _ s s' o o' e stopped, cut_of clients _ _ _ s s' o o' e stopped);
}
