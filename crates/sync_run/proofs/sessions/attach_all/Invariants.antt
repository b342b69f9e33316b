use Rattle.std.proofs.Common.{◌≡◌, false, drop, length}
use Rattle.sync_rules.specs.Steps.{IsSettled}
use Rattle.sync_node.specs.Node.{MayRun}
use Rattle.sync_node.specs.Calls.{CallGoes}
use Rattle.sync_run.specs.Parts.{SessionsBegin}
use Rattle.sync_run.specs.Plans.{sessions_from}
use Rattle.sync_run.proofs.sessions.attach_all.Given as goal

abbrev pub invariant-links : goal.invariant-links
invariant-links g l = record {
  went : SessionsBegin (g.C.Clients.meaning l.clients) l.links
      (sessions_from l.node.store.state.facts.begun (drop l.link-index l.links)) l.initial.node
      l.node (g.H.Disk.tells l.initial.host) (g.H.Disk.tells l.host);
  keeps : CallGoes l.initial.node l.node (g.H.Disk.tells l.initial.host) (g.H.Disk.tells l.host);
  still_open : l.node.closed ≡ false;
  numbered : l.number ≡ length l.node.links;
  count : l.number ≡ l.link-index;
  may : MayRun (g.C.Clients.meaning l.clients) l.node (g.H.Disk.tells l.host);
  settled : IsSettled (g.C.Clients.meaning l.clients) l.node.store.state.facts;
  same_contacts :
      l.node.store.state.facts.contacts ≡ l.initial.node.store.state.facts.contacts;
}
