use Rattle.std.proofs.Common.{◌≡◌, ◌≤◌, false, length}
use Rattle.std.specs.Prelude.{nat_lt}
use Rattle.sync_course.specs.Turns.{over_by}
use Rattle.sync_node.specs.Node.{MayRun, asked_among}
use Rattle.sync_node.specs.Calls.{CallGoes}
use Rattle.sync_run.proofs.CourseParts.{TurnsSoFar}
use Rattle.sync_run.proofs.sessions.make_turns.Given as goal

abbrev pub invariant-turns : goal.invariant-turns
invariant-turns g l = record {
  went : TurnsSoFar (g.C.Clients.meaning l.clients) l.limits l.initial.node l.node
      (g.H.Disk.tells l.initial.host) (g.H.Disk.tells l.host) l.still l.counter;
  goes_on : over_by l.limits.quiet l.still (nat_lt 0 (asked_among l.node.links)) ≡ false;
  keeps : CallGoes l.initial.node l.node (g.H.Disk.tells l.initial.host) (g.H.Disk.tells l.host);
  number : length l.node.links ≡ length l.initial.node.links;
  still_open : l.node.closed ≡ false;
  few_still : l.still ≤ l.counter;
  may : MayRun (g.C.Clients.meaning l.clients) l.node (g.H.Disk.tells l.host);
}
