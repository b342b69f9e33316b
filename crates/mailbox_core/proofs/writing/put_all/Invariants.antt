use Rattle.std.proofs.Common.{◌-◌, ◌≤◌}
use Rattle.mailbox_core.specs.Steps.{IsOpenFor}
use Rattle.mailbox_core.proofs.SendSteps.{Underway}
use Rattle.mailbox_core.proofs.writing.put_all.Given as goal

abbrev pub invariant-outs : goal.invariant-outs
invariant-outs g l =
    let clients = g.C.Clients.meaning l.clients in
    record {
      few : l.made ≤ l.count;
      way : Underway clients l.session.number l.now l.initial.store l.store l.initial.to.items
          l.to.items l.made (g.D.Disk.tells l.initial.disk) (g.D.Disk.tells l.disk);
      able : IsOpenFor clients l.session l.store (g.D.Disk.tells l.disk);
    }

abbrev pub decreases-outs : goal.decreases-outs
decreases-outs g l = l.count - l.made
