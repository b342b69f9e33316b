use Rattle.std.proofs.Common.{◌≡◌, ◌+◌, length}
use Rattle.mailbox_core.specs.Steps.{IsOpenFor, left_of, next_on}
use Rattle.mailbox_core.proofs.ReadSteps.{Underway}
use Rattle.mailbox_core.proofs.reading.take_all.Given as goal

abbrev pub invariant-items : goal.invariant-items
invariant-items g l =
    let clients = g.C.Clients.meaning l.clients in
    record {
      before : l.before ≡ next_on l.initial.store l.session.number;
      way : Underway clients l.session.number l.initial.store l.store
          (left_of l.initial.reader l.initial.piece) (left_of l.reader l.piece)
          (g.D.Disk.tells l.initial.disk) (g.D.Disk.tells l.disk);
      able : IsOpenFor clients l.session l.store (g.D.Disk.tells l.disk);
    }

abbrev pub decreases-items : goal.decreases-items
decreases-items g l = length l.reader.bytes + length l.piece
