use Rattle.std.proofs.Common.{sym, subst, Err}
use Rattle.sync_node.specs.declared.fault.NodeFault.{NodeFault}
use Rattle.resident.specs.Sessions.{SettledStands}
use Rattle.resident.proofs.EraLemmas.{only_settled, unsettled_stands}
use Rattle.resident.proofs.working.settle.Goals as goal

pub settle_loaded-requires : goal.settle_loaded-requires
settle_loaded-requires g c = record { ready = c.requires.loaded.opened.ready }

pub returns-in-Ok-clause-settles : goal.returns-in-Ok-clause-settles
returns-in-Ok-clause-settles g c =
    record { run = c.in-Ok.ensures.run; settles = c.in-Ok.ensures.settled }

pub returns-in-Ok-clause-stands : goal.returns-in-Ok-clause-stands
returns-in-Ok-clause-stands g c = c.in-Ok.ensures.serves c.requires

pub returns-in-Ok-clause-only : goal.returns-in-Ok-clause-only
returns-in-Ok-clause-only g c =
    only_settled (g.C.Clients.meaning c.args.clients.now) c.args.store.now
    c.settle_loaded.new.store _ _ _ c.in-Ok.ensures.settled

pub returns-in-Err-clause-settles : goal.returns-in-Err-clause-settles
returns-in-Err-clause-settles g c = record {
  came = c.in-Err.came;
  settled = record { run = c.in-Err.ensures.run; settles = c.in-Err.ensures.settled };
  is = c.fault_of.ensures;
}

pub returns-in-Err-clause-stands : goal.returns-in-Err-clause-stands
returns-in-Err-clause-stands g c =
    let clients = g.C.Clients.meaning c.args.clients.now in
    let s = c.settle_loaded.new.store in
    let o = g.H.Disk.tells c.settle_loaded.new.disk in
    subst (λ (e : NodeFault). SettledStands clients (Err e) s o) (sym c.fault_of.ensures)
    (unsettled_stands clients s o c.in-Err.came (c.in-Err.ensures.serves c.requires))

pub returns-in-Err-clause-only : goal.returns-in-Err-clause-only
returns-in-Err-clause-only g c =
    only_settled (g.C.Clients.meaning c.args.clients.now) c.args.store.now
    c.settle_loaded.new.store _ _ _ c.in-Err.ensures.settled
