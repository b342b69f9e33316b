use Rattle.std.proofs.Common.{◌≡◌, ℕ, Err, refl, sym, ap, ◌∙◌, inl}
use Rattle.sync_node.specs.declared.fault.NodeFault.TheVariants as node_fault
use Rattle.sync_node.specs.Node.{new_aside}
use Rattle.resident.specs.Sessions.{numbered}
use Rattle.resident.proofs.BeginLemmas.{begins_now}
use Rattle.resident.proofs.StayLemmas.{served_over}
use Rattle.resident.proofs.resident.Resident.begin_settled.Goals as goal

pub returns-in_default-clause-begun : goal.returns-in_default-clause-begun
returns-in_default-clause-begun g c = record {
  link = 0;
  came = Err node_fault.Memory;
  is = refl;
  left = new_aside c.args.self.now.store;
  goes_on = c.fail.ensures.fails;
  did = inl (record {
    none = sym c.take-era.ensures.value ∙ c.in_default.ensures.none.0;
    came = refl;
    same = c.fail.ensures.store;
    same_host = c.in_default.ensures.none.1;
  });
}

pub begin_on-link-requires-clause-served : goal.begin_on-link-requires-clause-served
begin_on-link-requires-clause-served g c =
    served_over (g.C.Clients.meaning c.args.clients.now) c.args.self.now.store
    (g.H.Disk.tells c.args.host.now) (g.H.Disk.tells c.ready_era.new.host) c.in-Ok.ensures.files
    c.requires.served

pub returns-in-Err-clause-begun : goal.returns-in-Err-clause-begun
returns-in-Err-clause-begun g c =
    let link = c.begin_on-link.result.0 in
    let e = c.behind.ensures in
    begins_now g.H.Disk.tells (g.C.Clients.meaning c.args.clients.now) c.args.plan.now
    c.args.has_nonce c.args.self.now c.behind.new.self c.take-era.result c.in-Ok.aside
    c.begin_on-link.new.aside c.begin_on-link.new.store c.args.host.now c.ready_era.new.host
    c.begin_on-link.new.host link c.begin_on-link.result.1 (Err c.in-Err.fault)
    (ap (numbered link) (sym c.in-Err.is ∙ e.value)) c.take-era.ensures.value
    c.in-Ok.ensures.era c.begin_on-link.ensures.did e.store e.goes_on
