use Rattle.std.proofs.Common.{sym, inl}
use Rattle.resident.proofs.BeginLemmas.{begin_parts}
use Rattle.resident.proofs.EraLemmas.{era_settled}
use Rattle.resident.proofs.resident.Resident.begin_session.Goals as goal

pub begin_settled-requires-clause-era : goal.begin_settled-requires-clause-era
begin_settled-requires-clause-era g c =
    let parts =
    begin_parts c.args.self.now c.args.plan.now c.args.has_nonce (sym c.if-not-may_begin.ensures) in
    era_settled c.args.self.now.aside c.args.self.now.store c.settle.new.store
    (g.H.Disk.tells c.args.host.now) (g.H.Disk.tells c.settle.new.host) c.in-Ok.ensures.only
    c.in-Ok.ensures.settles.run.same_links (c.requires parts.still_open).era

pub returns-in-Ok-clause-begun : goal.returns-in-Ok-clause-begun
returns-in-Ok-clause-begun g c = λ begins. inl (record {
  store = c.settle.new.store;
  host = c.settle.new.host;
  settled = c.in-Ok.ensures.settles;
  has = c.begin_settled.ensures.begun;
})
