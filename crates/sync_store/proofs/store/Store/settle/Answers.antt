use Rattle.std.proofs.Common.{◌≡◌, false, [], sym, ◌∙◌}
use Rattle.sync_store.proofs.Gathered.{gathered_none, gathering_none}
use Rattle.sync_store.proofs.SettleLoop.{settled_out}
use Rattle.sync_store.proofs.store.Store.settle.Goals as goal

pub settle_gathered-requires : goal.settle_gathered-requires
settle_gathered-requires g c =
    let s = c.args.self.now in
    let still : s.closed ≡ false = sym c.is_closed.ensures.closed ∙ c.if-is_closed.false in
    record {
      gathering =
          gathering_none (g.C.Clients.meaning c.args.clients.now) s
          (g.D.Disk.tells c.args.disk.now).files c.is_closed.ensures.numbers
          (c.requires.ready still);
    }

pub returns-clause-settled : goal.returns-clause-settled
returns-clause-settled g c still =
    let clients = g.C.Clients.meaning c.args.clients.now in
    let s = c.args.self.now in
    settled_out clients s c.settle_gathered.new.self c.settle_gathered.result
    (g.D.Disk.tells c.args.disk.now) (g.D.Disk.tells c.settle_gathered.new.disk)
    (c.settle_gathered.ensures.settles s c.is_closed.ensures.numbers []
    (gathered_none clients s still (c.requires.ready still).none_waits))
