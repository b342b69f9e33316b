use Rattle.std.proofs.Common.{◌≡◌, length, drop, arith}
use Rattle.connections.specs.Desks.{HeardOnce}
use Rattle.connections.proofs.DeskLemmas.{each_back, each_next}
use Rattle.connections.proofs.desk.Desk.hear_all.Goals as goal

pub loop-i-preserved : goal.loop-i-preserved
loop-i-preserved g c =
    each_next HeardOnce c.loop-i.i c.deref_mut-place-items.result.now c.loop-i.place-items
    c.place-item.result c.hear_next-may_be_long.new.connection (omega (arith, c.loop-i-test.true, c.loop-i.auto.place-items)) c.place-item.is c.hear_next-may_be_long.ensures
    c.loop-i.invariant

pub returns : goal.returns
returns g c =
    let long : length c.loop-i.place-items ≡ c.args.self.now.places.len =
    omega (arith, c.loop-i.auto.place-items, c.deref_mut-place-items.ensures.len) in
    each_back HeardOnce c.loop-i.i c.args.self.now.places.len c.args.self.now.places.items
    c.deref_mut-place-items.result.now c.loop-i.place-items
    (drop (length c.loop-i.place-items) c.args.self.now.places.items) c.deref_mut-place-items.ensures.value long
    (omega (arith, c.loop-i-test.false, c.loop-i.auto.place-items)) c.loop-i.invariant
