use Rattle.std.proofs.Common.{◌≡◌, length, drop, arith}
use Rattle.connections.specs.Desks.{ToldNext}
use Rattle.connections.proofs.DeskLemmas.{each_back, each_next}
use Rattle.connections.proofs.desk.Desk.tell_delivered.Goals as goal

pub loop-place-preserved : goal.loop-place-preserved
loop-place-preserved g c =
    each_next (ToldNext g.N.Answerer.gives c.args.delivered) c.loop-place.place-index c.deref_mut-place-items.result.now c.loop-place.place-items
    c.place-item.result c.tell_next.new.connection (omega (arith, c.loop-place-test.true, c.loop-place.auto.place-items)) c.place-item.is c.tell_next.ensures
    c.loop-place.invariant

pub returns : goal.returns
returns g c =
    let long : length c.loop-place.place-items ≡ c.args.self.now.places.len =
    omega (arith, c.loop-place.auto.place-items, c.deref_mut-place-items.ensures.len) in
    each_back (ToldNext g.N.Answerer.gives c.args.delivered) c.loop-place.place-index c.args.self.now.places.len c.args.self.now.places.items
    c.deref_mut-place-items.result.now c.loop-place.place-items
    (drop (length c.loop-place.place-items) c.args.self.now.places.items) c.deref_mut-place-items.ensures.value long
    (omega (arith, c.loop-place-test.false, c.loop-place.auto.place-items)) c.loop-place.invariant
