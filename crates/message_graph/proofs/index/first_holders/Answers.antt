use Rattle.std.proofs.Common.{rules, ◌+◌, ◌-◌, ◌<◌, None, ℕ, length, arith}
use Rattle.message_graph.specs.declared.index.Edge.{Edge}
use Rattle.message_graph.specs.declared.index.Slot.{Slot}
use Rattle.message_graph.proofs.Firsts.{place_there, step_holder, waiter_there}
use Rattle.message_graph.proofs.index.first_holders.Goals as goal

abbrev no_edge : Edge
no_edge = record { place = 0; waiter = 0; before = None }

abbrev no_slot : Slot
no_slot = record { holder = None; last = None }

pub bounds-slots-edge : goal.bounds-slots-edge
bounds-slots-edge c =
    let m : ℕ = length c.args.edges.now - 1 - c.edges.behind in
    let less : m < length c.args.edges.now = omega (arith, c.edges-test.true) in
    place_there c.args.edges.now m no_edge (length c.args.slots.now) less (c.requires.places m less)

pub offset_bounds-slots-edge : goal.offset_bounds-slots-edge
offset_bounds-slots-edge c =
    let m : ℕ = length c.args.edges.now - 1 - c.edges.behind in
    let less : m < length c.args.edges.now = omega (arith, c.edges-test.true) in
    let within = place_there c.args.edges.now m no_edge (length c.args.slots.now) less (c.requires.places m less) in
    search rules

pub index_mut-requires : goal.index_mut-requires
index_mut-requires c =
    let m : ℕ = length c.args.edges.now - 1 - c.edges.behind in
    let less : m < length c.args.edges.now = omega (arith, c.edges-test.true) in
    let within = waiter_there c.args.edges.now m no_edge c.args.nodes less (c.requires.waiters m less) in
    omega (arith, within, c.edges.invariant.many)

pub edges-preserved : goal.edges-preserved
edges-preserved c =
    let m : ℕ = length c.args.edges.now - 1 - c.edges.behind in
    let less : m < length c.args.edges.now = omega (arith, c.edges-test.true) in
    record {
      many = search rules;
      each = step_holder c.args.slots.now c.args.edges.now m (length c.args.edges.now - (c.edges.behind + 1)) (length c.args.edges.now - c.edges.behind) no_edge no_slot c.args.nodes c.edges.firsts.items less (omega (arith, c.edges-test.true))
          (omega (arith, c.edges-test.true))
          (c.requires.places m less) c.edges.invariant.many (c.requires.waiters m less) c.edges.invariant.each;
    }
