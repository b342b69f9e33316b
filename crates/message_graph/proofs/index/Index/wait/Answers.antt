use Rattle.std.proofs.Common.{◌≡◌, Some, ◌<◌, ◌++◌, ◌∷◌, [], length, map, sym, ap, ◌∙◌, arith, refl, rules, set}
use Rattle.std.proofs.lemmas.List.{map-append, length-set}
use Rattle.std.proofs.Math.Seq.{map-set_same}
use Rattle.message_graph.specs.declared.index.Slot.{Slot}
use Rattle.message_graph.specs.declared.index.Edge.{Edge}
use Rattle.message_graph.specs.Links.{WaitIndex, place_of, holder_of, holder_at, named}
use Rattle.message_graph.proofs.Linked.{linked-wait, found_name, slot_last, holders_of}
use Rattle.message_graph.proofs.Placed.{placed-same}
use Rattle.message_graph.proofs.index.Index.wait.Goals as goal

found : (c : goal.After-self-1) → place_of c.self.inside.names.keys c.args.name ≡ Some c.place-place.result
found c = ap (λ (l : WaitIndex). place_of l.names c.args.name) c.self.view_is ∙ c.place-place.ensures.place

within : (c : goal.After-self-1) → c.place-place.result < length c.self.inside.names.keys
within c = let i = c.self.inside in (found_name i.names.keys i.slots.items i.edges.items c.self.invariant.0 c.args.name c.place-place.result (found c)).0

edges_are : (c : goal.After-self-1) → c.push.new.self.items ≡ c.self.inside.edges.items ++ record { place = c.place-place.result; waiter = c.args.waiter; before = c.index.result.now.last } ∷ []
edges_are c = rw c.unwrap.ensures at c.push.ensures.items

holders_same : (c : goal.After-self-1) → holders_of (set c.self.inside.slots.items c.place-place.result (record { holder = c.index_mut-slot.result.now.holder; last = Some c.len-edge.result })) ≡ holders_of c.self.inside.slots.items
holders_same c =
    let slot : Slot = record { holder = c.index_mut-slot.result.now.holder; last = Some c.len-edge.result } in
    map-set_same (λ (s : Slot). s.holder) c.self.inside.slots.items c.place-place.result slot c.index_mut-slot.result.now (ap (λ (s : Slot). s.holder) c.index_mut-slot.ensures.value)

pub invariant_of-self : goal.invariant_of-self
invariant_of-self c =
    let i = c.self.inside in
    let slot : Slot = record { holder = c.index_mut-slot.result.now.holder; last = Some c.len-edge.result } in
    let e : Edge = record { place = c.place-place.result; waiter = c.args.waiter; before = c.index.result.now.last } in
    let count : c.len-edge.result ≡ length i.edges.items = search rules in (
      rw (edges_are c) (linked-wait i.names.keys i.slots.items i.edges.items c.self.invariant.0 c.place-place.result c.args.waiter slot e (within c) (ap Some count) refl refl
          (sym (slot_last i.slots.items c.place-place.result c.index.result.now (omega (arith, within c, c.self.invariant.0.many)) c.index.ensures))),
      placed-same i.slots.items (set i.slots.items c.place-place.result slot) i.places.items (holders_same c) (length-set i.slots.items c.place-place.result slot) c.self.invariant.1,
    )

pub returns-clause-holders : goal.returns-clause-holders
returns-clause-holders c = λ other.
    let i = c.self.inside in
    let slot : Slot = record { holder = c.index_mut-slot.result.now.holder; last = Some c.len-edge.result } in
    ap (λ hs. holder_at hs (place_of i.names.keys other)) (map-set_same (λ (s : Slot). s.holder) i.slots.items c.place-place.result slot c.index_mut-slot.result.now (ap (λ (s : Slot). s.holder) c.index_mut-slot.ensures.value))
    ∙ ap (λ (l : WaitIndex). holder_of l other) c.self.view_is ∙ c.place-place.ensures.holders other

pub returns-clause-edges : goal.returns-clause-edges
returns-clause-edges c =
    let i = c.self.inside in
    let e : Edge = record { place = c.place-place.result; waiter = c.args.waiter; before = c.index.result.now.last } in
    let f = found_name i.names.keys i.slots.items i.edges.items c.self.invariant.0 c.args.name c.place-place.result (found c) in
    ap (map (named i.names.keys)) (edges_are c) ∙ map-append (named i.names.keys) i.edges.items (e ∷ [])
    ∙ (λ k. (ap (λ (l : WaitIndex). l.edges) c.self.view_is ∙ c.place-place.ensures.edges) k ++ (sym f.1 k, c.args.waiter) ∷ [])
