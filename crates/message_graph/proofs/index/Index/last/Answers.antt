use Rattle.std.proofs.Common.{◌≡◌, Some, length, sym, ap, ◌∙◌, arith}
use Rattle.std.proofs.lemmas.Option.{get_or_from_slice_get}
use Rattle.message_graph.specs.Links.{WaitIndex, holder_of, place_of, last_before}
use Rattle.message_graph.proofs.Linked.{last_there, slot_last, found_name}
use Rattle.message_graph.proofs.Placed.{held_place}
use Rattle.message_graph.proofs.index.Index.last.Goals as goal

pub returns : goal.returns
returns c = λ name h.
    let i = c.self.inside in
    let at = held_place i.names.keys i.slots.items i.places.items c.self.invariant.1 name c.args.number (ap (λ (l : WaitIndex). holder_of l name) c.self.view_is ∙ h) in
    let is : c.index.result.now ≡ at.0 = c.index.ensures ∙ get_or_from_slice_get i.places.items c.args.number at.0 c.index.result.now at.1.1 in
    let found : place_of i.names.keys name ≡ Some c.index.result.now = at.1.0 ∙ ap Some (sym is) in
    let f = (found_name i.names.keys i.slots.items i.edges.items c.self.invariant.0 name c.index.result.now found).0 in
    sym (slot_last i.slots.items c.index.result.now c.index-2.result.now (omega (arith, f, c.self.invariant.0.many)) c.index-2.ensures)
    ∙ last_there i.names.keys i.slots.items i.edges.items c.self.invariant.0 name c.index.result.now found
    ∙ ap (λ (l : WaitIndex). last_before l.edges name (length l.edges)) c.self.view_is
