use Rattle.std.proofs.Common.{◌≡◌, Some, slice_get, sym, ap, ◌∙◌}
use Rattle.std.specs.Cmp.Lexicographic.{bytes_decides}
use Rattle.message_graph.specs.Links.{WaitIndex, place_of}
use Rattle.message_graph.proofs.Linked.{placed_at}
use Rattle.message_graph.proofs.index.Index.recent_place.Goals as goal

pub returns-then-same_bytes-clause-place : goal.returns-then-same_bytes-clause-place
returns-then-same_bytes-clause-place c =
    let i = c.self.inside in
    let name = c.args.name.now in
    let same : c.key.inside.0 ≡ name = (bytes_decides c.key.inside.0 name).0 (sym c.same_bytes.ensures ∙ c.if-same_bytes.true) in
    let at : slice_get i.names.keys i.recent ≡ Some name = sym c.in_ok-key.ensures.key ∙ ap Some (sym c.key.view_is ∙ same) in
    ap (λ (l : WaitIndex). place_of l.names name) (sym c.self.view_is)
    ∙ placed_at i.names.keys i.slots.items i.edges.items c.self.invariant.0 name i.recent at
