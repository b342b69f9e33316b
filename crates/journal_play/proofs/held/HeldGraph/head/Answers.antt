-- What is kept at the number, with the name of its node.
use Rattle.std.proofs.Common.{◌≡◌, ◌<◌, Some, length, slice_get, sym, ap, ◌∙◌, arith}
use Rattle.journal_play.specs.declared.kept.Head.{Head}
use Rattle.journal_play.specs.Holding.{HeldHeads}
use Rattle.journal_play.proofs.Heads.{got_there, heads_at}
use Rattle.journal_play.proofs.held.HeldGraph.head.Goals as goal

pub returns : goal.returns
returns c =
    let inside = c.self.inside in
    let many : length inside.graph.nodes ≡ length c.args.self.now.nodes =
    ap (λ (h : HeldHeads). length h.nodes) c.self.view_is in
    let within : c.args.n < length inside.rest.items = omega (arith, many, c.requires, c.self.invariant.0) in
    let at : slice_get inside.rest.items c.args.n ≡ Some c.index-rest.result.now =
    got_there inside.rest.items c.args.n c.index-rest.result.now within c.index-rest.ensures in
    ap (λ (h : HeldHeads). slice_get h.heads c.args.n) (sym c.self.view_is)
    ∙ heads_at inside.rest.items inside.graph.nodes c.args.n c.index-rest.result.now c.name-name.result at c.name-name.ensures
    ∙ ap (λ (x : Head). Some x) (sym c.with_id.ensures)
