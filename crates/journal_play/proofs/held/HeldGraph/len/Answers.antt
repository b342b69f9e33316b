-- There are as many lines as nodes.
use Rattle.std.proofs.Common.{length, sym, ap, ◌∙◌}
use Rattle.journal_play.specs.Holding.{HeldHeads}
use Rattle.journal_play.proofs.Heads.{heads_length}
use Rattle.journal_play.proofs.held.HeldGraph.len.Goals as goal

pub returns-clause-heads : goal.returns-clause-heads
returns-clause-heads c =
    c.len.ensures
    ∙ sym (heads_length c.self.inside.rest.items c.self.inside.graph.nodes c.self.invariant.0)
    ∙ ap (λ (h : HeldHeads). length h.heads) c.self.view_is
