-- An ending leaves the names of the nodes, and so the lines.
use Rattle.std.proofs.Common.{◌≡◌, ◌≤◌, length, sym, ap, subst, ◌∙◌}
use Rattle.message_graph.specs.Nodes.{Shown, after_step}
use Rattle.journal_play.proofs.Heads.{heads_after, held_changed}
use Rattle.journal_play.proofs.Work.{length_after}
use Rattle.journal_play.proofs.held.HeldGraph.apply.Goals as goal

pub invariant_of-self : goal.invariant_of-self
invariant_of-self c =
    let inside = c.self.inside in
    let spare : c.apply.new.self.spare ≡ inside.graph.spare = ap (λ (s : Shown). s.spare) c.apply.ensures in
    let was = c.self.invariant in
    (ap (λ (s : Shown). length s.nodes) c.apply.ensures ∙ (length_after c.args.step inside.graph.nodes ∙ was.0), (was.1.0, (subst (λ x. inside.room ≤ x) (sym spare) was.1.1.0, was.1.1.1)))

pub returns : goal.returns
returns c =
    let inside = c.self.inside in
    held_changed inside.rest.items (after_step c.args.step) inside.graph.nodes c.apply.new.self.nodes c.args.self.now c.self.view_is
    (heads_after c.args.step inside.rest.items inside.graph.nodes) (ap (λ (s : Shown). s.nodes) c.apply.ensures)
