-- An answer leaves the names of the nodes, and so the lines.
use Rattle.std.proofs.Common.{◌≡◌, ◌≤◌, Some, length, sym, ap, subst, ◌∙◌}
use Rattle.message_graph.specs.declared.nodes.Node.{Node}
use Rattle.message_graph.specs.Nodes.{Shown, with_answer}
use Rattle.message_graph.proofs.NodeLaws.{length-change}
use Rattle.journal_play.proofs.Calls.{either_way, on_ok}
use Rattle.journal_play.proofs.Heads.{heads_answered, held_changed}
use Rattle.journal_play.proofs.held.HeldGraph.judged.Goals as goal

pub invariant_of-self : goal.invariant_of-self
invariant_of-self c =
    let inside = c.self.inside in
    let result = c.judged.result in
    let ok = c.judged.ensures.ok in
    let err = c.judged.ensures.err in
    let changed : length (with_answer c.args.n c.args.answer inside.graph.nodes) ≡ length inside.graph.nodes =
    length-change (λ (node : Node). record node { answer = Some c.args.answer }) c.args.n inside.graph.nodes in
    let many : length c.judged.new.self.nodes ≡ length inside.graph.nodes =
    either_way result (λ e. ap (λ (s : Shown). length s.nodes) e ∙ changed) (λ e. ap (λ (s : Shown). length s.nodes) e) ok err in
    let spare : c.judged.new.self.spare ≡ inside.graph.spare =
    either_way result (λ e. ap (λ (s : Shown). s.spare) e) (λ e. ap (λ (s : Shown). s.spare) e) ok err in
    let was = c.self.invariant in
    (many ∙ was.0, (was.1.0, (subst (λ x. inside.room ≤ x) (sym spare) was.1.1.0, was.1.1.1)))

pub returns : goal.returns
returns c =
    let inside = c.self.inside in
    on_ok c.judged.result (λ e.
    held_changed inside.rest.items (with_answer c.args.n c.args.answer) inside.graph.nodes c.judged.new.self.nodes c.args.self.now c.self.view_is
    (heads_answered c.args.n c.args.answer inside.rest.items inside.graph.nodes) (ap (λ (s : Shown). s.nodes) e)) c.judged.ensures.ok
