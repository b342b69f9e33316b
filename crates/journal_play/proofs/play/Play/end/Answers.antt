-- The number of the next step is that of a held message.
use Rattle.std.proofs.Common.{◌≡◌, ◌<◌, Some, length, ap, ◌∙◌, arith}
use Rattle.std.specs.String.{string_bytes}
use Rattle.message_graph.specs.Nodes.{next_step, after_step, step_number}
use Rattle.journal_play.specs.Holding.{HeldHeads}
use Rattle.journal_play.specs.Playing.{Played}
use Rattle.journal_play.proofs.Steps.{next_within}
use Rattle.journal_play.proofs.Calls.{end_is}
use Rattle.journal_play.proofs.play.Play.end.Goals as goal

pub head-head-requires : goal.head-head-requires
head-head-requires c =
    let inside = c.self.inside in
    let step : next_step inside.held.nodes ≡ Some c.args.step =
    ap (λ (p : Played). next_step p.nodes) c.self.view_is ∙ c.requires.next in
    let within : step_number c.args.step < length inside.held.nodes = next_within inside.held.nodes c.args.step step in
    let number : step_number c.args.step ≡ c.args.n = c.requires.number in
    omega (arith, within, number)

pub returns-clause-ended : goal.returns-clause-ended
returns-clause-ended c = λ h at.
    let inside = c.self.inside in
    let view : Played = record { kind = inside.kind; group = inside.group; heads = inside.held.heads; nodes = inside.held.nodes; text = string_bytes inside.text } in
    end_is view c.args.self.now c.head-head.result h c.apply.new.self (string_bytes c.add_line.new.text) c.args.step c.args.n c.args.state c.self.view_is
    c.apply.ensures c.in_ok-add_line.ensures at c.head-head.ensures

pub returns-clause-done : goal.returns-clause-done
returns-clause-done c = ap (λ (h : HeldHeads). h.nodes) c.apply.ensures
    ∙ ap (λ (p : Played). after_step c.args.step p.nodes) c.self.view_is
