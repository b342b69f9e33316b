use Rattle.std.proofs.Common.{◌≡◌, ◌<◌, None, Some, length, sym, ap, ◌∙◌, arith}
use Rattle.std.specs.List.{position_from}
use Rattle.std.proofs.lemmas.List.{length-map}
use Rattle.message_graph.specs.Nodes.{Shown, next_step, node_named, with_names}
use Rattle.message_graph.specs.Waits.{has_step, step_waiting, waiting_of}
use Rattle.message_graph.proofs.Steps.{next-waiting, step_at, first_tells, none_missing_delivers, next_read}
use Rattle.message_graph.proofs.graph.Graph.next.Goals as goal

pub returns-in_err-number : goal.returns-in_err-number
returns-in_err-number c =
    let g = c.self.inside in
    let none : position_from has_step 0 g.states.waits ≡ None = sym c.first.ensures ∙ c.in_err-number.was in
    c.from_residual.ensures
    ∙ sym (next-waiting (with_names g.index.numbers.names g.nodes.items) g.states.waits
    c.self.invariant.0.waits ∙ ap (step_at g.states.waits) none)
    ∙ ap (λ (s : Shown). next_step s.nodes) c.self.view_is

found : (c : goal.In_ok-number) → position_from has_step 0 c.self.inside.states.waits ≡ Some c.in_ok-number.number
found c = sym c.first.ensures ∙ c.in_ok-number.was

within : (c : goal.In_ok-number) → c.in_ok-number.number < length c.self.inside.states.waits
within c = (first_tells c.self.inside.states.waits c.in_ok-number.number (found c)).0

pub overflow_cast-n : goal.overflow_cast-n
overflow_cast-n c =
    let g = c.self.inside in
    let many : length g.states.waits ≡ length (with_names g.index.numbers.names g.nodes.items) = ap length c.self.invariant.0.waits ∙ length-map (with_names g.index.numbers.names g.nodes.items) (waiting_of (node_named (with_names g.index.numbers.names g.nodes.items))) in
    omega (arith, within c, c.self.invariant.0.few, many)

pub get-requires : goal.get-requires
get-requires c = within c

pub returns-in-Unjudged : goal.returns-in-Unjudged
returns-in-Unjudged c =
    let g = c.self.inside in
    let r = next_read (with_names g.index.numbers.names g.nodes.items) g.states.waits c.in_ok-number.number c.get.result c.self.invariant.0.waits (sym c.first.ensures ∙ c.in_ok-number.was) c.get.ensures in
    sym (r.0 ∙ ap (step_waiting c.in_ok-number.number) c.in-Unjudged.is)
    ∙ ap (λ (s : Shown). next_step s.nodes) c.self.view_is

pub returns-in-Doomed : goal.returns-in-Doomed
returns-in-Doomed c =
    let g = c.self.inside in
    let r = next_read (with_names g.index.numbers.names g.nodes.items) g.states.waits c.in_ok-number.number c.get.result c.self.invariant.0.waits (sym c.first.ensures ∙ c.in_ok-number.was) c.get.ensures in
    sym (r.0 ∙ ap (step_waiting c.in_ok-number.number) c.in-Doomed.is)
    ∙ ap (λ (s : Shown). next_step s.nodes) c.self.view_is

pub returns-in-Missing : goal.returns-in-Missing
returns-in-Missing c =
    let g = c.self.inside in
    let r = next_read (with_names g.index.numbers.names g.nodes.items) g.states.waits c.in_ok-number.number c.get.result c.self.invariant.0.waits (sym c.first.ensures ∙ c.in_ok-number.was) c.get.ensures in
    sym (r.0 ∙ ap (step_waiting c.in_ok-number.number) c.in-Missing.is
    ∙ none_missing_delivers c.in_ok-number.number c.in-Missing.field-0
    (ap has_step (sym c.in-Missing.is) ∙ r.1))
    ∙ ap (λ (s : Shown). next_step s.nodes) c.self.view_is

pub returns-in-Ended : goal.returns-in-Ended
returns-in-Ended c =
    let g = c.self.inside in
    let r = next_read (with_names g.index.numbers.names g.nodes.items) g.states.waits c.in_ok-number.number c.get.result c.self.invariant.0.waits (sym c.first.ensures ∙ c.in_ok-number.was) c.get.ensures in
    sym (r.0 ∙ ap (step_waiting c.in_ok-number.number) c.in-Ended.is)
    ∙ ap (λ (s : Shown). next_step s.nodes) c.self.view_is
