use Rattle.std.proofs.Common.{◌≡◌, None, Some, sym, ap, ◌∙◌, arith}
use Rattle.std.specs.Option.{option_copied, option_map}
use Rattle.message_graph.specs.Nodes.{node_number, with_name, with_names}
use Rattle.message_graph.proofs.Named.{node_named-number, node_at, number_within}
use Rattle.message_graph.proofs.Unnamed.{within_rests, named_rest}
use Rattle.message_graph.proofs.waiters.held.Goals as goal
use Rattle.message_graph.proofs.waiters.held.Goals.{In_ok-number}

pub returns-in_err-number : goal.returns-in_err-number
returns-in_err-number c =
    let nodes = with_names c.args.index.now.numbers.names c.args.nodes.now in
    let none : node_number nodes c.args.name.now ≡ None = sym (c.requires c.args.name.now)
    ∙ sym c.holder.ensures ∙ c.in_err-number.was in
    ap (λ r. option_map (with_name c.args.name.now) (option_copied r)) c.from_residual.ensures ∙ sym (node_named-number nodes c.args.name.now ∙ ap (node_at nodes) none)

found : (c : In_ok-number)
    → node_number (with_names c.args.index.now.numbers.names c.args.nodes.now) c.args.name.now
    ≡ Some c.in_ok-number.number
found c = sym (c.requires c.args.name.now) ∙ sym c.holder.ensures ∙ c.in_ok-number.was

pub bounds-nodes-number : goal.bounds-nodes-number
bounds-nodes-number c =
    let names = c.args.index.now.numbers.names in
    omega (arith, number_within (with_names names c.args.nodes.now) c.args.name.now c.in_ok-number.number (found c), within_rests names c.args.nodes.now)

pub returns : goal.returns
returns c =
    let names = c.args.index.now.numbers.names in
    named_rest names c.args.nodes.now c.args.name.now c.in_ok-number.number c.index-nodes-number.result (sym (c.requires c.args.name.now) ∙ sym c.holder.ensures ∙ c.in_ok-number.was) c.index-nodes-number.is
