-- A step leaves one entry fewer.
use Rattle.std.proofs.Common.{◌≡◌, ℕ, ◌+◌, List, Some, None, slice_get, ap, arith}
use Rattle.message_graph.specs.declared.nodes.Judged.{Judged}
use Rattle.message_graph.specs.declared.nodes.Node.{Node}
use Rattle.message_graph.specs.declared.nodes.Ending.{Ending}
use Rattle.message_graph.specs.declared.nodes.Ending.TheVariants as ending
use Rattle.message_graph.specs.declared.nodes.Step.{Step}
use Rattle.message_graph.specs.declared.nodes.Step.TheVariants as step
use Rattle.message_graph.specs.Nodes as nodes
use Rattle.journal_state.specs.Left.{left_in, left_at, one_if_none}
use Rattle.journal_state.proofs.Found.{IsNextNode, node_found}
use Rattle.journal_state.proofs.Sums.{sum_changed}

pub judged_less : (ns : List Node) (n : ℕ) (j : Judged) → nodes.next_step ns ≡ Some (step.Judge n)
    → left_in (nodes.with_answer n j ns) + 1 ≡ left_in ns
judged_less ns n j e =
    let f : IsNextNode ns (step.Judge n) = node_found ns (step.Judge n) e in
    let none : one_if_none f.node.answer ≡ 1 = ap one_if_none f.tells.1 in
    let sums = sum_changed left_at (λ (x : Node). record x { answer = Some j }) n ns f.node f.at in
    omega (arith, none, sums)

one_less : (ns : List Node) (n : ℕ) (end : Ending) (y : Node) → slice_get ns n ≡ Some y → y.ending ≡ None → left_in (nodes.with_ending n end ns) + 1 ≡ left_in ns
one_less ns n end y at open_now =
    let none : one_if_none y.ending ≡ 1 = ap one_if_none open_now in
    let sums = sum_changed left_at (λ (x : Node). record x { ending = Some end }) n ns y at in
    omega (arith, none, sums)

pub ended_less : (ns : List Node) (s : Step) → nodes.next_step ns ≡ Some s → nodes.EndsNode s
    → left_in (nodes.after_step s ns) + 1 ≡ left_in ns
ended_less ns (step.Judge n) e ends = absurd ends
ended_less ns (step.Invalid n) e ends = let f : IsNextNode ns (step.Invalid n) = node_found ns (step.Invalid n) e in one_less ns n ending.Invalid f.node f.at f.tells.2
ended_less ns (step.Deliver n) e ends = let f : IsNextNode ns (step.Deliver n) = node_found ns (step.Deliver n) e in one_less ns n ending.Delivered f.node f.at f.tells.2
