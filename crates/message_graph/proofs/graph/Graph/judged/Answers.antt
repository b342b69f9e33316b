use Rattle.std.proofs.Common.{◌≡◌, ◌<◌, Some, length, set, sym, ap, ◌∙◌, refl, arith, rules}
use Rattle.std.proofs.lemmas.List.{length-set}
use Rattle.message_graph.specs.declared.nodes.Node.{Node}
use Rattle.message_graph.specs.declared.nodes.Unnamed.{Unnamed}
use Rattle.message_graph.specs.declared.nodes.Step.TheVariants as step
use Rattle.message_graph.specs.Nodes.{Shown, next_step, node_named, with_answer, with_names}
use Rattle.message_graph.specs.Waits.{NodeWaits, waiting_open}
use Rattle.message_graph.specs.Links.{Numbers}
use Rattle.message_graph.proofs.NodeLaws.{next_judge, there_within}
use Rattle.message_graph.proofs.Unnamed.{within_rests, rest_there, with_names-set}
use Rattle.message_graph.proofs.Kept.{judged_kept, many_waits}
use Rattle.message_graph.proofs.graph.Graph.judged.Goals as goal

pub index-requires : goal.index-requires
index-requires c =
    let g = c.self.inside in
    let nodes = with_names g.index.numbers.names g.nodes.items in
    let step_is : next_step nodes ≡ Some (step.Judge c.args.n) =
    ap (λ (s : Shown). next_step s.nodes) c.self.view_is ∙ c.requires in
    let there = next_judge nodes c.args.n step_is in
    let within : c.args.n < length g.nodes.items = omega (arith, there_within nodes c.args.n there.0 there.1, within_rests g.index.numbers.names g.nodes.items) in
    search rules

pub set-requires : goal.set-requires
set-requires c =
    let g = c.self.inside in
    let nodes = with_names g.index.numbers.names g.nodes.items in
    let step_is : next_step nodes ≡ Some (step.Judge c.args.n) =
    ap (λ (s : Shown). next_step s.nodes) c.self.view_is ∙ c.requires in
    let there = next_judge nodes c.args.n step_is in
    omega (arith, there_within nodes c.args.n there.0 there.1, many_waits nodes g.index g.states g.spare c.self.invariant.0)

pub index_mut-node-requires : goal.index_mut-node-requires
index_mut-node-requires c =
    let g = c.self.inside in
    let nodes = with_names g.index.numbers.names g.nodes.items in
    let step_is : next_step nodes ≡ Some (step.Judge c.args.n) =
    ap (λ (s : Shown). next_step s.nodes) c.self.view_is ∙ c.requires in
    let there = next_judge nodes c.args.n step_is in
    let within : c.args.n < length g.nodes.items = omega (arith, there_within nodes c.args.n there.0 there.1, within_rests g.index.numbers.names g.nodes.items) in
    search rules

pub invariant_of-self-2 : goal.invariant_of-self-2
invariant_of-self-2 c =
    let g = c.self.inside in
    let names = g.index.numbers.names in
    let nodes = with_names names g.nodes.items in
    let step_is : next_step nodes ≡ Some (step.Judge c.args.n) =
    ap (λ (s : Shown). next_step s.nodes) c.self.view_is ∙ c.requires in
    let there = next_judge nodes c.args.n step_is in
    let read = c.index_mut-node.result.now in
    let rests = set g.nodes.items c.args.n (record read { answer = Some c.args.answer }) in
    let same_names : c.answered.new.index.numbers.names ≡ names = ap (λ (n : Numbers). n.names) c.answered.ensures.numbers in
    let now : with_names c.answered.new.index.numbers.names rests ≡ with_answer c.args.n c.args.answer nodes =
    ap (λ ns. with_names ns rests) same_names ∙ with_names-set (λ (m : Node). record m { answer = Some c.args.answer }) (λ (r : Unnamed). record r { answer = Some c.args.answer }) (λ x r. refl) names g.nodes.items c.args.n read c.index_mut-node.ensures.value in
    let many : length g.nodes.items ≡ length rests = sym (length-set g.nodes.items c.args.n (record read { answer = Some c.args.answer })) in
    let group_is : c.index.result.now.group ≡ there.0.group = ap (λ (m : Node). m.group) (sym (rest_there names g.nodes.items c.args.n there.0 c.index.result.now there.1 c.index.ensures)) in
    let waiting_is : c.in_ok-waiting.waiting ≡ waiting_open (node_named nodes) there.0.group c.args.answer =
    c.in_ok-waiting.ensures.waiting ∙ (λ i. waiting_open (node_named (with_names names (c.deref.ensures.value i))) (group_is i) c.args.answer) in
    let waits : c.set.new.self.waits ≡ set g.states.waits c.args.n (waiting_open (node_named nodes) there.0.group c.args.answer) =
    ap (λ (s : NodeWaits). s.waits) c.set.ensures ∙ ap (set g.states.waits c.args.n) waiting_is in
    let kept = judged_kept nodes g.index g.states g.spare c.self.invariant.0 c.args.n there.0 c.args.answer c.answered.new.index c.set.new.self there.1 there.2
    c.answered.ensures.holders c.answered.ensures.numbers c.in_ok-waiting.ensures.edges c.answered.ensures.room waits (ap (λ (s : NodeWaits). s.room) c.set.ensures) in
    (rw now kept, rw (sym many) c.self.invariant.1, ap length same_names ∙ c.self.invariant.2 ∙ many)

pub returns-clause-ok : goal.returns-clause-ok
returns-clause-ok c =
    let g = c.self.inside in
    let names = g.index.numbers.names in
    let read = c.index_mut-node.result.now in
    let rests = set g.nodes.items c.args.n (record read { answer = Some c.args.answer }) in
    let now : with_names c.answered.new.index.numbers.names rests ≡ with_answer c.args.n c.args.answer (with_names names g.nodes.items) =
    ap (λ (n : Numbers). with_names n.names rests) c.answered.ensures.numbers ∙ with_names-set (λ (m : Node). record m { answer = Some c.args.answer }) (λ (r : Unnamed). record r { answer = Some c.args.answer }) (λ x r. refl) names g.nodes.items c.args.n read c.index_mut-node.ensures.value in
    (λ i. record { nodes = (now ∙ ap (λ (s : Shown). with_answer c.args.n c.args.answer s.nodes) c.self.view_is) i; spare = ap (λ (s : Shown). s.spare) c.self.view_is i })
