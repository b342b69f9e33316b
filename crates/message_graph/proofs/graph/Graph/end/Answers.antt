use Rattle.std.proofs.Common.{◌≡◌, ◌<◌, Some, ℕ, List, length, set, sym, ap, ◌∙◌, refl, arith, rules}
use Rattle.std.proofs.lemmas.List.{length-set}
use Rattle.message_graph.specs.declared.nodes.Node.{Node}
use Rattle.message_graph.specs.declared.nodes.Unnamed.{Unnamed}
use Rattle.message_graph.specs.declared.states.Waiting.TheVariants as waiting
use Rattle.message_graph.specs.Nodes.{Shown, next_step, with_ending, with_names}
use Rattle.message_graph.specs.Waits.{NodeWaits, told_times, wait_at, group_at, group_in}
use Rattle.message_graph.specs.Links.{count_before, last_before}
use Rattle.message_graph.specs.Whole.{ending_step, ending_news}
use Rattle.message_graph.proofs.NodeLaws.{next_end, there_within}
use Rattle.message_graph.proofs.Unnamed.{within_rests, with_names-set, group-with_names}
use Rattle.message_graph.proofs.Kept.{end_kept, waiters_inside, many_waits}
use Rattle.message_graph.proofs.graph.Graph.end.Goals as goal

pub index_mut-node-requires : goal.index_mut-node-requires
index_mut-node-requires c =
    let g = c.self.inside in
    let nodes = with_names g.index.numbers.names g.nodes.items in
    let step : next_step nodes ≡ Some (ending_step c.args.ending c.args.n) =
    ap (λ (s : Shown). next_step s.nodes) c.self.view_is ∙ c.requires.next in
    let there = next_end nodes c.args.n c.args.ending step in
    let within : c.args.n < length g.nodes.items = omega (arith, there_within nodes c.args.n there.0 there.1, within_rests g.index.numbers.names g.nodes.items) in
    search rules

pub set-requires : goal.set-requires
set-requires c =
    let g = c.self.inside in
    let nodes = with_names g.index.numbers.names g.nodes.items in
    let step : next_step nodes ≡ Some (ending_step c.args.ending c.args.n) =
    ap (λ (s : Shown). next_step s.nodes) c.self.view_is ∙ c.requires.next in
    let there = next_end nodes c.args.n c.args.ending step in
    omega (arith, there_within nodes c.args.n there.0 there.1, many_waits nodes g.index g.states g.spare c.self.invariant.0)

pub last-last-requires : goal.last-last-requires
last-last-requires c =
    let g = c.self.inside in
    let nodes = with_names g.index.numbers.names g.nodes.items in
    let step : next_step nodes ≡ Some (ending_step c.args.ending c.args.n) =
    ap (λ (s : Shown). next_step s.nodes) c.self.view_is ∙ c.requires.next in
    let there = next_end nodes c.args.n c.args.ending step in
    omega (arith, there_within nodes c.args.n there.0 there.1, c.self.invariant.0.count)

-- the last edge of those who wait for the node's name
last_is : (c : goal.After-deref) → (name : List ℕ) × (c.last-last.result ≡ last_before c.self.inside.index.edges name (length c.self.inside.index.edges))
last_is c =
    let g = c.self.inside in
    let nodes = with_names g.index.numbers.names g.nodes.items in
    let step : next_step nodes ≡ Some (ending_step c.args.ending c.args.n) =
    ap (λ (s : Shown). next_step s.nodes) c.self.view_is ∙ c.requires.next in
    let there = next_end nodes c.args.n c.args.ending step in
    (there.0.name, c.last-last.ensures there.0.name (c.self.invariant.0.holders there.0.name ∙ c.self.invariant.0.own c.args.n there.0 there.1))

pub tell-requires-clause-last : goal.tell-requires-clause-last
tell-requires-clause-last c = last_is c

pub tell-requires-clause-waiters : goal.tell-requires-clause-waiters
tell-requires-clause-waiters c = λ edge h.
    let g = c.self.inside in
    let nodes = with_names g.index.numbers.names g.nodes.items in
    let inside = waiters_inside nodes g.index g.states g.spare c.self.invariant.0 edge h in
    let len : length c.deref.result.now ≡ length g.nodes.items = ap length c.deref.ensures.value ∙ length-set g.nodes.items c.args.n _ in
    omega (arith, inside, len, within_rests g.index.numbers.names g.nodes.items)

pub invariant_of-self : goal.invariant_of-self
invariant_of-self c =
    let g = c.self.inside in
    let names = g.index.numbers.names in
    let nodes = with_names names g.nodes.items in
    let step : next_step nodes ≡ Some (ending_step c.args.ending c.args.n) =
    ap (λ (s : Shown). next_step s.nodes) c.self.view_is ∙ c.requires.next in
    let there = next_end nodes c.args.n c.args.ending step in
    let name = there.0.name in
    let read = c.index_mut-node.result.now in
    let rests = set g.nodes.items c.args.n (record read { ending = Some c.args.ending }) in
    let now : with_names names rests ≡ with_ending c.args.n c.args.ending nodes =
    with_names-set (λ (m : Node). record m { ending = Some c.args.ending }) (λ (r : Unnamed). record r { ending = Some c.args.ending }) (λ x r. refl) names g.nodes.items c.args.n read c.index_mut-node.ensures.value in
    let many : length names ≡ length rests = c.self.invariant.2 ∙ sym (length-set g.nodes.items c.args.n (record read { ending = Some c.args.ending })) in
    let last : c.last-last.result ≡ last_before g.index.edges name (length g.index.edges) = c.last-last.ensures name (c.self.invariant.0.holders name ∙ c.self.invariant.0.own c.args.n there.0 there.1) in
    let set_is : c.set.new.self.waits ≡ set g.states.waits c.args.n waiting.Ended = ap (λ (s : NodeWaits). s.waits) c.set.ensures in
    let len : length c.tell.new.states.waits ≡ length g.states.waits = c.tell.ensures.many ∙ ap length set_is ∙ length-set g.states.waits c.args.n waiting.Ended in
    let room : c.tell.new.states.room ≡ g.states.room = c.tell.ensures.room ∙ ap (λ (s : NodeWaits). s.room) c.set.ensures in
    let group : (k : ℕ) → group_in c.deref.result.now k ≡ group_at (with_ending c.args.n c.args.ending nodes) k =
    (λ k. ap (λ rs. group_in rs k) c.deref.ensures.value ∙ group-with_names names rests k many ∙ ap (λ ns. group_at ns k) now) in
    let told : (k : ℕ) → wait_at c.tell.new.states.waits k ≡ told_times (ending_news c.args.ending) (group_at (with_ending c.args.n c.args.ending nodes) k) (count_before g.index.edges name k (length g.index.edges)) (wait_at (set g.states.waits c.args.n waiting.Ended) k) =
    (λ k. c.tell.ensures.waits name last k ∙ (λ i. told_times (c.requires.news i) (group k i) (count_before g.index.edges name k (length g.index.edges)) (wait_at (set_is i) k))) in
    let kept = end_kept nodes g.index g.states g.spare c.self.invariant.0 c.args.n there.0 c.args.ending c.tell.new.states there.1 there.2 len room told in
    (rw now kept, rw (length-set g.nodes.items c.args.n (record read { ending = Some c.args.ending })) c.self.invariant.1, many)

pub returns : goal.returns
returns c =
    let g = c.self.inside in
    let names = g.index.numbers.names in
    let read = c.index_mut-node.result.now in
    let now : with_names names (set g.nodes.items c.args.n (record read { ending = Some c.args.ending })) ≡ with_ending c.args.n c.args.ending (with_names names g.nodes.items) =
    with_names-set (λ (m : Node). record m { ending = Some c.args.ending }) (λ (r : Unnamed). record r { ending = Some c.args.ending }) (λ x r. refl) names g.nodes.items c.args.n read c.index_mut-node.ensures.value in
    (λ i. record { nodes = (now ∙ ap (λ (s : Shown). with_ending c.args.n c.args.ending s.nodes) c.self.view_is) i; spare = ap (λ (s : Shown). s.spare) c.self.view_is i })
