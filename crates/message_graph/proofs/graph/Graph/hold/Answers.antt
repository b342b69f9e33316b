use Rattle.std.proofs.Common.{◌≡◌, ◌<◌, ◌≤◌, ◌+◌, ◌-◌, ◌^◌, ◌++◌, ◌∷◌, [], Some, None, ℕ, List, length, if◌then◌else◌, subst, sym, ap, ◌∙◌, arith, rules, length-append, vec_capacity}
use Rattle.message_graph.specs.declared.nodes.Node.{Node}
use Rattle.message_graph.specs.declared.nodes.Unnamed.{Unnamed}
use Rattle.message_graph.specs.declared.states.News.TheVariants as news
use Rattle.message_graph.specs.declared.states.Waiting.TheVariants as waiting
use Rattle.message_graph.specs.Nodes.{Shown, node_number, fresh_node, same_name, with_names}
use Rattle.message_graph.specs.Waits.{told_times, wait_at, group_at, group_in}
use Rattle.message_graph.specs.Links.{edge_at, holder_of, count_before, last_before}
use Rattle.message_graph.proofs.Unnamed.{within_rests, length-with_names, with_names-push, group-with_names}
use Rattle.message_graph.proofs.Kept.{hold_kept, waiters_inside, many_waits}
use Rattle.message_graph.proofs.graph.Graph.hold.Goals as goal

new_rest : ℕ → Unnamed
new_rest group = record { group = group; answer = None; ending = None }

last_is : (c : goal.After-deref) → c.hold-last.result ≡ last_before c.hold-last.new.self.edges c.args.name (length c.hold-last.new.self.edges)
last_is c = c.hold-last.ensures.last ∙ ap (λ es. last_before es c.args.name (length es)) (sym c.hold-last.ensures.edges)

pub hold-last-requires-clause-next : goal.hold-last-requires-clause-next
hold-last-requires-clause-next c = let number : c.len-number.result ≡ length c.self.inside.nodes.items = search rules in number ∙ sym c.self.invariant.2

pub tell-requires-clause-last : goal.tell-requires-clause-last
tell-requires-clause-last c = (c.args.name, last_is c)

items_are : (c : goal.After-deref) → c.push.new.self.items ≡ c.self.inside.nodes.items ++ new_rest c.args.group ∷ []
unfolding new_rest
items_are c = rw c.unwrap.ensures at c.push.ensures.items

pub tell-requires-clause-waiters : goal.tell-requires-clause-waiters
tell-requires-clause-waiters c = λ edge h.
    let g = c.self.inside in
    let nodes = with_names g.index.numbers.names g.nodes.items in
    let len : length c.deref.result.now ≡ length g.nodes.items + 1 = ap length (c.deref.ensures.value ∙ items_are c) ∙ length-append g.nodes.items (new_rest c.args.group ∷ []) in
    let old : edge < length g.index.edges = subst (λ es. edge < length es) c.hold-last.ensures.edges h in
    let inside : (edge_at c.hold-last.new.self.edges edge).1 < length nodes = subst (λ es. (edge_at es edge).1 < length nodes) (sym c.hold-last.ensures.edges) (waiters_inside nodes g.index g.states g.spare c.self.invariant.0 edge old) in
    omega (arith, inside, len, within_rests g.index.numbers.names g.nodes.items)

nodes_are : (c : goal.After-deref)
    → with_names c.hold-last.new.self.numbers.names c.push.new.self.items
    ≡ with_names c.self.inside.index.numbers.names c.self.inside.nodes.items ++ fresh_node
    c.args.name c.args.group ∷ []
unfolding new_rest
nodes_are c =
    let g = c.self.inside in
    (λ i. with_names (c.hold-last.ensures.held i) (items_are c i)) ∙ with_names-push g.index.numbers.names g.nodes.items c.args.name (new_rest c.args.group) c.self.invariant.2

pub invariant_of-self : goal.invariant_of-self
invariant_of-self c =
    let g = c.self.inside in
    let names = g.index.numbers.names in
    let nodes = with_names names g.nodes.items in
    let m : Node = fresh_node c.args.name c.args.group in
    let items = items_are c.before in
    let now = nodes_are c.before in
    let count : length nodes ≡ length g.nodes.items = length-with_names names g.nodes.items c.self.invariant.2 in
    let counted : c.len-number.result ≡ length g.nodes.items = search rules in
    let number : c.len-number.result ≡ length nodes = counted ∙ sym count in
    let new : node_number nodes c.args.name ≡ None =
    ap (λ (s : Shown). node_number s.nodes c.args.name) c.self.view_is ∙ c.requires.new in
    let few : length nodes < 2 ^ 32 - 1 = subst (λ (s : Shown). length s.nodes < 2 ^ 32 - 1) (sym c.self.view_is) c.requires.few in
    let spares : 0 < g.spare = subst (λ (s : Shown). 0 < s.spare) (sym c.self.view_is) c.requires.room in
    let holders : (other : List ℕ) → holder_of c.hold-last.new.self other ≡ (if same_name other c.args.name then Some (length nodes) else holder_of g.index other) =
    (λ other. c.hold-last.ensures.holders other ∙ ap (λ k. if same_name other c.args.name then Some k else holder_of g.index other) number) in
    let len : length c.tell.new.states.waits ≡ length nodes + 1 =
    c.tell.ensures.many ∙ ap length c.push-2.ensures.waits ∙ length-append g.states.waits (waiting.Unjudged ∷ []) ∙ ap (λ k. k + 1) (many_waits nodes g.index g.states g.spare c.self.invariant.0) in
    let places : c.tell.new.states.room + 1 ≡ g.states.room = ap (λ k. k + 1) c.tell.ensures.room ∙ c.push-2.ensures.room in
    let total : length c.push.new.self.items ≡ length g.nodes.items + 1 = ap length items ∙ length-append g.nodes.items (new_rest c.args.group ∷ []) in
    let many : length c.hold-last.new.self.numbers.names ≡ length c.push.new.self.items =
    ap length c.hold-last.ensures.held ∙ length-append names (c.args.name ∷ []) ∙ ap (λ k. k + 1) c.self.invariant.2 ∙ sym total in
    let group : (k : ℕ) → group_in c.deref.result.now k ≡ group_at (nodes ++ m ∷ []) k =
    (λ k. ap (λ rs. group_in rs k) c.deref.ensures.value ∙ group-with_names c.hold-last.new.self.numbers.names c.push.new.self.items k many ∙ ap (λ ns. group_at ns k) now) in
    let told : (k : ℕ) → wait_at c.tell.new.states.waits k ≡ told_times (news.Arrived c.args.group) (group_at (nodes ++ m ∷ []) k) (count_before c.hold-last.new.self.edges c.args.name k (length c.hold-last.new.self.edges)) (wait_at (g.states.waits ++ waiting.Unjudged ∷ []) k) =
    (λ k. c.tell.ensures.waits c.args.name (last_is c.before) k ∙ (λ i. told_times (news.Arrived c.args.group) (group k i) (count_before c.hold-last.new.self.edges c.args.name k (length c.hold-last.new.self.edges)) (wait_at (c.push-2.ensures.waits i) k))) in
    let kept = hold_kept nodes g.index g.states g.spare c.self.invariant.0 c.args.name c.args.group c.hold-last.new.self c.tell.new.states new few spares holders c.hold-last.ensures.held c.hold-last.ensures.left c.hold-last.ensures.edges c.hold-last.ensures.room len places told in
    let fits : length c.push.new.self.items + (g.spare - 1) ≤ vec_capacity c.push.new.self = omega (arith, c.self.invariant.1, c.push.ensures.capacity, total) in
    (rw now kept, fits, many)

pub returns-clause-nodes : goal.returns-clause-nodes
returns-clause-nodes c =
    (λ i. record {
      nodes =
          (nodes_are c.before
          ∙ ap (λ (s : Shown). s.nodes ++ fresh_node c.args.name c.args.group ∷ []) c.self.view_is)
          i;
      spare = ap (λ (s : Shown). s.spare - 1) c.self.view_is i;
    })
