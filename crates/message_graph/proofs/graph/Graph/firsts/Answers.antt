use Rattle.std.proofs.Common.{◌≡◌, ◌<◌, Result, Ok, Err, length, map, IfOk, sym, ap, ◌∙◌, subst, rules}
use Rattle.message_graph.specs.Nodes.{Shown, with_names}
use Rattle.message_graph.specs.Links.{edge_at}
use Rattle.message_graph.specs.Whole.{first_held}
use Rattle.message_graph.proofs.Firsts.{firsts_are}
use Rattle.message_graph.proofs.Kept.{waiters_inside}
use Rattle.message_graph.proofs.Unnamed.{length-with_names}
use Rattle.message_graph.proofs.graph.Graph.firsts.Goals as goal

both_ok : {X E : Type 0} (r : Result X E) (P Q R : X → Type 0) → ((x : X) → P x → Q x → R x) → IfOk r P → IfOk r Q → IfOk r R
both_ok (Ok x) P Q R both p q = both x p q
both_ok (Err e) P Q R both p q = p

pub firsts-requires : goal.firsts-requires
firsts-requires c = λ edge h.
    let g = c.self.inside in
    let nodes = with_names g.index.numbers.names g.nodes.items in
    let count : length g.nodes.items ≡ c.len.result = search rules in
    let many : length nodes ≡ c.len.result = length-with_names g.index.numbers.names g.nodes.items c.self.invariant.2 ∙ count in
    subst (λ k. (edge_at g.index.edges edge).1 < k) many (waiters_inside nodes g.index g.states g.spare c.self.invariant.0 edge h)

pub returns : goal.returns
returns c =
    let g = c.self.inside in
    let nodes = with_names g.index.numbers.names g.nodes.items in
    let count : c.len.result ≡ length g.nodes.items = search rules in
    let many : c.len.result ≡ length nodes = count ∙ sym (length-with_names g.index.numbers.names g.nodes.items c.self.invariant.2) in
    both_ok c.firsts.result _ _ _ (λ firsts long each.
    firsts_are nodes g.index g.states g.spare c.self.invariant.0 firsts.items (long ∙ many) (λ n below. each n (subst (λ k. n < k) (sym many) below))
    ∙ ap (λ (s : Shown). map (first_held s.nodes) s.nodes) c.self.view_is) c.firsts.ensures.many c.firsts.ensures.each
