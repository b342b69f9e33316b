use Rattle.std.proofs.Common.{◌≡◌, ◌<◌, length, map, get_or, sym, ap, ◌∙◌, subst}
use Rattle.std.proofs.lemmas.List.{length-map}
use Rattle.std.proofs.lemmas.Result.{IfOk-weaker}
use Rattle.message_graph.specs.Links.{WaitIndex, edge_at, first_place, holder_at, named}
use Rattle.message_graph.proofs.Linked.{holders_of}
use Rattle.message_graph.proofs.Firsts.{edge_waiter, holder_in, waiters_of}
use Rattle.message_graph.proofs.index.Index.firsts.Goals as goal

pub first_holders-requires-clause-waiters : goal.first_holders-requires-clause-waiters
first_holders-requires-clause-waiters c = λ edge h.
    let i = c.self.inside in
    let inside : edge < length i.edges.items = subst (λ es. edge < length es) c.deref-2.ensures.value h in
    let are : map (named i.names.keys) i.edges.items ≡ c.args.self.now.edges = ap (λ (l : WaitIndex). l.edges) c.self.view_is in
    let less : edge < length c.args.self.now.edges =
    subst (λ k. edge < k) (sym (length-map i.edges.items (named i.names.keys)) ∙ ap length are) inside in
    subst (λ k. k < c.args.nodes)
    (ap (λ es. (edge_at es edge).1) (sym are) ∙ edge_waiter i.names.keys i.edges.items edge inside ∙ ap (λ es. get_or (waiters_of es) edge 0) (sym c.deref-2.ensures.value))
    (c.requires edge less)

pub returns-clause-each : goal.returns-clause-each
returns-clause-each c =
    let i = c.self.inside in
    let links = c.args.self.now in
    IfOk-weaker c.first_holders.result _ _ (λ firsts each n below. each n below
    ∙ (λ k. holder_at (holders_of (c.deref.ensures.value k)) (first_place (c.deref-2.ensures.value k) n))
    ∙ holder_in i.names.keys i.slots.items i.edges.items c.self.invariant.0 links (ap (λ (l : WaitIndex). l.names) c.self.view_is)
    (ap (λ (l : WaitIndex). l.holders) c.self.view_is) (ap (λ (l : WaitIndex). l.edges) c.self.view_is) n) c.first_holders.ensures.each
