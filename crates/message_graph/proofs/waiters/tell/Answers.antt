use Rattle.std.proofs.Common.{◌≡◌, ℕ, List, ◌<◌, ◌≤◌, ◌+◌, Some, length, refl, subst, sym, ap, ◌∙◌, arith, set, get_or, slice_get}
use Rattle.std.proofs.lemmas.List.{length-set, get_or-map}
use Rattle.std.proofs.lemmas.Option.{get_or_from_slice_get}
use Rattle.message_graph.specs.declared.nodes.Unnamed.{Unnamed}
use Rattle.message_graph.specs.declared.states.Waiting.TheVariants as waiting
use Rattle.message_graph.specs.Links.{edge_at, last_before}
use Rattle.message_graph.specs.Waits.{NodeWaits, told, told_times, wait_at, group_in}
use Rattle.message_graph.proofs.Counts.{IsCursor, left, steps_left, left_last, cursor_last, steps_last, before_cursor, tells_one}
use Rattle.message_graph.proofs.waiters.tell.Goals as goal

pub loop-cursor-init : goal.loop-cursor-init
loop-cursor-init c =
    let edges = c.args.index.now.edges in
    record {
      many = c.requires.many;
      room = refl;
      cursor = λ name last. subst (IsCursor edges name) (sym last) (cursor_last edges name (length edges) (omega arith));
      waits = λ name last number. ap (λ k. told_times c.args.news (group_in c.args.nodes.now number) k (wait_at c.args.states.now.waits number)) (ap (left edges name number) last ∙ left_last edges name number (length edges));
    }

pub loop-cursor-smaller : goal.loop-cursor-smaller
loop-cursor-smaller c =
    let edges = c.args.index.now.edges in
    let a : steps_left c.before-cursor.result ≤ c.in-Some.edge = subst (λ o. steps_left o ≤ c.in-Some.edge) (sym c.before-cursor.ensures) (steps_last edges (edge_at edges c.in-Some.edge).0 c.in-Some.edge) in
    let s : steps_left c.loop-cursor.cursor ≡ c.in-Some.edge + 1 = ap steps_left c.in-Some.is in
    let r : steps_left c.before-cursor.result < steps_left c.loop-cursor.cursor = omega arith in r

stands : (c : goal.After-before-cursor) (name : List ℕ) → c.args.last ≡ last_before c.args.index.now.edges name (length c.args.index.now.edges) → IsCursor c.args.index.now.edges name (Some c.in-Some.edge)
stands c name last = subst (IsCursor c.args.index.now.edges name) c.in-Some.is (c.loop-cursor.invariant.cursor name last)

pub loop-cursor-preserved : goal.loop-cursor-preserved
loop-cursor-preserved c =
    let edges = c.args.index.now.edges in
    let edge = c.in-Some.edge in
    let w = (edge_at edges edge).1 in
    let nodes = c.args.nodes.now in
    let waits = c.loop-cursor.states.waits in
    let h = stands c c.requires.last.0 c.requires.last.1 in
    let before : (name : List ℕ) → c.args.last ≡ last_before edges name (length edges) → c.before-cursor.result ≡ last_before edges name edge =
    (λ name last. c.before-cursor.ensures ∙ before_cursor edges name edge (stands c name last)) in
    let inside : w < length nodes = c.requires.waiters edge h.0 in
    let within : w < length waits = omega (arith, c.loop-cursor.invariant.many) in
    let node = c.index-nodes-waiter.result in
    let waiter : c.waiter-waiter.result ≡ w = c.waiter-waiter.ensures in
    let group : (get_or nodes c.waiter-waiter.result node).group ≡ group_in nodes w =
    ap (λ k. (get_or nodes k node).group) waiter ∙ sym (get_or-map (λ (n : Unnamed). n.group) nodes w node 0 inside) in
    let wait : c.get.result ≡ wait_at waits w = sym (get_or_from_slice_get waits w c.get.result waiting.Ended (ap (λ k. slice_get waits k) (sym waiter) ∙ c.get.ensures)) in
    let new : c.told-waiting.result ≡ told c.args.news (group_in nodes w) (wait_at waits w) = c.told-waiting.ensures ∙ (λ i. told c.args.news (group i) (wait i)) in
    let after : c.set.new.self.waits ≡ set waits w (told c.args.news (group_in nodes w) (wait_at waits w)) = ap (λ (s : NodeWaits). s.waits) c.set.ensures ∙ (λ i. set waits (waiter i) (new i)) in
    record {
      many = ap length after ∙ length-set waits w (told c.args.news (group_in nodes w) (wait_at waits w)) ∙ c.loop-cursor.invariant.many;
      room = ap (λ (s : NodeWaits). s.room) c.set.ensures ∙ c.loop-cursor.invariant.room;
      cursor = λ name last. subst (IsCursor edges name) (sym (before name last)) (cursor_last edges name edge (omega (arith, h.0)));
      waits = λ name last number.
          (λ i. told_times c.args.news (group_in nodes number) (left edges name number (before name last i)) (wait_at (after i) number))
          ∙ tells_one edges name c.args.news (group_in nodes) waits edge (stands c name last) within number
          ∙ ap (λ o. told_times c.args.news (group_in nodes number) (left edges name number o) (wait_at waits number)) (sym c.in-Some.is)
          ∙ c.loop-cursor.invariant.waits name last number;
    }
