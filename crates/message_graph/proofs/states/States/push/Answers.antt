use Rattle.std.proofs.Common.{◌≡◌, arith, sym, subst, ◌≤◌, length, ◌++◌, ◌∷◌, [], vec_capacity}
use Rattle.message_graph.specs.declared.states.Waiting.TheVariants as waiting
use Rattle.message_graph.specs.Waits.{Marked, but_last}
use Rattle.message_graph.proofs.Marks.{but_last-push, neither}
use Rattle.message_graph.proofs.states.States.push.Goals as goal

pub invariant_of-self : goal.invariant_of-self
invariant_of-self c =
    let s = c.self.inside in
    let items : c.push.new.self.items ≡ s.waits.items ++ waiting.Unjudged ∷ [] = rw c.unwrap.ensures at c.push.ensures.items in
    let same : c.deref.result.now ≡ s.waits.items = c.deref.ensures.value in
    let marked : Marked c.mark_last-is_ready.new.ready s.waits.items = subst (λ ws. Marked c.mark_last-is_ready.new.ready ws) same (c.mark_last-is_ready.ensures.marked (subst (λ ws. Marked s.ready (but_last ws)) (sym same) c.self.invariant.0)) in
    let fits : length c.mark_last-is_ready.new.ready ≤ vec_capacity c.push.new.self = omega (arith, c.self.invariant.1, c.push.ensures.capacity, c.mark_last-is_ready.ensures.len) in
    (rw (items, but_last-push) marked, fits, λ unused. let both = neither s.is_used c.mark_last-is_ready.result unused in c.mark_last-is_ready.ensures.clear both.1 (c.self.invariant.2 both.0))
