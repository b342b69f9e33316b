use Rattle.std.proofs.Common.{◌≡◌, ap, sym, ◌∙◌, rules, length, get_or, cond, true, false, None, Some, ◌+◌, arith}
use Rattle.std.specs.List.{position_from}
use Rattle.message_graph.specs.Waits.{NodeWaits, has_step, but_last}
use Rattle.message_graph.proofs.Marks.{first_of_marked, some_before, none_before, none_there}
use Rattle.message_graph.proofs.states.States.first.Goals as goal

pub returns-then-is_some : goal.returns-then-is_some
returns-then-is_some c =
    let s = c.self.inside in
    some_before s.waits.items c.first_in-before.result (c.first_in-before.ensures ∙ first_of_marked s.ready (but_last s.waits.items) c.self.invariant.0) (sym c.is_some.ensures ∙ c.if-is_some.true)
    ∙ ap (λ (w : NodeWaits). position_from has_step 0 w.waits) c.self.view_is

pub returns-then-has_step : goal.returns-then-has_step
returns-then-has_step c =
    let s = c.self.inside in
    let long = c.in_ok-last.ensures in
    let count : c.len.result ≡ length s.waits.items = search rules in
    let len : length s.waits.items ≡ c.in_ok-last.last + 1 = omega (arith, long.0, long.1, count) in
    let has : has_step (get_or s.waits.items c.in_ok-last.last c.index.result.now) ≡ true = ap has_step (sym c.index.ensures) ∙ sym c.has_step.ensures ∙ c.if-has_step.true in
    sym (none_before s.waits.items c.in_ok-last.last c.index.result.now c.first_in-before.result (c.first_in-before.ensures ∙ first_of_marked s.ready (but_last s.waits.items) c.self.invariant.0) (sym c.is_some.ensures ∙ c.if-is_some.false) len
    ∙ ap (λ b. cond b (Some c.in_ok-last.last) None) has)
    ∙ ap (λ (w : NodeWaits). position_from has_step 0 w.waits) c.self.view_is

pub returns-else-has_step : goal.returns-else-has_step
returns-else-has_step c =
    let s = c.self.inside in
    let long = c.in_ok-last.ensures in
    let count : c.len.result ≡ length s.waits.items = search rules in
    let len : length s.waits.items ≡ c.in_ok-last.last + 1 = omega (arith, long.0, long.1, count) in
    let has : has_step (get_or s.waits.items c.in_ok-last.last c.index.result.now) ≡ false = ap has_step (sym c.index.ensures) ∙ sym c.has_step.ensures ∙ c.if-has_step.false in
    sym (none_before s.waits.items c.in_ok-last.last c.index.result.now c.first_in-before.result (c.first_in-before.ensures ∙ first_of_marked s.ready (but_last s.waits.items) c.self.invariant.0) (sym c.is_some.ensures ∙ c.if-is_some.false) len
    ∙ ap (λ b. cond b (Some c.in_ok-last.last) None) has)
    ∙ ap (λ (w : NodeWaits). position_from has_step 0 w.waits) c.self.view_is

pub returns-in_err-last : goal.returns-in_err-last
returns-in_err-last c =
    let s = c.self.inside in
    let count : length s.waits.items ≡ c.len.result = search rules in
    c.from_residual.ensures ∙ sym (none_there s.waits.items (λ long. c.in_err-last.ensures (omega (arith, long, count))))
    ∙ ap (λ (w : NodeWaits). position_from has_step 0 w.waits) c.self.view_is
