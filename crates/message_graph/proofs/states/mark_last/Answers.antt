use Rattle.std.proofs.Common.{◌≡◌, ◌+◌, ◌<◌, ◌++◌, ◌∷◌, [], arith, length, get_or, set, subst}
use Rattle.message_graph.specs.declared.states.Waiting.TheVariants as waiting
use Rattle.message_graph.specs.Waits.{but_last, Marked}
use Rattle.message_graph.proofs.Marks.{marked-push, and_last, length-but_last, clear-set}
use Rattle.message_graph.proofs.states.mark_last.Goals as goal

pub returns-clause-marked : goal.returns-clause-marked
returns-clause-marked c = λ h.
    let ready = c.args.ready.now in
    let waits = c.args.waits.now in
    let last = c.in-Some.last in
    let wait = get_or waits last waiting.Unjudged in
    let long = c.in-Some.ensures in
    let len : length waits ≡ last + 1 = omega (arith, long.0, long.1) in
    let before : length (but_last waits) ≡ last = omega (arith, len, length-but_last waits) in
    let room : length (but_last waits) < length ready = omega (arith, c.requires, len, before) in
    let pushed : Marked (set ready (length (but_last waits)) c.has_step-is_ready.result) (but_last waits ++ wait ∷ []) = marked-push ready (but_last waits) wait c.has_step-is_ready.result h room c.has_step-is_ready.ensures in
    let placed : Marked (set ready last c.has_step-is_ready.result) (but_last waits ++ wait ∷ []) = subst (λ k. Marked (set ready k c.has_step-is_ready.result) (but_last waits ++ wait ∷ [])) before pushed in
    rw c.put.ensures (subst (λ ws. Marked (set ready last c.has_step-is_ready.result) ws) (and_last waits last waiting.Unjudged len) placed)

pub returns-clause-clear : goal.returns-clause-clear
returns-clause-clear c = λ no_step clear. rw c.put.ensures (clear-set c.args.ready.now c.in-Some.last c.has_step-is_ready.result clear no_step)
