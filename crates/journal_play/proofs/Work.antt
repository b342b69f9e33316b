-- Each step leaves fewer messages without an answer or without an end.
use Rattle.std.proofs.Common.{◌≡◌, ℕ, zero, suc, ◌+◌, ◌<◌, List, [], ◌∷◌, length, refl, sym, ◌∙◌, ap, subst, arith, Option, Some, None, slice_get}
use Rattle.message_graph.specs.declared.nodes.Node.{Node}
use Rattle.message_graph.specs.declared.nodes.Judged.{Judged}
use Rattle.message_graph.specs.declared.nodes.Ending.{Ending}
use Rattle.message_graph.specs.declared.nodes.Ending.TheVariants as ending
use Rattle.message_graph.specs.declared.nodes.Step.{Step}
use Rattle.message_graph.specs.declared.nodes.Step.TheVariants as graph_step
use Rattle.message_graph.specs.Nodes.{next_step, with_answer, with_ending, after_step}
use Rattle.message_graph.proofs.NodeLaws.{next_judge, next_end, length-change}
use Rattle.journal_play.specs.Keeping.{IsStepDone}

abbrev pub left : {A : Type 0} → Option A → ℕ
left None = 1
left (Some x) = 0

abbrev pub work : List Node → ℕ
work [] = 0
work (node ∷ nodes) = (left node.answer + left node.ending) + work nodes

less_judged : (nodes : List Node) (n : ℕ) (node : Node) (answer : Judged) → slice_get nodes n ≡ Some node → node.answer ≡ None → work (with_answer n answer nodes) < work nodes
less_judged [] n node answer at open_now = absurd (let e : None ≡ Some node = at in cc)
less_judged (x ∷ nodes) zero node answer at open_now =
    let is : x ≡ node = cc in
    let none : left x.answer ≡ 1 = ap (λ (w : Node). left w.answer) is ∙ ap left open_now in
    omega (arith, none)
less_judged (x ∷ nodes) (suc n) node answer at open_now = omega (arith, less_judged nodes n node answer at open_now)

less_ended : (nodes : List Node) (n : ℕ) (node : Node) (end : Ending) → slice_get nodes n ≡ Some node → node.ending ≡ None → work (with_ending n end nodes) < work nodes
less_ended [] n node end at open_now = absurd (let e : None ≡ Some node = at in cc)
less_ended (x ∷ nodes) zero node end at open_now =
    let is : x ≡ node = cc in
    let none : left x.ending ≡ 1 = ap (λ (w : Node). left w.ending) is ∙ ap left open_now in
    omega (arith, none)
less_ended (x ∷ nodes) (suc n) node end at open_now = omega (arith, less_ended nodes n node end at open_now)

pub less_done : (s : Step) (old new : List Node) → next_step old ≡ Some s → IsStepDone s old new
    → work new < work old
less_done (graph_step.Judge n) old new e d =
    let t = next_judge old n e in
    subst (λ (ns : List Node). work ns < work old) (sym d.1) (less_judged old n t.0 d.0 t.1 t.2)
less_done (graph_step.Invalid n) old new e d =
    let t = next_end old n ending.Invalid e in
    subst (λ (ns : List Node). work ns < work old) (sym d) (less_ended old n t.0 ending.Invalid t.1 t.2.goes_on)
less_done (graph_step.Deliver n) old new e d =
    let t = next_end old n ending.Delivered e in
    subst (λ (ns : List Node). work ns < work old) (sym d) (less_ended old n t.0 ending.Delivered t.1 t.2.goes_on)

pub length_after : (s : Step) (nodes : List Node) → length (after_step s nodes) ≡ length nodes
length_after (graph_step.Judge n) nodes = refl
length_after (graph_step.Invalid n) nodes = length-change (λ (node : Node). record node { ending = Some ending.Invalid }) n nodes
length_after (graph_step.Deliver n) nodes = length-change (λ (node : Node). record node { ending = Some ending.Delivered }) n nodes
