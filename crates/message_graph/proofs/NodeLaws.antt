-- Laws on nodes that callers chain: what the next step tells of its node, where a node has its number, and what a changed node leaves.
use Rattle.std.proofs.Common.{◌≡◌, ℕ, zero, suc, ◌+◌, ◌<◌, Bool, true, false, cond, if◌then◌else◌, List, [], ◌∷◌, length, Option, None, Some, is_some, slice_get, refl, sym, ap, ◌∙◌, arith}
use Rattle.std.specs.List.{list_any, list_all, position_from}
use Rattle.std.proofs.lemmas.Iterator.Adapters.{position_from-zero}
use Rattle.message_graph.specs.declared.nodes.Node.{Node}
use Rattle.message_graph.specs.declared.nodes.Judged.{Judged}
use Rattle.message_graph.specs.declared.nodes.Judged.TheVariants as judged
use Rattle.message_graph.specs.declared.nodes.Ending.{Ending}
use Rattle.message_graph.specs.declared.nodes.Ending.TheVariants as ending
use Rattle.message_graph.specs.declared.nodes.Step.{Step}
use Rattle.message_graph.specs.declared.nodes.Step.TheVariants as step
use Rattle.message_graph.specs.Nodes.{same_name, node_named, node_number, fails, serves}
use Rattle.message_graph.specs.Nodes.{step_judged, step_by, step_of, or_else, first_step, next_step}
use Rattle.message_graph.specs.Nodes.{change}
use Rattle.message_graph.specs.Whole.{ending_step}

-- ---- numbers

-- a node is there at a number below the length alone
pub there_within : (nodes : List Node) (k : ℕ) (node : Node) → slice_get nodes k ≡ Some node → k < length nodes
there_within [] k node h = absurd (let n : None ≡ Some node = h in cc)
there_within (m ∷ nodes) zero node h = omega arith
there_within (m ∷ nodes) (suc k) node h = omega (arith, there_within nodes k node h)

numbered_from : (nodes : List Node) (name : List ℕ) (number : ℕ) → is_some (position_from (λ (node : Node). same_name name node.name) number nodes) ≡ is_some (node_named nodes name)
numbered_from [] name number = refl
numbered_from (node ∷ nodes) name number =
    elim (same_name name node.name) as (λ b. is_some (cond b (Some number) (position_from (λ (m : Node). same_name name m.name) (number + 1) nodes)) ≡ is_some (if b then Some node else node_named nodes name)) [
      | true ↦ refl
      | false ↦ numbered_from nodes name (number + 1)
    ]

-- a name has a number exactly where it has a node
pub number_of-node_named : (nodes : List Node) (name : List ℕ)
    → is_some (node_number nodes name) ≡ is_some (node_named nodes name)
number_of-node_named nodes name = ap is_some (position_from-zero (λ (node : Node). same_name name node.name) nodes) ∙ numbered_from nodes name 0

-- a changed node leaves their number
pub length-change : (f : Node → Node) (n : ℕ) (nodes : List Node) → length (change f n nodes) ≡ length nodes
length-change f n [] = refl
length-change f zero (node ∷ nodes) = refl
length-change f (suc n) (node ∷ nodes) = ap suc (length-change f n nodes)

-- ---- the next step

-- the node of the first step
first_step_tells : (nodes : List Node) (number : ℕ) (rest : List Node) (s : Step) → first_step nodes number rest ≡ Some s → (k : ℕ) × (node : Node) × (slice_get rest k ≡ Some node) × (step_of nodes (number + k) node ≡ Some s)
first_step_tells nodes number [] s h = absurd (let n : None ≡ Some s = h in cc)
first_step_tells nodes number (node ∷ rest) s h =
    elim (step_of nodes number node) as (λ o. step_of nodes number node ≡ o → or_else o (first_step nodes (number + 1) rest) ≡ Some s → (k : ℕ) × (n : Node) × (slice_get (node ∷ rest) k ≡ Some n) × (step_of nodes (number + k) n ≡ Some s)) [
      | None ↦ λ e g. let r = first_step_tells nodes (number + 1) rest s g in (suc r.0, r.1, r.2, ap (λ k. step_of nodes k r.1) (omega arith) ∙ r.3)
      | (Some first) ↦ λ e g. (0, node, refl, ap (λ k. step_of nodes k node) (omega arith) ∙ e ∙ g)
    ] refl h

-- what a step tells of its node
accepted_judges : (any all : Bool) (number n : ℕ) → (if any then Some (step.Invalid number) else (if all then Some (step.Deliver number) else None)) ≡ Some (step.Judge n) → ⊥
accepted_judges true all number n h = cc
accepted_judges false true number n h = cc
accepted_judges false false number n h = cc

judge_tells : (held : List ℕ → Option Node) (number : ℕ) (node : Node) (answer : Option Judged) (n : ℕ) → step_by held number node answer ≡ Some (step.Judge n) → (answer ≡ None) × (number ≡ n)
judge_tells held number node None n h = (refl, cc)
judge_tells held number node (Some answer) n h = absurd (by answer node.ending h)
  where
    by : (answer : Judged) (end : Option Ending) → step_judged held number node.group answer end ≡ Some (step.Judge n) → ⊥
    by answer (Some end) g = cc
    by judged.Refused None g = cc
    by (judged.Accepted names) None g = accepted_judges (list_any (λ name. fails node.group (held name)) names) (list_all (λ name. serves node.group (held name)) names) number n g

accepted_ends : (any all : Bool) (number n : ℕ) (e : Ending) → (if any then Some (step.Invalid number) else (if all then Some (step.Deliver number) else None)) ≡ Some (ending_step e n) → number ≡ n
accepted_ends true all number n ending.Invalid h = cc
accepted_ends true all number n ending.Delivered h = absurd cc
accepted_ends false true number n ending.Invalid h = absurd cc
accepted_ends false true number n ending.Delivered h = cc
accepted_ends false false number n ending.Invalid h = absurd cc
accepted_ends false false number n ending.Delivered h = absurd cc

-- a node that a step ends was judged, and has not ended
pub record HasAnswer (node : Node) : Type 0 where
  pub answer : Judged
  pub given : node.answer ≡ Some answer
  pub goes_on : node.ending ≡ None

end_judged : (held : List ℕ → Option Node) (number group : ℕ) (answer : Judged) (end : Option Ending) (n : ℕ) (e : Ending) → step_judged held number group answer end ≡ Some (ending_step e n) → (end ≡ None) × (number ≡ n)
end_judged held number group answer (Some end) n ending.Invalid h = absurd cc
end_judged held number group answer (Some end) n ending.Delivered h = absurd cc
end_judged held number group judged.Refused None n ending.Invalid h = (refl, cc)
end_judged held number group judged.Refused None n ending.Delivered h = absurd cc
end_judged held number group (judged.Accepted names) None n e h = (refl, accepted_ends (list_any (λ name. fails group (held name)) names) (list_all (λ name. serves group (held name)) names) number n e h)

no_judge : (number n : ℕ) (e : Ending) → Some (step.Judge number) ≡ Some (ending_step e n) → ⊥
no_judge number n ending.Invalid h = cc
no_judge number n ending.Delivered h = cc

end_tells : (held : List ℕ → Option Node) (number : ℕ) (node : Node) (answer : Option Judged) (n : ℕ) (e : Ending) → node.answer ≡ answer → step_by held number node answer ≡ Some (ending_step e n) → HasAnswer node × (number ≡ n)
end_tells held number node None n e is h = absurd (no_judge number n e h)
end_tells held number node (Some answer) n e is h =
    let r = end_judged held number node.group answer node.ending n e h in (record { answer = answer; given = is; goes_on = r.0 }, r.1)

-- the node of a judgement, and of an ending
pub next_judge : (nodes : List Node) (n : ℕ) → next_step nodes ≡ Some (step.Judge n)
    → (node : Node) × (slice_get nodes n ≡ Some node) × (node.answer ≡ None)
next_judge nodes n h =
    let r = first_step_tells nodes 0 nodes (step.Judge n) h in
    let t = judge_tells (node_named nodes) (0 + r.0) r.1 r.1.answer n r.3 in
    let is : r.0 ≡ n = omega (arith, t.1) in
    (r.1, ap (λ k. slice_get nodes k) (sym is) ∙ r.2, t.0)

pub next_end : (nodes : List Node) (n : ℕ) (e : Ending) → next_step nodes ≡ Some (ending_step e n)
    → (node : Node) × (slice_get nodes n ≡ Some node) × HasAnswer node
next_end nodes n e h =
    let r = first_step_tells nodes 0 nodes (ending_step e n) h in
    let t = end_tells (node_named nodes) (0 + r.0) r.1 r.1.answer n e refl r.3 in
    let is : r.0 ≡ n = omega (arith, t.1) in
    (r.1, ap (λ k. slice_get nodes k) (sym is) ∙ r.2, t.0)
