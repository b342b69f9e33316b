-- The next step, by what the nodes wait for.
use Rattle.std.proofs.Common.{◌≡◌, ℕ, zero, suc, ◌+◌, ◌<◌, Bool, true, false, cond, if◌then◌else◌, ◌&&◌, ◌||◌, List, [], ◌∷◌, length, map, Option, None, Some, slice_get, refl, sym, ap, ◌∙◌, arith, add-one}
use Rattle.std.proofs.lemmas.Bool.{true≢false}
use Rattle.std.proofs.lemmas.Option.{get_or_from_slice_get}
use Rattle.std.specs.List.{list_any, list_all, position_from}
use Rattle.message_graph.specs.declared.nodes.Node.{Node}
use Rattle.message_graph.specs.declared.nodes.Judged.{Judged}
use Rattle.message_graph.specs.declared.nodes.Judged.TheVariants as judged
use Rattle.message_graph.specs.declared.nodes.Ending.{Ending}
use Rattle.message_graph.specs.declared.nodes.Step.{Step}
use Rattle.message_graph.specs.declared.nodes.Step.TheVariants as step
use Rattle.message_graph.specs.declared.states.Waiting.{Waiting}
use Rattle.message_graph.specs.declared.states.Waiting.TheVariants as waiting
use Rattle.message_graph.specs.Nodes.{node_named, fails, serves, step_accepted, step_judged}
use Rattle.message_graph.specs.Nodes.{step_by, or_else, first_step, next_step}
use Rattle.message_graph.specs.Waits.{with_dependency, missing, from_missing, waiting_by, waiting_of, step_missing, step_waiting, none_missing, has_step, wait_at}

abbrev not_some : Option ℕ → Bool
not_some None = true
not_some (Some count) = false

abbrev zero_missing : Option ℕ → Bool
zero_missing None = false
zero_missing (Some count) = none_missing count

module _ (held : List ℕ → Option Node) (group : ℕ) where
  abbrev bad : List ℕ → Bool
  bad name = fails group (held name)

  abbrev good : List ℕ → Bool
  good name = serves group (held name)

  lost_dependency : (f s : Bool) (o : Option ℕ) → not_some (with_dependency f s o) ≡ (f || not_some o)
  lost_dependency true s o = refl
  lost_dependency false true o = refl
  lost_dependency false false None = refl
  lost_dependency false false (Some count) = refl

  any_bad : (names : List (List ℕ)) → list_any (λ name. fails group (held name)) names ≡ not_some (missing held group names)
  any_bad [] = refl
  any_bad (name ∷ names) = ap (λ b. bad name || b) (any_bad names) ∙ sym (lost_dependency (bad name) (good name) (missing held group names))

  served_dependency : (f s a : Bool) (o : Option ℕ) → not_some (with_dependency f s o) ≡ false → (not_some o ≡ false → a ≡ zero_missing o) → (s && a) ≡ zero_missing (with_dependency f s o)
  served_dependency true s a o h k = absurd (true≢false h)
  served_dependency false true a o h k = k h
  served_dependency false false a None h k = refl
  served_dependency false false a (Some count) h k = sym (ap none_missing (add-one count))

  all_good : (names : List (List ℕ)) → not_some (missing held group names) ≡ false → list_all (λ name. serves group (held name)) names ≡ zero_missing (missing held group names)
  all_good [] h = refl
  all_good (name ∷ names) h = served_dependency (bad name) (good name) (list_all (λ n. serves group (held n)) names) (missing held group names) h (all_good names)

  accepted-waiting : (number : ℕ) (names : List (List ℕ)) → step_accepted held number group names ≡ step_waiting number (from_missing (missing held group names))
  accepted-waiting number names = by (missing held group names) (any_bad names) (all_good names)
    where
      lacking : (any all : Bool) (count : ℕ) → any ≡ false → all ≡ none_missing count → (if any then Some (step.Invalid number) else (if all then Some (step.Deliver number) else None)) ≡ step_missing number count
      lacking any all zero e f = (λ i. if e i then Some (step.Invalid number) else (if f i then Some (step.Deliver number) else None))
      lacking any all (suc count) e f = (λ i. if e i then Some (step.Invalid number) else (if f i then Some (step.Deliver number) else None))

      by : (o : Option ℕ) → list_any (λ name. fails group (held name)) names ≡ not_some o → (not_some o ≡ false → list_all (λ name. serves group (held name)) names ≡ zero_missing o) → step_accepted held number group names ≡ step_waiting number (from_missing o)
      by None e f = ap (λ b. if b then Some (step.Invalid number) else (if list_all (λ name. serves group (held name)) names then Some (step.Deliver number) else None)) e
      by (Some count) e f = lacking (list_any (λ name. fails group (held name)) names) (list_all (λ name. serves group (held name)) names) count e (f refl)

-- the step of a node is that of what it waits for
pub step-waiting : (held : List ℕ → Option Node) (number : ℕ) (node : Node) (answer : Option Judged) → step_by held number node answer ≡ step_waiting number (waiting_by held node.group answer node.ending)
step-waiting held number node None = refl
step-waiting held number node (Some answer) = by answer node.ending
  where
    by : (answer : Judged) (end : Option Ending) → step_judged held number node.group answer end ≡ step_waiting number (waiting_by held node.group (Some answer) end)
    by answer (Some end) = refl
    by judged.Refused None = refl
    by (judged.Accepted names) None = accepted-waiting held node.group number names

-- the step at a number that may be missing
abbrev pub step_at : List Waiting → Option ℕ → Option Step
step_at waits None = None
step_at waits (Some number) = step_waiting number (wait_at waits number)

has_step-step : (number : ℕ) (wait : Waiting) (later : Option Step) → or_else (step_waiting number wait) later ≡ (if has_step wait then step_waiting number wait else later)
has_step-step number waiting.Unjudged later = refl
has_step-step number waiting.Doomed later = refl
has_step-step number (waiting.Missing zero) later = refl
has_step-step number (waiting.Missing (suc count)) later = refl
has_step-step number waiting.Ended later = refl

first-waiting : (nodes : List Node) (whole : List Waiting) (number : ℕ) (rest : List Node) → ((k : ℕ) → wait_at whole (number + k) ≡ wait_at (map (waiting_of (node_named nodes)) rest) k) → first_step nodes number rest ≡ step_at whole (position_from has_step number (map (waiting_of (node_named nodes)) rest))
first-waiting nodes whole number [] agree = refl
first-waiting nodes whole number (node ∷ rest) agree =
    let wait = waiting_of (node_named nodes) node in
    let here : wait_at whole number ≡ wait = ap (wait_at whole) (omega arith) ∙ agree 0 in
    let later = first-waiting nodes whole (number + 1) rest (λ k. ap (wait_at whole) (omega arith) ∙ agree (suc k)) in
    ap (λ s. or_else s (first_step nodes (number + 1) rest)) (step-waiting (node_named nodes) number node node.answer)
    ∙ has_step-step number wait (first_step nodes (number + 1) rest)
    ∙ elim (has_step wait) as (λ b. (if b then step_waiting number wait else first_step nodes (number + 1) rest) ≡ step_at whole (cond b (Some number) (position_from has_step (number + 1) (map (waiting_of (node_named nodes)) rest)))) [
      | true ↦ ap (step_waiting number) (sym here)
      | false ↦ later
    ]

-- the next step is that of the first node that waits for no other
pub next-waiting : (nodes : List Node) (waits : List Waiting)
    → waits ≡ map (waiting_of (node_named nodes)) nodes
    → next_step nodes ≡ step_at waits (position_from has_step 0 waits)
next-waiting nodes waits h =
    first-waiting nodes waits 0 nodes (λ k. ap (wait_at waits) (omega arith) ∙ ap (λ w. wait_at w k) h) ∙ ap (λ w. step_at waits (position_from has_step 0 w)) (sym h)

-- what a position tells
pub position_from_tells : (waits whole : List Waiting) (number found : ℕ) → ((k : ℕ) → wait_at whole (number + k) ≡ wait_at waits k) → position_from has_step number waits ≡ Some found → (found < number + length waits) × (has_step (wait_at whole found) ≡ true)
position_from_tells [] whole number found agree h = absurd (let n : None ≡ Some found = h in cc)
position_from_tells (wait ∷ waits) whole number found agree h =
    let here : wait_at whole number ≡ wait = ap (wait_at whole) (omega arith) ∙ agree 0 in
    elim (has_step wait) as (λ b. has_step wait ≡ b → cond b (Some number) (position_from has_step (number + 1) waits) ≡ Some found → (found < number + length (wait ∷ waits)) × (has_step (wait_at whole found) ≡ true)) [
      | true ↦ λ e g. let is : number ≡ found = cc in (omega arith, ap has_step (ap (wait_at whole) (sym is) ∙ here) ∙ e)
      | false ↦ λ e g. let r = position_from_tells waits whole (number + 1) found (λ k. ap (wait_at whole) (omega arith) ∙ agree (suc k)) g in (omega (arith, r.0), r.1)
    ] refl h

pub first_tells : (waits : List Waiting) (found : ℕ) → position_from has_step 0 waits ≡ Some found → (found < length waits) × (has_step (wait_at waits found) ≡ true)
first_tells waits found h = let r = position_from_tells waits waits 0 found (λ k. ap (wait_at waits) (omega arith)) h in (omega (arith, r.0), r.1)

-- a node that waits for none has a delivery
pub none_missing_delivers : (number count : ℕ) → none_missing count ≡ true → step_missing number count ≡ Some (step.Deliver number)
none_missing_delivers number zero h = refl
none_missing_delivers number (suc count) h = absurd (true≢false (sym h))

-- the next step, where what its node waits for was read
pub next_read : (nodes : List Node) (waits : List Waiting) (number : ℕ) (wait : Waiting)
    → waits ≡ map (waiting_of (node_named nodes)) nodes
    → position_from has_step 0 waits ≡ Some number → slice_get waits number ≡ Some wait
    → (next_step nodes ≡ step_waiting number wait) × (has_step wait ≡ true)
next_read nodes waits number wait h found read =
    let at : wait_at waits number ≡ wait = get_or_from_slice_get waits number wait waiting.Ended read in
    (next-waiting nodes waits h ∙ ap (step_at waits) found ∙ ap (step_waiting number) at, ap has_step (sym at) ∙ (first_tells waits number found).1)
