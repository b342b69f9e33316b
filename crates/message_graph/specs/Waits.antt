-- What each node waits for, as the code keeps it.
use Rattle.std.specs.Prelude.{◌≡◌, ℕ, zero, suc, ◌+◌, ◌-◌, ◌==◌, Bool, true, false, if◌then◌else◌, List, [], ◌∷◌, ◌++◌, length, map, replicate, Option, None, Some, slice_index_or}
use Rattle.message_graph.specs.declared.nodes.Node.{Node}
use Rattle.message_graph.specs.declared.nodes.Unnamed.{Unnamed}
use Rattle.message_graph.specs.declared.nodes.Judged.{Judged}
use Rattle.message_graph.specs.declared.nodes.Judged.TheVariants as judged
use Rattle.message_graph.specs.declared.nodes.Ending.{Ending}
use Rattle.message_graph.specs.declared.nodes.Step.{Step}
use Rattle.message_graph.specs.declared.nodes.Step.TheVariants as step
use Rattle.message_graph.specs.declared.states.Waiting.{Waiting}
use Rattle.message_graph.specs.declared.states.Waiting.TheVariants as waiting
use Rattle.message_graph.specs.declared.states.News.{News}
use Rattle.message_graph.specs.declared.states.News.TheVariants as news
use Rattle.message_graph.specs.Nodes.{fails, serves}

-- what the nodes wait for, and for how many more there is room
pub record NodeWaits : Type 0 where
  pub waits : List Waiting
  pub room : ℕ

-- one dependency more that is not delivered; where one can never be, that stays
abbrev pub one_more : Option ℕ → Option ℕ
one_more None = None
one_more (Some count) = Some (count + 1)

-- with a dependency that fails or not, and serves or not
abbrev pub with_dependency : Bool → Bool → Option ℕ → Option ℕ
with_dependency true serve count = None
with_dependency false true count = count
with_dependency false false count = one_more count

-- how many dependencies are not delivered, or none where one can never be
abbrev pub missing : (List ℕ → Option Node) → ℕ → List (List ℕ) → Option ℕ
missing held group [] = Some 0
missing held group (name ∷ names) = with_dependency (fails group (held name)) (serves group (held name)) (missing held group names)

abbrev pub from_missing : Option ℕ → Waiting
from_missing None = waiting.Doomed
from_missing (Some count) = waiting.Missing count

abbrev pub waiting_open : (List ℕ → Option Node) → ℕ → Judged → Waiting
waiting_open held group judged.Refused = waiting.Doomed
waiting_open held group (judged.Accepted names) = from_missing (missing held group names)

abbrev pub waiting_judged : (List ℕ → Option Node) → ℕ → Judged → Option Ending → Waiting
waiting_judged held group answer (Some end) = waiting.Ended
waiting_judged held group answer None = waiting_open held group answer

abbrev pub waiting_by : (List ℕ → Option Node) → ℕ → Option Judged → Option Ending → Waiting
waiting_by held group None end = waiting.Unjudged
waiting_by held group (Some answer) end = waiting_judged held group answer end

-- what a node waits for
abbrev pub waiting_of : (List ℕ → Option Node) → Node → Waiting
waiting_of held node = waiting_by held node.group node.answer node.ending

abbrev pub step_missing : ℕ → ℕ → Option Step
step_missing number zero = Some (step.Deliver number)
step_missing number (suc count) = None

-- the step of the node of that number, by what it waits for
abbrev pub step_waiting : ℕ → Waiting → Option Step
step_waiting number waiting.Unjudged = Some (step.Judge number)
step_waiting number waiting.Doomed = Some (step.Invalid number)
step_waiting number (waiting.Missing count) = step_missing number count
step_waiting number waiting.Ended = None

abbrev pub none_missing : ℕ → Bool
none_missing zero = true
none_missing (suc count) = false

-- whether there is a step
abbrev pub has_step : Waiting → Bool
has_step waiting.Unjudged = true
has_step waiting.Doomed = true
has_step (waiting.Missing count) = none_missing count
has_step waiting.Ended = false

-- what is left to wait for of `count` missing ones, after the news of one of them, for a node of the group
abbrev pub missing_after : News → ℕ → ℕ → Option ℕ
missing_after (news.Arrived other) group count = if other == group then Some count else None
missing_after news.Failed group count = None
missing_after news.Delivered group count = Some (count - 1)

abbrev pub told : News → ℕ → Waiting → Waiting
told what group waiting.Unjudged = waiting.Unjudged
told what group waiting.Doomed = waiting.Doomed
told what group (waiting.Missing count) = from_missing (missing_after what group count)
told what group waiting.Ended = waiting.Ended

-- the same news a number of times
abbrev pub told_times : News → ℕ → ℕ → Waiting → Waiting
told_times what group zero wait = wait
told_times what group (suc times) wait = told_times what group times (told what group wait)

-- what the node of that number waits for; past the end nothing
abbrev pub wait_at : List Waiting → ℕ → Waiting
wait_at waits number = slice_index_or waits number waiting.Ended

-- the node's group; past the end 0
abbrev pub group_at : List Node → ℕ → ℕ
group_at nodes number = slice_index_or (map (λ node. node.group) nodes) number 0

-- the same of nodes without their names
abbrev pub group_in : List Unnamed → ℕ → ℕ
group_in rests number = slice_index_or (map (λ rest. rest.group) rests) number 0

-- the places of a set that has just those of the nodes that have a step; there are more places than nodes
abbrev pub Marked : List Bool → List Waiting → Type 0
Marked places waits = places ≡ map has_step waits ++ replicate (length places - length waits) false

-- the places of an empty set
abbrev pub AreClear : List Bool → Type 0
AreClear places = places ≡ replicate (length places) false

-- all but the last
abbrev pub but_last : List Waiting → List Waiting
but_last [] = []
but_last (wait ∷ []) = []
but_last (wait ∷ next ∷ rest) = wait ∷ but_last (next ∷ rest)
