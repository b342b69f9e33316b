-- What a graph says of its nodes: the step that is open to each, the next step of all, and each one's fate.
use Rattle.std.specs.Prelude.{ℕ, zero, suc, ◌+◌, ◌==◌, nat_eq, Bool, true, false, not, ◌||◌, ◌&&◌, if◌then◌else◌, List, [], ◌∷◌, Option, None, Some, position}
use Rattle.std.specs.Cmp.Lexicographic.{pointwise}
use Rattle.std.specs.List.{list_any, list_all}
use Rattle.message_graph.specs.declared.nodes.Node.{Node}
use Rattle.message_graph.specs.declared.nodes.Unnamed.{Unnamed}
use Rattle.message_graph.specs.declared.nodes.Judged.{Judged}
use Rattle.message_graph.specs.declared.nodes.Judged.TheVariants as judged
use Rattle.message_graph.specs.declared.nodes.Ending.{Ending}
use Rattle.message_graph.specs.declared.nodes.Ending.TheVariants as ending
use Rattle.message_graph.specs.declared.nodes.Step.{Step}
use Rattle.message_graph.specs.declared.nodes.Step.TheVariants as step
use Rattle.message_graph.specs.declared.nodes.Fate.{Fate}
use Rattle.message_graph.specs.declared.nodes.Fate.TheVariants as fate

-- what a graph is seen as: its nodes by number, and for how many more there is room
pub record Shown : Type 0 where
  pub nodes : List Node
  pub spare : ℕ

-- a node, of its name and the rest of it
abbrev pub with_name : List ℕ → Unnamed → Node
with_name name rest = record { name = name; group = rest.group; answer = rest.answer; ending = rest.ending }

-- the nodes, of their names and the rest of each
abbrev pub with_names : List (List ℕ) → List Unnamed → List Node
with_names [] rests = []
with_names (name ∷ names) [] = []
with_names (name ∷ names) (rest ∷ rests) = with_name name rest ∷ with_names names rests

-- whether two names are the same bytes
abbrev pub same_name : List ℕ → List ℕ → Bool
same_name a b = pointwise nat_eq a b

-- the node that has the name
abbrev pub node_named : List Node → List ℕ → Option Node
node_named [] name = None
node_named (node ∷ nodes) name = if same_name name node.name then Some node else node_named nodes name

-- the number of the node that has the name
abbrev pub node_number : List Node → List ℕ → Option ℕ
node_number nodes name = position (λ node. same_name name node.name) nodes

-- whether the node ended as invalid, and as delivered
abbrev pub is_invalid : Option Ending → Bool
is_invalid None = false
is_invalid (Some ending.Invalid) = true
is_invalid (Some ending.Delivered) = false

abbrev pub is_delivered : Option Ending → Bool
is_delivered None = false
is_delivered (Some ending.Invalid) = false
is_delivered (Some ending.Delivered) = true

-- the ending of what is invalid or not, and delivered or not
abbrev pub ending_by : Bool → Bool → Option Ending
ending_by true delivered = Some ending.Invalid
ending_by false true = Some ending.Delivered
ending_by false false = None

-- whether a dependency can never be delivered to a node of the group: it is held in another group, or invalid
abbrev pub fails : ℕ → Option Node → Bool
fails group None = false
fails group (Some node) = not (node.group == group) || is_invalid node.ending

-- whether a dependency is delivered, in the group
abbrev pub serves : ℕ → Option Node → Bool
serves group None = false
serves group (Some node) = (node.group == group) && is_delivered node.ending

-- the step of a node that was accepted and has no ending, by what holds its dependencies
abbrev pub step_accepted : (List ℕ → Option Node) → ℕ → ℕ → List (List ℕ) → Option Step
step_accepted held number group dependencies =
    if list_any (λ name. fails group (held name)) dependencies then Some (step.Invalid number)
    else (if list_all (λ name. serves group (held name)) dependencies then Some (step.Deliver number) else None)

-- the step of a node that was judged and has no ending
abbrev pub step_open : (List ℕ → Option Node) → ℕ → ℕ → Judged → Option Step
step_open held number group judged.Refused = Some (step.Invalid number)
step_open held number group (judged.Accepted dependencies) = step_accepted held number group dependencies

-- the step of a node that was judged
abbrev pub step_judged : (List ℕ → Option Node) → ℕ → ℕ → Judged → Option Ending → Option Step
step_judged held number group answer (Some end) = None
step_judged held number group answer None = step_open held number group answer

-- the step of a node, by its answer
abbrev pub step_by : (List ℕ → Option Node) → ℕ → Node → Option Judged → Option Step
step_by held number node None = Some (step.Judge number)
step_by held number node (Some answer) = step_judged held number node.group answer node.ending

-- the one step that is open to the node of that number, if any
abbrev pub step_of : List Node → ℕ → Node → Option Step
step_of nodes number node = step_by (node_named nodes) number node node.answer

abbrev pub or_else : Option Step → Option Step → Option Step
or_else None later = later
or_else (Some first) later = Some first

-- the step of the first node that has one, of those from the number on
abbrev pub first_step : List Node → ℕ → List Node → Option Step
first_step nodes number [] = None
first_step nodes number (node ∷ rest) = or_else (step_of nodes number node) (first_step nodes (number + 1) rest)

-- the next step: that of the least number that has one
abbrev pub next_step : List Node → Option Step
next_step nodes = first_step nodes 0 nodes

-- the fate of a node that has no ending, by its answer
abbrev pub fate_open : Option Judged → Fate
fate_open None = fate.Unknown
fate_open (Some answer) = fate.Pending

abbrev pub fate_by : Option Judged → Option Ending → Fate
fate_by answer (Some ending.Invalid) = fate.Invalid
fate_by answer (Some ending.Delivered) = fate.Delivered
fate_by answer None = fate_open answer

-- a node's fate
abbrev pub fate_of : Node → Fate
fate_of node = fate_by node.answer node.ending

-- a node that was just held
abbrev pub fresh_node : List ℕ → ℕ → Node
fresh_node name group = record { name = name; group = group; answer = None; ending = None }

-- the list with one node changed
abbrev pub change : (Node → Node) → ℕ → List Node → List Node
change f number [] = []
change f zero (node ∷ nodes) = f node ∷ nodes
change f (suc number) (node ∷ nodes) = node ∷ change f number nodes

-- the nodes once that one is judged
abbrev pub with_answer : ℕ → Judged → List Node → List Node
with_answer number answer nodes = change (λ node. record node { answer = Some answer }) number nodes

-- the nodes once that one has ended
abbrev pub with_ending : ℕ → Ending → List Node → List Node
with_ending number end nodes = change (λ node. record node { ending = Some end }) number nodes

-- the nodes after a step; a judgement is not made by a step
abbrev pub after_step : Step → List Node → List Node
after_step (step.Judge number) nodes = nodes
after_step (step.Invalid number) nodes = with_ending number ending.Invalid nodes
after_step (step.Deliver number) nodes = with_ending number ending.Delivered nodes

-- the number of a step's node
abbrev pub step_number : Step → ℕ
step_number (step.Judge number) = number
step_number (step.Invalid number) = number
step_number (step.Deliver number) = number

-- whether a step ends its node
abbrev pub EndsNode : Step → Type 0
EndsNode (step.Judge number) = ⊥
EndsNode (step.Invalid number) = Unit {0}
EndsNode (step.Deliver number) = Unit {0}
