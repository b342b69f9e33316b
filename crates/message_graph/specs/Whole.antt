-- What a graph keeps beside its nodes, and that it agrees with them.
use Rattle.std.specs.Prelude.{◌≡◌, ℕ, zero, suc, ◌+◌, ◌<◌, ◌≤◌, ◌^◌, if◌then◌else◌, List, [], ◌∷◌, length, map, Option, None, Some, slice_get}
use Rattle.message_graph.specs.declared.nodes.Node.{Node}
use Rattle.message_graph.specs.declared.nodes.Judged.{Judged}
use Rattle.message_graph.specs.declared.nodes.Judged.TheVariants as judged
use Rattle.message_graph.specs.declared.nodes.Ending.{Ending}
use Rattle.message_graph.specs.declared.nodes.Ending.TheVariants as ending
use Rattle.message_graph.specs.declared.nodes.Step.{Step}
use Rattle.message_graph.specs.declared.nodes.Step.TheVariants as step
use Rattle.message_graph.specs.declared.states.News.{News}
use Rattle.message_graph.specs.declared.states.News.TheVariants as news
use Rattle.message_graph.specs.Nodes.{same_name, node_named, node_number}
use Rattle.message_graph.specs.Waits.{NodeWaits, waiting_of}
use Rattle.message_graph.specs.Links.{WaitIndex, holder_of, count_before, first_for}

-- how often a name stands in a list
abbrev pub occurrences : List ℕ → List (List ℕ) → ℕ
occurrences name [] = 0
occurrences name (other ∷ others) = (if same_name name other then 1 else 0) + occurrences name others

-- what a node depends on, by its answer
abbrev pub dependencies : Option Judged → List (List ℕ)
dependencies None = []
dependencies (Some judged.Refused) = []
dependencies (Some (judged.Accepted names)) = names

-- what the node of that number depends on; past the end nothing
abbrev pub dependencies_at : List Node → ℕ → List (List ℕ)
dependencies_at [] number = []
dependencies_at (node ∷ nodes) zero = dependencies node.answer
dependencies_at (node ∷ nodes) (suc number) = dependencies_at nodes number

-- the number of the node that holds a name, if there is one
abbrev pub number_if : List Node → Option (List ℕ) → Option ℕ
number_if nodes None = None
number_if nodes (Some name) = node_number nodes name

-- the number of the node that holds the first name that a node depends on
abbrev pub first_held : List Node → Node → Option ℕ
first_held nodes node = number_if nodes (slice_get (dependencies node.answer) 0)

-- the step that ends a node so, and the news of it
abbrev pub ending_step : Ending → ℕ → Step
ending_step ending.Invalid number = step.Invalid number
ending_step ending.Delivered number = step.Deliver number

abbrev pub ending_news : Ending → News
ending_news ending.Invalid = news.Failed
ending_news ending.Delivered = news.Delivered

-- an unjudged node has not ended
abbrev pub IsNodeInOrder : Node → Type 0
IsNodeInOrder node = node.answer ≡ None → node.ending ≡ None

pub record IsGraph (nodes : List Node) (links : WaitIndex) (states : NodeWaits) (spare : ℕ) : Type 0 where
  pub few : length nodes < 2 ^ 32
  pub holders : (name : List ℕ) → holder_of links name ≡ node_number nodes name
  pub own : (number : ℕ) (node : Node) → slice_get nodes number ≡ Some node
      → node_number nodes node.name ≡ Some number
  pub waits : states.waits ≡ map (waiting_of (node_named nodes)) nodes
  pub edges : (name : List ℕ) (waiter : ℕ) → count_before links.edges name waiter (length links.edges) ≡ occurrences name (dependencies_at nodes waiter)
  pub firsts : (waiter : ℕ) → first_for links.edges waiter ≡ slice_get (dependencies_at nodes waiter) 0
  pub order : (number : ℕ) (node : Node) → slice_get nodes number ≡ Some node → IsNodeInOrder node
  pub count : length links.numbers.names ≡ length nodes
  pub numbers : spare ≤ links.numbers.room
  pub room : spare ≤ links.room
  pub places : spare ≤ states.room
