-- The held messages by number, and what is kept of each beside its id.
use Rattle.std.specs.Prelude.{ℕ, List, [], ◌∷◌, ◌++◌}
use Rattle.message_graph.specs.declared.nodes.Node.{Node}
use Rattle.message_graph.specs.Nodes.{fresh_node}
use Rattle.journal_play.specs.declared.kept.Head.{Head}
use Rattle.journal_play.specs.declared.kept.Rest.{Rest}

-- what the lines of the held messages say, and their nodes
pub record HeldHeads : Type 0 where
  pub heads : List Head
  pub nodes : List Node

-- what a line says, beside the id
abbrev pub rest_of : Head → Rest
rest_of h = record { timestamp = h.timestamp; len = h.len }

-- what a line says, with this id
abbrev pub head_with : List ℕ → Rest → Head
head_with id rest = record { id = id; timestamp = rest.timestamp; len = rest.len }

-- what the lines say, each with the name of its node as its id
abbrev pub heads_of : List Rest → List Node → List Head
heads_of [] nodes = []
heads_of (rest ∷ rests) [] = []
heads_of (rest ∷ rests) (node ∷ nodes) = head_with node.name rest ∷ heads_of rests nodes

-- one more message is held
abbrev pub with_more : Head → HeldHeads → HeldHeads
with_more h held =
    record { heads = held.heads ++ h ∷ []; nodes = held.nodes ++ fresh_node h.id 0 ∷ [] }
