-- The node of a name, by its number.
use Rattle.std.proofs.Common.{◌≡◌, ℕ, suc, ◌<◌, true, false, cond, if◌then◌else◌, List, [], ◌∷◌, length, Option, None, Some, slice_get, refl, sym, ap, subst, ◌∙◌}
use Rattle.std.specs.Option.{option_map}
use Rattle.message_graph.specs.declared.nodes.Node.{Node}
use Rattle.message_graph.specs.Nodes.{same_name, node_named, node_number}
use Rattle.message_graph.proofs.Positions.{place, Tells, position-place, position_tells}

-- the node at a number that may be missing
abbrev pub node_at : List Node → Option ℕ → Option Node
node_at nodes None = None
node_at nodes (Some number) = slice_get nodes number

at_more : (node : Node) (nodes : List Node) (o : Option ℕ) → node_at (node ∷ nodes) (option_map suc o) ≡ node_at nodes o
at_more node nodes None = refl
at_more node nodes (Some number) = refl

node_named-place : (nodes : List Node) (name : List ℕ) → node_named nodes name ≡ node_at nodes (place (λ (node : Node). same_name name node.name) nodes)
node_named-place [] name = refl
node_named-place (node ∷ nodes) name =
    elim (same_name name node.name) as (λ b. (if b then Some node else node_named nodes name) ≡ node_at (node ∷ nodes) (cond b (Some 0) (option_map suc (place (λ (n : Node). same_name name n.name) nodes)))) [
      | true ↦ refl
      | false ↦ node_named-place nodes name ∙ sym (at_more node nodes (place (λ (n : Node). same_name name n.name) nodes))
    ]

-- the node of a name is that of its number
pub node_named-number : (nodes : List Node) (name : List ℕ)
    → node_named nodes name ≡ node_at nodes (node_number nodes name)
node_named-number nodes name = node_named-place nodes name ∙ ap (node_at nodes) (sym (position-place (λ (node : Node). same_name name node.name) nodes))

pub number_within : (nodes : List Node) (name : List ℕ) (number : ℕ)
    → node_number nodes name ≡ Some number → number < length nodes
number_within nodes name number found =
    let t : Tells (λ (n : Node). same_name name n.name) nodes (Some number) = subst (Tells (λ (n : Node). same_name name n.name) nodes) found (position_tells (λ (n : Node). same_name name n.name) nodes) in t.0
