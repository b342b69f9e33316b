-- Who waits for whom, as the code keeps it: one edge for each dependency of a judged node, with the name that is waited for and the
-- number of the node that waits.
use Rattle.std.specs.Prelude.{◌≡◌, ℕ, zero, suc, ◌+◌, ◌<◌, ◌==◌, ◌&&◌, if◌then◌else◌, List, [], ◌∷◌, length, map, position, Option, None, Some, slice_get, slice_index_or}
use Rattle.message_graph.specs.declared.index.Slot.{Slot}
use Rattle.message_graph.specs.declared.index.Edge.{Edge}
use Rattle.message_graph.specs.Nodes.{same_name}

-- a name that a node waits for, and the node's number
abbrev pub WaitEdge : Type 0
WaitEdge = List ℕ × ℕ

-- the names of the nodes by number, and for how many more nodes there is room
pub record Numbers : Type 0 where
  pub names : List (List ℕ)
  pub room : ℕ

-- an index: all names, the number of the node that holds each, the nodes' names by number, the edges, and the room for more names and more edges
pub record WaitIndex : Type 0 where
  pub names : List (List ℕ)
  pub holders : List (Option ℕ)
  pub numbers : Numbers
  pub edges : List (List ℕ × ℕ)
  pub room : ℕ
  pub edge_room : ℕ

-- the place of a name
abbrev pub place_of : List (List ℕ) → List ℕ → Option ℕ
place_of names name = position (same_name name) names

abbrev pub holder_at : List (Option ℕ) → Option ℕ → Option ℕ
holder_at holders None = None
holder_at holders (Some place) = slice_index_or holders place None

-- the number of the node that holds a name
abbrev pub holder_of : WaitIndex → List ℕ → Option ℕ
holder_of links name = holder_at links.holders (place_of links.names name)

-- an edge's name and waiter; past the end there are none
abbrev pub edge_at : List (List ℕ × ℕ) → ℕ → List ℕ × ℕ
edge_at edges edge = slice_index_or edges edge ([], 0)

-- the last edge before `end` whose name this is
abbrev pub last_before : List (List ℕ × ℕ) → List ℕ → ℕ → Option ℕ
last_before edges name zero = None
last_before edges name (suc end) = if same_name name (edge_at edges end).0 then Some end else last_before edges name end

-- how many edges before `end` have this name and this waiter
abbrev pub count_before : List (List ℕ × ℕ) → List ℕ → ℕ → ℕ → ℕ
count_before edges name waiter zero = 0
count_before edges name waiter (suc end) =
    (if same_name name (edge_at edges end).0 && (waiter == (edge_at edges end).1) then 1 else 0) + count_before edges name waiter end

-- the names at places
abbrev pub names_at : List (List ℕ) → List ℕ → List (List ℕ)
names_at names places = map (λ place. slice_index_or names place []) places

-- the edges with their names, of edges that keep the places of names
abbrev pub named : List (List ℕ) → Edge → List ℕ × ℕ
named names edge = (slice_index_or names edge.place [], edge.waiter)

-- the name of the first edge of a waiter
abbrev pub first_for : List (List ℕ × ℕ) → ℕ → Option (List ℕ)
first_for [] waiter = None
first_for (edge ∷ edges) waiter = if waiter == edge.1 then Some edge.0 else first_for edges waiter

-- the place of that name, of edges that keep the places of names
abbrev pub first_place : List Edge → ℕ → Option ℕ
first_place [] waiter = None
first_place (edge ∷ edges) waiter = if waiter == edge.waiter then Some edge.place else first_place edges waiter

-- who holds a name, if there is one
abbrev pub holder_if : WaitIndex → Option (List ℕ) → Option ℕ
holder_if links None = None
holder_if links (Some name) = holder_of links name

-- each slot has the last edge of its name, and each edge the one before it of the same name
pub record IsLinked (names : List (List ℕ)) (slots : List Slot) (kept : List Edge) : Type 0 where
  pub many : length slots ≡ length names
  pub apart : (place : ℕ) → place < length names → place_of names (slice_index_or names place []) ≡ Some place
  pub lasts : (place : ℕ) → place < length names → slice_index_or (map (λ slot. slot.last) slots) place None ≡ last_before (map (named names) kept) (slice_index_or names place []) (length kept)
  pub places : (edge : ℕ) → edge < length kept → slice_index_or (map (λ e. e.place) kept) edge 0 < length names
  pub befores : (edge : ℕ) → edge < length kept → slice_index_or (map (λ e. e.before) kept) edge None ≡ last_before (map (named names) kept) (edge_at (map (named names) kept) edge).0 edge

-- each node's name has its place by the node's number
pub record IsPlaced (slots : List Slot) (places : List ℕ) : Type 0 where
  pub found : (place number : ℕ) → slice_index_or (map (λ slot. slot.holder) slots) place None ≡ Some number → slice_get places number ≡ Some place
  pub inside : (number place : ℕ) → slice_get places number ≡ Some place → place < length slots
