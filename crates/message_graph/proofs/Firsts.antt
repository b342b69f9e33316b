-- The first edge of each waiter: what more edges leave, who holds its name, and a walk over the edges from the last to the first.
use Rattle.std.proofs.Common.{◌≡◌, ◌≢◌, ℕ, zero, suc, ◌+◌, ◌<◌, ◌==◌, true, false, if◌then◌else◌, List, [], ◌∷◌, ◌++◌, length, map, drop, Option, None, Some, slice_get, refl, sym, ap, subst, ◌∙◌, get_or, set, arith, inl, inr}
use Rattle.std.proofs.lemmas.List.{drop_more, ext_get_or, length-map, get_or-map, get_or-set_same, get_or-set_other}
use Rattle.std.proofs.lemmas.Bool.{cases_eq, eq-eqb, eqb-true, false_from_ne_true}
use Rattle.message_graph.specs.declared.nodes.Node.{Node}
use Rattle.message_graph.specs.declared.index.Slot.{Slot}
use Rattle.message_graph.specs.declared.index.Edge.{Edge}
use Rattle.message_graph.specs.Links.{WaitIndex, IsLinked, place_of, holder_at, holder_if, first_for, first_place, edge_at, named}
use Rattle.message_graph.specs.Waits.{NodeWaits}
use Rattle.message_graph.specs.Whole.{IsGraph, first_held, number_if}
use Rattle.message_graph.proofs.Linked.{holders_of, places_of}
use Rattle.message_graph.proofs.Changes.{dependencies_there, node_there}

-- ---- more edges

-- the edges of a node that had none
pub first_enlisted : (names : List (List ℕ)) (edges : List (List ℕ × ℕ)) (waiter : ℕ) → first_for edges waiter ≡ None
    → first_for (edges ++ map (λ other. (other, waiter)) names) waiter ≡ slice_get names 0
first_enlisted [] [] waiter none = refl
first_enlisted (name ∷ names) [] waiter none =
    ap (λ b. if b then Some name else first_for (map (λ other. (other, waiter)) names) waiter) (eq-eqb waiter waiter refl)
first_enlisted names (e ∷ edges) waiter none =
    elim (waiter == e.1) as (λ b. (if b then Some e.0 else first_for edges waiter) ≡ None
    → (if b then Some e.0 else first_for (edges ++ map (λ other. (other, waiter)) names) waiter) ≡ slice_get names 0) [
      | true ↦ λ some. absurd (let wrong : Some e.0 ≡ None = some in cc)
      | false ↦ λ rest. first_enlisted names edges waiter rest
    ] none

-- the edges of another node
pub first_unlisted : (names : List (List ℕ)) (edges : List (List ℕ × ℕ)) (waiter other : ℕ) → other ≢ waiter
    → first_for (edges ++ map (λ name. (name, waiter)) names) other ≡ first_for edges other
first_unlisted [] [] waiter other apart = refl
first_unlisted (name ∷ names) [] waiter other apart =
    ap (λ b. if b then Some name else first_for (map (λ n. (n, waiter)) names) other) (false_from_ne_true (other == waiter) (λ e. apart (eqb-true other waiter e)))
    ∙ first_unlisted names [] waiter other apart
first_unlisted names (e ∷ edges) waiter other apart =
    ap (λ o. if other == e.1 then Some e.0 else o) (first_unlisted names edges waiter other apart)

-- ---- who holds the name of the first edge

pub holder_first : (links : WaitIndex) → ((place : ℕ) → place < length links.names → place_of links.names (get_or links.names place []) ≡ Some place)
    → (kept : List Edge) → ((edge : ℕ) → edge < length kept → get_or (places_of kept) edge 0 < length links.names) → (waiter : ℕ)
    → holder_at links.holders (first_place kept waiter) ≡ holder_if links (first_for (map (named links.names) kept) waiter)
holder_first links apart [] places waiter = refl
holder_first links apart (e ∷ kept) places waiter =
    let within : e.place < length links.names = places 0 (omega arith) in
    elim (waiter == e.waiter) as (λ b. holder_at links.holders (if b then Some e.place else first_place kept waiter)
    ≡ holder_if links (if b then Some (get_or links.names e.place []) else first_for (map (named links.names) kept) waiter)) [
      | true ↦ sym (ap (holder_at links.holders) (apart e.place within))
      | false ↦ holder_first links apart kept (λ edge l. places (suc edge) (omega arith)) waiter
    ]

-- the same, of the parts of an index
pub holder_in : (names : List (List ℕ)) (slots : List Slot) (kept : List Edge) → IsLinked names slots kept → (links : WaitIndex) → names ≡ links.names
    → holders_of slots ≡ links.holders → map (named names) kept ≡ links.edges
    → (waiter : ℕ) → holder_at (holders_of slots) (first_place kept waiter) ≡ holder_if links (first_for links.edges waiter)
holder_in names slots kept linked links names_are holders_are edges_are waiter =
    ap (λ hs. holder_at hs (first_place kept waiter)) holders_are
    ∙ holder_first links
    (subst (λ (ns : List (List ℕ)). (place : ℕ) → place < length ns → place_of ns (get_or ns place []) ≡ Some place) names_are linked.apart)
    kept
    (subst (λ (ns : List (List ℕ)). (edge : ℕ) → edge < length kept → get_or (places_of kept) edge 0 < length ns) names_are linked.places)
    waiter
    ∙ ap (λ es. holder_if links (first_for es waiter)) (ap (λ (ns : List (List ℕ)). map (named ns) kept) (sym names_are) ∙ edges_are)

-- ---- the nodes

module _ (nodes : List Node) (links : WaitIndex) (states : NodeWaits) (spare : ℕ) (g : IsGraph nodes links states spare) where
  number_is : (o : Option (List ℕ)) → holder_if links o ≡ number_if nodes o
  number_is None = refl
  number_is (Some name) = g.holders name

  held_at : (n : ℕ) (node : Node) → slice_get nodes n ≡ Some node → holder_if links (first_for links.edges n) ≡ first_held nodes node
  held_at n node at = number_is (first_for links.edges n) ∙ ap (number_if nodes) (g.firsts n ∙ ap (λ names. slice_get names 0) (dependencies_there nodes n node at))

  map_there : (ns : List Node) (n : ℕ) (node : Node) → slice_get ns n ≡ Some node → get_or (map (first_held nodes) ns) n None ≡ first_held nodes node
  map_there [] n node at = absurd (let none : None ≡ Some node = at in cc)
  map_there (m ∷ ns) zero node at = ap (first_held nodes) (let is : m ≡ node = cc in is)
  map_there (m ∷ ns) (suc n) node at = map_there ns n node at

  pub firsts_are : (firsts : List (Option ℕ)) → length firsts ≡ length nodes
      → ((n : ℕ) → n < length nodes → get_or firsts n None ≡ holder_if links (first_for links.edges n)) → firsts ≡ map (first_held nodes) nodes
  firsts_are firsts many each =
      ext_get_or None firsts (map (first_held nodes) nodes) (many ∙ sym (length-map nodes (first_held nodes))) (λ n below.
      let within : n < length nodes = omega (arith, below, many) in
      let there = node_there nodes n within in
      each n within ∙ held_at n there.0 there.1 ∙ sym (map_there nodes n there.0 there.1))

-- ---- a walk over the edges from the last to the first

abbrev pub waiters_of : List Edge → List ℕ
waiters_of kept = map (λ (e : Edge). e.waiter) kept

-- the waiter of an edge with its name
pub edge_waiter : (names : List (List ℕ)) (kept : List Edge) (edge : ℕ) → edge < length kept → (edge_at (map (named names) kept) edge).1 ≡ get_or (waiters_of kept) edge 0
edge_waiter names [] edge h = absurd (omega arith)
edge_waiter names (e ∷ kept) zero h = refl
edge_waiter names (e ∷ kept) (suc edge) h = edge_waiter names kept edge (omega arith)

-- the place and the waiter of an edge that was read
pub place_there : (edges : List Edge) (m : ℕ) (e : Edge) (bound : ℕ) → m < length edges → get_or (places_of edges) m 0 < bound → (get_or edges m e).place < bound
place_there edges m e bound inside within = subst (λ k. k < bound) (get_or-map (λ (x : Edge). x.place) edges m e 0 inside) within

pub waiter_there : (edges : List Edge) (m : ℕ) (e : Edge) (bound : ℕ) → m < length edges → get_or (waiters_of edges) m 0 < bound → (get_or edges m e).waiter < bound
waiter_there edges m e bound inside within = subst (λ k. k < bound) (get_or-map (λ (x : Edge). x.waiter) edges m e 0 inside) within

-- of each waiter below a number the holder of the place of its first edge
abbrev pub AreHolders : List Slot → List Edge → ℕ → List (Option ℕ) → Type 0
AreHolders slots edges count firsts = (n : ℕ) → n < count → get_or firsts n None ≡ holder_at (holders_of slots) (first_place edges n)

-- one edge more at the front
pub front_holder : (slots : List Slot) (edges : List Edge) (e : Edge) (d : Slot) (count : ℕ) (firsts : List (Option ℕ)) → e.place < length slots
    → length firsts ≡ count → e.waiter < count → AreHolders slots edges count firsts
    → AreHolders slots (e ∷ edges) count (set firsts e.waiter (get_or slots e.place d).holder)
front_holder slots edges e d count firsts within many there are n below =
    let holder : Option ℕ = (get_or slots e.place d).holder in
    elim (cases_eq n e.waiter) [
      | inl same ↦
          ap (λ k. get_or (set firsts e.waiter holder) k None) same
          ∙ get_or-set_same firsts e.waiter holder None (omega (arith, many, there))
          ∙ sym (get_or-map (λ (s : Slot). s.holder) slots e.place d None within)
          ∙ sym (ap (λ b. holder_at (holders_of slots) (if b then Some e.place else first_place edges n)) (eq-eqb n e.waiter same))
      | inr other ↦
          get_or-set_other firsts e.waiter n holder None other
          ∙ are n below
          ∙ sym (ap (λ b. holder_at (holders_of slots) (if b then Some e.place else first_place edges n)) (false_from_ne_true (n == e.waiter) (λ t. other (eqb-true n e.waiter t))))
    ]

pub step_holder : (slots : List Slot) (edges : List Edge) (m j k : ℕ) (e : Edge) (d : Slot) (count : ℕ) (firsts : List (Option ℕ)) → m < length edges → j ≡ m → k ≡ m + 1
    → (get_or (places_of edges) m 0 < length slots) → length firsts ≡ count → get_or (waiters_of edges) m 0 < count
    → AreHolders slots (drop k edges) count firsts
    → AreHolders slots (drop j edges) count (set firsts (get_or edges m e).waiter (get_or slots (get_or edges m e).place d).holder)
step_holder slots edges m j k e d count firsts inside same next within many there are =
    let rest : drop j edges ≡ get_or edges m e ∷ drop k edges =
    ap (λ i. drop i edges) same ∙ drop_more edges m e inside ∙ (λ i. get_or edges m e ∷ drop (sym next i) edges) in
    rw rest (front_holder slots (drop k edges) (get_or edges m e) d count firsts (place_there edges m e (length slots) inside within) many
    (waiter_there edges m e count inside there) are)
