-- Counting edges: along the edges of one name, and after a push.
use Rattle.std.proofs.Common.{◌≡◌, ◌≢◌, ℕ, zero, suc, ◌+◌, ◌<◌, ◌≤◌, Bool, true, false, if◌then◌else◌, ◌==◌, ◌&&◌, List, [], ◌∷◌, ◌++◌, length, map, Option, None, Some, refl, sym, ap, ◌∙◌, set, arith, inl, inr, append_assoc, append-nil}
use Rattle.std.proofs.lemmas.List.{get_or-set_same, get_or-set_other, get_or_append_left, get_or_push, length_push}
use Rattle.std.proofs.lemmas.Bool.{cases_eq, false_from_ne_true, eqb-true, eq-eqb}
use Rattle.message_graph.specs.declared.states.Waiting.{Waiting}
use Rattle.message_graph.specs.declared.states.Waiting.TheVariants as waiting
use Rattle.message_graph.specs.declared.states.News.{News}
use Rattle.message_graph.specs.Nodes.{same_name}
use Rattle.message_graph.specs.Links.{edge_at, last_before, count_before}
use Rattle.message_graph.specs.Waits.{told, told_times, wait_at}
use Rattle.message_graph.specs.Whole.{occurrences}
use Rattle.message_graph.proofs.Linked.{same_refl, same_equal}

-- whether the edge has this name and this waiter, as a number
abbrev pub one_if : List (List ℕ × ℕ) → List ℕ → ℕ → ℕ → ℕ
one_if edges name waiter edge = if same_name name (edge_at edges edge).0 && (waiter == (edge_at edges edge).1) then 1 else 0

-- an edge at which a walk along the edges of a name may stand
abbrev pub IsCursor : List (List ℕ × ℕ) → List ℕ → Option ℕ → Type 0
IsCursor edges name None = Unit {0}
IsCursor edges name (Some edge) = (edge < length edges) × (same_name name (edge_at edges edge).0 ≡ true)

-- how many edges of the waiter the walk has left
abbrev pub left : List (List ℕ × ℕ) → List ℕ → ℕ → Option ℕ → ℕ
left edges name waiter None = 0
left edges name waiter (Some edge) = count_before edges name waiter (suc edge)

abbrev pub steps_left : Option ℕ → ℕ
steps_left None = 0
steps_left (Some edge) = edge + 1

module _ (edges : List (List ℕ × ℕ)) (name : List ℕ) where
  -- a walk from the last edge before `end` has them all left
  pub left_last : (waiter end : ℕ) → left edges name waiter (last_before edges name end) ≡ count_before edges name waiter end
  left_last waiter zero = refl
  left_last waiter (suc end) =
      elim (same_name name (edge_at edges end).0) as (λ b. same_name name (edge_at edges end).0 ≡ b → left edges name waiter (if b then Some end else last_before edges name end) ≡ count_before edges name waiter (suc end)) [
        | true ↦ λ e. refl
        | false ↦ λ e. left_last waiter end ∙ sym (ap (λ b. (if b && (waiter == (edge_at edges end).1) then 1 else 0) + count_before edges name waiter end) e ∙ omega arith)
      ] refl

  pub cursor_last : (end : ℕ) → end ≤ length edges → IsCursor edges name (last_before edges name end)
  cursor_last zero h = tt
  cursor_last (suc end) h =
      elim (same_name name (edge_at edges end).0) as (λ b. same_name name (edge_at edges end).0 ≡ b → IsCursor edges name (if b then Some end else last_before edges name end)) [
        | true ↦ λ e. (omega arith, e)
        | false ↦ λ e. cursor_last end (omega arith)
      ] refl

  pub steps_last : (end : ℕ) → steps_left (last_before edges name end) ≤ end
  steps_last zero = omega arith
  steps_last (suc end) =
      elim (same_name name (edge_at edges end).0) as (λ b. steps_left (if b then Some end else last_before edges name end) ≤ suc end) [
        | true ↦ omega arith
        | false ↦ omega (arith, steps_last end)
      ]

  -- the edge before a cursor is that of the same name
  pub before_cursor : (edge : ℕ) → IsCursor edges name (Some edge) → last_before edges (edge_at edges edge).0 edge ≡ last_before edges name edge
  before_cursor edge h = ap (λ n. last_before edges n edge) (sym (same_equal name (edge_at edges edge).0 h.1))

  -- one edge is counted for its own waiter alone
  pub counts_own : (edge : ℕ) → IsCursor edges name (Some edge) → count_before edges name (edge_at edges edge).1 (suc edge) ≡ suc (count_before edges name (edge_at edges edge).1 edge)
  counts_own edge h =
      let w = (edge_at edges edge).1 in
      (λ i. (if h.1 i && eq-eqb w w refl i then 1 else 0) + count_before edges name w edge) ∙ omega arith

  pub counts_other : (edge waiter : ℕ) → IsCursor edges name (Some edge) → waiter ≢ (edge_at edges edge).1 → count_before edges name waiter (suc edge) ≡ count_before edges name waiter edge
  counts_other edge waiter h other =
      (λ i. (if h.1 i && false_from_ne_true (waiter == (edge_at edges edge).1) (λ e. other (eqb-true waiter (edge_at edges edge).1 e)) i then 1 else 0) + count_before edges name waiter edge) ∙ omega arith

-- an edge is counted
pub counted : (edges : List (List ℕ × ℕ)) (edge end : ℕ) → edge < end → 1 ≤ count_before edges (edge_at edges edge).0 (edge_at edges edge).1 end
counted edges edge zero h = absurd (omega arith)
counted edges edge (suc end) h =
    let name = (edge_at edges edge).0 in
    let waiter = (edge_at edges edge).1 in
    elim (cases_eq edge end) [
      | inl same ↦
          let here : 1 ≡ one_if edges name waiter end =
          (λ i. if sym (ap (λ k. same_name name (edge_at edges k).0) (sym same) ∙ same_refl name) i && sym (ap (λ k. waiter == (edge_at edges k).1) (sym same) ∙ eq-eqb waiter waiter refl) i then 1 else 0) in
          omega arith
      | inr other ↦ omega (arith, counted edges edge end (omega arith))
    ]

-- a push changes no count before it
pub count_before-push : (edges : List (List ℕ × ℕ)) (e : List ℕ × ℕ) (name : List ℕ) (waiter end : ℕ) → end ≤ length edges → count_before (edges ++ e ∷ []) name waiter end ≡ count_before edges name waiter end
count_before-push edges e name waiter zero h = refl
count_before-push edges e name waiter (suc end) h =
    let at : edge_at (edges ++ e ∷ []) end ≡ edge_at edges end = get_or_append_left edges (e ∷ []) ([], 0) end (omega arith) in
    (λ i. (if same_name name (at i).0 && (waiter == (at i).1) then 1 else 0) + count_before-push edges e name waiter end (omega arith) i)

abbrev pub count_all : List (List ℕ × ℕ) → List ℕ → ℕ → ℕ
count_all edges name waiter = count_before edges name waiter (length edges)

pub count_all-push : (edges : List (List ℕ × ℕ)) (e : List ℕ × ℕ) (name : List ℕ) (waiter : ℕ) → count_all (edges ++ e ∷ []) name waiter ≡ (if same_name name e.0 && (waiter == e.1) then 1 else 0) + count_all edges name waiter
count_all-push edges e name waiter =
    let len : length (edges ++ e ∷ []) ≡ suc (length edges) = omega (arith, length_push edges e) in
    let at : edge_at (edges ++ e ∷ []) (length edges) ≡ e = get_or_push edges e ([], 0) (length edges) refl in
    ap (count_before (edges ++ e ∷ []) name waiter) len
    ∙ (λ i. (if same_name name (at i).0 && (waiter == (at i).1) then 1 else 0) + count_before-push edges e name waiter (length edges) (omega arith) i)

-- the edges of a node's dependencies are counted for it
pub counts_enlisted : (names : List (List ℕ)) (edges : List (List ℕ × ℕ)) (name : List ℕ) (waiter : ℕ) → count_all (edges ++ map (λ other. (other, waiter)) names) name waiter ≡ occurrences name names + count_all edges name waiter
counts_enlisted [] edges name waiter = (λ i. count_all (append-nil edges i) name waiter) ∙ omega arith
counts_enlisted (n ∷ names) edges name waiter =
    (λ i. count_all (sym (append_assoc edges ((n, waiter) ∷ []) (map (λ other. (other, waiter)) names)) i) name waiter)
    ∙ counts_enlisted names (edges ++ (n, waiter) ∷ []) name waiter
    ∙ ap (λ k. occurrences name names + k) (count_all-push edges (n, waiter) name waiter ∙ ap (λ b. (if b then 1 else 0) + count_all edges name waiter) (both_true (same_name name n)))
    ∙ omega arith
  where
    both_true : (b : Bool) → (b && (waiter == waiter)) ≡ b
    both_true true = eq-eqb waiter waiter refl
    both_true false = refl

-- and for no other
pub counts_unlisted : (names : List (List ℕ)) (edges : List (List ℕ × ℕ)) (name : List ℕ) (waiter other : ℕ) → other ≢ waiter → count_all (edges ++ map (λ n. (n, waiter)) names) name other ≡ count_all edges name other
counts_unlisted [] edges name waiter other h = (λ i. count_all (append-nil edges i) name other)
counts_unlisted (n ∷ names) edges name waiter other h =
    (λ i. count_all (sym (append_assoc edges ((n, waiter) ∷ []) (map (λ m. (m, waiter)) names)) i) name other)
    ∙ counts_unlisted names (edges ++ (n, waiter) ∷ []) name waiter other h
    ∙ count_all-push edges (n, waiter) name other ∙ ap (λ b. (if b then 1 else 0) + count_all edges name other) (one_false (same_name name n)) ∙ omega arith
  where
    one_false : (b : Bool) → (b && (other == waiter)) ≡ false
    one_false true = false_from_ne_true (other == waiter) (λ e. h (eqb-true other waiter e))
    one_false false = refl

-- a step of the walk: the waiter hears the news once more, and has one edge fewer left
pub tells_one : (edges : List (List ℕ × ℕ)) (name : List ℕ) (news : News) (group : ℕ → ℕ) (waits : List Waiting) (edge : ℕ) → IsCursor edges name (Some edge) → (edge_at edges edge).1 < length waits
    → (number : ℕ) → told_times news (group number) (left edges name number (last_before edges name edge)) (wait_at (set waits (edge_at edges edge).1 (told news (group (edge_at edges edge).1) (wait_at waits (edge_at edges edge).1))) number)
    ≡ told_times news (group number) (left edges name number (Some edge)) (wait_at waits number)
tells_one edges name news group waits edge h within number =
    let w = (edge_at edges edge).1 in
    let new = told news (group w) (wait_at waits w) in
    ap (λ k. told_times news (group number) k (wait_at (set waits w new) number)) (left_last edges name number edge)
    ∙ elim (cases_eq number w) [
      | inl same ↦ (λ i. told_times news (group (same i)) (count_before edges name (same i) edge) (wait_at (set waits w new) (same i)))
          ∙ ap (told_times news (group w) (count_before edges name w edge)) (get_or-set_same waits w new waiting.Ended within)
          ∙ sym ((λ i. told_times news (group (same i)) (count_before edges name (same i) (suc edge)) (wait_at waits (same i))) ∙ ap (λ k. told_times news (group w) k (wait_at waits w)) (counts_own edges name edge h))
      | inr other ↦ ap (told_times news (group number) (count_before edges name number edge)) (get_or-set_other waits w number new waiting.Ended other)
          ∙ sym (ap (λ k. told_times news (group number) k (wait_at waits number)) (counts_other edges name edge number h other))
    ]
