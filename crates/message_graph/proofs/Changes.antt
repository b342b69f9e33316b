-- A list of nodes with one changed, or one more.
use Rattle.std.proofs.Common.{◌≡◌, ◌≢◌, ℕ, zero, suc, ◌<◌, ◌≤◌, false, cond, List, [], ◌∷◌, ◌++◌, length, map, Option, None, Some, slice_get, refl, sym, ap, subst, ◌∙◌, get_or, set, arith, inl, inr, ◌⊎◌}
use Rattle.std.specs.Option.{option_map}
use Rattle.std.proofs.lemmas.Bool.{true≢false, false_from_ne_true}
use Rattle.message_graph.specs.declared.nodes.Node.{Node}
use Rattle.message_graph.specs.declared.states.Waiting.{Waiting}
use Rattle.message_graph.specs.Nodes.{same_name, node_named, node_number, change}
use Rattle.message_graph.specs.Waits.{wait_at, group_at}
use Rattle.message_graph.specs.Whole.{dependencies, dependencies_at, occurrences}
use Rattle.message_graph.proofs.Positions.{place, Tells, position-place, position_tells, place_pushed, position-push}
use Rattle.message_graph.proofs.Linked.{same_refl, same_equal}
use Rattle.message_graph.proofs.Named.{node_at, node_named-number, number_within}
use Rattle.message_graph.proofs.Missing.{Differs}

-- there is a node at each number below the length
pub node_there : (nodes : List Node) (k : ℕ) → k < length nodes → (node : Node) × (slice_get nodes k ≡ Some node)
node_there [] k h = absurd (omega arith)
node_there (node ∷ nodes) zero h = (node, refl)
node_there (node ∷ nodes) (suc k) h = node_there nodes k (omega arith)

-- what a node that is there says at its number
pub wait_there : (f : Node → Waiting) (nodes : List Node) (k : ℕ) (node : Node) → slice_get nodes k ≡ Some node → wait_at (map f nodes) k ≡ f node
wait_there f [] k node h = absurd (let n : None ≡ Some node = h in cc)
wait_there f (m ∷ nodes) zero node h = let e : m ≡ node = cc in ap f e
wait_there f (m ∷ nodes) (suc k) node h = wait_there f nodes k node h

pub group_there : (nodes : List Node) (k : ℕ) (node : Node) → slice_get nodes k ≡ Some node → group_at nodes k ≡ node.group
group_there [] k node h = absurd (let n : None ≡ Some node = h in cc)
group_there (m ∷ nodes) zero node h = let e : m ≡ node = cc in ap (λ (n : Node). n.group) e
group_there (m ∷ nodes) (suc k) node h = group_there nodes k node h

pub dependencies_there : (nodes : List Node) (k : ℕ) (node : Node) → slice_get nodes k ≡ Some node → dependencies_at nodes k ≡ dependencies node.answer
dependencies_there [] k node h = absurd (let n : None ≡ Some node = h in cc)
dependencies_there (m ∷ nodes) zero node h = let e : m ≡ node = cc in ap (λ (n : Node). dependencies n.answer) e
dependencies_there (m ∷ nodes) (suc k) node h = dependencies_there nodes k node h

-- a node with dependencies is there
pub dependent_within : (nodes : List Node) (k : ℕ) (name : List ℕ) → 1 ≤ occurrences name (dependencies_at nodes k) → k < length nodes
dependent_within [] k name h = absurd (omega arith)
dependent_within (m ∷ nodes) zero name h = omega arith
dependent_within (m ∷ nodes) (suc k) name h = omega (arith, dependent_within nodes k name h)

module _ (f : Node → Node) where
  pub set-change : (nodes : List Node) (n : ℕ) (node : Node) → node ≡ get_or nodes n node → set nodes n (f node) ≡ change f n nodes
  set-change [] n node h = refl
  set-change (m ∷ nodes) zero node h = ap (λ x. f x ∷ nodes) h
  set-change (m ∷ nodes) (suc n) node h = ap (λ ns. m ∷ ns) (set-change nodes n node h)

  pub get-change_same : (nodes : List Node) (n : ℕ) (node : Node) → slice_get nodes n ≡ Some node → slice_get (change f n nodes) n ≡ Some (f node)
  get-change_same [] n node h = absurd (let e : None ≡ Some node = h in cc)
  get-change_same (m ∷ nodes) zero node h = let e : m ≡ node = cc in ap (λ x. Some (f x)) e
  get-change_same (m ∷ nodes) (suc n) node h = get-change_same nodes n node h

  pub get-change_other : (nodes : List Node) (n k : ℕ) → k ≢ n → slice_get (change f n nodes) k ≡ slice_get nodes k
  get-change_other [] n k h = refl
  get-change_other (m ∷ nodes) zero zero h = absurd (h refl)
  get-change_other (m ∷ nodes) zero (suc k) h = refl
  get-change_other (m ∷ nodes) (suc n) zero h = refl
  get-change_other (m ∷ nodes) (suc n) (suc k) h = get-change_other nodes n k (λ e. h (ap suc e))

  pub dependencies-change_other : (nodes : List Node) (n k : ℕ) → k ≢ n → dependencies_at (change f n nodes) k ≡ dependencies_at nodes k
  dependencies-change_other [] n k h = refl
  dependencies-change_other (m ∷ nodes) zero zero h = absurd (h refl)
  dependencies-change_other (m ∷ nodes) zero (suc k) h = refl
  dependencies-change_other (m ∷ nodes) (suc n) zero h = refl
  dependencies-change_other (m ∷ nodes) (suc n) (suc k) h = dependencies-change_other nodes n k (λ e. h (ap suc e))

  module _ (keeps : (node : Node) → (f node).name ≡ node.name) where
    place-change : (name : List ℕ) (n : ℕ) (nodes : List Node) → place (λ (node : Node). same_name name node.name) (change f n nodes) ≡ place (λ (node : Node). same_name name node.name) nodes
    place-change name n [] = refl
    place-change name zero (node ∷ nodes) = ap (λ x. cond (same_name name x) (Some 0) (option_map suc (place (λ (m : Node). same_name name m.name) nodes))) (keeps node)
    place-change name (suc n) (node ∷ nodes) = ap (λ o. cond (same_name name node.name) (Some 0) (option_map suc o)) (place-change name n nodes)

    -- a change that keeps names keeps the numbers
    pub number_of-change : (nodes : List Node) (n : ℕ) (name : List ℕ)
        → node_number (change f n nodes) name ≡ node_number nodes name
    number_of-change nodes n name =
        position-place (λ (node : Node). same_name name node.name) (change f n nodes) ∙ place-change name n nodes ∙ sym (position-place (λ (node : Node). same_name name node.name) nodes)

    -- and changes what holds that node's name alone
    pub differs-change : (nodes : List Node) (n : ℕ) (node : Node) → slice_get nodes n ≡ Some node
        → node_number nodes node.name ≡ Some n
        → Differs (node_named nodes) (node_named (change f n nodes)) node.name (Some node) (f node)
    differs-change nodes n node at own = record {
      there = λ name e. let is : name ≡ node.name = sym (same_equal node.name name e) in
          node_named-number nodes name ∙ ap (node_at nodes) (ap (node_number nodes) is ∙ own) ∙ at;
      shows = λ name e. let is : name ≡ node.name = sym (same_equal node.name name e) in
          node_named-number (change f n nodes) name
          ∙ ap (node_at (change f n nodes))
          (number_of-change nodes n name ∙ ap (node_number nodes) is ∙ own)
          ∙ get-change_same nodes n node at;
      others = λ name e.
          node_named-number (change f n nodes) name ∙ ap (node_at (change f n nodes)) (number_of-change nodes n name)
          ∙ by name e (node_number nodes name) refl
          ∙ sym (node_named-number nodes name);
    }
      where
        by : (name : List ℕ) → same_name node.name name ≡ false → (o : Option ℕ)
            → node_number nodes name ≡ o → node_at (change f n nodes) o ≡ node_at nodes o
        by name e None h = refl
        by name e (Some k) h = get-change_other nodes n k (λ same.
            let t : Tells (λ (m : Node). same_name name m.name) nodes (Some k) = subst (Tells (λ (m : Node). same_name name m.name) nodes) h (position_tells (λ (m : Node). same_name name m.name) nodes) in
            let found : get_or nodes k node ≡ node = ap (λ j. get_or nodes j node) same ∙ at_is nodes n node at in
            let alike : name ≡ node.name = same_equal name node.name (ap (λ (m : Node). same_name name m.name) (sym found) ∙ t.1 node) in
            true≢false (sym (same_refl node.name) ∙ ap (same_name node.name) (sym alike) ∙ e))
          where
            at_is : (ns : List Node) (k : ℕ) (m : Node) → slice_get ns k ≡ Some m → get_or ns k m ≡ m
            at_is [] k m g = refl
            at_is (x ∷ ns) zero m g = cc
            at_is (x ∷ ns) (suc k) m g = at_is ns k m g

-- one more node
pub get-push_old : (nodes : List Node) (m : Node) (k : ℕ) (node : Node) → slice_get nodes k ≡ Some node → slice_get (nodes ++ m ∷ []) k ≡ Some node
get-push_old [] m k node h = absurd (let e : None ≡ Some node = h in cc)
get-push_old (x ∷ nodes) m zero node h = h
get-push_old (x ∷ nodes) m (suc k) node h = get-push_old nodes m k node h

pub get-push_new : (nodes : List Node) (m : Node) → slice_get (nodes ++ m ∷ []) (length nodes) ≡ Some m
get-push_new [] m = refl
get-push_new (x ∷ nodes) m = get-push_new nodes m

pub get-push_cases : (nodes : List Node) (m : Node) (k : ℕ) (node : Node) → slice_get (nodes ++ m ∷ []) k ≡ Some node → (slice_get nodes k ≡ Some node) ⊎ ((k ≡ length nodes) × (m ≡ node))
get-push_cases [] m zero node h = inr (refl, cc)
get-push_cases [] m (suc k) node h = absurd (let e : None ≡ Some node = h in cc)
get-push_cases (x ∷ nodes) m zero node h = inl h
get-push_cases (x ∷ nodes) m (suc k) node h = elim (get-push_cases nodes m k node h) [ inl old ↦ inl old | inr new ↦ inr (ap suc new.0, new.1) ]

pub dependencies_at-push : (nodes : List Node) (m : Node) (k : ℕ) → dependencies m.answer ≡ [] → dependencies_at (nodes ++ m ∷ []) k ≡ dependencies_at nodes k
dependencies_at-push [] m zero h = h
dependencies_at-push [] m (suc k) h = refl
dependencies_at-push (x ∷ nodes) m zero h = refl
dependencies_at-push (x ∷ nodes) m (suc k) h = dependencies_at-push nodes m k h

module _ (nodes : List Node) (m : Node) (new : node_number nodes m.name ≡ None) where
  pub number_of-push : (name : List ℕ)
      → node_number (nodes ++ m ∷ []) name
      ≡ place_pushed (λ (node : Node). same_name name node.name) nodes m (node_number nodes name)
  number_of-push name = position-push (λ (node : Node). same_name name node.name) nodes m

  -- a new name that was none of the old
  pub differs-push : Differs (node_named nodes) (node_named (nodes ++ m ∷ [])) m.name None m
  differs-push = record {
    there = λ name e. let is : name ≡ m.name = sym (same_equal m.name name e) in
        node_named-number nodes name ∙ ap (node_at nodes) (ap (node_number nodes) is ∙ new);
    shows = λ name e. let is : name ≡ m.name = sym (same_equal m.name name e) in
        node_named-number (nodes ++ m ∷ []) name
        ∙ ap (node_at (nodes ++ m ∷ []))
        (number_of-push name
        ∙ ap (place_pushed (λ (node : Node). same_name name node.name) nodes m)
        (ap (node_number nodes) is ∙ new)
        ∙ ap (λ b. cond b (Some (length nodes)) None) (ap (same_name name) (sym is) ∙ same_refl name)) ∙ get-push_new nodes m;
    others = λ name e. node_named-number (nodes ++ m ∷ []) name
        ∙ ap (node_at (nodes ++ m ∷ [])) (number_of-push name)
        ∙ by name e (node_number nodes name) refl ∙ sym (node_named-number nodes name);
  }
    where
      unlike : (name : List ℕ) → same_name m.name name ≡ false → same_name name m.name ≡ false
      unlike name e = false_from_ne_true (same_name name m.name) (λ alike. true≢false (sym (same_refl m.name) ∙ ap (same_name m.name) (sym (same_equal name m.name alike)) ∙ e))

      by : (name : List ℕ) → same_name m.name name ≡ false → (o : Option ℕ)
          → node_number nodes name ≡ o
          → node_at (nodes ++ m ∷ [])
          (place_pushed (λ (node : Node). same_name name node.name) nodes m o) ≡ node_at nodes o
      by name e None h = ap (λ b. node_at (nodes ++ m ∷ []) (cond b (Some (length nodes)) None)) (unlike name e)
      by name e (Some k) h = let there = node_there nodes k (number_within nodes name k h) in get-push_old nodes m k there.0 there.1 ∙ sym there.1
