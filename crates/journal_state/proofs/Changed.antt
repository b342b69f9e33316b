-- One node changed: look-ups, and the sets of names.
use Rattle.std.proofs.Common.{◌≡◌, ℕ, zero, suc, Bool, true, false, cond, ◌||◌, List, [], ◌∷◌, map, Option, None, Some, slice_get, refl, sym, ◌∙◌, ap, subst}
use Rattle.std.specs.FinMap as fin_map
use Rattle.std.specs.FinSet as fin_set
use Rattle.std.specs.Cmp.Lexicographic.{nat_list_cmp_total, texts_ties}
use Rattle.std.proofs.lemmas.Bool.{or_parts}
use Rattle.sync_rules.specs.Lists.{same_id, is_among}
use Rattle.sync_rules.specs.Facts.{Id}
use Rattle.message_graph.specs.declared.nodes.Node.{Node}
use Rattle.message_graph.specs.Nodes as nodes
use Rattle.journal_state.specs.Parts.{names_where, ids_where}
use Rattle.sync_rules.proofs.Elements.{same_id-is, same_id_itself, same_id_swap}
use Rattle.journal_state.specs.Sound.{AreApart}
use Rattle.journal_state.proofs.Apart.{passes, set_named}

abbrev pub names_of : List Node → List Id
names_of ns = map (λ (n : Node). n.name) ns

shadowed : {A : Type 0} (b : Bool) (x y z : A) → cond b x z ≡ cond b x (cond b y z)
shadowed true x y z = refl
shadowed false x y z = refl

-- a name that is not among those of the nodes is that of none
pub not_own : (ns : List Node) (n : ℕ) (y : Node) (d : Id) → slice_get ns n ≡ Some y → is_among (names_of ns) d ≡ false → same_id y.name d ≡ false
not_own [] n y d at none = absurd (let e : None ≡ Some y = at in cc)
not_own (x ∷ ns) zero y d at none =
    let is : x ≡ y = cc in ap (λ (w : Node). same_id w.name d) (sym is) ∙ (or_parts (same_id x.name d) (is_among (names_of ns) d) none).0
not_own (x ∷ ns) (suc n) y d at none = not_own ns n y d at (or_parts (same_id x.name d) (is_among (names_of ns) d) none).1

-- a node is found by its own name
pub own_found : (ns : List Node) (n : ℕ) (y : Node) → slice_get ns n ≡ Some y → AreApart (names_of ns) → nodes.node_named ns y.name ≡ Some y
own_found [] n y at apart = absurd (let e : None ≡ Some y = at in cc)
own_found (x ∷ ns) zero y at apart =
    let is : x ≡ y = cc in
    (λ i. cond (same_id y.name (is i).name) (Some x) (nodes.node_named ns y.name))
    ∙ (ap (λ b. cond b (Some x) (nodes.node_named ns y.name)) (same_id_itself y.name)
    ∙ ap Some is)
own_found (x ∷ ns) (suc n) y at apart =
    ap (λ b. cond b (Some x) (nodes.node_named ns y.name)) (not_own ns n y x.name at apart.0) ∙ own_found ns n y at apart.1

module _ (f : Node → Node) (keeps : (x : Node) → (f x).name ≡ x.name) where
  pub names_kept : (n : ℕ) (ns : List Node) → names_of (nodes.change f n ns) ≡ names_of ns
  names_kept n [] = refl
  names_kept zero (x ∷ ns) = λ i. keeps x i ∷ names_of ns
  names_kept (suc n) (x ∷ ns) = ap (λ (ids : List Id). x.name ∷ ids) (names_kept n ns)

  -- what is found of a name once one node is changed
  pub named_changed : (ns : List Node) (n : ℕ) (y : Node) → slice_get ns n ≡ Some y → AreApart (names_of ns) → (d : Id)
      → nodes.node_named (nodes.change f n ns) d ≡ cond (same_id d y.name) (Some (f y)) (nodes.node_named ns d)
  named_changed [] n y at apart d = absurd (let e : None ≡ Some y = at in cc)
  named_changed (x ∷ ns) zero y at apart d =
      let is : x ≡ y = cc in
      ap (λ (i : Id). cond (same_id d i) (Some (f x)) (nodes.node_named ns d)) (keeps x)
      ∙ (shadowed (same_id d x.name) (Some (f x)) (Some x) (nodes.node_named ns d)
      ∙ (λ i. cond (same_id d (is i).name) (Some (f (is i))) (cond (same_id d x.name) (Some x) (nodes.node_named ns d))))
  named_changed (x ∷ ns) (suc n) y at apart d =
      elim (same_id d x.name) as (λ b. same_id d x.name ≡ b → cond b (Some x) (nodes.node_named (nodes.change f n ns) d)
      ≡ cond (same_id d y.name) (Some (f y)) (cond b (Some x) (nodes.node_named ns d))) [
        | true ↦ λ e.
            let away : same_id d y.name ≡ false =
            ap (λ (i : Id). same_id i y.name) (same_id-is d x.name e)
            ∙ (same_id_swap x.name y.name ∙ not_own ns n y x.name at apart.0) in
            sym (ap (λ b. cond b (Some (f y)) (Some x)) away)
        | false ↦ λ e. named_changed ns n y at apart.1 d
      ] refl

  module _ (test : Node → Bool) where
    -- a test that says the same of the changed node names the same
    pub names_same : (ns : List Node) (n : ℕ) (y : Node) → slice_get ns n ≡ Some y → test (f y) ≡ test y → names_where test (nodes.change f n ns) ≡ names_where test ns
    names_same [] n y at e = absurd (let none : None ≡ Some y = at in cc)
    names_same (x ∷ ns) zero y at e =
        let is : x ≡ y = cc in
        let same : test (f x) ≡ test x = ap (λ (w : Node). test (f w)) is ∙ (e ∙ ap test (sym is)) in
        (λ i. cond (same i) (keeps x i ∷ names_where test ns) (names_where test ns))
    names_same (x ∷ ns) (suc n) y at e = (λ i. cond (test x) (x.name ∷ names_same ns n y at e i) (names_same ns n y at e i))

    one_more : (b : Bool) (o : Option Node) (y : Node) → test (f y) ≡ true → passes test (cond b (Some (f y)) o) ≡ (b || passes test o)
    one_more true o y e = e
    one_more false o y e = refl

    -- where the test comes to pass the changed node, there is one name more
    pub set_grown : (ns : List Node) (n : ℕ) (y : Node) → slice_get ns n ≡ Some y → AreApart (names_of ns) → test (f y) ≡ true
        → ids_where test (nodes.change f n ns) ≡ fin_set.insert (ids_where test ns) y.name
    set_grown ns n y at apart e =
        fin_set.same_set nat_list_cmp_total (fin_map.slice_cmp-IsAntisymmetric fin_map.nat_cmp-IsAntisymmetric) _ _ (λ q.
        set_named test (nodes.change f n ns) (subst AreApart (sym (names_kept n ns)) apart) q
        ∙ (ap (passes test) (named_changed ns n y at apart q)
        ∙ (one_more (same_id q y.name) (nodes.node_named ns q) y e
        ∙ sym (fin_set.contains-insert nat_list_cmp_total (ids_where test ns) y.name q ∙ (λ i. sym (texts_ties q y.name) i || set_named test ns apart q i)))))
