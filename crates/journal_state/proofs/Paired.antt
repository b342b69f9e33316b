-- Nodes and the held messages that they are of, side by side.
use Rattle.std.proofs.Common.{◌≡◌, ℕ, suc, ◌+◌, ◌-◌, ◌≤◌, Bool, true, false, cond, nat_eq, List, [], ◌∷◌, map, Option, None, Some, position, slice_get, refl, sym, ◌∙◌, ap, arith, eqb-true}
use Rattle.std.specs.List.{position_from}
use Rattle.std.specs.Option.{option_map}
use Rattle.std.proofs.lemmas.Bool.{false≢true}
use Rattle.std.proofs.lemmas.Iterator.Adapters.{position_from-zero}
use Rattle.sync_rules.specs.Clients.{Meaning}
use Rattle.sync_rules.specs.Lists.{same_id}
use Rattle.sync_rules.specs.Facts.{Facts, Held, Id, Known, held_at}
use Rattle.sync_rules.specs.Steps.{answer_of}
use Rattle.sync_rules.specs.Views.{place_of}
use Rattle.message_graph.specs.declared.nodes.Node.{Node}
use Rattle.message_graph.specs.Nodes as nodes
use Rattle.visibility_table.specs.Table as levels
use Rattle.journal_state.specs.Parts.{answer_of_node, answers_of}
use Rattle.sync_rules.proofs.Elements.{same_id-is, same_id_itself, same_id_swap}

-- ---- groups by number

at_number : (gs : List Known) (g : Id) (i : ℕ) (n : ℕ) → position_from (λ (k : Known). same_id k.id g) i gs ≡ Some n
    → (i ≤ n) × ((k : Known) → slice_get gs (n - i) ≡ Some k → same_id k.id g ≡ true)
at_number [] g i n e = absurd (let none : None ≡ Some n = e in cc)
at_number (x ∷ gs) g i n e =
    elim (same_id x.id g) as (λ b. same_id x.id g ≡ b → cond b (Some i) (position_from (λ (k : Known). same_id k.id g) (i + 1) gs) ≡ Some n
    → (i ≤ n) × ((k : Known) → slice_get (x ∷ gs) (n - i) ≡ Some k → same_id k.id g ≡ true)) [
      | true ↦ λ s e.
          let same : i ≡ n = cc in
          let here : n - i ≡ 0 = omega arith in
          (omega arith, λ k at. let is : x ≡ k = (let first : Some x ≡ Some k = ap (slice_get (x ∷ gs)) (sym here) ∙ at in cc) in ap (λ (w : Known). same_id w.id g) (sym is) ∙ s)
      | false ↦ λ s e.
          let later = at_number gs g (i + 1) n e in
          let next : n - i ≡ suc (n - (i + 1)) = omega (arith, later.0) in
          (omega (arith, later.0), λ k at. later.1 k (ap (slice_get (x ∷ gs)) (sym next) ∙ at))
    ] refl e

position_is : {X : Type 0} (p : X → Bool) (xs : List X) → position p xs ≡ position_from p 0 xs
position_is p [] = refl
position_is p (x ∷ xs) = position_from-zero p (x ∷ xs)

there_from : (gs : List Known) (g : Id) (i n : ℕ) → position_from (λ (k : Known). same_id k.id g) i gs ≡ Some n → (k : Known) × (slice_get gs (n - i) ≡ Some k)
there_from [] g i n e = absurd (let none : None ≡ Some n = e in cc)
there_from (x ∷ gs) g i n e =
    elim (same_id x.id g) as (λ b. cond b (Some i) (position_from (λ (k : Known). same_id k.id g) (i + 1) gs) ≡ Some n → (k : Known) × (slice_get (x ∷ gs) (n - i) ≡ Some k)) [
      | true ↦ λ e. let same : i ≡ n = cc in let here : n - i ≡ 0 = omega arith in (x, ap (slice_get (x ∷ gs)) here)
      | false ↦ λ e.
          let later = at_number gs g (i + 1) n e in
          let next : n - i ≡ suc (n - (i + 1)) = omega (arith, later.0) in
          let t = there_from gs g (i + 1) n e in (t.0, ap (slice_get (x ∷ gs)) next ∙ t.1)
    ] e

-- the group of a number has the id
group_named : (gs : List Known) (g : Id) (n : ℕ) → levels.group_number gs g ≡ Some n
    → (k : Known) × (slice_get gs (n - 0) ≡ Some k) × (k.id ≡ g)
group_named gs g n e =
    let from : position_from (λ (k : Known). same_id k.id g) 0 gs ≡ Some n = sym (position_is (λ (k : Known). same_id k.id g) gs) ∙ e in
    let t = there_from gs g 0 n from in
    (t.0, t.1, same_id-is t.0.id g ((at_number gs g 0 n from).1 t.0 t.1))

same_by : (gs : List Known) (g h : Id) (a b : ℕ) → levels.group_number gs g ≡ Some a
    → levels.group_number gs h ≡ Some b → (x : Bool) → nat_eq a b ≡ x → (y : Bool) → same_id g h ≡ y
    → x ≡ y
same_by gs g h a b p q true e true f = refl
same_by gs g h a b p q false e false f = refl
same_by gs g h a b p q true e false f =
    let one = group_named gs g a p in
    let two = group_named gs h b q in
    let same : a ≡ b = eqb-true a b e in
    let known : one.0 ≡ two.0 = (let both : Some one.0 ≡ Some two.0 = sym one.1 ∙ (ap (λ n. slice_get gs (n - 0)) same ∙ two.1) in cc) in
    let ids : g ≡ h = sym one.2 ∙ (ap (λ (k : Known). k.id) known ∙ two.2) in
    absurd (false≢true (sym f ∙ (ap (same_id g) (sym ids) ∙ same_id_itself g)))
same_by gs g h a b p q false e true f =
    let ids : g ≡ h = same_id-is g h f in
    let same : a ≡ b =
    (let both : Some a ≡ Some b = sym p ∙ (ap (levels.group_number gs) ids ∙ q) in cc) in
    absurd (false≢true (sym e ∙ (ap (nat_eq a) (sym same) ∙ grind arith)))

-- two groups have one number exactly where they have one id
pub same_group : (gs : List Known) (g h : Id) (a b : ℕ) → levels.group_number gs g ≡ Some a
    → levels.group_number gs h ≡ Some b → nat_eq a b ≡ same_id g h
same_group gs g h a b p q = same_by gs g h a b p q (nat_eq a b) refl (same_id g h) refl

-- ---- nodes and messages

-- a node is that of a held message
pub record IsOf (clients : Meaning) (f : Facts) (groups : List Known) (node : Node) (h : Held) : Type 0 where
  pub named : node.name ≡ h.id
  pub grouped : levels.group_number groups h.message.group ≡ Some node.group
  pub share : Bool
  pub answered : answer_of_node node.answer share ≡ answer_of clients f h

module _ (clients : Meaning) (f : Facts) (groups : List Known) where
  abbrev pub Each : List Node → List Held → Type 0
  Each [] [] = Unit {0}
  Each [] (h ∷ hs) = ⊥
  Each (n ∷ ns) [] = ⊥
  Each (n ∷ ns) (h ∷ hs) = IsOf clients f groups n h × Each ns hs

  abbrev Grouped : List Node → List Held → Type 0
  Grouped ns hs = (n : ℕ) (h : Held) (node : Node) → slice_get hs n ≡ Some h
      → slice_get ns n ≡ Some node → levels.group_number groups h.message.group ≡ Some node.group

  pub paired : (ns : List Node) (shares : List Bool) (hs : List Held) → map (λ (n : Node). n.name) ns ≡ map (λ (h : Held). h.id) hs
      → answers_of ns shares ≡ map (answer_of clients f) hs → Grouped ns hs → Each ns hs
  paired [] shares [] e a g = tt
  paired [] shares (h ∷ hs) e a g = absurd (let wrong : [] ≡ h.id ∷ map (λ (x : Held). x.id) hs = e in cc)
  paired (n ∷ ns) shares [] e a g = absurd (let wrong : n.name ∷ map (λ (x : Node). x.name) ns ≡ [] = e in cc)
  paired (n ∷ ns) [] (h ∷ hs) e a g =
      let whole : n.name ∷ map (λ (x : Node). x.name) ns ≡ h.id ∷ map (λ (x : Held). x.id) hs = e in
      let own : n.name ≡ h.id = cc in
      let rest : map (λ (x : Node). x.name) ns ≡ map (λ (x : Held). x.id) hs = cc in
      let answers : answer_of_node n.answer false ∷ answers_of ns [] ≡ answer_of clients f h ∷ map (answer_of clients f) hs = a in
      let answer : answer_of_node n.answer false ≡ answer_of clients f h = cc in
      let later : answers_of ns [] ≡ map (answer_of clients f) hs = cc in
      (record { named = own; grouped = g 0 h n refl refl; share = false; answered = answer }, paired ns [] hs rest later (λ k x node p q. g (suc k) x node p q))
  paired (n ∷ ns) (share ∷ shares) (h ∷ hs) e a g =
      let whole : n.name ∷ map (λ (x : Node). x.name) ns ≡ h.id ∷ map (λ (x : Held). x.id) hs = e in
      let own : n.name ≡ h.id = cc in
      let rest : map (λ (x : Node). x.name) ns ≡ map (λ (x : Held). x.id) hs = cc in
      let answers : answer_of_node n.answer share ∷ answers_of ns shares ≡ answer_of clients f h ∷ map (answer_of clients f) hs = a in
      let answer : answer_of_node n.answer share ≡ answer_of clients f h = cc in
      let later : answers_of ns shares ≡ map (answer_of clients f) hs = cc in
      (record { named = own; grouped = g 0 h n refl refl; share = share; answered = answer }, paired ns shares hs rest later (λ k x node p q. g (suc k) x node p q))

  -- what holds an id in both lists
  abbrev pub IsBoth : List Node → Id → Option Held → Type 0
  IsBoth ns d None = nodes.node_named ns d ≡ None
  IsBoth ns d (Some h) = (node : Node) × (nodes.node_named ns d ≡ Some node) × IsOf clients f groups node h

  pub both_found : (ns : List Node) (hs : List Held) → Each ns hs → (d : Id) → IsBoth ns d (held_at hs d)
  both_found [] [] each d = refl
  both_found [] (h ∷ hs) each d = absurd each
  both_found (n ∷ ns) [] each d = absurd each
  both_found (n ∷ ns) (h ∷ hs) each d =
      let same : same_id d n.name ≡ same_id h.id d = ap (same_id d) each.0.named
      ∙ same_id_swap d h.id in
      let later = both_found ns hs each.1 d in
      elim (same_id h.id d) as (λ b. same_id d n.name ≡ b → IsBoth (n ∷ ns) d (cond b (Some h) (held_at hs d))) [
        | true ↦ λ e. (n, ap (λ b. cond b (Some n) (nodes.node_named ns d)) e, each.0)
        | false ↦ λ e. further n ns d (held_at hs d) e later
      ] same
    where
      further : (n : Node) (ns : List Node) (d : Id) (o : Option Held) → same_id d n.name ≡ false → IsBoth ns d o → IsBoth (n ∷ ns) d o
      further n ns d None e h = ap (λ b. cond b (Some n) (nodes.node_named ns d)) e ∙ h
      further n ns d (Some x) e h = (h.0, ap (λ b. cond b (Some n) (nodes.node_named ns d)) e ∙ h.1, h.2)

-- a node's id is found at that node
pub own_node : (ns : List Node) (hs : List Held) → map (λ (n : Node). n.name) ns ≡ map (λ (h : Held). h.id) hs
    → (d : Id) (k : ℕ) (node : Node) → place_of hs d ≡ Some k → slice_get ns k ≡ Some node → nodes.node_named ns d ≡ Some node
own_node [] hs e d k node p q = absurd (let none : None ≡ Some node = q in cc)
own_node (n ∷ ns) [] e d k node p q = absurd (let none : None ≡ Some k = p in cc)
own_node (n ∷ ns) (h ∷ hs) e d k node p q =
    let whole : n.name ∷ map (λ (x : Node). x.name) ns ≡ h.id ∷ map (λ (x : Held). x.id) hs = e in
    let own : n.name ≡ h.id = cc in
    let rest : map (λ (x : Node). x.name) ns ≡ map (λ (x : Held). x.id) hs = cc in
    let same : same_id d n.name ≡ same_id h.id d = ap (same_id d) own ∙ same_id_swap d h.id in
    ap (λ b. cond b (Some n) (nodes.node_named ns d)) same
    ∙ elim (same_id h.id d) as (λ b. cond b (Some 0) (option_map suc (place_of hs d)) ≡ Some k → cond b (Some n) (nodes.node_named ns d) ≡ Some node) [
      | true ↦ λ p. let zero_is : 0 ≡ k = cc in (let at : Some n ≡ Some node = ap (slice_get (n ∷ ns)) zero_is ∙ q in at)
      | false ↦ λ p. later (place_of hs d) refl p (λ j f at. own_node ns hs rest d j node f at)
    ] p
  where
    later : (o : Option ℕ) → place_of hs d ≡ o → option_map suc o ≡ Some k
        → ((j : ℕ) → place_of hs d ≡ Some j → slice_get ns j ≡ Some node → nodes.node_named ns d ≡ Some node) → nodes.node_named ns d ≡ Some node
    later None f p go = absurd (let none : None ≡ Some k = p in cc)
    later (Some j) f p go = let next : suc j ≡ k = cc in go j f (ap (slice_get (n ∷ ns)) next ∙ q)
