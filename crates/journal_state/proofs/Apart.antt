-- Distinct ids, and sets of the names of nodes.
use Rattle.std.proofs.Common.{◌≡◌, ℕ, suc, Bool, true, false, cond, ◌||◌, List, [], ◌∷◌, map, Option, None, Some, slice_get, refl, sym, ◌∙◌, ap}
use Rattle.std.specs.List.{list_any}
use Rattle.std.specs.Option.{option_map}
use Rattle.std.specs.FinSet as fin_set
use Rattle.std.specs.Cmp.Lexicographic.{nat_list_cmp_total, texts_ties}
use Rattle.std.proofs.lemmas.Bool.{false≢true, or_parts, false_from_ne_true}
use Rattle.sync_rules.specs.Lists.{same_id, is_among}
use Rattle.sync_rules.specs.Facts.{Held, Id}
use Rattle.sync_rules.specs.Views.{place_of}
use Rattle.message_graph.specs.declared.nodes.Node.{Node}
use Rattle.message_graph.specs.Nodes as nodes
use Rattle.journal_state.specs.Parts.{names_where, ids_where}
use Rattle.journal_state.specs.Sound.{AreApart}
use Rattle.sync_rules.proofs.Elements.{same_id-is, same_id_swap}

-- ---- distinct ids

-- each message's place is the first of its id
abbrev pub AreFirst : List Held → Type 0
AreFirst hs = (n : ℕ) (h : Held) → slice_get hs n ≡ Some h → place_of hs h.id ≡ Some n

among_at : (hs : List Held) (d : Id) → is_among (map (λ (h : Held). h.id) hs) d ≡ true → (k : ℕ) × (x : Held) × (slice_get hs k ≡ Some x) × (same_id x.id d ≡ true)
among_at [] d e = absurd (false≢true e)
among_at (h ∷ hs) d e =
    elim (same_id h.id d) as (λ b. same_id h.id d ≡ b → (b || is_among (map (λ (x : Held). x.id) hs) d) ≡ true
    → (k : ℕ) × (x : Held) × (slice_get (h ∷ hs) k ≡ Some x) × (same_id x.id d ≡ true)) [
      | true ↦ λ s e. (0, h, refl, s)
      | false ↦ λ s e. let t = among_at hs d e in (suc t.0, t.1, t.2, t.3)
    ] refl e

one_less : (b : Bool) (o : Option ℕ) (k : ℕ) → cond b (Some 0) (option_map suc o) ≡ Some (suc k) → o ≡ Some k
one_less true o k e = absurd (let wrong : 0 ≡ suc k = cc in cc)
one_less false None k e = absurd (let none : None ≡ Some (suc k) = e in cc)
one_less false (Some j) k e = let same : suc j ≡ suc k = cc in ap Some (let n : j ≡ k = cc in n)

not_zero : (b : Bool) (o : Option ℕ) (k : ℕ) → b ≡ true → cond b (Some 0) (option_map suc o) ≡ Some (suc k) → ⊥
not_zero true o k t e = let wrong : 0 ≡ suc k = cc in cc
not_zero false o k t e = false≢true t

pub first_apart : (hs : List Held) → AreFirst hs → AreApart (map (λ (h : Held). h.id) hs)
first_apart [] first = tt
first_apart (h ∷ hs) first = (
  false_from_ne_true (is_among (map (λ (x : Held). x.id) hs) h.id) (λ e.
      let t = among_at hs h.id e in not_zero (same_id h.id t.1.id) (place_of hs t.1.id) t.0
      (same_id_swap h.id t.1.id ∙ t.3) (first (suc t.0) t.1 t.2)),
  first_apart hs (λ k x at. one_less (same_id h.id x.id) (place_of hs x.id) k (first (suc k) x at)),
)

-- ---- the names of the nodes that pass a test

abbrev pub passes : (Node → Bool) → Option Node → Bool
passes test None = false
passes test (Some n) = test n

module _ (test : Node → Bool) where
  not_named : (ns : List Node) (d : Id) → is_among (map (λ (n : Node). n.name) ns) d ≡ false → list_any (same_id d) (names_where test ns) ≡ false
  not_named [] d e = refl
  not_named (n ∷ ns) d e =
      let both = or_parts (same_id n.name d) (is_among (map (λ (x : Node). x.name) ns) d) e in
      let rest = not_named ns d both.1 in
      elim (test n) as (λ b. list_any (same_id d) (cond b (n.name ∷ names_where test ns) (names_where test ns)) ≡ false) [
        | true ↦ (λ i. (same_id_swap d n.name ∙ both.0) i || rest i)
        | false ↦ rest
      ]

  here : (n : Node) (ns : List Node) (d : Id) → same_id d n.name ≡ true → is_among (map (λ (x : Node). x.name) ns) n.name ≡ false
      → (b : Bool) → list_any (same_id d) (cond b (n.name ∷ names_where test ns) (names_where test ns)) ≡ b
  here n ns d s apart true = ap (λ b. b || list_any (same_id d) (names_where test ns)) s
  here n ns d s apart false = not_named ns d
      (ap (is_among (map (λ (x : Node). x.name) ns)) (same_id-is d n.name s) ∙ apart)

  beyond : (n : Node) (ns : List Node) (d : Id) → same_id d n.name ≡ false
      → (b : Bool) → list_any (same_id d) (cond b (n.name ∷ names_where test ns) (names_where test ns)) ≡ list_any (same_id d) (names_where test ns)
  beyond n ns d s true = ap (λ b. b || list_any (same_id d) (names_where test ns)) s
  beyond n ns d s false = refl

  any_named : (ns : List Node) → AreApart (map (λ (n : Node). n.name) ns) → (d : Id) → list_any (same_id d) (names_where test ns) ≡ passes test (nodes.node_named ns d)
  any_named [] apart d = refl
  any_named (n ∷ ns) apart d =
      elim (same_id d n.name) as (λ b. same_id d n.name ≡ b → list_any (same_id d) (cond (test n) (n.name ∷ names_where test ns) (names_where test ns))
      ≡ passes test (cond b (Some n) (nodes.node_named ns d))) [
        | true ↦ λ s. here n ns d s apart.0 (test n)
        | false ↦ λ s. beyond n ns d s (test n) ∙ any_named ns apart.1 d
      ] refl

  -- an id is in the set of those names where its node passes
  pub set_named : (ns : List Node) → AreApart (map (λ (n : Node). n.name) ns) → (d : Id) → fin_set.contains (ids_where test ns) d ≡ passes test (nodes.node_named ns d)
  set_named ns apart d =
      fin_set.contains-from_list nat_list_cmp_total (names_where test ns) d
      ∙ ((λ i. list_any (λ x. sym (texts_ties d x) i) (names_where test ns)) ∙ any_named ns apart d)
