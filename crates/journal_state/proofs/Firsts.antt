-- The first dependency of each held message is that of its node; what is delivered is judged.
use Rattle.std.proofs.Common.{◌≡◌, ℕ, suc, ◌+◌, Bool, true, false, cond, List, [], ◌∷◌, map, Option, None, Some, is_some, position, slice_get, refl, sym, ◌∙◌, ap, subst, arith}
use Rattle.std.specs.List.{position_from}
use Rattle.std.specs.Option.{option_map}
use Rattle.std.proofs.lemmas.Bool.{false≢true}
use Rattle.std.proofs.lemmas.Option.{slice_get-map}
use Rattle.std.proofs.lemmas.Iterator.Adapters.{position_from-zero}
use Rattle.sync_rules.specs.Lists.{same_id}
use Rattle.sync_rules.specs.Facts.{Held, Id}
use Rattle.sync_rules.specs.Views.{place_of}
use Rattle.message_graph.specs.declared.nodes.Judged.{Judged}
use Rattle.message_graph.specs.declared.nodes.Judged.TheVariants as judged
use Rattle.message_graph.specs.declared.nodes.Node.{Node}
use Rattle.message_graph.specs.Nodes as nodes
use Rattle.message_graph.specs.Whole.{dependencies, first_held, number_if}
use Rattle.journal_state.specs.Firsts.{first_dependency, firsts_of, number_held}
use Rattle.journal_state.specs.Parts.{Parts, answer_of_node, answers_of, facts_of, is_judged}
use Rattle.journal_state.specs.Sound.{AreApart, DeliversJudged}
use Rattle.journal_state.specs.Whole.{IsState, is_delivered_in, value_of}
use Rattle.journal_state.proofs.Apart.{first_apart, passes, set_named}
use Rattle.sync_rules.proofs.Elements.{same_id_swap}

-- ---- a node's number is its message's

one_further : (i : ℕ) (o : Option ℕ) → option_map (λ n. (i + 1) + n) o ≡ option_map (λ n. i + n) (option_map suc o)
one_further i None = refl
one_further i (Some n) = ap Some (omega arith)

from_zero : (o : Option ℕ) → option_map (λ n. 0 + n) o ≡ o
from_zero None = refl
from_zero (Some n) = ap Some (omega arith)

position_is : {X : Type 0} (test : X → Bool) (xs : List X) → position test xs ≡ position_from test 0 xs
position_is test [] = refl
position_is test (x ∷ xs) = position_from-zero test (x ∷ xs)

number_from : (hs : List Held) (ns : List Node) (i : ℕ) → map (λ (n : Node). n.name) ns ≡ map (λ (h : Held). h.id) hs → (d : Id)
    → position_from (λ (node : Node). nodes.same_name d node.name) i ns ≡ option_map (λ n. i + n) (place_of hs d)
number_from [] [] i e d = refl
number_from [] (n ∷ ns) i e d = absurd (let wrong : n.name ∷ map (λ (x : Node). x.name) ns ≡ [] = e in cc)
number_from (h ∷ hs) [] i e d = absurd (let wrong : [] ≡ h.id ∷ map (λ (x : Held). x.id) hs = e in cc)
number_from (h ∷ hs) (n ∷ ns) i e d =
    let whole : n.name ∷ map (λ (x : Node). x.name) ns ≡ h.id ∷ map (λ (x : Held). x.id) hs = e in
    let own : n.name ≡ h.id = cc in
    let rest : map (λ (x : Node). x.name) ns ≡ map (λ (x : Held). x.id) hs = cc in
    let same : same_id d n.name ≡ same_id h.id d = ap (same_id d) own ∙ same_id_swap d h.id in
    ap (λ b. cond b (Some i) (position_from (λ (node : Node). nodes.same_name d node.name) (i + 1) ns)) same
    ∙ elim (same_id h.id d) as (λ b. cond b (Some i) (position_from (λ (node : Node). nodes.same_name d node.name) (i + 1) ns)
    ≡ option_map (λ n. i + n) (cond b (Some 0) (option_map suc (place_of hs d)))) [
      | true ↦ ap Some (omega arith)
      | false ↦ number_from hs ns (i + 1) rest d ∙ one_further i (place_of hs d)
    ]

-- a node's name and its message's id are found at one number
pub number_same : (hs : List Held) (ns : List Node)
    → map (λ (n : Node). n.name) ns ≡ map (λ (h : Held). h.id) hs → (d : Id)
    → nodes.node_number ns d ≡ place_of hs d
number_same hs ns e d = position_is (λ (node : Node). nodes.same_name d node.name) ns ∙ (number_from hs ns 0 e d ∙ from_zero (place_of hs d))

-- the name of the node of a number is the id of its message
pub name_same : (hs : List Held) (ns : List Node) → map (λ (n : Node). n.name) ns ≡ map (λ (h : Held). h.id) hs → (n : ℕ)
    → option_map (λ (x : Node). x.name) (slice_get ns n) ≡ option_map (λ (h : Held). h.id) (slice_get hs n)
name_same hs ns e n =
    sym (slice_get-map (λ (x : Node). x.name) ns n) ∙ (ap (λ (ids : List Id). slice_get ids n) e ∙ slice_get-map (λ (h : Held). h.id) hs n)

-- ---- the first dependencies

module _ (hs : List Held) (all : List Node) (named : map (λ (n : Node). n.name) all ≡ map (λ (h : Held). h.id) hs) where
  number_if_same : (o : Option Id) → number_if all o ≡ number_held hs o
  number_if_same None = refl
  number_if_same (Some d) = number_same hs all named d

  dependency_same : (a : Option Judged) (share : Bool) → slice_get (dependencies a) 0 ≡ first_dependency (answer_of_node a share)
  dependency_same None share = refl
  dependency_same (Some judged.Refused) share = refl
  dependency_same (Some (judged.Accepted names)) share = refl

  first_same : (node : Node) (share : Bool) → first_held all node ≡ number_held hs (first_dependency (answer_of_node node.answer share))
  first_same node share = number_if_same (slice_get (dependencies node.answer) 0) ∙ ap (number_held hs) (dependency_same node.answer share)

  all_same : (ns : List Node) (shares : List Bool) → map (first_held all) ns ≡ map (λ answer. number_held hs (first_dependency answer)) (answers_of ns shares)
  all_same [] shares = refl
  all_same (n ∷ ns) [] = λ i. first_same n false i ∷ all_same ns [] i
  all_same (n ∷ ns) (share ∷ shares) = λ i. first_same n share i ∷ all_same ns shares i

pub firsts_found : (p : Parts) → IsState p → map (first_held p.nodes) p.nodes ≡ firsts_of (value_of p)
firsts_found p s = all_same p.held p.nodes s.named p.nodes p.shares

-- ---- what is delivered is judged

judged_or : (ns : List Node) (order : (k : ℕ) (node : Node) → slice_get ns k ≡ Some node → node.answer ≡ None → node.ending ≡ None) (d : Id)
    → passes is_judged (nodes.node_named ns d) ≡ false → is_delivered_in (nodes.node_named ns d) ≡ false
judged_or [] order d e = refl
judged_or (x ∷ ns) order d e =
    elim (same_id d x.name) as (λ b. passes is_judged (cond b (Some x) (nodes.node_named ns d)) ≡ false → is_delivered_in (cond b (Some x) (nodes.node_named ns d)) ≡ false) [
      | true ↦ λ f. ap nodes.is_delivered (order 0 x refl (not_some x.answer f))
      | false ↦ λ f. judged_or ns (λ k node at. order (suc k) node at) d f
    ] e
  where
    not_some : (a : Option Judged) → is_some a ≡ false → a ≡ None
    not_some None f = refl
    not_some (Some y) f = absurd (false≢true (sym f))

pub delivers_judged : (p : Parts) → IsState p → DeliversJudged (facts_of p)
delivers_judged p s = λ id unjudged.
    let passing : passes is_judged (nodes.node_named p.nodes id) ≡ false =
    sym (set_named is_judged p.nodes (subst AreApart (sym s.named) (first_apart p.held s.distinct)) id) ∙ unjudged in
    s.ended id ∙ judged_or p.nodes s.order id passing
