-- The next step of a journal is that of the nodes of its held messages.
use Rattle.std.proofs.Common.{◌≡◌, ℕ, suc, ◌+◌, ◌<◌, length, Bool, true, false, not, cond, ◌&&◌, ◌||◌, List, [], ◌∷◌, map, Option, None, Some, is_none, IsTrue, ◌↔◌, slice_get, refl, sym, ◌∙◌, ap, subst, arith}
use Rattle.std.specs.List.{list_any, list_all}
use Rattle.std.proofs.lemmas.List.{length-map}
use Rattle.std.proofs.lemmas.Bool.{false≢true}
use Rattle.std.specs.Option.{option_map, option_or}
use Rattle.std.specs.FinSet as fin_set
use Rattle.sync_rules.specs.declared.answers.Judgement.{Judgement}
use Rattle.sync_rules.specs.declared.answers.Judgement.TheVariants as judgement
use Rattle.sync_rules.specs.declared.entries.Entry.{Entry}
use Rattle.sync_rules.specs.declared.entries.Entry.TheVariants as entry
use Rattle.sync_rules.specs.Clients.{Meaning}
use Rattle.sync_rules.specs.Lists.{same_id, is_among}
use Rattle.sync_rules.specs.Facts.{Held, Id, held_at}
use Rattle.sync_rules.specs.Steps.{is_elsewhere, is_beside, is_failing, is_served, step_accepted}
use Rattle.sync_rules.specs.Steps.{step_open, step_by, step, first_step, next, IsSettled}
use Rattle.message_graph.specs.declared.nodes.Node.{Node}
use Rattle.message_graph.specs.declared.nodes.Judged.{Judged}
use Rattle.message_graph.specs.declared.nodes.Judged.TheVariants as judged
use Rattle.message_graph.specs.declared.nodes.Ending.{Ending}
use Rattle.message_graph.specs.declared.nodes.Ending.TheVariants as ending
use Rattle.message_graph.specs.declared.nodes.Step.{Step}
use Rattle.message_graph.specs.declared.nodes.Step.TheVariants as graph_step
use Rattle.message_graph.specs.Nodes as nodes
use Rattle.visibility_table.specs.Table as levels
use Rattle.journal_state.specs.Parts.{Parts, answer_of_node, facts_of, is_invalid}
use Rattle.journal_state.specs.Whole.{IsState, KnowsJudgements, id_at, is_delivered_in, value_of}
use Rattle.message_graph.specs.Nodes.{step_number}
use Rattle.journal_state.specs.Stepping.{entry_of}
use Rattle.journal_state.specs.Sound.{AreApart}
use Rattle.journal_state.proofs.Apart.{first_apart, passes, set_named}
use Rattle.journal_state.proofs.Listed.{id_there}
use Rattle.journal_state.proofs.Paired.{Each, IsOf, IsBoth, both_found, paired, own_node, same_group}

not-cond : (b : Bool) → not b ≡ cond b false true
not-cond true = refl
not-cond false = refl

module _ (clients : Meaning) (p : Parts) (s : IsState p) (k : KnowsJudgements clients (value_of p)) where
  each : Each clients (facts_of p) p.table.groups p.nodes p.held
  each = paired clients (facts_of p) p.table.groups p.nodes p.shares p.held s.named k (λ n h node a b. s.grouped n h node a b)

  apart : AreApart (map (λ (n : Node). n.name) p.nodes)
  apart = subst AreApart (sym s.named) (first_apart p.held s.distinct)

  invalid_is : (d : Id) → fin_set.contains (facts_of p).invalid d ≡ passes is_invalid (nodes.node_named p.nodes d)
  invalid_is d = set_named is_invalid p.nodes (subst AreApart (sym s.named) (first_apart p.held s.distinct)) d

  both : (d : Id) → IsBoth clients (facts_of p) p.table.groups p.nodes d (held_at p.held d)
  both d = both_found clients (facts_of p) p.table.groups p.nodes p.held (paired clients (facts_of p) p.table.groups p.nodes p.shares p.held s.named k (λ n h node a b. s.grouped n h node a b)) d

  -- ---- dependencies

  fails_at : (g : Id) (n : ℕ) → levels.group_number p.table.groups g ≡ Some n
      → (d : Id) (o : Option Held) → IsBoth clients (facts_of p) p.table.groups p.nodes d o
      → nodes.fails n (nodes.node_named p.nodes d) ≡ (is_elsewhere g o || fin_set.contains (facts_of p).invalid d)
  fails_at g n e d None b = ap (nodes.fails n) b ∙ sym (invalid_is d ∙ ap (passes is_invalid) b)
  fails_at g n e d (Some h) b =
      ap (nodes.fails n) b.1
      ∙ (λ i. (ap not (same_group p.table.groups h.message.group g b.0.group n b.2.grouped e) ∙ not-cond (same_id h.message.group g)) i
      || sym (invalid_is d ∙ ap (passes is_invalid) b.1) i)

  fails_same : (g : Id) (n : ℕ) → levels.group_number p.table.groups g ≡ Some n → (d : Id)
      → nodes.fails n (nodes.node_named p.nodes d) ≡ is_failing (facts_of p) g d
  fails_same g n e d = fails_at g n e d (held_at p.held d) (both d)

  serves_at : (g : Id) (n : ℕ) → levels.group_number p.table.groups g ≡ Some n
      → (d : Id) (o : Option Held) → IsBoth clients (facts_of p) p.table.groups p.nodes d o
      → nodes.serves n (nodes.node_named p.nodes d) ≡ (is_beside g o && is_among (facts_of p).delivered d)
  serves_at g n e d None b = ap (nodes.serves n) b
  serves_at g n e d (Some h) b =
      ap (nodes.serves n) b.1
      ∙ (λ i. same_group p.table.groups h.message.group g b.0.group n b.2.grouped e i && sym (s.ended d ∙ ap is_delivered_in b.1) i)

  serves_same : (g : Id) (n : ℕ) → levels.group_number p.table.groups g ≡ Some n → (d : Id)
      → nodes.serves n (nodes.node_named p.nodes d) ≡ is_served (facts_of p) g d
  serves_same g n e d = serves_at g n e d (held_at p.held d) (both d)

  -- ---- the step of one message

  by_tests : (name : ℕ → Id) (number : ℕ) (h : Held) → h.id ≡ name number → (any any' served served' : Bool) → any ≡ any' → served ≡ served' →
      cond any (Some (entry.Invalid h.id)) (cond served (Some (entry.Deliver h.id)) None)
      ≡ option_map (entry_of name) (cond any' (Some (graph_step.Invalid number)) (cond served' (Some (graph_step.Deliver number)) None))
  by_tests name number h named any true served served' e q = ap (λ b. cond b (Some (entry.Invalid h.id)) (cond served (Some (entry.Deliver h.id)) None)) e ∙ ap (λ (x : Id). Some (entry.Invalid x)) named
  by_tests name number h named any false served true e q =
      ap (λ b. cond b (Some (entry.Invalid h.id)) (cond served (Some (entry.Deliver h.id)) None)) e
      ∙ (ap (λ b. cond b (Some (entry.Deliver h.id)) None) q ∙ ap (λ (x : Id). Some (entry.Deliver x)) named)
  by_tests name number h named any false served false e q =
      ap (λ b. cond b (Some (entry.Invalid h.id)) (cond served (Some (entry.Deliver h.id)) None)) e
      ∙ ap (λ b. cond b (Some (entry.Deliver h.id)) None) q

  accepted_same : (name : ℕ → Id) (number : ℕ) (h : Held) (node : Node) → h.id ≡ name number
      → levels.group_number p.table.groups h.message.group ≡ Some node.group → (deps : List Id)
      → step_accepted (facts_of p) h deps ≡ option_map (entry_of name) (nodes.step_accepted (nodes.node_named p.nodes) number node.group deps)
  accepted_same name number h node named e deps =
      by_tests name number h named (list_any (is_failing (facts_of p) h.message.group) deps)
      (list_any (λ d. nodes.fails node.group (nodes.node_named p.nodes d)) deps)
      (list_all (is_served (facts_of p) h.message.group) deps)
      (list_all (λ d. nodes.serves node.group (nodes.node_named p.nodes d)) deps)
      (λ i. list_any (λ d. sym (fails_same h.message.group node.group e d) i) deps)
      (λ i. list_all (λ d. sym (serves_same h.message.group node.group e d) i) deps)

  judged_same : (name : ℕ → Id) (number : ℕ) (h : Held) (node : Node) (j : Judged) (answer : Judgement)
      → step_open (facts_of p) h answer ≡ option_map (entry_of name) (nodes.step_open (nodes.node_named p.nodes) number node.group j)
      → (end : Option Ending) → is_among (facts_of p).delivered h.id ≡ nodes.is_delivered end → fin_set.contains (facts_of p).invalid h.id ≡ nodes.is_invalid end
      → cond (is_among (facts_of p).delivered h.id || fin_set.contains (facts_of p).invalid h.id) None (step_open (facts_of p) h answer)
      ≡ option_map (entry_of name) (nodes.step_judged (nodes.node_named p.nodes) number node.group j end)
  judged_same name number h node j answer open_same None d i = (λ k. cond (d k || i k) None (step_open (facts_of p) h answer)) ∙ open_same
  judged_same name number h node j answer open_same (Some ending.Invalid) d i = λ k. cond (d k || i k) None (step_open (facts_of p) h answer)
  judged_same name number h node j answer open_same (Some ending.Delivered) d i = λ k. cond (d k || i k) None (step_open (facts_of p) h answer)

  by_same : (name : ℕ → Id) (number : ℕ) (h : Held) (node : Node) → h.id ≡ name number
      → levels.group_number p.table.groups h.message.group ≡ Some node.group
      → is_among (facts_of p).delivered h.id ≡ nodes.is_delivered node.ending → fin_set.contains (facts_of p).invalid h.id ≡ nodes.is_invalid node.ending
      → (a : Option Judged) (share : Bool) → step_by (facts_of p) h (answer_of_node a share) ≡ option_map (entry_of name) (nodes.step_by (nodes.node_named p.nodes) number node a)
  by_same name number h node named e d i None share = ap (λ (x : Id). Some (entry.Judged x)) named
  by_same name number h node named e d i (Some judged.Refused) share =
      judged_same name number h node judged.Refused judgement.Refuse (ap (λ (x : Id). Some (entry.Invalid x)) named) node.ending d i
  by_same name number h node named e d i (Some (judged.Accepted names)) share =
      judged_same name number h node (judged.Accepted names) (judgement.Accept names share) (accepted_same name number h node named e names) node.ending d i

  step_same : (name : ℕ → Id) (number : ℕ) (h : Held) (node : Node) → h.id ≡ name number → IsOf clients (facts_of p) p.table.groups node h → nodes.node_named p.nodes h.id ≡ Some node
      → step clients (facts_of p) h ≡ option_map (entry_of name) (nodes.step_of p.nodes number node)
  step_same name number h node named of own =
      ap (step_by (facts_of p) h) (sym of.answered)
      ∙ by_same name number h node named of.grouped (s.ended h.id ∙ ap is_delivered_in own) (invalid_is h.id ∙ ap (passes is_invalid) own) node.answer of.share

  first_same : (name : ℕ → Id) (number : ℕ) (xs : List Node) (hs : List Held) → Each clients (facts_of p) p.table.groups xs hs
      → ((j : ℕ) (h : Held) → slice_get hs j ≡ Some h → h.id ≡ name (number + j))
      → ((j : ℕ) (node : Node) (h : Held) → slice_get xs j ≡ Some node → slice_get hs j ≡ Some h → nodes.node_named p.nodes h.id ≡ Some node)
      → first_step clients (facts_of p) hs ≡ option_map (entry_of name) (nodes.first_step p.nodes number xs)
  first_same name number [] [] each names own = refl
  first_same name number [] (h ∷ hs) each names own = absurd each
  first_same name number (node ∷ xs) [] each names own = absurd each
  first_same name number (node ∷ xs) (h ∷ hs) each names own =
      let first : h.id ≡ name number = names 0 h refl ∙ ap name (omega arith) in
      let later = first_same name (number + 1) xs hs each.1 (λ j x at. names (suc j) x at ∙ ap name (omega arith)) (λ j n x a b. own (suc j) n x a b) in
      ap (λ (o : Option Entry). option_or o (first_step clients (facts_of p) hs))
      (step_same name number h node first each.0 (own 0 node h refl refl))
      ∙ elim (nodes.step_of p.nodes number node) as (λ o.
      option_or (option_map (entry_of name) o) (first_step clients (facts_of p) hs)
      ≡ option_map (entry_of name) (nodes.or_else o (nodes.first_step p.nodes (number + 1) xs))) [
        | None ↦ later
        | Some x ↦ refl
      ]

  -- the next step
  pub next_same : next clients (facts_of p)
      ≡ option_map (entry_of (id_at p.held)) (nodes.next_step p.nodes)
  next_same =
      first_same (id_at p.held) 0 p.nodes p.held
      (paired clients (facts_of p) p.table.groups p.nodes p.shares p.held s.named k (λ n h node a b. s.grouped n h node a b))
      (λ j h at. let e : 0 + j ≡ j = omega arith in sym (ap (id_at p.held) e ∙ id_there p.held j h at))
      (λ j node h a b. own_node p.nodes p.held s.named h.id j node (s.distinct j h b) a)

-- ---- the number of a step

tested_number : (number : ℕ) (s : Step) (a b : Bool) → cond a (Some (graph_step.Invalid number)) (cond b (Some (graph_step.Deliver number)) None) ≡ Some s → step_number s ≡ number
tested_number number s true b e = let same : graph_step.Invalid number ≡ s = cc in ap step_number (sym same)
tested_number number s false true e = let same : graph_step.Deliver number ≡ s = cc in ap step_number (sym same)
tested_number number s false false e = absurd (let none : None ≡ Some s = e in cc)

numbered_step : (held : List ℕ → Option Node) (number : ℕ) (node : Node) (s : Step) (a : Option Judged) (end : Option Ending)
    → nodes.step_by held number (record node { ending = end }) a ≡ Some s → step_number s ≡ number
numbered_step held number node s None end e = let same : graph_step.Judge number ≡ s = cc in ap step_number (sym same)
numbered_step held number node s (Some j) (Some x) e = absurd (let none : None ≡ Some s = e in cc)
numbered_step held number node s (Some judged.Refused) None e = let same : graph_step.Invalid number ≡ s = cc in ap step_number (sym same)
numbered_step held number node s (Some (judged.Accepted names)) None e =
    tested_number number s (list_any (λ name. nodes.fails node.group (held name)) names) (list_all (λ name. nodes.serves node.group (held name)) names) e

first_number : (all : List Node) (number : ℕ) (xs : List Node) (s : Step) → nodes.first_step all number xs ≡ Some s → step_number s < number + length xs
first_number all number [] s e = absurd (let none : None ≡ Some s = e in cc)
first_number all number (x ∷ xs) s e =
    elim (nodes.step_of all number x) as (λ o. nodes.step_of all number x ≡ o → nodes.or_else o (nodes.first_step all (number + 1) xs) ≡ Some s → step_number s < number + length (x ∷ xs)) [
      | None ↦ λ own e. let later = first_number all (number + 1) xs s e in omega (arith, later)
      | Some y ↦ λ own e.
          let same : y ≡ s = cc in
          let here : step_number y ≡ number = numbered_step (nodes.node_named all) number x y x.answer x.ending own in
          let there : step_number s ≡ number = ap step_number (sym same) ∙ here in
          omega (arith, there)
    ] refl e

-- the next step is that of a node
pub next_within : (ns : List Node) (s : Step) → nodes.next_step ns ≡ Some s
    → step_number s < length ns
next_within ns s e = let within = first_number ns 0 ns s e in omega (arith, within)

-- ---- what the graph answers

pub found_next : (clients : Meaning) (p : Parts) (s : IsState p)
    (k : KnowsJudgements clients (value_of p)) (o : Option Step) → o ≡ nodes.next_step p.nodes
    → option_map (entry_of (id_at p.held)) o ≡ next clients (facts_of p)
found_next clients p s k o e = ap (option_map (entry_of (id_at p.held))) e ∙ sym (next_same clients p s k)

-- there are as many nodes as messages
pub many_nodes : (p : Parts) → IsState p → length p.nodes ≡ length p.held
many_nodes p s = sym (length-map p.nodes (λ (n : Node). n.name)) ∙ (ap length s.named ∙ length-map p.held (λ (h : Held). h.id))

none_left : (name : ℕ → Id) (o : Option Step) (x : Option Entry) (b : Bool) → b ≡ is_none o → option_map (entry_of name) o ≡ x → IsTrue b ↔ (x ≡ None)
none_left name None x b e f = (λ t. sym f, λ n. e)
none_left name (Some y) x b e f = (λ t. absurd (false≢true (sym e ∙ t)), λ n. absurd (let wrong : Some (entry_of name y) ≡ None = f ∙ n in cc))

pub settled_same : (clients : Meaning) (p : Parts) (s : IsState p)
    (k : KnowsJudgements clients (value_of p)) (o : Option Step) (b : Bool)
    → o ≡ nodes.next_step p.nodes → b ≡ is_none o
    → IsTrue b ↔ IsSettled clients (facts_of p)
settled_same clients p s k o b e f = none_left (id_at p.held) o (next clients (facts_of p)) b f (found_next clients p s k o e)
