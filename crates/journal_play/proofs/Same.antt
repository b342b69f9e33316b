-- The next step of a journal is that of the nodes of its held messages.
use Rattle.std.proofs.Common.{◌≡◌, ℕ, zero, suc, ◌+◌, ◌<◌, Bool, true, false, cond, ◌&&◌, ◌||◌, List, [], ◌∷◌, length, map, refl, sym, ◌∙◌, ap, inl, inr, arith, Option, Some, None, is_some}
use Rattle.std.specs.List.{list_any, list_all}
use Rattle.std.specs.Option.{option_map, option_or}
use Rattle.std.specs.FinSet as fin_set
use Rattle.std.proofs.lemmas.Bool.{false≢true}
use Rattle.sync_rules.specs.declared.answers.Judgement.{Judgement}
use Rattle.sync_rules.specs.declared.answers.Judgement.TheVariants as judgement
use Rattle.sync_rules.specs.declared.entries.Entry.{Entry}
use Rattle.sync_rules.specs.declared.entries.Entry.TheVariants as entry
use Rattle.sync_rules.specs.Clients.{Meaning}
use Rattle.sync_rules.specs.Lists.{same_id, is_among, In}
use Rattle.sync_rules.specs.Facts.{Facts, Held, Id, held_at, is_held}
use Rattle.sync_rules.specs.Steps.{is_elsewhere, is_beside, is_failing, is_served, answer_of}
use Rattle.sync_rules.specs.Steps.{step_accepted, step_open, step_by, step, first_step, next}
use Rattle.sync_rules.proofs.Elements.{same_id_itself, same_id_swap}
use Rattle.sync_rules.proofs.Sound.{held_at-id}
use Rattle.message_graph.specs.declared.nodes.Node.{Node}
use Rattle.message_graph.specs.declared.nodes.Step.{Step}
use Rattle.message_graph.specs.declared.nodes.Step.TheVariants as graph_step
use Rattle.message_graph.specs.Nodes as nodes
use Rattle.journal_play.specs.Playing.{node_of, judged_of, answer_shown}
use Rattle.message_graph.specs.Nodes.{ending_by}

-- ---- look-ups

pub node_named-held : (clients : Meaning) (f : Facts) (held : List Held) (id : Id)
    → nodes.node_named (map (node_of clients f) held) id ≡ option_map (node_of clients f) (held_at held id)
node_named-held clients f [] id = refl
node_named-held clients f (h ∷ held) id =
    ap (λ b. cond b (Some (node_of clients f h)) (nodes.node_named (map (node_of clients f) held) id)) (same_id_swap id h.id)
    ∙ elim (same_id h.id id) as (λ b. cond b (Some (node_of clients f h)) (nodes.node_named (map (node_of clients f) held) id)
    ≡ option_map (node_of clients f) (cond b (Some h) (held_at held id))) [
      | true ↦ refl
      | false ↦ node_named-held clients f held id
    ]

-- ---- what the facts of a journal of one group keep

pub record IsOneGroup (f : Facts) (group : Id) : Type 0 where
  pub groups : (id : Id) (h : Held) → held_at f.held id ≡ Some h → h.message.group ≡ group
  pub invalid : (id : Id) → fin_set.contains f.invalid id ≡ true → is_held f.held id ≡ true
  pub apart : (id : Id) → fin_set.contains f.invalid id ≡ true → is_among f.delivered id ≡ true → ⊥

-- ---- endings

ending-invalid : (invalid delivered : Bool) → nodes.is_invalid (ending_by invalid delivered) ≡ invalid
ending-invalid true delivered = refl
ending-invalid false true = refl
ending-invalid false false = refl

ending-delivered : (invalid delivered : Bool) → (invalid ≡ true → delivered ≡ true → ⊥) → nodes.is_delivered (ending_by invalid delivered) ≡ delivered
ending-delivered true true apart = absurd (apart refl refl)
ending-delivered true false apart = refl
ending-delivered false true apart = refl
ending-delivered false false apart = refl

module _ (clients : Meaning) (f : Facts) (group : Id) (one : IsOneGroup f group) where
  all : List Node
  all = map (node_of clients f) f.held

  not_invalid : (d : Id) → held_at f.held d ≡ None → (b : Bool) → fin_set.contains f.invalid d ≡ b → b ≡ false
  not_invalid d none true e = let h : false ≡ true = sym (ap is_some none) ∙ one.invalid d e in absurd (false≢true h)
  not_invalid d none false e = refl

  fails_at : (d : Id) (o : Option Held) → held_at f.held d ≡ o
      → nodes.fails 0 (option_map (node_of clients f) o) ≡ (is_elsewhere group o || fin_set.contains f.invalid d)
  fails_at d None e = sym (not_invalid d e (fin_set.contains f.invalid d) refl)
  fails_at d (Some h) e =
      let same : same_id h.message.group group ≡ true = ap (λ (g : Id). same_id g group) (one.groups d h e) ∙ same_id_itself group in
      ending-invalid (fin_set.contains f.invalid h.id) (is_among f.delivered h.id)
      ∙ ap (fin_set.contains f.invalid) (held_at-id f.held d h e)
      ∙ ap (λ b. cond b false true || fin_set.contains f.invalid d) (sym same)

  pub fails_same : (d : Id) → nodes.fails 0 (nodes.node_named (map (node_of clients f) f.held) d) ≡ is_failing f group d
  fails_same d = ap (nodes.fails 0) (node_named-held clients f f.held d) ∙ fails_at d (held_at f.held d) refl

  serves_at : (d : Id) (o : Option Held) → held_at f.held d ≡ o
      → nodes.serves 0 (option_map (node_of clients f) o) ≡ (is_beside group o && is_among f.delivered d)
  serves_at d None e = refl
  serves_at d (Some h) e =
      let same : same_id h.message.group group ≡ true = ap (λ (g : Id). same_id g group) (one.groups d h e) ∙ same_id_itself group in
      ending-delivered (fin_set.contains f.invalid h.id) (is_among f.delivered h.id) (one.apart h.id)
      ∙ ap (is_among f.delivered) (held_at-id f.held d h e)
      ∙ ap (λ b. b && is_among f.delivered d) (sym same)

  pub serves_same : (d : Id) → nodes.serves 0 (nodes.node_named (map (node_of clients f) f.held) d) ≡ is_served f group d
  serves_same d = ap (nodes.serves 0) (node_named-held clients f f.held d) ∙ serves_at d (held_at f.held d) refl

-- ---- steps

-- the entry of a step, by the ids of the numbers
abbrev pub entry_of : (ℕ → Id) → Step → Entry
entry_of name (graph_step.Judge n) = entry.Judged (name n)
entry_of name (graph_step.Invalid n) = entry.Invalid (name n)
entry_of name (graph_step.Deliver n) = entry.Deliver (name n)

module _ (clients : Meaning) (f : Facts) (group : Id) (one : IsOneGroup f group) (name : ℕ → Id) (number : ℕ) (h : Held)
    (of_group : h.message.group ≡ group) (named : h.id ≡ name number) where
  by_tests : (any any' served served' : Bool) → any ≡ any' → served ≡ served' →
      cond any (Some (entry.Invalid h.id)) (cond served (Some (entry.Deliver h.id)) None)
      ≡ option_map (entry_of name) (cond any' (Some (graph_step.Invalid number)) (cond served' (Some (graph_step.Deliver number)) None))
  by_tests any true served served' e s = ap (λ b. cond b (Some (entry.Invalid h.id)) (cond served (Some (entry.Deliver h.id)) None)) e ∙ ap (λ (x : Id). Some (entry.Invalid x)) named
  by_tests any false served true e s =
      ap (λ b. cond b (Some (entry.Invalid h.id)) (cond served (Some (entry.Deliver h.id)) None)) e
      ∙ ap (λ b. cond b (Some (entry.Deliver h.id)) None) s ∙ ap (λ (x : Id). Some (entry.Deliver x)) named
  by_tests any false served false e s =
      ap (λ b. cond b (Some (entry.Invalid h.id)) (cond served (Some (entry.Deliver h.id)) None)) e
      ∙ ap (λ b. cond b (Some (entry.Deliver h.id)) None) s

  accepted_same : (deps : List Id) → step_accepted f h deps
      ≡ option_map (entry_of name) (nodes.step_accepted (nodes.node_named (map (node_of clients f) f.held)) number 0 deps)
  accepted_same deps =
      by_tests (list_any (is_failing f h.message.group) deps)
      (list_any (λ d. nodes.fails 0 (nodes.node_named (map (node_of clients f) f.held) d)) deps)
      (list_all (is_served f h.message.group) deps)
      (list_all (λ d. nodes.serves 0 (nodes.node_named (map (node_of clients f) f.held) d)) deps)
      (ap (λ (g : Id). list_any (is_failing f g) deps) of_group ∙ (λ i. list_any (λ d. sym (fails_same clients f group one d) i) deps))
      (ap (λ (g : Id). list_all (is_served f g) deps) of_group ∙ (λ i. list_all (λ d. sym (serves_same clients f group one d) i) deps))

  open_same : (answer : Judgement) → step_open f h answer
      ≡ option_map (entry_of name) (nodes.step_open (nodes.node_named (map (node_of clients f) f.held)) number 0 (judged_of answer))
  open_same judgement.Refuse = ap (λ (x : Id). Some (entry.Invalid x)) named
  open_same (judgement.Accept deps share) = accepted_same deps

  judged_same : (answer : Judgement) (invalid delivered : Bool) → cond (delivered || invalid) None (step_open f h answer)
      ≡ option_map (entry_of name) (nodes.step_judged (nodes.node_named (map (node_of clients f) f.held)) number 0 (judged_of answer) (ending_by invalid delivered))
  judged_same answer true true = refl
  judged_same answer true false = refl
  judged_same answer false true = refl
  judged_same answer false false = open_same answer

  by_same : (o : Option Judgement) → step_by f h o
      ≡ option_map (entry_of name) (nodes.step_by (nodes.node_named (map (node_of clients f) f.held)) number (node_of clients f h) (answer_shown o))
  by_same None = ap (λ (x : Id). Some (entry.Judged x)) named
  by_same (Some answer) = judged_same answer (fin_set.contains f.invalid h.id) (is_among f.delivered h.id)

  pub step_same : step clients f h ≡ option_map (entry_of name) (nodes.step_of (map (node_of clients f) f.held) number (node_of clients f h))
  step_same = by_same (answer_of clients f h)

-- the id of a number
abbrev pub id_at : List Held → ℕ → Id
id_at [] n = []
id_at (h ∷ hs) zero = h.id
id_at (h ∷ hs) (suc n) = id_at hs n

module _ (clients : Meaning) (f : Facts) (group : Id) (one : IsOneGroup f group) (name : ℕ → Id) where
  first_same : (number : ℕ) (hs : List Held) → ((k : ℕ) → k < length hs → id_at hs k ≡ name (number + k)) → ((h : Held) → In h hs → h.message.group ≡ group)
      → first_step clients f hs ≡ option_map (entry_of name) (nodes.first_step (map (node_of clients f) f.held) number (map (node_of clients f) hs))
  first_same number [] names groups = refl
  first_same number (h ∷ hs) names groups =
      let here : h.id ≡ name number = names 0 (omega arith) ∙ ap name (omega arith) in
      let later = first_same (number + 1) hs (λ k within. names (suc k) (omega arith) ∙ ap name (omega arith)) (λ x inside. groups x (inr inside)) in
      ap (λ (o : Option Entry). option_or o (first_step clients f hs))
      (step_same clients f group one name number h (groups h (inl refl)) here)
      ∙ elim (nodes.step_of (map (node_of clients f) f.held) number (node_of clients f h)) as (λ o.
      option_or (option_map (entry_of name) o) (first_step clients f hs)
      ≡ option_map (entry_of name) (nodes.or_else o (nodes.first_step (map (node_of clients f) f.held) (number + 1) (map (node_of clients f) hs)))) [
        | None ↦ later
        | Some s ↦ refl
      ]

-- the next step of a journal of one group
pub next_same : (clients : Meaning) (f : Facts) (group : Id) → IsOneGroup f group → ((h : Held) → In h f.held → h.message.group ≡ group)
    → next clients f ≡ option_map (entry_of (id_at f.held))
    (nodes.next_step (map (node_of clients f) f.held))
next_same clients f group one groups = first_same clients f group one (id_at f.held) 0 f.held (λ k within. ap (id_at f.held) (omega arith)) groups
