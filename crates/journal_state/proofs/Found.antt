-- The node of the next step.
use Rattle.std.proofs.Common.{◌≡◌, ℕ, suc, ◌+◌, ◌<◌, Bool, true, false, cond, List, [], ◌∷◌, length, Option, None, Some, slice_get, refl, sym, ◌∙◌, ap, subst, arith}
use Rattle.std.specs.List.{list_any, list_all}
use Rattle.std.specs.Option.{option_map}
use Rattle.sync_rules.specs.declared.entries.Entry.TheVariants as entry
use Rattle.sync_rules.specs.Clients.{Meaning}
use Rattle.sync_rules.specs.Facts.{Held, Id}
use Rattle.sync_rules.specs.Steps.{next}
use Rattle.sync_rules.specs.Views.{place_of}
use Rattle.message_graph.specs.declared.nodes.Judged.{Judged}
use Rattle.message_graph.specs.declared.nodes.Judged.TheVariants as judged
use Rattle.message_graph.specs.declared.nodes.Node.{Node}
use Rattle.message_graph.specs.declared.nodes.Ending.{Ending}
use Rattle.message_graph.specs.declared.nodes.Step.{Step}
use Rattle.message_graph.specs.declared.nodes.Step.TheVariants as step
use Rattle.message_graph.specs.Nodes as nodes
use Rattle.journal_state.specs.Parts.{Parts, facts_of}
use Rattle.journal_state.specs.Whole.{IsState, KnowsJudgements, id_at, value_of}
use Rattle.message_graph.specs.Nodes.{step_number}
use Rattle.journal_state.specs.Stepping.{entry_of}
use Rattle.journal_state.proofs.Listed.{id_there}
use Rattle.journal_state.proofs.Seen.{there}
use Rattle.journal_state.proofs.Next.{next_within, many_nodes, found_next}

-- a step is that of the node at its number
pub record IsStepOf (all : List Node) (first : ℕ) (xs : List Node) (s : Step) : Type 0 where
  pub place : ℕ
  pub node : Node
  pub at : slice_get xs place ≡ Some node
  pub is : nodes.step_of all (first + place) node ≡ Some s

further : (all : List Node) (first : ℕ) (x : Node) (xs : List Node) (s : Step) → IsStepOf all (first + 1) xs s → IsStepOf all first (x ∷ xs) s
further all first x xs s f =
    let e : (first + 1) + f.place ≡ first + suc f.place = omega arith in
    record { place = suc f.place; node = f.node; at = f.at; is = ap (λ k. nodes.step_of all k f.node) (sym e) ∙ f.is }

first_of : (all : List Node) (first : ℕ) (xs : List Node) (s : Step) → nodes.first_step all first xs ≡ Some s → IsStepOf all first xs s
first_of all first [] s e = absurd (let none : None ≡ Some s = e in cc)
first_of all first (x ∷ xs) s e =
    elim (nodes.step_of all first x) as (λ o. nodes.step_of all first x ≡ o → nodes.or_else o (nodes.first_step all (first + 1) xs) ≡ Some s → IsStepOf all first (x ∷ xs) s) [
      | None ↦ λ own e. further all first x xs s (first_of all (first + 1) xs s e)
      | Some t ↦ λ own e.
          let same : Some t ≡ Some s = e in
          let here : first + 0 ≡ first = omega arith in
          record { place = 0; node = x; at = refl; is = ap (λ k. nodes.step_of all k x) here ∙ (own ∙ same) }
    ] refl e

-- what a step says of its node
abbrev pub Tells : Step → ℕ → Option Judged → Option Ending → Type 0
Tells (step.Judge n) number answer end = (n ≡ number) × (answer ≡ None)
Tells (step.Invalid n) number answer end = (n ≡ number) × ((j : Judged) × (answer ≡ Some j)) × (end ≡ None)
Tells (step.Deliver n) number answer end = (n ≡ number) × ((names : List Id) × (answer ≡ Some (judged.Accepted names))) × (end ≡ None)

tested : (number : ℕ) (names : List Id) (s : Step) (a b : Bool) → cond a (Some (step.Invalid number)) (cond b (Some (step.Deliver number)) None) ≡ Some s
    → Tells s number (Some (judged.Accepted names)) None
tested number names s true b e =
    let same : step.Invalid number ≡ s = cc in subst (λ t. Tells t number (Some (judged.Accepted names)) None) same (refl, (judged.Accepted names, refl), refl)
tested number names s false true e = let same : step.Deliver number ≡ s = cc in subst (λ t. Tells t number (Some (judged.Accepted names)) None) same (refl, (names, refl), refl)
tested number names s false false e = absurd (let none : None ≡ Some s = e in cc)

told : (held : List ℕ → Option Node) (number group : ℕ) (s : Step) (a : Option Judged) (end : Option Ending) (node : Node) → node.group ≡ group → node.answer ≡ a → node.ending ≡ end
    → nodes.step_by held number node a ≡ Some s → Tells s number a end
told held number group s None end node g p q e = let same : step.Judge number ≡ s = cc in subst (λ t. Tells t number None end) same (refl, refl)
told held number group s (Some j) (Some x) node g p q e =
    absurd (let none : None ≡ Some s = sym (ap (λ o. nodes.step_judged held number node.group j o) q) ∙ e in cc)
told held number group s (Some judged.Refused) None node g p q e =
    let open_step : Some (step.Invalid number) ≡ Some s = sym (ap (λ o. nodes.step_judged held number node.group judged.Refused o) q) ∙ e in
    let same : step.Invalid number ≡ s = cc in
    subst (λ t. Tells t number (Some judged.Refused) None) same (refl, (judged.Refused, refl), refl)
told held number group s (Some (judged.Accepted names)) None node g p q e =
    tested number names s (list_any (λ name. nodes.fails node.group (held name)) names) (list_all (λ name. nodes.serves node.group (held name)) names)
    (sym (ap (λ o. nodes.step_judged held number node.group (judged.Accepted names) o) q) ∙ e)

-- the node of the next step
pub record IsNextNode (ns : List Node) (s : Step) : Type 0 where
  pub node : Node
  pub at : slice_get ns (step_number s) ≡ Some node
  pub tells : Tells s (step_number s) node.answer node.ending

number_told : (s : Step) (number : ℕ) (a : Option Judged) (end : Option Ending) → Tells s number a end → number ≡ step_number s
number_told (step.Judge n) number a end t = sym t.0
number_told (step.Invalid n) number a end t = sym t.0
number_told (step.Deliver n) number a end t = sym t.0

pub node_found : (ns : List Node) (s : Step) → nodes.next_step ns ≡ Some s → IsNextNode ns s
node_found ns s e =
    let f = first_of ns 0 ns s e in
    let t = told (nodes.node_named ns) (0 + f.place) f.node.group s f.node.answer f.node.ending f.node refl refl refl f.is in
    let zero_place : 0 + f.place ≡ f.place = omega arith in
    let number : f.place ≡ step_number s = sym zero_place ∙ number_told s (0 + f.place) f.node.answer f.node.ending t in
    record {
      node = f.node;
      at = ap (slice_get ns) (sym number) ∙ f.at;
      tells = subst (λ k. Tells s k f.node.answer f.node.ending) (number_told s (0 + f.place) f.node.answer f.node.ending t) t;
    }

-- the node and the message of the next step
pub record IsNext (p : Parts) (s : Step) : Type 0 where
  pub node : Node
  pub message : Held
  pub at : slice_get p.nodes (step_number s) ≡ Some node
  pub there : slice_get p.held (step_number s) ≡ Some message
  pub tells : Tells s (step_number s) node.answer node.ending

pub next_found : (p : Parts) → IsState p → (s : Step) → nodes.next_step p.nodes ≡ Some s
    → IsNext p s
next_found p st s e =
    let f : IsNextNode p.nodes s = node_found p.nodes s e in
    let within : step_number s < length p.held = (let below : step_number s < length p.nodes = next_within p.nodes s e in omega (arith, below, many_nodes p st)) in
    let h = there p.held (step_number s) within in
    record { node = f.node; message = h.0; at = f.at; there = h.1; tells = f.tells }

-- ---- a step by its entry

same_place : (p : Parts) → IsState p → (m n : ℕ) → m < length p.held → n < length p.held → id_at p.held m ≡ id_at p.held n → m ≡ n
same_place p s m n a b e =
    let one = there p.held m a in
    let two = there p.held n b in
    let ids : one.0.id ≡ two.0.id = sym (id_there p.held m one.0 one.1) ∙ (e ∙ id_there p.held n two.0 two.1) in
    let both : Some m ≡ Some n = sym (s.distinct m one.0 one.1) ∙ (ap (place_of p.held) ids ∙ s.distinct n two.0 two.1) in
    cc

judge_by : (p : Parts) → IsState p → (n : ℕ) → n < length p.held → (o : Option Step)
    → nodes.next_step p.nodes ≡ o
    → option_map (entry_of (id_at p.held)) o ≡ Some (entry.Judged (id_at p.held n)) → o ≡ Some (step.Judge n)
judge_by p s n b None e f = absurd (let none : None ≡ Some (entry.Judged (id_at p.held n)) = f in cc)
judge_by p s n b (Some (step.Judge m)) e f =
    let ids : id_at p.held m ≡ id_at p.held n = cc in
    let a : m < length p.held = (let below : m < length p.nodes = next_within p.nodes (step.Judge m) e in omega (arith, below, many_nodes p s)) in
    ap (λ k. Some (step.Judge k)) (same_place p s m n a b ids)
judge_by p s n b (Some (step.Invalid m)) e f = absurd (let wrong : entry.Invalid (id_at p.held m) ≡ entry.Judged (id_at p.held n) = cc in cc)
judge_by p s n b (Some (step.Deliver m)) e f = absurd (let wrong : entry.Deliver (id_at p.held m) ≡ entry.Judged (id_at p.held n) = cc in cc)

-- where the next entry judges the message of a number, so does the graph's next step
pub judge_next : (clients : Meaning) (p : Parts) (s : IsState p) → KnowsJudgements clients (value_of p) → (n : ℕ) → n < length p.held
    → next clients (facts_of p) ≡ Some (entry.Judged (id_at p.held n))
    → nodes.next_step p.nodes ≡ Some (step.Judge n)
judge_next clients p s k n b e =
    judge_by p s n b (nodes.next_step p.nodes) refl
    (found_next clients p s k (nodes.next_step p.nodes) refl ∙ e)

invalid_by : (p : Parts) → IsState p → (n : ℕ) → n < length p.held → (o : Option Step)
    → nodes.next_step p.nodes ≡ o
    → option_map (entry_of (id_at p.held)) o ≡ Some (entry.Invalid (id_at p.held n)) → o ≡ Some (step.Invalid n)
invalid_by p s n b None e f = absurd (let none : None ≡ Some (entry.Invalid (id_at p.held n)) = f in cc)
invalid_by p s n b (Some (step.Judge m)) e f = absurd (let wrong : entry.Judged (id_at p.held m) ≡ entry.Invalid (id_at p.held n) = cc in cc)
invalid_by p s n b (Some (step.Invalid m)) e f =
    let ids : id_at p.held m ≡ id_at p.held n = cc in
    let a : m < length p.held = (let below : m < length p.nodes = next_within p.nodes (step.Invalid m) e in omega (arith, below, many_nodes p s)) in
    ap (λ k. Some (step.Invalid k)) (same_place p s m n a b ids)
invalid_by p s n b (Some (step.Deliver m)) e f = absurd (let wrong : entry.Deliver (id_at p.held m) ≡ entry.Invalid (id_at p.held n) = cc in cc)

pub invalid_next : (clients : Meaning) (p : Parts) (s : IsState p) → KnowsJudgements clients (value_of p) → (n : ℕ) → n < length p.held
    → next clients (facts_of p) ≡ Some (entry.Invalid (id_at p.held n))
    → nodes.next_step p.nodes ≡ Some (step.Invalid n)
invalid_next clients p s k n b e =
    invalid_by p s n b (nodes.next_step p.nodes) refl
    (found_next clients p s k (nodes.next_step p.nodes) refl ∙ e)

deliver_by : (p : Parts) → IsState p → (n : ℕ) → n < length p.held → (o : Option Step)
    → nodes.next_step p.nodes ≡ o
    → option_map (entry_of (id_at p.held)) o ≡ Some (entry.Deliver (id_at p.held n)) → o ≡ Some (step.Deliver n)
deliver_by p s n b None e f = absurd (let none : None ≡ Some (entry.Deliver (id_at p.held n)) = f in cc)
deliver_by p s n b (Some (step.Judge m)) e f = absurd (let wrong : entry.Judged (id_at p.held m) ≡ entry.Deliver (id_at p.held n) = cc in cc)
deliver_by p s n b (Some (step.Invalid m)) e f = absurd (let wrong : entry.Invalid (id_at p.held m) ≡ entry.Deliver (id_at p.held n) = cc in cc)
deliver_by p s n b (Some (step.Deliver m)) e f =
    let ids : id_at p.held m ≡ id_at p.held n = cc in
    let a : m < length p.held = (let below : m < length p.nodes = next_within p.nodes (step.Deliver m) e in omega (arith, below, many_nodes p s)) in
    ap (λ k. Some (step.Deliver k)) (same_place p s m n a b ids)

pub deliver_next : (clients : Meaning) (p : Parts) (s : IsState p) → KnowsJudgements clients (value_of p) → (n : ℕ) → n < length p.held
    → next clients (facts_of p) ≡ Some (entry.Deliver (id_at p.held n))
    → nodes.next_step p.nodes ≡ Some (step.Deliver n)
deliver_next clients p s k n b e =
    deliver_by p s n b (nodes.next_step p.nodes) refl
    (found_next clients p s k (nodes.next_step p.nodes) refl ∙ e)
