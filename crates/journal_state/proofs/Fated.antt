-- What became of the held messages: what the graph says of each node is what the facts say of its message.
use Rattle.std.proofs.Common.{◌≡◌, ℕ, zero, suc, ◌+◌, ◌<◌, ◌≤◌, Bool, true, false, cond, ◌||◌, nat_lt, List, [], ◌∷◌, length, map, Option, None, Some, is_some, slice_get, slice_index_or, refl, sym, ◌∙◌, ap, subst, arith}
use Rattle.std.specs.List.{list_all}
use Rattle.std.specs.Option.{option_map}
use Rattle.std.specs.FinSet as fin_set
use Rattle.std.proofs.lemmas.Bool.{and_parts}
use Rattle.sync_rules.specs.declared.answers.Judgement.{Judgement}
use Rattle.sync_rules.specs.declared.states.Fate.TheVariants as fate_kind
use Rattle.sync_rules.specs.Lists.{is_among}
use Rattle.sync_rules.specs.Facts.{Facts, Held, Id}
use Rattle.sync_rules.specs.Steps.{fate_held}
use Rattle.sync_rules.specs.Views.{place_of, IsFound, IsPlace}
use Rattle.message_graph.specs.declared.nodes.Judged.{Judged}
use Rattle.message_graph.specs.declared.nodes.Judged.TheVariants as judged
use Rattle.message_graph.specs.declared.nodes.Node.{Node}
use Rattle.message_graph.specs.declared.nodes.Ending.{Ending}
use Rattle.message_graph.specs.declared.nodes.Ending.TheVariants as ending
use Rattle.message_graph.specs.declared.nodes.Fate as graph_fate
use Rattle.message_graph.specs.Nodes as nodes
use Rattle.journal_state.specs.Fates.{fate_as}
use Rattle.journal_state.specs.Left.{left_in, left_at, one_if_delivered, one_if_none, sum_of}
use Rattle.message_graph.specs.Nodes.{ending_by}
use Rattle.journal_state.specs.Lent.{StandsForNodes, judged_of}
use Rattle.journal_state.specs.Parts.{Parts, answer_of_node, answers_of, facts_of, is_invalid, is_judged, name_at}
use Rattle.sync_rules.specs.Left.{left_among, left_for, left_of}
use Rattle.journal_state.specs.Whole.{IsState, is_delivered_in, value_of}
use Rattle.sync_rules.proofs.PlaceLaws.{place_found}
use Rattle.journal_state.proofs.Listed.{id_there, below_is}
use Rattle.journal_state.proofs.Seen.{there}
use Rattle.journal_state.specs.Sound.{AreApart}
use Rattle.journal_state.proofs.Apart.{first_apart, passes, set_named}
use Rattle.journal_state.proofs.Answered.{ids_of}
use Rattle.journal_state.proofs.Changed.{names_of}
use Rattle.journal_state.proofs.Next.{many_nodes}
use Rattle.journal_state.proofs.Paired.{own_node}
use Rattle.journal_state.proofs.Stepped.{name_there}
use Rattle.journal_state.proofs.Sums.{few_delivered}

-- ---- tests of one node

fate_tests : (a : Option Judged) (e : Option Ending) (inv del jud : Bool) → inv ≡ nodes.is_invalid e → del ≡ nodes.is_delivered e → jud ≡ is_some a
    → cond inv fate_kind.Invalid (cond del fate_kind.Delivered (cond jud fate_kind.Pending fate_kind.Unknown)) ≡ fate_as (nodes.fate_by a e)
fate_tests a (Some ending.Invalid) inv del jud i d j = ap (λ b. cond b fate_kind.Invalid (cond del fate_kind.Delivered (cond jud fate_kind.Pending fate_kind.Unknown))) i
fate_tests a (Some ending.Delivered) inv del jud i d j = λ k. cond (i k) fate_kind.Invalid (cond (d k) fate_kind.Delivered (cond jud fate_kind.Pending fate_kind.Unknown))
fate_tests None None inv del jud i d j = λ k. cond (i k) fate_kind.Invalid (cond (d k) fate_kind.Delivered (cond (j k) fate_kind.Pending fate_kind.Unknown))
fate_tests (Some x) None inv del jud i d j = λ k. cond (i k) fate_kind.Invalid (cond (d k) fate_kind.Delivered (cond (j k) fate_kind.Pending fate_kind.Unknown))

left_tests : (a : Option Judged) (e : Option Ending) (inv del jud : Bool) → inv ≡ nodes.is_invalid e → del ≡ nodes.is_delivered e → jud ≡ is_some a → (a ≡ None → e ≡ None)
    → cond jud (cond (del || inv) 0 1) 2 ≡ one_if_none a + one_if_none e
left_tests None None inv del jud i d j order = ap (λ b. cond b (cond (del || inv) 0 1) 2) j
left_tests None (Some x) inv del jud i d j order = absurd (let none : Some x ≡ None = order refl in cc)
left_tests (Some y) None inv del jud i d j order = λ k. cond (j k) (cond (d k || i k) 0 1) 2
left_tests (Some y) (Some ending.Invalid) inv del jud i d j order = λ k. cond (j k) (cond (d k || i k) 0 1) 2
left_tests (Some y) (Some ending.Delivered) inv del jud i d j order = λ k. cond (j k) (cond (d k || i k) 0 1) 2

ending_tests : (e : Option Ending) (inv del : Bool) → inv ≡ nodes.is_invalid e → del ≡ nodes.is_delivered e → e ≡ ending_by inv del
ending_tests None inv del i d = λ k. ending_by (sym i k) (sym d k)
ending_tests (Some ending.Invalid) inv del i d = λ k. ending_by (sym i k) (sym d k)
ending_tests (Some ending.Delivered) inv del i d = λ k. ending_by (sym i k) (sym d k)

answer_shown : (a : Option Judged) (share : Bool) → a ≡ option_map judged_of (answer_of_node a share)
answer_shown None share = refl
answer_shown (Some judged.Refused) share = refl
answer_shown (Some (judged.Accepted names)) share = refl

answers_shown : (ns : List Node) (shares : List Bool) (n : ℕ) (node : Node) (answer : Option Judgement) → slice_get ns n ≡ Some node → slice_get (answers_of ns shares) n ≡ Some answer
    → node.answer ≡ option_map judged_of answer
answers_shown [] shares n node answer at is = absurd (let e : None ≡ Some node = at in cc)
answers_shown (x ∷ ns) [] zero node answer at is =
    let one : x ≡ node = cc in
    let two : answer_of_node x.answer false ≡ answer = cc in
    ap (λ (w : Node). w.answer) (sym one) ∙ (answer_shown x.answer false ∙ ap (option_map judged_of) two)
answers_shown (x ∷ ns) (share ∷ shares) zero node answer at is =
    let one : x ≡ node = cc in
    let two : answer_of_node x.answer share ≡ answer = cc in
    ap (λ (w : Node). w.answer) (sym one) ∙ (answer_shown x.answer share ∙ ap (option_map judged_of) two)
answers_shown (x ∷ ns) [] (suc n) node answer at is = answers_shown ns [] n node answer at is
answers_shown (x ∷ ns) (share ∷ shares) (suc n) node answer at is = answers_shown ns shares n node answer at is

lefts : (f : Facts) (ns : List Node) (hs : List Held) → names_of ns ≡ ids_of hs
    → ((k : ℕ) (y : Node) (h : Held) → slice_get ns k ≡ Some y → slice_get hs k ≡ Some h → left_for f h.id ≡ left_at y) → left_among f hs ≡ left_in ns
lefts f [] [] e each = refl
lefts f [] (h ∷ hs) e each = absurd (let wrong : [] ≡ h.id ∷ ids_of hs = e in cc)
lefts f (y ∷ ns) [] e each = absurd (let wrong : y.name ∷ names_of ns ≡ [] = e in cc)
lefts f (y ∷ ns) (h ∷ hs) e each =
    let whole : y.name ∷ names_of ns ≡ h.id ∷ ids_of hs = e in
    let rest : names_of ns ≡ ids_of hs = cc in
    let one : left_for f h.id ≡ left_at y = each 0 y h refl refl in
    let later : left_among f hs ≡ left_in ns = lefts f ns hs rest (λ k x g a b. each (suc k) x g a b) in
    (λ i. one i + later i)

module _ (p : Parts) (s : IsState p) where
  module _ (n : ℕ) (y : Node) (h : Held) (at : slice_get p.nodes n ≡ Some y) (here : slice_get p.held n ≡ Some h) where
    own : nodes.node_named p.nodes h.id ≡ Some y
    own = own_node p.nodes p.held s.named h.id n y (s.distinct n h here) at

    invalid_at : fin_set.contains (facts_of p).invalid h.id ≡ nodes.is_invalid y.ending
    invalid_at = set_named is_invalid p.nodes (subst AreApart (sym s.named) (first_apart p.held s.distinct)) h.id ∙ ap (passes is_invalid) own

    judged_at : fin_set.contains (facts_of p).judged h.id ≡ is_some y.answer
    judged_at = set_named is_judged p.nodes (subst AreApart (sym s.named) (first_apart p.held s.distinct)) h.id ∙ ap (passes is_judged) own

    delivered_at : is_among (facts_of p).delivered h.id ≡ nodes.is_delivered y.ending
    delivered_at = s.ended h.id ∙ ap is_delivered_in own

    -- the state of a message is that of its node
    pub fate_at : fate_held (facts_of p) h.id ≡ fate_as (nodes.fate_of y)
    fate_at =
        fate_tests y.answer y.ending (fin_set.contains (facts_of p).invalid h.id) (is_among (facts_of p).delivered h.id) (fin_set.contains (facts_of p).judged h.id)
        invalid_at delivered_at judged_at

    left_here : left_for (facts_of p) h.id ≡ left_at y
    left_here =
        left_tests y.answer y.ending (fin_set.contains (facts_of p).invalid h.id) (is_among (facts_of p).delivered h.id) (fin_set.contains (facts_of p).judged h.id)
        invalid_at delivered_at judged_at (s.order n y at)

    ending_at : y.ending ≡ ending_by (fin_set.contains (facts_of p).invalid h.id) (is_among (facts_of p).delivered h.id)
    ending_at = ending_tests y.ending (fin_set.contains (facts_of p).invalid h.id) (is_among (facts_of p).delivered h.id) invalid_at delivered_at

  pub fate_found : (n : ℕ) → n < length p.held → (f : graph_fate.Fate) → option_map nodes.fate_of (slice_get p.nodes n) ≡ Some f
      → option_map (λ (h : Held). fate_held (facts_of p) h.id) (slice_get p.held n) ≡ Some (fate_as f)
  fate_found n below f is =
      let h = there p.held n below in
      let y = there p.nodes n (omega (arith, below, many_nodes p s)) in
      let same : nodes.fate_of y.0 ≡ f = (let both : Some (nodes.fate_of y.0) ≡ Some f = sym (ap (option_map nodes.fate_of) y.1) ∙ is in cc) in
      ap (option_map (λ (w : Held). fate_held (facts_of p) w.id)) h.1 ∙ ap Some (fate_at n y.0 h.0 y.1 h.1 ∙ ap fate_as same)

  -- the steps that are left are those of the nodes
  pub all_left : left_of (facts_of p) ≡ left_in p.nodes
  all_left = lefts (facts_of p) p.nodes p.held s.named (λ k y h at here. left_here k y h at here)

  name_here : (n : ℕ) (h : Held) (node : Node) → slice_get p.held n ≡ Some h → slice_get p.nodes n ≡ Some node → node.name ≡ h.id
  name_here n h node here at = name_there p.nodes p.held s.named n node h at here

  pub nodes_lent : StandsForNodes (value_of p) p.nodes
  nodes_lent = record {
    many = many_nodes p s;
    each = λ n h answer node here is at. record {
      named = name_here n h node here at;
      grouped = s.grouped n h node here at;
      answered = answers_shown p.nodes p.shares n node answer at is;
      ended = ending_at n node h at here;
    };
  }

  -- ---- the delivered messages

  pub few_ended : length p.delivered ≤ length p.held
  few_ended = let few : sum_of one_if_delivered p.nodes ≤ length p.nodes = few_delivered p.nodes in omega (arith, few, s.many, many_nodes p s)

  place_is : (o : Option ℕ) (id : Id) (n : ℕ) → o ≡ Some n → IsFound p.held id o → IsPlace p.held id n
  place_is o id n e f = subst (IsFound p.held id) e f

  all_at : (test : ℕ → Bool) (xs : List ℕ) (k : ℕ) (x : ℕ) → k < length xs → x ≡ slice_index_or xs k x → list_all test xs ≡ true → test x ≡ true
  all_at test [] k x below is all = absurd (omega arith)
  all_at test (v ∷ xs) zero x below is all = ap test is ∙ (and_parts (test v) (list_all test xs) all).0
  all_at test (v ∷ xs) (suc k) x below is all = all_at test xs k x (omega arith) is (and_parts (test v) (list_all test xs) all).1

  pub number_below : (k n : ℕ) → k < length p.delivered → n ≡ slice_index_or p.delivered k n → n < length p.held
  number_below k n below is =
      let within : n < length p.nodes = below_is n (length p.nodes) (all_at (λ x. nat_lt x (length p.nodes)) p.delivered k n below is s.within) in
      omega (arith, within, many_nodes p s)

  shown_id : (xs : List ℕ) (f : ℕ → Id) (k n : ℕ) (id : Id) → k < length xs → n ≡ slice_index_or xs k n → slice_get (map f xs) k ≡ Some id → f n ≡ id
  shown_id [] f k n id below is at = absurd (omega arith)
  shown_id (x ∷ xs) f zero n id below is at = let same : f x ≡ id = cc in ap f is ∙ same
  shown_id (x ∷ xs) f (suc k) n id below is at = shown_id xs f k n id (omega arith) is at

  pub place_there : (k n : ℕ) → k < length p.delivered → n ≡ slice_index_or p.delivered k n → (id : Id) → slice_get (facts_of p).delivered k ≡ Some id → IsPlace p.held id n
  place_there k n below is id at =
      let h = there p.held n (number_below k n below is) in
      let named : h.0.id ≡ id =
      sym (id_there p.held n h.0 h.1) ∙ (sym (ap (λ (ids : List Id). slice_index_or ids n []) s.named) ∙ shown_id p.delivered (name_at p.nodes) k n id below is at) in
      subst (λ (d : Id). IsPlace p.held d n) named (place_is (place_of p.held h.0.id) h.0.id n (s.distinct n h.0 h.1) (place_found p.held h.0.id))
