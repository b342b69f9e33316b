-- What a message that is held makes of the parts.
use Rattle.std.proofs.Common.{◌≡◌, ℕ, zero, suc, ◌+◌, ◌<◌, ◌≤◌, Bool, true, false, cond, ◌&&◌, ◌||◌, nat_lt, List, [], ◌∷◌, ◌++◌, length, map, Option, None, Some, position, slice_get, slice_index_or, refl, sym, ◌∙◌, ap, subst, arith, length-append}
use Rattle.std.specs.List.{list_all, position_from}
use Rattle.std.specs.Option.{option_map}
use Rattle.std.specs.FinMap as fin_map
use Rattle.std.specs.FinSet as fin_set
use Rattle.std.specs.Cmp.{nat_cmp_total}
use Rattle.std.specs.Ordering.{nat_cmp, eq_by_cmp}
use Rattle.std.proofs.lemmas.Bool.{and_parts, and_from}
use Rattle.std.proofs.lemmas.List.{map-append}
use Rattle.std.proofs.lemmas.Iterator.Adapters.{position_from-zero}
use Rattle.sync_rules.specs.declared.answers.Judgement.{Judgement}
use Rattle.sync_rules.specs.Clients.{Meaning}
use Rattle.sync_rules.specs.Lists.{same_id, is_among, without}
use Rattle.sync_rules.specs.Facts.{Facts, Held, Id, held_at, level_at, is_level_shared, wanted_by_none, change_each, Wants}
use Rattle.sync_rules.specs.Sessions.{is_author, may_share}
use Rattle.sync_rules.specs.Steps.{answer_of, verdict_in}
use Rattle.sync_rules.specs.Views.{place_of}
use Rattle.message_graph.specs.declared.nodes.Node.{Node}
use Rattle.message_graph.specs.Nodes as nodes
use Rattle.retry_table.specs.Table as retry
use Rattle.visibility_table.specs.Table as levels
use Rattle.journal_state.specs.Left.{delivered_among, one_if_delivered}
use Rattle.journal_state.specs.Parts.{Parts, answer_of_node, answers_of, facts_of, is_invalid, is_judged, name_at, names_where, rows_in, shared_among, wants_in}
use Rattle.journal_state.specs.Unwanted.{UnwantsBelow}
use Rattle.journal_state.specs.Whole.{IsState, KnowsJudgements, is_delivered_in, left_in, may_go, value_of}
use Rattle.sync_rules.proofs.Elements.{same_id_itself, same_id_swap}
use Rattle.journal_state.specs.Sound.{AreApart}
use Rattle.journal_state.proofs.Apart.{first_apart, passes, set_named}
use Rattle.journal_state.proofs.Rows.{row_by, row_found, rows_are, lean_in}
use Rattle.journal_state.proofs.Sums.{sum_more}
use Rattle.journal_state.proofs.Next.{many_nodes}
use Rattle.journal_state.proofs.Seen.{there}
use Rattle.journal_state.proofs.Kept.{within_held}

-- ---- one more at the end

pub end_cases : {A : Type 0} {P : ℕ → A → Type 0} (xs : List A) (x : A) → ((n : ℕ) (y : A) → slice_get xs n ≡ Some y → P n y) → P (length xs) x
    → (n : ℕ) (y : A) → slice_get (xs ++ x ∷ []) n ≡ Some y → P n y
end_cases {A} {P} [] x old new zero y at = let is : x ≡ y = cc in subst (P 0) is new
end_cases {A} {P} [] x old new (suc n) y at = absurd (let none : None ≡ Some y = at in cc)
end_cases {A} {P} (z ∷ xs) x old new zero y at = old 0 y at
end_cases {A} {P} (z ∷ xs) x old new (suc n) y at = end_cases {P = λ k w. P (suc k) w} xs x (λ k w q. old (suc k) w q) new n y at

pub end_here : {A : Type 0} (xs : List A) (x : A) → slice_get (xs ++ x ∷ []) (length xs) ≡ Some x
end_here [] x = refl
end_here (y ∷ xs) x = end_here xs x

pub still_at : {A : Type 0} (xs : List A) (x : A) (n : ℕ) (y : A) → slice_get xs n ≡ Some y → slice_get (xs ++ x ∷ []) n ≡ Some y
still_at [] x n y at = absurd (let none : None ≡ Some y = at in cc)
still_at (z ∷ xs) x zero y at = at
still_at (z ∷ xs) x (suc n) y at = still_at xs x n y at

abbrev or_end : Option ℕ → Bool → ℕ → Option ℕ
or_end None b n = cond b (Some n) None
or_end (Some k) b n = Some k

suc_end : (o : Option ℕ) (b : Bool) (n : ℕ) → option_map suc (or_end o b n) ≡ or_end (option_map suc o) b (suc n)
suc_end None true n = refl
suc_end None false n = refl
suc_end (Some k) b n = refl

place_more : (hs : List Held) (h : Held) (id : Id) → place_of (hs ++ h ∷ []) id ≡ or_end (place_of hs id) (same_id h.id id) (length hs)
place_more [] h id = refl
place_more (x ∷ hs) h id =
    ap (λ o. cond (same_id x.id id) (Some 0) (option_map suc o)) (place_more hs h id)
    ∙ (ap (cond (same_id x.id id) (Some 0)) (suc_end (place_of hs id) (same_id h.id id) (length hs))
    ∙ elim (same_id x.id id) as (λ b. cond b (Some 0) (or_end (option_map suc (place_of hs id)) (same_id h.id id) (suc (length hs)))
    ≡ or_end (cond b (Some 0) (option_map suc (place_of hs id))) (same_id h.id id) (suc (length hs))) [
      | true ↦ refl
      | false ↦ refl
    ])

-- an id that is not held has no place
no_place : (hs : List Held) (id : Id) → held_at hs id ≡ None → place_of hs id ≡ None
no_place [] id e = refl
no_place (x ∷ hs) id e =
    elim (same_id x.id id) as (λ b. cond b (Some x) (held_at hs id) ≡ None → cond b (Some 0) (option_map suc (place_of hs id)) ≡ None) [
      | true ↦ λ q. absurd (let wrong : Some x ≡ None = q in cc)
      | false ↦ λ q. ap (option_map suc) (no_place hs id q)
    ] e

-- ---- nodes

pub no_node : (hs : List Held) (ns : List Node) → map (λ (n : Node). n.name) ns ≡ map (λ (h : Held). h.id) hs → (id : Id) → held_at hs id ≡ None → nodes.node_named ns id ≡ None
no_node hs [] e id none = refl
no_node [] (n ∷ ns) e id none = absurd (let wrong : n.name ∷ map (λ (x : Node). x.name) ns ≡ [] = e in cc)
no_node (h ∷ hs) (n ∷ ns) e id none =
    let whole : n.name ∷ map (λ (x : Node). x.name) ns ≡ h.id ∷ map (λ (x : Held). x.id) hs = e in
    let own : n.name ≡ h.id = cc in
    let rest : map (λ (x : Node). x.name) ns ≡ map (λ (x : Held). x.id) hs = cc in
    let same : same_id id n.name ≡ same_id h.id id = ap (same_id id) own ∙ same_id_swap id h.id in
    ap (λ b. cond b (Some n) (nodes.node_named ns id)) same
    ∙ elim (same_id h.id id) as (λ b. cond b (Some h) (held_at hs id) ≡ None → cond b (Some n) (nodes.node_named ns id) ≡ None) [
      | true ↦ λ q. absurd (let wrong : Some h ≡ None = q in cc)
      | false ↦ λ q. no_node hs ns rest id q
    ] none

-- the graph has no node of an id that is not held
number_by : (hs : List Held) (ns : List Node) (i : ℕ) → map (λ (n : Node). n.name) ns ≡ map (λ (h : Held). h.id) hs → (id : Id) → held_at hs id ≡ None
    → position_from (λ (node : Node). nodes.same_name id node.name) i ns ≡ None
number_by hs [] i e id none = refl
number_by [] (n ∷ ns) i e id none = absurd (let wrong : n.name ∷ map (λ (x : Node). x.name) ns ≡ [] = e in cc)
number_by (h ∷ hs) (n ∷ ns) i e id none =
    let whole : n.name ∷ map (λ (x : Node). x.name) ns ≡ h.id ∷ map (λ (x : Held). x.id) hs = e in
    let own : n.name ≡ h.id = cc in
    let rest : map (λ (x : Node). x.name) ns ≡ map (λ (x : Held). x.id) hs = cc in
    let same : same_id id n.name ≡ same_id h.id id = ap (same_id id) own ∙ same_id_swap id h.id in
    ap (λ b. cond b (Some i) (position_from (λ (node : Node). nodes.same_name id node.name) (i + 1) ns)) same
    ∙ elim (same_id h.id id) as (λ b. cond b (Some h) (held_at hs id) ≡ None → cond b (Some i) (position_from (λ (node : Node). nodes.same_name id node.name) (i + 1) ns) ≡ None) [
      | true ↦ λ q. absurd (let wrong : Some h ≡ None = q in cc)
      | false ↦ λ q. number_by hs ns (i + 1) rest id q
    ] none

position_is : {X : Type 0} (test : X → Bool) (xs : List X) → position test xs ≡ position_from test 0 xs
position_is test [] = refl
position_is test (x ∷ xs) = position_from-zero test (x ∷ xs)

pub no_number : (hs : List Held) (ns : List Node)
    → map (λ (n : Node). n.name) ns ≡ map (λ (h : Held). h.id) hs → (id : Id) → held_at hs id ≡ None
    → nodes.node_number ns id ≡ None
no_number hs ns e id none = position_is (λ (node : Node). nodes.same_name id node.name) ns ∙ number_by hs ns 0 e id none

node_more : (ns : List Node) (x : Node) (id : Id) → nodes.is_delivered x.ending ≡ false → is_delivered_in (nodes.node_named (ns ++ x ∷ []) id) ≡ is_delivered_in (nodes.node_named ns id)
node_more [] x id e =
    elim (same_id id x.name) as (λ b. is_delivered_in (cond b (Some x) None) ≡ false) [
      | true ↦ e
      | false ↦ refl
    ]
node_more (n ∷ ns) x id e =
    elim (same_id id n.name) as (λ b. is_delivered_in (cond b (Some n) (nodes.node_named (ns ++ x ∷ []) id)) ≡ is_delivered_in (cond b (Some n) (nodes.node_named ns id))) [
      | true ↦ refl
      | false ↦ node_more ns x id e
    ]

names_more : (test : Node → Bool) (ns : List Node) (x : Node) → test x ≡ false → names_where test (ns ++ x ∷ []) ≡ names_where test ns
names_more test [] x e = ap (λ b. cond b (x.name ∷ []) []) e
names_more test (n ∷ ns) x e = λ i. cond (test n) (n.name ∷ names_more test ns x e i) (names_more test ns x e i)

-- the names of numbers that are there are as before
name_more : (ns : List Node) (x : Node) (k : ℕ) → k < length ns → name_at (ns ++ x ∷ []) k ≡ name_at ns k
name_more [] x k within = absurd (omega arith)
name_more (n ∷ ns) x zero within = refl
name_more (n ∷ ns) x (suc k) within = name_more ns x k (omega arith)

below_is : (n bound : ℕ) → nat_lt n bound ≡ true → n < bound
below_is n bound e = grind arith

delivered_more : (ns : List Node) (x : Node) (ks : List ℕ) → list_all (λ n. nat_lt n (length ns)) ks ≡ true → map (name_at (ns ++ x ∷ [])) ks ≡ map (name_at ns) ks
delivered_more ns x [] all = refl
delivered_more ns x (k ∷ ks) all =
    let both = and_parts (nat_lt k (length ns)) (list_all (λ n. nat_lt n (length ns)) ks) all in
    λ i. name_more ns x k (below_is k (length ns) both.0) i ∷ delivered_more ns x ks both.1 i

within_more : (n m : ℕ) (ks : List ℕ) → n ≤ m → list_all (λ k. nat_lt k n) ks ≡ true → list_all (λ k. nat_lt k m) ks ≡ true
within_more n m [] le all = refl
within_more n m (k ∷ ks) le all =
    let both = and_parts (nat_lt k n) (list_all (λ x. nat_lt x n) ks) all in
    let own : nat_lt k m ≡ true = (let e : nat_lt k n ≡ true = both.0 in grind arith) in
    and_from (nat_lt k m) (list_all (λ x. nat_lt x m) ks) own (within_more n m ks le both.1)

-- ---- what may be shared

abbrev pub Honest : List Node → List Bool → Type 0
Honest ns bs = (n : ℕ) (node : Node) → slice_get ns n ≡ Some node → slice_get bs n ≡ Some true → may_share (answer_of_node node.answer true) ≡ true

pub honest_more : (ns : List Node) (bs : List Bool) (x : Node) → length bs ≡ length ns → Honest ns bs → Honest (ns ++ x ∷ []) (bs ++ false ∷ [])
honest_more [] [] x many old zero node at share = absurd (let wrong : Some false ≡ Some true = share in cc)
honest_more [] [] x many old (suc n) node at share = absurd (let none : None ≡ Some node = at in cc)
honest_more [] (b ∷ bs) x many old n node at share = absurd (omega arith)
honest_more (y ∷ ns) [] x many old n node at share = absurd (omega arith)
honest_more (y ∷ ns) (b ∷ bs) x many old zero node at share = old 0 node at share
honest_more (y ∷ ns) (b ∷ bs) x many old (suc n) node at share = honest_more ns bs x (omega arith) (λ k w p q. old (suc k) w p q) n node at share

-- ---- answers

pub answers_more : (ns : List Node) (shares : List Bool) (x : Node) → length shares ≡ length ns → x.answer ≡ None → answers_of (ns ++ x ∷ []) (shares ++ false ∷ []) ≡ answers_of ns shares ++ None ∷ []
answers_more [] [] x many none = ap (λ a. answer_of_node a false ∷ []) none
answers_more [] (b ∷ shares) x many none = absurd (omega arith)
answers_more (n ∷ ns) [] x many none = absurd (omega arith)
answers_more (n ∷ ns) (b ∷ shares) x many none = ap (λ (os : List (Option Judgement)). answer_of_node n.answer b ∷ os) (answers_more ns shares x (omega arith) none)

shared_more : (hs : List Held) (answers : List (Option Judgement)) (h : Held) → length answers ≡ length hs → shared_among (hs ++ h ∷ []) (answers ++ None ∷ []) ≡ shared_among hs answers
shared_more [] [] h many = refl
shared_more [] (a ∷ answers) h many = absurd (omega arith)
shared_more (x ∷ hs) [] h many = absurd (omega arith)
shared_more (x ∷ hs) (a ∷ answers) h many = λ i. cond (may_share a) (x.id ∷ shared_more hs answers h (omega arith) i) (shared_more hs answers h (omega arith) i)

pub answers_length : (ns : List Node) (shares : List Bool) → length (answers_of ns shares) ≡ length ns
answers_length [] shares = refl
answers_length (n ∷ ns) [] = ap suc (answers_length ns [])
answers_length (n ∷ ns) (b ∷ shares) = ap suc (answers_length ns shares)

-- ---- wanted ids

wants_cond : (f : List Id → List Id) (b : Bool) (ids : List Id) (o o' : Option (List Id)) → o' ≡ option_map f o → cond b (Some (f ids)) o' ≡ option_map f (cond b (Some ids) o)
wants_cond f true ids o o' e = refl
wants_cond f false ids o o' e = e

found_each : (f : List Id → List Id) (es : List (ℕ × List Id)) (q : ℕ) → fin_map.find nat_cmp q (change_each f es) ≡ option_map f (fin_map.find nat_cmp q es)
found_each f [] q = refl
found_each f (e ∷ es) q = wants_cond f (eq_by_cmp nat_cmp q e.0) e.1 (fin_map.find nat_cmp q es) (fin_map.find nat_cmp q (change_each f es)) (found_each f es q)

got_none : (wanted : Wants) (id : Id) (q : ℕ) → fin_map.get (wanted_by_none wanted id) q ≡ option_map (without id) (fin_map.get wanted q)
got_none wanted id q =
    fin_map.get-from_entries nat_cmp_total (change_each (without id) (fin_map.entries wanted)) q
    ∙ (found_each (without id) (fin_map.entries wanted) q ∙ ap (option_map (without id)) (sym (fin_map.get-entries wanted q)))

got_each : (old new : retry.Table) (id : Id) (contacts q : ℕ)
    → ((c : ℕ) → c < contacts → (retry.wants_of new c).ids ≡ without id (retry.wants_of old c).ids)
    → fin_map.get (wants_in new contacts) q ≡ option_map (without id) (fin_map.get (wants_in old contacts) q)
got_each old new id zero q each = fin_map.get-empty nat_cmp q ∙ sym (ap (option_map (without id)) (fin_map.get-empty nat_cmp q))
got_each old new id (suc k) q each =
    fin_map.get-insert nat_cmp_total (wants_in new k) k (retry.wants_of new k).ids q
    ∙ (ap (λ (ids : List Id). cond (eq_by_cmp nat_cmp q k) (Some ids) (fin_map.get (wants_in new k) q)) (each k (omega arith))
    ∙ (wants_cond (without id) (eq_by_cmp nat_cmp q k) (retry.wants_of old k).ids (fin_map.get (wants_in old k) q) (fin_map.get (wants_in new k) q)
    (got_each old new id k q (λ c below. each c (omega arith)))
    ∙ ap (option_map (without id)) (sym (fin_map.get-insert nat_cmp_total (wants_in old k) k (retry.wants_of old k).ids q))))

wants_none : (old new : retry.Table) (id : Id) (contacts : ℕ) → ((c : ℕ) → c < contacts → (retry.wants_of new c).ids ≡ without id (retry.wants_of old c).ids)
    → wants_in new contacts ≡ wanted_by_none (wants_in old contacts) id
wants_none old new id contacts each =
    fin_map.same_map nat_cmp_total fin_map.nat_cmp-IsAntisymmetric (wants_in new contacts) (wanted_by_none (wants_in old contacts) id)
    (λ q. got_each old new id contacts q each ∙ sym (got_none (wants_in old contacts) id q))

-- ---- the parts once a message is held

abbrev pub held_parts : Parts → Held → ℕ → retry.Table → ℕ → Parts
held_parts p h group t space = record p {
  held = p.held ++ h ∷ [];
  nodes = p.nodes ++ nodes.fresh_node h.id group ∷ [];
  shares = p.shares ++ false ∷ [];
  retry = t;
  space = space;
}

module _ (p : Parts) (s : IsState p) (h : Held) (group : ℕ) (t : retry.Table) (space : ℕ) (new : held_at p.held h.id ≡ None)
    (known : levels.group_number p.table.groups h.message.group ≡ Some group)
    (u : UnwantsBelow p.table.contacts p.retry t h.id) where
  kept_still : (contact n : ℕ) → retry.kept_at t contact n ≡ retry.kept_at p.retry contact n
  kept_still contact n = ap (λ (rows : List (List retry.KeptRow)). retry.kept_in (slice_index_or rows contact []) n) u.rows

  delivered_still : map (name_at (p.nodes ++ nodes.fresh_node h.id group ∷ [])) p.delivered
      ≡ map (name_at p.nodes) p.delivered
  delivered_still = delivered_more p.nodes (nodes.fresh_node h.id group) p.delivered s.within

  answers_held : answers_of (p.nodes ++ nodes.fresh_node h.id group ∷ []) (p.shares ++ false ∷ [])
      ≡ answers_of p.nodes p.shares ++ None ∷ []
  answers_held = answers_more p.nodes p.shares (nodes.fresh_node h.id group) s.each_share refl

  shared_still : shared_among (p.held ++ h ∷ [])
      (answers_of (p.nodes ++ nodes.fresh_node h.id group ∷ []) (p.shares ++ false ∷ []))
      ≡ shared_among p.held (answers_of p.nodes p.shares)
  shared_still =
      ap (shared_among (p.held ++ h ∷ [])) answers_held
      ∙ shared_more p.held (answers_of p.nodes p.shares) h (answers_length p.nodes p.shares ∙ many_nodes p s)

  not_delivered : is_among (map (name_at p.nodes) p.delivered) h.id ≡ false
  not_delivered = s.ended h.id ∙ ap is_delivered_in (no_node p.held p.nodes s.named h.id new)

  held_length : length (p.held ++ h ∷ []) ≡ length p.held + 1
  held_length = length-append p.held (h ∷ [])

  nodes_length : length (p.nodes ++ nodes.fresh_node h.id group ∷ []) ≡ length p.nodes + 1
  nodes_length = length-append p.nodes (nodes.fresh_node h.id group ∷ [])

  grouped_old : (n : ℕ) (x : Held) → slice_get p.held n ≡ Some x → (node : Node)
      → slice_get (p.nodes ++ nodes.fresh_node h.id group ∷ []) n ≡ Some node
      → levels.group_number p.table.groups x.message.group ≡ Some node.group
  grouped_old n x at node here =
      let inside : n < length p.held = within_held p.held n x at in
      let was = there p.nodes n (omega (arith, inside, many_nodes p s)) in
      let same : Some was.0 ≡ Some node =
      sym (still_at p.nodes (nodes.fresh_node h.id group) n was.0 was.1) ∙ here in
      let one : was.0 ≡ node = cc in
      s.grouped n x was.0 at was.1 ∙ ap (λ (w : Node). Some w.group) one

  grouped_new : (node : Node)
      → slice_get (p.nodes ++ nodes.fresh_node h.id group ∷ []) (length p.held) ≡ Some node
      → levels.group_number p.table.groups h.message.group ≡ Some node.group
  grouped_new node here =
      let same : Some (nodes.fresh_node h.id group) ≡ Some node =
      sym (end_here p.nodes (nodes.fresh_node h.id group))
      ∙ (ap (slice_get (p.nodes ++ nodes.fresh_node h.id group ∷ [])) (many_nodes p s) ∙ here)
      in
      let one : nodes.fresh_node h.id group ≡ node = cc in
      known ∙ ap (λ (w : Node). Some w.group) one

  distinct_old : (n : ℕ) (x : Held) → slice_get p.held n ≡ Some x → place_of (p.held ++ h ∷ []) x.id ≡ Some n
  distinct_old n x at = place_more p.held h x.id ∙ ap (λ o. or_end o (same_id h.id x.id) (length p.held)) (s.distinct n x at)

  distinct_new : place_of (p.held ++ h ∷ []) h.id ≡ Some (length p.held)
  distinct_new =
      place_more p.held h h.id
      ∙ (λ i. or_end (no_place p.held h.id new i) (same_id_itself h.id i) (length p.held))

  wants_free : (contact : ℕ) → p.table.contacts ≤ contact → (retry.wants_of t contact).ids ≡ []
  wants_free contact beyond = u.beyond contact beyond ∙ s.free_wants contact beyond

  ready_old : (n : ℕ) (x : Held) → slice_get p.held n ≡ Some x → (contact : ℕ) → contact < 256
      → (retry.kept_at t contact n).ready
      ≡ may_go p.table.levels
      (map (name_at (p.nodes ++ nodes.fresh_node h.id group ∷ [])) p.delivered)
      (shared_among (p.held ++ h ∷ [])
      (answers_of (p.nodes ++ nodes.fresh_node h.id group ∷ []) (p.shares ++ false ∷ [])))
      contact x
  ready_old n x at contact below =
      ap (λ (k : retry.KeptRow). k.ready) (kept_still contact n)
      ∙ (s.ready contact n x below at ∙ (λ i. may_go p.table.levels (sym delivered_still i) (sym shared_still i) contact x))

  ready_new : (contact : ℕ) → contact < 256
      → (retry.kept_at t contact (length p.held)).ready
      ≡ may_go p.table.levels
      (map (name_at (p.nodes ++ nodes.fresh_node h.id group ∷ [])) p.delivered)
      (shared_among (p.held ++ h ∷ [])
      (answers_of (p.nodes ++ nodes.fresh_node h.id group ∷ []) (p.shares ++ false ∷ [])))
      contact h
  ready_new contact below =
      ap (λ (k : retry.KeptRow). k.ready) (kept_still contact (length p.held) ∙ s.free_rows contact (length p.held) (omega arith))
      ∙ sym (ap (λ b. b && (is_level_shared (level_at p.table.levels contact h.message.group)
      && (is_author h.origin || is_among
      (shared_among (p.held ++ h ∷ [])
      (answers_of (p.nodes ++ nodes.fresh_node h.id group ∷ []) (p.shares ++ false ∷ [])))
      h.id)))
      (ap (λ (ids : List Id). is_among ids h.id) delivered_still ∙ not_delivered))

  groups_still : (n : ℕ) → retry.group_at t n ≡ retry.group_at p.retry n
  groups_still n = ap (λ (gs : List (Option ℕ)). slice_index_or gs n None) u.groups

  released_old : (n : ℕ) (x : Held) → slice_get p.held n ≡ Some x → (node : Node) → slice_get (p.nodes ++ nodes.fresh_node h.id group ∷ []) n ≡ Some node
      → retry.group_at t n
      ≡ left_in (map (name_at (p.nodes ++ nodes.fresh_node h.id group ∷ [])) p.delivered)
      (shared_among (p.held ++ h ∷ []) (answers_of (p.nodes ++ nodes.fresh_node h.id group ∷ []) (p.shares ++ false ∷ []))) x node.group
  released_old n x at node here =
      let inside : n < length p.held = within_held p.held n x at in
      let was = there p.nodes n (omega (arith, inside, many_nodes p s)) in
      let same : Some was.0 ≡ Some node =
      sym (still_at p.nodes (nodes.fresh_node h.id group) n was.0 was.1) ∙ here in
      let one : was.0 ≡ node = cc in
      groups_still n ∙ (s.released n x was.0 at was.1
      ∙ (λ i. left_in (sym delivered_still i) (sym shared_still i) x (one i).group))

  released_new : (node : Node) → slice_get (p.nodes ++ nodes.fresh_node h.id group ∷ []) (length p.held) ≡ Some node
      → retry.group_at t (length p.held)
      ≡ left_in (map (name_at (p.nodes ++ nodes.fresh_node h.id group ∷ [])) p.delivered)
      (shared_among (p.held ++ h ∷ []) (answers_of (p.nodes ++ nodes.fresh_node h.id group ∷ []) (p.shares ++ false ∷ []))) h node.group
  released_new node here =
      groups_still (length p.held) ∙ (s.unreleased (length p.held) (omega arith)
      ∙ sym (ap (λ b. cond (b && (is_author h.origin || is_among
      (shared_among (p.held ++ h ∷ [])
      (answers_of (p.nodes ++ nodes.fresh_node h.id group ∷ []) (p.shares ++ false ∷ [])))
      h.id)) (Some node.group) None)
      (ap (λ (ids : List Id). is_among ids h.id) delivered_still ∙ not_delivered)))

  pub held_state : IsState (held_parts p h group t space)
  held_state = record {
    named =
        map-append (λ (n : Node). n.name) p.nodes (nodes.fresh_node h.id group ∷ [])
        ∙ (ap (λ (ids : List Id). ids ++ h.id ∷ []) s.named ∙ sym (map-append (λ (x : Held). x.id) p.held (h ∷ [])));
    grouped = λ n x node a b. end_cases
        {P = λ k w. (y : Node) → slice_get (p.nodes ++ nodes.fresh_node h.id group ∷ []) k ≡ Some y
        → levels.group_number p.table.groups w.message.group ≡ Some y.group}
        p.held h grouped_old grouped_new n x a node b;
    distinct = λ n x at. end_cases {P = λ k w. place_of (p.held ++ h ∷ []) w.id ≡ Some k} p.held h distinct_old distinct_new n x at;
    each_share =
        length-append p.shares (false ∷ []) ∙ (ap (λ n. n + 1) s.each_share ∙ sym nodes_length);
    order = λ n node at. end_cases {P = λ k (w : Node). w.answer ≡ None → w.ending ≡ None} p.nodes
        (nodes.fresh_node h.id group) s.order (λ none. refl) n node at;
    within = within_more (length p.nodes)
        (length (p.nodes ++ nodes.fresh_node h.id group ∷ [])) p.delivered
        (omega (arith, nodes_length)) s.within;
    ended = λ id. ap (λ (ids : List Id). is_among ids id) delivered_still
        ∙ (s.ended id ∙ sym (node_more p.nodes (nodes.fresh_node h.id group) id refl));
    many = let sums : delivered_among (p.nodes ++ nodes.fresh_node h.id group ∷ [])
        ≡ delivered_among p.nodes + 0 =
        sum_more one_if_delivered p.nodes (nodes.fresh_node h.id group) in
        omega (arith, sums, s.many);
    free_rows = λ contact n beyond. kept_still contact n ∙ s.free_rows contact n (omega (arith, held_length));
    free_wants = wants_free;
    hidden = s.hidden;
    shown = s.shown;
    released = λ n x node a b. end_cases
        {P = λ k w. (y : Node) → slice_get (p.nodes ++ nodes.fresh_node h.id group ∷ []) k ≡ Some y
        → retry.group_at t k
        ≡ left_in (map (name_at (p.nodes ++ nodes.fresh_node h.id group ∷ [])) p.delivered)
        (shared_among (p.held ++ h ∷ []) (answers_of (p.nodes ++ nodes.fresh_node h.id group ∷ []) (p.shares ++ false ∷ []))) w y.group}
        p.held h released_old released_new n x a node b;
    unreleased = λ n beyond. groups_still n ∙ s.unreleased n (omega (arith, held_length));
    ready = λ contact n x below at. end_cases
        {P = λ k w. (c : ℕ) → c < 256
        → (retry.kept_at t c k).ready ≡ may_go p.table.levels
        (map (name_at (p.nodes ++ nodes.fresh_node h.id group ∷ [])) p.delivered)
        (shared_among (p.held ++ h ∷ [])
        (answers_of (p.nodes ++ nodes.fresh_node h.id group ∷ []) (p.shares ++ false ∷ []))) c
        w}
        p.held h ready_old ready_new n x at contact below;
  }

  row_end : (contact : ℕ) (o : Option ℕ) (b : Bool) → row_by (retry.rows_of t contact) (or_end o b (length p.held)) ≡ row_by (retry.rows_of p.retry contact) o
  row_end contact None true = ap (λ (k : retry.KeptRow). k.row) (kept_still contact (length p.held) ∙ s.free_rows contact (length p.held) (omega arith))
  row_end contact None false = refl
  row_end contact (Some n) b = ap (λ (k : retry.KeptRow). k.row) (kept_still contact n)

  rows_still : rows_in t (p.held ++ h ∷ []) ≡ rows_in p.retry p.held
  rows_still = rows_are t (p.held ++ h ∷ []) (rows_in p.retry p.held) (lean_in p.retry p.held) (λ contact id.
      ap (row_by (retry.rows_of t contact)) (place_more p.held h id) ∙ (row_end contact (place_of p.held id) (same_id h.id id) ∙ sym (row_found p.retry p.held contact id)))

  pub held_facts : facts_of (held_parts p h group t space) ≡ record (facts_of p) { held = p.held ++ h ∷ []; wanted = wanted_by_none (wants_in p.retry p.table.contacts) h.id }
  held_facts = λ i. record (facts_of p) {
    held = p.held ++ h ∷ [];
    judged = fin_set.from_list (names_more is_judged p.nodes (nodes.fresh_node h.id group) refl i);
    invalid =
        fin_set.from_list (names_more is_invalid p.nodes (nodes.fresh_node h.id group) refl i);
    delivered = delivered_still i;
    rows = rows_still i;
    wanted = wants_none p.retry t h.id p.table.contacts u.wants i;
  }

  unjudged : (clients : Meaning) → answer_of clients (facts_of p) h ≡ None
  unjudged clients =
      ap (λ b. cond b (Some (verdict clients)) None)
      (set_named is_judged p.nodes (subst AreApart (sym s.named) (first_apart p.held s.distinct)) h.id ∙ ap (passes is_judged) (no_node p.held p.nodes s.named h.id new))
    where
      verdict : Meaning → Judgement
      verdict clients = verdict_in clients (facts_of p).groups h.message

  pub held_knows : (clients : Meaning) → KnowsJudgements clients (value_of p) → KnowsJudgements clients (value_of (held_parts p h group t space))
  held_knows clients k =
      answers_held
      ∙ ((λ i. k i ++ sym (unjudged clients) i ∷ [])
      ∙ (sym (map-append (answer_of clients (facts_of p)) p.held (h ∷ []))
      ∙ ap (λ (f : Facts). map (answer_of clients f) (p.held ++ h ∷ [])) (sym held_facts)))
