-- What a graph keeps beside its nodes still agrees with them after each change.
use Rattle.std.proofs.Common.{◌≡◌, ℕ, zero, suc, ◌+◌, ◌-◌, ◌<◌, ◌≤◌, ◌^◌, ◌==◌, Bool, true, false, cond, not, ◌||◌, ◌&&◌, if◌then◌else◌, List, [], ◌∷◌, ◌++◌, length, map, Option, None, Some, slice_get, refl, sym, ap, subst, ◌∙◌, set, arith, inl, inr, length-append}
use Rattle.std.proofs.lemmas.List.{ext_get_or, length-map, length-set, get_or-set_same, get_or-set_other, get_or_append_left, get_or_push}
use Rattle.std.proofs.lemmas.Bool.{cases_eq, false_from_ne_true}
use Rattle.message_graph.specs.declared.nodes.Node.{Node}
use Rattle.message_graph.specs.declared.nodes.Judged.{Judged}
use Rattle.message_graph.specs.declared.nodes.Ending.{Ending}
use Rattle.message_graph.specs.declared.nodes.Ending.TheVariants as ending
use Rattle.message_graph.specs.declared.states.Waiting.{Waiting}
use Rattle.message_graph.specs.declared.states.Waiting.TheVariants as waiting
use Rattle.message_graph.specs.declared.states.News.TheVariants as news
use Rattle.message_graph.specs.Nodes.{same_name, node_named, node_number, is_invalid, is_delivered}
use Rattle.message_graph.specs.Nodes.{fresh_node, with_answer, with_ending}
use Rattle.message_graph.specs.Waits.{NodeWaits, missing, waiting_open, waiting_by, waiting_of, told_times, wait_at, group_at}
use Rattle.message_graph.specs.Links.{WaitIndex, Numbers, holder_of, edge_at, count_before, first_for}
use Rattle.message_graph.specs.Whole.{occurrences, dependencies, dependencies_at, IsGraph, ending_news}
use Rattle.message_graph.proofs.Positions.{place_pushed}
use Rattle.message_graph.proofs.Linked.{same_refl, same_equal}
use Rattle.message_graph.proofs.Counts.{counted, count_all, counts_enlisted, counts_unlisted}
use Rattle.message_graph.proofs.Firsts.{first_enlisted, first_unlisted}
use Rattle.message_graph.proofs.Missing.{Differs, lack_times, missing_doomed, missing_same, missing_served, fewer_served, fewer_failed, waits_told, waits_same, waits_open_same, told_times-ended, told_times-unjudged}
use Rattle.message_graph.proofs.NodeLaws.{HasAnswer, there_within, length-change}
use Rattle.message_graph.proofs.Changes.{node_there, wait_there, group_there, dependencies_there, dependent_within, get-change_same, get-change_other, dependencies-change_other, number_of-change, differs-change, get-push_cases, dependencies_at-push, number_of-push, differs-push}

or_true : (b : Bool) → (b || true) ≡ true
or_true true = refl
or_true false = refl

-- who waits is a node
pub waiters_inside : (nodes : List Node) (links : WaitIndex) (states : NodeWaits) (spare : ℕ) → IsGraph nodes links states spare → (edge : ℕ) → edge < length links.edges → (edge_at links.edges edge).1 < length nodes
waiters_inside nodes links states spare g edge h =
    let e = edge_at links.edges edge in
    dependent_within nodes e.1 e.0 (subst (λ n. 1 ≤ n) (g.edges e.0 e.1) (counted links.edges edge (length links.edges) h))

-- lists of waits that agree at each number
same_waits : (waits : List Waiting) (f : Node → Waiting) (nodes : List Node) → length waits ≡ length nodes → ((k : ℕ) (node : Node) → slice_get nodes k ≡ Some node → wait_at waits k ≡ f node) → waits ≡ map f nodes
same_waits waits f nodes len h =
    ext_get_or waiting.Ended waits (map f nodes) (len ∙ sym (length-map nodes f)) (λ k l.
    let there = node_there nodes k (subst (λ n. k < n) len l) in h k there.0 there.1 ∙ sym (wait_there f nodes k there.0 there.1))

pub many_waits : (nodes : List Node) (links : WaitIndex) (states : NodeWaits) (spare : ℕ) → IsGraph nodes links states spare → length states.waits ≡ length nodes
many_waits nodes links states spare g = ap length g.waits ∙ length-map nodes (waiting_of (node_named nodes))

-- what the end of a node does to those that miss it
ending_told : (held after : List ℕ → Option Node) (node : Node) (e : Ending) → node.ending ≡ None → Differs held after node.name (Some node) (record node { ending = Some e }) → (group : ℕ) (names : List (List ℕ)) → missing after group names ≡ lack_times (ending_news e) group (occurrences node.name names) (missing held group names)
ending_told held after node ending.Invalid goes d group names =
    missing_doomed held after node.name (Some node) (record node { ending = Some ending.Invalid }) d group news.Failed (λ count. refl) (or_true (not (node.group == group))) names
ending_told held after node ending.Delivered goes d group names =
    let now : Node = record node { ending = Some ending.Delivered } in
    elim (node.group == group) as (λ b. node.group == group ≡ b → missing after group names ≡ lack_times news.Delivered group (occurrences node.name names) (missing held group names)) [
      | true ↦ λ same. missing_served held after node.name (Some node) now d group
          (fewer_served held after node.name (Some node) now d group
          (λ i. not (same i) || is_invalid (goes i)) (λ i. same i && is_delivered (goes i)) (λ i. not (same i) || false) (λ i. same i && true)) names
      | false ↦ λ other. missing_served held after node.name (Some node) now d group
          (fewer_failed held after node.name (Some node) now d group (λ i. not (other i) || is_invalid node.ending) (λ i. not (other i) || false)) names
    ] refl

module _ (nodes : List Node) (links : WaitIndex) (states : NodeWaits) (spare : ℕ) (g : IsGraph nodes links states spare) where
  -- a node ended, and those that wait for it were told
  pub end_kept : (n : ℕ) (node : Node) (e : Ending) (after : NodeWaits) → slice_get nodes n ≡ Some node → HasAnswer node → length after.waits ≡ length states.waits → after.room ≡ states.room
      → ((k : ℕ) → wait_at after.waits k ≡ told_times (ending_news e) (group_at (with_ending n e nodes) k) (count_before links.edges node.name k (length links.edges)) (wait_at (set states.waits n waiting.Ended) k))
      → IsGraph (with_ending n e nodes) links after spare
  end_kept n node e after at has len room told =
      let f : Node → Node = (λ m. record m { ending = Some e }) in
      let now = with_ending n e nodes in
      let keeps : (m : Node) → (f m).name ≡ m.name = (λ m. refl) in
      let own = g.own n node at in
      let d = differs-change f keeps nodes n node at own in
      let many = many_waits nodes links states spare g in
      let within = there_within nodes n node at in
      let stays : (waiter : ℕ) → dependencies_at nodes waiter ≡ dependencies_at now waiter = (λ waiter. elim (cases_eq waiter n) [
        | inl same ↦ ap (dependencies_at nodes) same ∙ dependencies_there nodes n node at ∙ sym (ap (dependencies_at now) same ∙ dependencies_there now n (f node) (get-change_same f nodes n node at))
        | inr other ↦ sym (dependencies-change_other f nodes n waiter other)
      ]) in
      record {
        few = subst (λ k. k < 2 ^ 32) (sym (length-change f n nodes)) g.few;
        holders = λ name. g.holders name ∙ sym (number_of-change f keeps nodes n name);
        own = λ k m h. number_of-change f keeps nodes n m.name ∙ elim (cases_eq k n) [
          | inl same ↦ let is : f node ≡ m = (let c : Some (f node) ≡ Some m = sym (get-change_same f nodes n node at) ∙ ap (slice_get now) (sym same) ∙ h in cc) in
              ap (λ (x : Node). node_number nodes x.name) (sym is) ∙ own ∙ ap Some (sym same)
          | inr other ↦ g.own k m (sym (get-change_other f nodes n k other) ∙ h)
        ];
        waits = same_waits after.waits (waiting_of (node_named now)) now (len ∙ many ∙ sym (length-change f n nodes)) (λ k m h. told k ∙ elim (cases_eq k n) [
          | inl same ↦
              let is : f node ≡ m = (let c : Some (f node) ≡ Some m = sym (get-change_same f nodes n node at) ∙ ap (slice_get now) (sym same) ∙ h in cc) in
              ap (told_times (ending_news e) (group_at now k) (count_before links.edges node.name k (length links.edges))) (ap (wait_at (set states.waits n waiting.Ended)) same ∙ get_or-set_same states.waits n waiting.Ended waiting.Ended (omega (arith, many)))
              ∙ told_times-ended (ending_news e) (group_at now k) (count_before links.edges node.name k (length links.edges))
              ∙ sym (ap (waiting_of (node_named now)) (sym is) ∙ ap (λ a. waiting_by (node_named now) node.group a (Some e)) has.given)
          | inr other ↦
              let old : slice_get nodes k ≡ Some m = sym (get-change_other f nodes n k other) ∙ h in
              (λ i. told_times (ending_news e) (group_there now k m h i) ((g.edges node.name k ∙ ap (occurrences node.name) (dependencies_there nodes k m old)) i)
              ((get_or-set_other states.waits n k waiting.Ended waiting.Ended other ∙ ap (λ w. wait_at w k) g.waits ∙ wait_there (waiting_of (node_named nodes)) nodes k m old) i))
              ∙ sym (waits_told (node_named nodes) (node_named now) node.name (ending_news e) m.group (ending_told (node_named nodes) (node_named now) node e has.goes_on d m.group) m.answer m.ending)
        ]);
        edges = λ name waiter. g.edges name waiter ∙ ap (occurrences name) (stays waiter);
        firsts = λ waiter. g.firsts waiter ∙ ap (λ names. slice_get names 0) (stays waiter);
        order = λ k m h. elim (cases_eq k n) [
          | inl same ↦ let is : f node ≡ m = (let c : Some (f node) ≡ Some m = sym (get-change_same f nodes n node at) ∙ ap (slice_get now) (sym same) ∙ h in cc) in
              λ open_answer. absurd (let c : Some has.answer ≡ None = sym has.given ∙ ap (λ (x : Node). x.answer) is ∙ open_answer in cc)
          | inr other ↦ g.order k m (sym (get-change_other f nodes n k other) ∙ h)
        ];
        count = g.count ∙ sym (length-change f n nodes);
        numbers = g.numbers;
        room = g.room;
        places = subst (λ r. spare ≤ r) (sym room) g.places;
      }

  -- a node was judged
  pub judged_kept : (n : ℕ) (node : Node) (answer : Judged) (after : WaitIndex) (later : NodeWaits) → slice_get nodes n ≡ Some node → node.answer ≡ None
      → ((name : List ℕ) → holder_of after name ≡ holder_of links name) → after.numbers ≡ links.numbers → after.edges ≡ links.edges ++ map (λ name. (name, n)) (dependencies (Some answer)) → spare ≤ after.room
      → later.waits ≡ set states.waits n (waiting_open (node_named nodes) node.group answer) → later.room ≡ states.room
      → IsGraph (with_answer n answer nodes) after later spare
  judged_kept n node answer after later at new holders same_numbers edges room waits places =
      let f : Node → Node = (λ m. record m { answer = Some answer }) in
      let now = with_answer n answer nodes in
      let keeps : (m : Node) → (f m).name ≡ m.name = (λ m. refl) in
      let own = g.own n node at in
      let d = differs-change f keeps nodes n node at own in
      let many = many_waits nodes links states spare g in
      let within = there_within nodes n node at in
      let goes : node.ending ≡ None = g.order n node at new in
      record {
        few = subst (λ k. k < 2 ^ 32) (sym (length-change f n nodes)) g.few;
        holders = λ name. holders name ∙ g.holders name ∙ sym (number_of-change f keeps nodes n name);
        own = λ k m h. number_of-change f keeps nodes n m.name ∙ elim (cases_eq k n) [
          | inl same ↦ let is : f node ≡ m = (let c : Some (f node) ≡ Some m = sym (get-change_same f nodes n node at) ∙ ap (slice_get now) (sym same) ∙ h in cc) in
              ap (λ (x : Node). node_number nodes x.name) (sym is) ∙ own ∙ ap Some (sym same)
          | inr other ↦ g.own k m (sym (get-change_other f nodes n k other) ∙ h)
        ];
        waits = same_waits later.waits (waiting_of (node_named now)) now (ap length waits ∙ length-set states.waits n (waiting_open (node_named nodes) node.group answer) ∙ many ∙ sym (length-change f n nodes)) (λ k m h. ap (λ w. wait_at w k) waits ∙ elim (cases_eq k n) [
          | inl same ↦
              let is : f node ≡ m = (let c : Some (f node) ≡ Some m = sym (get-change_same f nodes n node at) ∙ ap (slice_get now) (sym same) ∙ h in cc) in
              ap (wait_at (set states.waits n (waiting_open (node_named nodes) node.group answer))) same ∙ get_or-set_same states.waits n (waiting_open (node_named nodes) node.group answer) waiting.Ended (omega (arith, many))
              ∙ sym (ap (waiting_of (node_named now)) (sym is) ∙ ap (waiting_by (node_named now) node.group (Some answer)) goes
              ∙ waits_open_same (node_named nodes) (node_named now) node.group (missing_same (node_named nodes) (node_named now) node.name (Some node) (f node) d node.group refl refl) answer)
          | inr other ↦
              let old : slice_get nodes k ≡ Some m = sym (get-change_other f nodes n k other) ∙ h in
              get_or-set_other states.waits n k (waiting_open (node_named nodes) node.group answer) waiting.Ended other ∙ ap (λ w. wait_at w k) g.waits ∙ wait_there (waiting_of (node_named nodes)) nodes k m old
              ∙ sym (waits_same (node_named nodes) (node_named now) m.group (missing_same (node_named nodes) (node_named now) node.name (Some node) (f node) d m.group refl refl) m.answer m.ending)
        ]);
        edges = λ name waiter. (λ i. count_all (edges i) name waiter) ∙ elim (cases_eq waiter n) [
          | inl same ↦
              (λ i. count_all (links.edges ++ map (λ x. (x, n)) (dependencies (Some answer))) name (same i))
              ∙ counts_enlisted (dependencies (Some answer)) links.edges name n
              ∙ ap (λ k. occurrences name (dependencies (Some answer)) + k) (g.edges name n ∙ ap (occurrences name) (dependencies_there nodes n node at ∙ ap dependencies new))
              ∙ plus_none (occurrences name (dependencies (Some answer)))
              ∙ sym (ap (λ k. occurrences name (dependencies_at now k)) same ∙ ap (occurrences name) (dependencies_there now n (f node) (get-change_same f nodes n node at)))
          | inr other ↦ counts_unlisted (dependencies (Some answer)) links.edges name n waiter other ∙ g.edges name waiter ∙ ap (occurrences name) (sym (dependencies-change_other f nodes n waiter other))
        ];
        firsts = λ waiter. (λ i. first_for (edges i) waiter) ∙ elim (cases_eq waiter n) [
          | inl same ↦
              (λ i. first_for (links.edges ++ map (λ x. (x, n)) (dependencies (Some answer))) (same i))
              ∙ first_enlisted (dependencies (Some answer)) links.edges n (g.firsts n ∙ ap (λ names. slice_get names 0) (dependencies_there nodes n node at ∙ ap dependencies new))
              ∙ sym (ap (λ k. slice_get (dependencies_at now k) 0) same ∙ ap (λ names. slice_get names 0) (dependencies_there now n (f node) (get-change_same f nodes n node at)))
          | inr other ↦ first_unlisted (dependencies (Some answer)) links.edges n waiter other ∙ g.firsts waiter ∙ ap (λ names. slice_get names 0) (sym (dependencies-change_other f nodes n waiter other))
        ];
        order = λ k m h. elim (cases_eq k n) [
          | inl same ↦ let is : f node ≡ m = (let c : Some (f node) ≡ Some m = sym (get-change_same f nodes n node at) ∙ ap (slice_get now) (sym same) ∙ h in cc) in
              λ open_answer. ap (λ (x : Node). x.ending) (sym is) ∙ goes
          | inr other ↦ g.order k m (sym (get-change_other f nodes n k other) ∙ h)
        ];
        count = ap (λ (x : Numbers). length x.names) same_numbers ∙ g.count ∙ sym (length-change f n nodes);
        numbers = subst (λ (x : Numbers). spare ≤ x.room) (sym same_numbers) g.numbers;
        room = room;
        places = subst (λ r. spare ≤ r) (sym places) g.places;
      }
    where
      plus_none : (k : ℕ) → k + 0 ≡ k
      plus_none k = omega arith

  -- a node was held under a new name, and those that wait for it were told
  pub hold_kept : (name : List ℕ) (group : ℕ) (after : WaitIndex) (later : NodeWaits)
      → node_number nodes name ≡ None → length nodes < 2 ^ 32 - 1 → 0 < spare
      → ((other : List ℕ) → holder_of after other ≡ (if same_name other name then Some (length nodes) else holder_of links other)) → after.numbers.names ≡ links.numbers.names ++ name ∷ [] → links.numbers.room ≤ after.numbers.room + 1 → after.edges ≡ links.edges → links.room ≤ after.room + 1
      → length later.waits ≡ length nodes + 1 → later.room + 1 ≡ states.room
      → ((k : ℕ)
      → wait_at later.waits k ≡ told_times (news.Arrived group)
      (group_at (nodes ++ fresh_node name group ∷ []) k)
      (count_before after.edges name k (length after.edges))
      (wait_at (states.waits ++ waiting.Unjudged ∷ []) k))
      → IsGraph (nodes ++ fresh_node name group ∷ []) after later (spare - 1)
  hold_kept name group after later new few spares holders one_more left edges room len places told =
      let m = fresh_node name group in
      let now = nodes ++ m ∷ [] in
      let d = differs-push nodes m new in
      let many = many_waits nodes links states spare g in
      let total : length now ≡ length nodes + 1 = length-append nodes (m ∷ []) in
      record {
        few = omega (arith, total);
        holders = λ other. holders other
            ∙ sym (number_of-push nodes m new other ∙ pushed other (node_number nodes other) refl
            ∙ ap (λ o. if same_name other name then Some (length nodes) else o)
            (sym (g.holders other)));
        own = λ k x h. elim (get-push_cases nodes m k x h) [
          | inl old ↦ number_of-push nodes m new x.name ∙ ap (place_pushed (λ (node : Node). same_name x.name node.name) nodes m) (g.own k x old)
          | inr last ↦ ap (λ (y : Node). node_number now y.name) (sym last.1)
              ∙ number_of-push nodes m new name
              ∙ ap (place_pushed (λ (node : Node). same_name name node.name) nodes m) new
              ∙ ap (λ b. cond b (Some (length nodes)) None) (same_refl name) ∙ ap Some (sym last.0)
        ];
        waits = same_waits later.waits (waiting_of (node_named now)) now (len ∙ sym total) (λ k x h. told k ∙ elim (get-push_cases nodes m k x h) [
          | inl old ↦
              (λ i. told_times (news.Arrived group) (group_there now k x h i) (((λ j. count_before (edges j) name k (length (edges j))) ∙ g.edges name k ∙ ap (occurrences name) (dependencies_there nodes k x old)) i)
              ((get_or_append_left states.waits (waiting.Unjudged ∷ []) waiting.Ended k (omega (arith, many, there_within nodes k x old)) ∙ ap (λ w. wait_at w k) g.waits ∙ wait_there (waiting_of (node_named nodes)) nodes k x old) i))
              ∙ sym (waits_told (node_named nodes) (node_named now) name (news.Arrived group) x.group (arrival_told x.group) x.answer x.ending)
          | inr last ↦
              ap (told_times (news.Arrived group) (group_at now k) (count_before after.edges name k (length after.edges))) (get_or_push states.waits waiting.Unjudged waiting.Ended k (many ∙ sym last.0))
              ∙ told_times-unjudged (news.Arrived group) (group_at now k) (count_before after.edges name k (length after.edges))
              ∙ ap (waiting_of (node_named now)) last.1
        ]);
        edges = λ other waiter. (λ i. count_before (edges i) other waiter (length (edges i))) ∙ g.edges other waiter ∙ ap (occurrences other) (sym (dependencies_at-push nodes m waiter refl));
        firsts = λ waiter. (λ i. first_for (edges i) waiter) ∙ g.firsts waiter ∙ ap (λ names. slice_get names 0) (sym (dependencies_at-push nodes m waiter refl));
        order = λ k x h. elim (get-push_cases nodes m k x h) [
          | inl old ↦ g.order k x old
          | inr last ↦ λ open_answer. ap (λ (y : Node). y.ending) (sym last.1)
        ];
        count = ap length one_more ∙ length-append links.numbers.names (name ∷ []) ∙ omega (arith, g.count, total);
        numbers = omega (arith, left, g.numbers);
        room = omega (arith, g.room);
        places = omega (arith, g.places);
      }
    where
      pushed : (other : List ℕ) (o : Option ℕ) → node_number nodes other ≡ o
          → place_pushed (λ (node : Node). same_name other node.name) nodes
          (fresh_node name group) o ≡ (if same_name other name then Some (length nodes) else o)
      pushed other None h = refl
      pushed other (Some k) h =
          sym (ap (λ b. if b then Some (length nodes) else Some k)
          (false_from_ne_true (same_name other name)
          (λ alike. let c : None ≡ Some k = sym new
          ∙ ap (node_number nodes) (sym (same_equal other name alike)) ∙ h in cc)))

      arrival_told : (other : ℕ) (names : List (List ℕ))
          → missing (node_named (nodes ++ fresh_node name group ∷ [])) other names
          ≡ lack_times (news.Arrived group) other (occurrences name names)
          (missing (node_named nodes) other names)
      arrival_told other names =
          let d = differs-push nodes (fresh_node name group) new in
          elim (group == other) as
          (λ b. group == other ≡ b
          → missing (node_named (nodes ++ fresh_node name group ∷ [])) other names
          ≡ lack_times (news.Arrived group) other (occurrences name names)
          (missing (node_named nodes) other names)) [
            | true ↦ λ same. missing_same (node_named nodes)
                (node_named (nodes ++ fresh_node name group ∷ [])) name None
                (fresh_node name group) d other (λ i. not (same i) || false)
                (λ i. same i && false) names
                ∙ sym (stays other same (occurrences name names) (missing (node_named nodes) other names))
            | false ↦ λ apart. missing_doomed (node_named nodes)
                (node_named (nodes ++ fresh_node name group ∷ [])) name None
                (fresh_node name group) d other (news.Arrived group)
                (λ count i. if apart i then Some count else None)
                (λ i. not (apart i) || false) names
          ] refl
        where
          stays : (other : ℕ) → group == other ≡ true → (times : ℕ) (o : Option ℕ) → lack_times (news.Arrived group) other times o ≡ o
          stays other same zero o = refl
          stays other same (suc times) None = stays other same times None
          stays other same (suc times) (Some count) = ap (lack_times (news.Arrived group) other times) (λ i. if same i then Some count else None) ∙ stays other same times (Some count)
