-- One node changed, where one message was judged or ended.
use Rattle.std.proofs.Common.{◌≡◌, ℕ, zero, suc, true, false, cond, ◌||◌, List, [], ◌∷◌, ◌++◌, map, refl, sym, ◌∙◌, ap, Some, None, slice_get}
use Rattle.std.specs.FinSet as fin_set
use Rattle.std.proofs.lemmas.Bool.{or_parts, or_left}
use Rattle.sync_rules.specs.declared.answers.Judgement.{Judgement}
use Rattle.sync_rules.specs.declared.entries.Entry.TheVariants as entry
use Rattle.sync_rules.specs.Clients.{Meaning}
use Rattle.sync_rules.specs.Lists.{same_id, is_among, has_repeat}
use Rattle.sync_rules.specs.Facts.{Facts, Held, Id, after}
use Rattle.sync_rules.specs.Steps.{answer_of, verdict_in}
use Rattle.sync_rules.proofs.Elements.{same_id_itself, same_id_swap, among-push}
use Rattle.sync_rules.proofs.Sound.{contains-more}
use Rattle.message_graph.specs.declared.nodes.Node.{Node}
use Rattle.message_graph.specs.declared.nodes.Ending.TheVariants as ending
use Rattle.message_graph.specs.Nodes.{change, with_answer, with_ending, ending_by}
use Rattle.journal_play.specs.Playing.{node_of, judged_of, answer_shown, ending_of}

abbrev pub ids_of : List Held → List Id
ids_of hs = map (λ h. h.id) hs

module _ (F F' : Held → Node) (id : Id) (others : (x : Held) → same_id x.id id ≡ false → F' x ≡ F x) where
  rest_same : (hs : List Held) → is_among (ids_of hs) id ≡ false → map F' hs ≡ map F hs
  rest_same [] none = refl
  rest_same (x ∷ hs) none =
      let both = or_parts (same_id x.id id) (is_among (ids_of hs) id) none in
      (λ i. others x both.0 i ∷ rest_same hs both.1 i)

  among_there : (hs : List Held) (n : ℕ) (h : Held) → slice_get hs n ≡ Some h → (other : Id) → is_among (ids_of hs) other ≡ false → same_id h.id other ≡ false
  among_there [] n h at other none = absurd (let e : None ≡ Some h = at in cc)
  among_there (x ∷ hs) zero h at other none =
      let is : x ≡ h = cc in
      let both = or_parts (same_id x.id other) (is_among (ids_of hs) other) none in
      ap (λ (w : Held). same_id w.id other) (sym is) ∙ both.0
  among_there (x ∷ hs) (suc n) h at other none =
      let both = or_parts (same_id x.id other) (is_among (ids_of hs) other) none in
      among_there hs n h at other both.1

  pub one_changed : (g : Node → Node) (hs : List Held) (n : ℕ) (h : Held) → slice_get hs n ≡ Some h → h.id ≡ id → F' h ≡ g (F h)
      → has_repeat (ids_of hs) ≡ false → map F' hs ≡ change g n (map F hs)
  one_changed g [] n h at named new once = refl
  one_changed g (x ∷ hs) zero h at named new once =
      let is : x ≡ h = cc in
      let both = or_parts (is_among (ids_of hs) x.id) (has_repeat (ids_of hs)) once in
      let none : is_among (ids_of hs) id ≡ false = ap (is_among (ids_of hs)) (sym (ap (λ (w : Held). w.id) is ∙ named)) ∙ both.0 in
      let here : F' x ≡ g (F x) = ap F' is ∙ (new ∙ ap (λ (w : Held). g (F w)) (sym is)) in
      (λ i. here i ∷ rest_same hs none i)
  one_changed g (x ∷ hs) (suc n) h at named new once =
      let both = or_parts (is_among (ids_of hs) x.id) (has_repeat (ids_of hs)) once in
      let away : same_id h.id x.id ≡ false = among_there hs n h at x.id both.0 in
      let apart : same_id x.id id ≡ false = ap (same_id x.id) (sym named) ∙ (same_id_swap x.id h.id ∙ away) in
      let later = one_changed g hs n h at named new both.1 in
      (λ i. others x apart i ∷ later i)

-- ---- the three changes

module _ (clients : Meaning) (f : Facts) (n : ℕ) (h : Held) (at : slice_get f.held n ≡ Some h) (once : has_repeat (ids_of f.held) ≡ false) where
  pub judged_node : (answer : Judgement) → verdict_in clients f.groups h.message ≡ answer
      → map (node_of clients (after f (entry.Judged h.id))) f.held ≡ with_answer n (judged_of answer) (map (node_of clients f) f.held)
  judged_node answer verdict =
      one_changed (node_of clients f) (node_of clients (after f (entry.Judged h.id))) h.id
      (λ x apart.
      let e : fin_set.contains (fin_set.insert f.judged h.id) x.id ≡ fin_set.contains f.judged x.id =
      contains-more f.judged h.id x.id ∙ ap (λ b. b || fin_set.contains f.judged x.id) (same_id_swap h.id x.id ∙ apart) in
      ap (λ b. record { name = x.id; group = 0; answer = answer_shown (cond b (Some (verdict_in clients f.groups x.message)) None); ending = ending_of f x.id }) e)
      (λ (node : Node). record node { answer = Some (judged_of answer) })
      f.held n h at refl
      (let e : fin_set.contains (fin_set.insert f.judged h.id) h.id ≡ true =
      contains-more f.judged h.id h.id ∙ or_left (same_id h.id h.id) (fin_set.contains f.judged h.id) (same_id_itself h.id) in
      (λ i. record { name = h.id; group = 0; answer = answer_shown (cond (e i) (Some (verdict i)) None); ending = ending_of f h.id }))
      once

  pub invalid_node : map (node_of clients (after f (entry.Invalid h.id))) f.held ≡ with_ending n ending.Invalid (map (node_of clients f) f.held)
  invalid_node =
      one_changed (node_of clients f) (node_of clients (after f (entry.Invalid h.id))) h.id
      (λ x apart.
      let e : fin_set.contains (fin_set.insert f.invalid h.id) x.id ≡ fin_set.contains f.invalid x.id =
      contains-more f.invalid h.id x.id ∙ ap (λ b. b || fin_set.contains f.invalid x.id) (same_id_swap h.id x.id ∙ apart) in
      ap (λ b. record { name = x.id; group = 0; answer = answer_shown (answer_of clients f x); ending = ending_by b (is_among f.delivered x.id) }) e)
      (λ (node : Node). record node { ending = Some ending.Invalid })
      f.held n h at refl
      (let e : fin_set.contains (fin_set.insert f.invalid h.id) h.id ≡ true =
      contains-more f.invalid h.id h.id ∙ or_left (same_id h.id h.id) (fin_set.contains f.invalid h.id) (same_id_itself h.id) in
      ap (λ b. record { name = h.id; group = 0; answer = answer_shown (answer_of clients f h); ending = ending_by b (is_among f.delivered h.id) }) e)
      once

  pub delivered_node : fin_set.contains f.invalid h.id ≡ false
      → map (node_of clients (after f (entry.Deliver h.id))) f.held ≡ with_ending n ending.Delivered (map (node_of clients f) f.held)
  delivered_node sound =
      one_changed (node_of clients f) (node_of clients (after f (entry.Deliver h.id))) h.id
      (λ x apart.
      let e : is_among (f.delivered ++ h.id ∷ []) x.id ≡ is_among f.delivered x.id =
      among-push f.delivered h.id x.id ∙ ap (λ b. b || is_among f.delivered x.id) (same_id_swap h.id x.id ∙ apart) in
      ap (λ b. record { name = x.id; group = 0; answer = answer_shown (answer_of clients f x); ending = ending_by (fin_set.contains f.invalid x.id) b }) e)
      (λ (node : Node). record node { ending = Some ending.Delivered })
      f.held n h at refl
      (let e : is_among (f.delivered ++ h.id ∷ []) h.id ≡ true =
      among-push f.delivered h.id h.id ∙ or_left (same_id h.id h.id) (is_among f.delivered h.id) (same_id_itself h.id) in
      (λ i. record { name = h.id; group = 0; answer = answer_shown (answer_of clients f h); ending = ending_by (sound i) (e i) }))
      once
