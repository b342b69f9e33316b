-- The parts after a step that judges a message or says that it is invalid.
use Rattle.std.proofs.Common.{◌≡◌, ℕ, zero, suc, ◌<◌, Bool, true, false, cond, ◌&&◌, ◌||◌, ◌⊎◌, inl, inr, List, [], ◌∷◌, length, map, set, nat_lt, Option, None, Some, slice_get, slice_index_or, refl, sym, ◌∙◌, ap, subst, arith}
use Rattle.std.specs.List.{list_all}
use Rattle.std.specs.FinSet as fin_set
use Rattle.std.proofs.lemmas.Bool.{false≢true}
use Rattle.std.proofs.lemmas.List.{length-set}
use Rattle.sync_rules.specs.declared.answers.Judgement.{Judgement}
use Rattle.sync_rules.specs.declared.entries.Entry.TheVariants as entry
use Rattle.sync_rules.specs.Clients.{Meaning}
use Rattle.sync_rules.specs.Lists.{same_id, is_among}
use Rattle.sync_rules.specs.Facts.{Facts, Held, Id, level_at, is_level_shared}
use Rattle.sync_rules.specs.Sessions.{is_author}
use Rattle.sync_rules.specs.Steps.{answer_of, verdict_in}
use Rattle.message_graph.specs.declared.nodes.Judged.{Judged}
use Rattle.message_graph.specs.declared.nodes.Node.{Node}
use Rattle.message_graph.specs.declared.nodes.Ending.{Ending}
use Rattle.message_graph.specs.declared.nodes.Ending.TheVariants as ending
use Rattle.message_graph.specs.Nodes as nodes
use Rattle.journal_state.specs.Left.{one_if_delivered}
use Rattle.journal_state.specs.Parts.{Parts, answer_of_node, answers_of, facts_of, is_invalid, is_judged, name_at, ids_where, shared_among}
use Rattle.journal_state.specs.Whole.{IsState, KnowsJudgements, is_delivered_in, left_in, may_go, value_of}
use Rattle.journal_state.specs.Changes.{judged_parts, invalid_parts}
use Rattle.journal_state.specs.Taking.{moved}
use Rattle.sync_rules.proofs.Elements.{same_id-is}
use Rattle.journal_state.specs.Sound.{AreApart}
use Rattle.journal_state.proofs.Apart.{first_apart}
use Rattle.journal_state.proofs.Changed.{names_of, own_found, names_kept, named_changed, names_same, set_grown}
use Rattle.journal_state.proofs.Answered.{ids_of, answers_set, answers_judged, shared_others}
use Rattle.journal_state.proofs.Sums.{sum_kept}

-- ---- one node changed

module _ (f : Node → Node) where
  pub length_kept : (n : ℕ) (ns : List Node) → length (nodes.change f n ns) ≡ length ns
  length_kept n [] = refl
  length_kept zero (x ∷ ns) = refl
  length_kept (suc n) (x ∷ ns) = ap suc (length_kept n ns)

  -- what stands at a number stood there before, changed or not
  was_at : (ns : List Node) (n k : ℕ) (y : Node) → slice_get (nodes.change f n ns) k ≡ Some y → (x : Node) × (slice_get ns k ≡ Some x) × ((y ≡ f x) ⊎ (y ≡ x))
  was_at [] n k y at = absurd (let e : None ≡ Some y = at in cc)
  was_at (x ∷ ns) zero zero y at = let is : f x ≡ y = cc in (x, refl, inl (sym is))
  was_at (x ∷ ns) zero (suc k) y at = (y, at, inr refl)
  was_at (x ∷ ns) (suc n) zero y at = let is : x ≡ y = cc in (x, refl, inr (sym is))
  was_at (x ∷ ns) (suc n) (suc k) y at = was_at ns n k y at

  -- what the change keeps
  pub kept_at : {A : Type 0} (g : Node → A) → ((x : Node) → g (f x) ≡ g x) → (ns : List Node) (n k : ℕ) (y : Node) → slice_get (nodes.change f n ns) k ≡ Some y
      → (x : Node) × (slice_get ns k ≡ Some x) × (g y ≡ g x)
  kept_at g keeps [] n k y at = absurd (let e : None ≡ Some y = at in cc)
  kept_at g keeps (x ∷ ns) zero zero y at = let is : f x ≡ y = cc in (x, refl, ap g (sym is) ∙ keeps x)
  kept_at g keeps (x ∷ ns) zero (suc k) y at = (y, at, refl)
  kept_at g keeps (x ∷ ns) (suc n) zero y at = let is : x ≡ y = cc in (x, refl, ap g (sym is))
  kept_at g keeps (x ∷ ns) (suc n) (suc k) y at = kept_at g keeps ns n k y at

-- a name stands in both lists
pub name_there : (ns : List Node) (hs : List Held) → names_of ns ≡ ids_of hs → (n : ℕ) (y : Node) (h : Held) → slice_get ns n ≡ Some y → slice_get hs n ≡ Some h → y.name ≡ h.id
name_there [] hs e n y h a b = absurd (let none : None ≡ Some y = a in cc)
name_there (x ∷ ns) [] e n y h a b = absurd (let none : None ≡ Some h = b in cc)
name_there (x ∷ ns) (g ∷ hs) e zero y h a b =
    let whole : x.name ∷ names_of ns ≡ g.id ∷ ids_of hs = e in
    let first : x.name ≡ g.id = cc in
    let one : x ≡ y = cc in
    let two : g ≡ h = cc in
    ap (λ (w : Node). w.name) (sym one) ∙ (first ∙ ap (λ (w : Held). w.id) two)
name_there (x ∷ ns) (g ∷ hs) e (suc n) y h a b =
    let whole : x.name ∷ names_of ns ≡ g.id ∷ ids_of hs = e in
    let rest : names_of ns ≡ ids_of hs = cc in
    name_there ns hs rest n y h a b

pub within_list : {A : Type 0} (xs : List A) (n : ℕ) (x : A) → slice_get xs n ≡ Some x → n < length xs
within_list [] n x at = absurd (let e : None ≡ Some x = at in cc)
within_list (y ∷ xs) zero x at = omega arith
within_list (y ∷ xs) (suc n) x at = let later = within_list xs n x at in omega (arith, later)

-- ---- what every step of one node keeps

module _ (p : Parts) (s : IsState p) (f : Node → Node) (keeps : (x : Node) → (f x).name ≡ x.name)
    (n : ℕ) (y : Node) (h : Held) (at : slice_get p.nodes n ≡ Some y) (there : slice_get p.held n ≡ Some h) where
  apart : AreApart (names_of p.nodes)
  apart = subst AreApart (sym s.named) (first_apart p.held s.distinct)

  named_step : names_of (nodes.change f n p.nodes) ≡ ids_of p.held
  named_step = names_kept f keeps n p.nodes ∙ s.named

  pub name_is : y.name ≡ h.id
  name_is = name_there p.nodes p.held s.named n y h at there

  delivered_step : map (name_at (nodes.change f n p.nodes)) p.delivered ≡ map (name_at p.nodes) p.delivered
  delivered_step = ap (λ (ids : List Id). map (λ k. slice_index_or ids k []) p.delivered) (names_kept f keeps n p.nodes)

  ended_by : (b : Bool) (d : Id) → same_id d y.name ≡ b → nodes.is_delivered (f y).ending ≡ nodes.is_delivered y.ending
      → is_delivered_in (nodes.node_named p.nodes d) ≡ is_delivered_in (cond b (Some (f y)) (nodes.node_named p.nodes d))
  ended_by true d e same =
      ap (λ (x : Id). is_delivered_in (nodes.node_named p.nodes x)) (same_id-is d y.name e)
      ∙ (ap is_delivered_in (own_found p.nodes n y at (subst AreApart (sym s.named) (first_apart p.held s.distinct))) ∙ sym same)
  ended_by false d e same = refl

  ended_step : nodes.is_delivered (f y).ending ≡ nodes.is_delivered y.ending → (d : Id)
      → is_among (map (name_at (nodes.change f n p.nodes)) p.delivered) d ≡ is_delivered_in (nodes.node_named (nodes.change f n p.nodes) d)
  ended_step same d =
      ap (λ (ids : List Id). is_among ids d) delivered_step
      ∙ (s.ended d ∙ (ended_by (same_id d y.name) d refl same
      ∙ ap is_delivered_in (sym (named_changed f keeps p.nodes n y at (subst AreApart (sym s.named) (first_apart p.held s.distinct)) d))))

-- ---- a message is judged

module _ (p : Parts) (s : IsState p) (n : ℕ) (y : Node) (h : Held) (at : slice_get p.nodes n ≡ Some y) (there : slice_get p.held n ≡ Some h)
    (unjudged : y.answer ≡ None) (j : Judged) (share : Bool) (a : Judgement) (shows : answer_of_node (Some j) share ≡ Some a) where
  pub answers_step : answers_of (nodes.with_answer n j p.nodes) (set p.shares n share) ≡ set (answers_of p.nodes p.shares) n (Some a)
  answers_step = answers_set p.nodes p.shares n j share a s.each_share (within_list p.nodes n y at) shows

  not_delivered : is_among (map (name_at p.nodes) p.delivered) h.id ≡ false
  not_delivered =
      s.ended h.id
      ∙ (ap (λ (x : Id). is_delivered_in (nodes.node_named p.nodes x)) (sym (name_there p.nodes p.held s.named n y h at there))
      ∙ (ap is_delivered_in (own_found p.nodes n y at (subst AreApart (sym s.named) (first_apart p.held s.distinct)))
      ∙ ap nodes.is_delivered (s.order n y at unjudged)))

  ready_by : (contact : ℕ) (x : Held) (d : Bool) → is_among (map (name_at p.nodes) p.delivered) x.id ≡ d
      → (d && (is_level_shared (level_at p.table.levels contact x.message.group) && (is_author x.origin || is_among (shared_among p.held (answers_of p.nodes p.shares)) x.id)))
      ≡ (d && (is_level_shared (level_at p.table.levels contact x.message.group) && (is_author x.origin || is_among (shared_among p.held (set (answers_of p.nodes p.shares) n (Some a))) x.id)))
  ready_by contact x false e = refl
  ready_by contact x true e =
      let away : same_id h.id x.id ≡ false = by (same_id h.id x.id) refl in
      ap (λ b. is_level_shared (level_at p.table.levels contact x.message.group) && (is_author x.origin || b)) (sym (shared_others p.held (answers_of p.nodes p.shares) n h (Some a) x.id there away))
    where
      by : (b : Bool) → same_id h.id x.id ≡ b → b ≡ false
      by true q =
          absurd (false≢true
          (sym not_delivered
          ∙ (ap (is_among (map (name_at p.nodes) p.delivered)) (same_id-is h.id x.id q) ∙ e)))
      by false q = refl

  released_by : (x : Held) (g : ℕ) (d : Bool) → is_among (map (name_at p.nodes) p.delivered) x.id ≡ d
      → cond (d && (is_author x.origin || is_among (shared_among p.held (answers_of p.nodes p.shares)) x.id)) (Some g) None
      ≡ cond (d && (is_author x.origin || is_among (shared_among p.held (set (answers_of p.nodes p.shares) n (Some a))) x.id)) (Some g) None
  released_by x g false e = refl
  released_by x g true e =
      let away : same_id h.id x.id ≡ false = by (same_id h.id x.id) refl in
      ap (λ b. cond (is_author x.origin || b) (Some g) None) (sym (shared_others p.held (answers_of p.nodes p.shares) n h (Some a) x.id there away))
    where
      by : (b : Bool) → same_id h.id x.id ≡ b → b ≡ false
      by true q =
          absurd (false≢true
          (sym not_delivered
          ∙ (ap (is_among (map (name_at p.nodes) p.delivered)) (same_id-is h.id x.id q) ∙ e)))
      by false q = refl

  ordered : (k : ℕ) (x : Node) → slice_get (nodes.with_answer n j p.nodes) k ≡ Some x → x.answer ≡ None → x.ending ≡ None
  ordered k x now none =
      let w = was_at (λ (w : Node). record w { answer = Some j }) p.nodes n k x now in
      elim w.2 [
        | inl e ↦ absurd (let wrong : Some j ≡ None = sym (ap (λ (v : Node). v.answer) e) ∙ none in cc)
        | inr e ↦ ap (λ (v : Node). v.ending) e ∙ s.order k w.0 w.1 (ap (λ (v : Node). v.answer) (sym e) ∙ none)
      ]

  pub judged_state : IsState (judged_parts p n j share)
  judged_state = record {
    named = names_kept (λ (x : Node). record x { answer = Some j }) (λ x. refl) n p.nodes ∙ s.named;
    grouped = λ k x node a b.
        let w = kept_at (λ (w : Node). record w { answer = Some j }) (λ (w : Node). w.group) (λ w. refl) p.nodes n k node b in
        s.grouped k x w.0 a w.1 ∙ ap Some (sym w.2);
    distinct = s.distinct;
    each_share = length-set p.shares n share ∙ (s.each_share ∙ sym (length_kept (λ (x : Node). record x { answer = Some j }) n p.nodes));
    order = ordered;
    within = ap (λ m. list_all (λ k. nat_lt k m) p.delivered) (length_kept (λ (x : Node). record x { answer = Some j }) n p.nodes) ∙ s.within;
    ended = ended_step p s (λ (x : Node). record x { answer = Some j }) (λ x. refl) n y h at there refl;
    many = s.many ∙ sym (sum_kept one_if_delivered (λ (x : Node). record x { answer = Some j }) n p.nodes y at refl);
    free_rows = s.free_rows;
    free_wants = s.free_wants;
    hidden = s.hidden;
    shown = s.shown;
    released = λ k x node a b.
        let w = kept_at (λ (w : Node). record w { answer = Some j }) (λ (w : Node). w.group) (λ w. refl) p.nodes n k node b in
        s.released k x w.0 a w.1
        ∙ (released_by x w.0.group (is_among (map (name_at p.nodes) p.delivered) x.id) refl
        ∙ (λ i. left_in (sym (delivered_step p s (λ (v : Node). record v { answer = Some j }) (λ v. refl) n y h at there) i) (shared_among p.held (sym answers_step i)) x (sym w.2 i)));
    unreleased = s.unreleased;
    ready = λ contact k x known here.
        s.ready contact k x known here
        ∙ (ready_by contact x (is_among (map (name_at p.nodes) p.delivered) x.id) refl
        ∙ (λ i. may_go p.table.levels (sym (delivered_step p s (λ (w : Node). record w { answer = Some j }) (λ w. refl) n y h at there) i) (shared_among p.held (sym answers_step i)) contact x));
  }

  -- the facts are those after the entry
  pub judged_facts : facts_of (judged_parts p n j share) ≡ moved (facts_of p) (entry.Judged h.id)
  judged_facts =
      let whole : AreApart (names_of p.nodes) = subst AreApart (sym s.named) (first_apart p.held s.distinct) in
      let grown : ids_where is_judged (nodes.with_answer n j p.nodes) ≡ fin_set.insert (ids_where is_judged p.nodes) h.id =
      set_grown (λ (x : Node). record x { answer = Some j }) (λ x. refl) is_judged p.nodes n y at whole refl
      ∙ ap (fin_set.insert (ids_where is_judged p.nodes)) (name_there p.nodes p.held s.named n y h at there) in
      let same : ids_where is_invalid (nodes.with_answer n j p.nodes) ≡ ids_where is_invalid p.nodes =
      ap fin_set.from_list (names_same (λ (x : Node). record x { answer = Some j }) (λ x. refl) is_invalid p.nodes n y at refl) in
      (λ i. record (facts_of p) {
        judged = grown i;
        invalid = same i;
        delivered = delivered_step p s (λ (x : Node). record x { answer = Some j }) (λ x. refl) n y h at there i;
      })

  -- what is kept of the clients' judgements is theirs, where this one is
  pub judged_knows : (clients : Meaning) → KnowsJudgements clients (value_of p) → verdict_in clients (facts_of p).groups h.message ≡ a → KnowsJudgements clients (value_of (judged_parts p n j share))
  judged_knows clients k verdict =
      answers_step
      ∙ ((λ i. set (k i) n (Some (sym verdict i)))
      ∙ (sym (answers_judged clients (facts_of p) n h there (first_apart p.held s.distinct))
      ∙ ap (λ (f : Facts). map (answer_of clients f) f.held) (sym judged_facts)))

-- ---- a message is invalid

pub answers_kept : (ns : List Node) (shares : List Bool) (n : ℕ) (e : Ending) → answers_of (nodes.with_ending n e ns) shares ≡ answers_of ns shares
answers_kept [] shares n e = refl
answers_kept (x ∷ ns) [] zero e = refl
answers_kept (x ∷ ns) (share ∷ shares) zero e = refl
answers_kept (x ∷ ns) [] (suc n) e = ap (λ (os : List (Option Judgement)). answer_of_node x.answer false ∷ os) (answers_kept ns [] n e)
answers_kept (x ∷ ns) (share ∷ shares) (suc n) e = ap (λ (os : List (Option Judgement)). answer_of_node x.answer share ∷ os) (answers_kept ns shares n e)

-- what is not judged has not ended, once one more has
module _ (p : Parts) (s : IsState p) (n : ℕ) (y : Node) (at : slice_get p.nodes n ≡ Some y) (judged : Judged) (has : y.answer ≡ Some judged) (end : Ending) where
  -- where the changed node stands, its answer is that of y
  was_end : (ns : List Node) (n k : ℕ) (x : Node) → slice_get ns n ≡ Some y → slice_get (nodes.with_ending n end ns) k ≡ Some x
      → (v : Node) × (slice_get ns k ≡ Some v) × ((x.answer ≡ y.answer) ⊎ (x ≡ v))
  was_end [] n k x at now = absurd (let e : None ≡ Some x = now in cc)
  was_end (v ∷ ns) zero zero x at now =
      let is : record v { ending = Some end } ≡ x = cc in
      let own : v ≡ y = cc in
      (v, refl, inl (ap (λ (w : Node). w.answer) (sym is) ∙ ap (λ (w : Node). w.answer) own))
  was_end (v ∷ ns) zero (suc k) x at now = (x, now, inr refl)
  was_end (v ∷ ns) (suc n) zero x at now = let is : v ≡ x = cc in (v, refl, inr (sym is))
  was_end (v ∷ ns) (suc n) (suc k) x at now = was_end ns n k x at now

  pub ordered_end : (k : ℕ) (x : Node) → slice_get (nodes.with_ending n end p.nodes) k ≡ Some x → x.answer ≡ None → x.ending ≡ None
  ordered_end k x now none =
      let w = was_end p.nodes n k x at now in
      elim w.2 [
        | inl e ↦ absurd (let wrong : Some judged ≡ None = sym has ∙ (sym e ∙ none) in cc)
        | inr e ↦ ap (λ (v : Node). v.ending) e ∙ s.order k w.0 w.1 (ap (λ (v : Node). v.answer) (sym e) ∙ none)
      ]

module _ (p : Parts) (s : IsState p) (n : ℕ) (y : Node) (h : Held) (at : slice_get p.nodes n ≡ Some y) (there : slice_get p.held n ≡ Some h)
    (judged : Judged) (has : y.answer ≡ Some judged) (open_now : y.ending ≡ None) where
  pub invalid_state : IsState (invalid_parts p n)
  invalid_state = record {
    named = names_kept (λ (x : Node). record x { ending = Some ending.Invalid }) (λ x. refl) n p.nodes ∙ s.named;
    grouped = λ k x node a b.
        let w = kept_at (λ (w : Node). record w { ending = Some ending.Invalid }) (λ (w : Node). w.group) (λ w. refl) p.nodes n k node b in
        s.grouped k x w.0 a w.1 ∙ ap Some (sym w.2);
    distinct = s.distinct;
    each_share = s.each_share ∙ sym (length_kept (λ (x : Node). record x { ending = Some ending.Invalid }) n p.nodes);
    order = ordered_end p s n y at judged has ending.Invalid;
    within = ap (λ m. list_all (λ k. nat_lt k m) p.delivered) (length_kept (λ (x : Node). record x { ending = Some ending.Invalid }) n p.nodes) ∙ s.within;
    ended = ended_step p s (λ (x : Node). record x { ending = Some ending.Invalid }) (λ x. refl) n y h at there (sym (ap nodes.is_delivered open_now));
    many =
        s.many
        ∙ sym (sum_kept one_if_delivered (λ (x : Node). record x { ending = Some ending.Invalid }) n p.nodes y at (sym (ap (λ e. cond (nodes.is_delivered e) 1 0) open_now)));
    free_rows = s.free_rows;
    free_wants = s.free_wants;
    hidden = s.hidden;
    shown = s.shown;
    released = λ k x node a b.
        let w = kept_at (λ (w : Node). record w { ending = Some ending.Invalid }) (λ (w : Node). w.group) (λ w. refl) p.nodes n k node b in
        s.released k x w.0 a w.1
        ∙ (λ i. left_in (sym (delivered_step p s (λ (v : Node). record v { ending = Some ending.Invalid }) (λ v. refl) n y h at there) i)
        (shared_among p.held (sym (answers_kept p.nodes p.shares n ending.Invalid) i)) x (sym w.2 i));
    unreleased = s.unreleased;
    ready = λ contact k x known here.
        s.ready contact k x known here
        ∙ (λ i. may_go p.table.levels (sym (delivered_step p s (λ (w : Node). record w { ending = Some ending.Invalid }) (λ w. refl) n y h at there) i)
        (shared_among p.held (sym (answers_kept p.nodes p.shares n ending.Invalid) i)) contact x);
  }

  pub invalid_facts : facts_of (invalid_parts p n) ≡ moved (facts_of p) (entry.Invalid h.id)
  invalid_facts =
      let whole : AreApart (names_of p.nodes) = subst AreApart (sym s.named) (first_apart p.held s.distinct) in
      let grown : ids_where is_invalid (nodes.with_ending n ending.Invalid p.nodes) ≡ fin_set.insert (ids_where is_invalid p.nodes) h.id =
      set_grown (λ (x : Node). record x { ending = Some ending.Invalid }) (λ x. refl) is_invalid p.nodes n y at whole refl
      ∙ ap (fin_set.insert (ids_where is_invalid p.nodes)) (name_there p.nodes p.held s.named n y h at there) in
      let same : ids_where is_judged (nodes.with_ending n ending.Invalid p.nodes) ≡ ids_where is_judged p.nodes =
      ap fin_set.from_list (names_same (λ (x : Node). record x { ending = Some ending.Invalid }) (λ x. refl) is_judged p.nodes n y at refl) in
      (λ i. record (facts_of p) {
        judged = same i;
        invalid = grown i;
        delivered = delivered_step p s (λ (x : Node). record x { ending = Some ending.Invalid }) (λ x. refl) n y h at there i;
      })
