-- One message judged: the answers, and the messages that may be sent on.
use Rattle.std.proofs.Common.{◌≡◌, ℕ, zero, suc, ◌<◌, Bool, true, false, cond, ◌||◌, List, [], ◌∷◌, length, map, set, Option, None, Some, slice_get, refl, sym, ◌∙◌, ap, arith}
use Rattle.std.specs.FinSet as fin_set
use Rattle.std.specs.Cmp.Lexicographic.{nat_list_cmp_total, texts_ties}
use Rattle.std.proofs.lemmas.Bool.{or_parts}
use Rattle.sync_rules.specs.declared.answers.Judgement.{Judgement}
use Rattle.sync_rules.specs.declared.entries.Entry.TheVariants as entry
use Rattle.sync_rules.specs.Clients.{Meaning}
use Rattle.sync_rules.specs.Lists.{same_id, is_among}
use Rattle.sync_rules.specs.Facts.{Facts, Held, Id, Ids, after}
use Rattle.sync_rules.specs.Sessions.{may_share}
use Rattle.sync_rules.specs.Steps.{answer_of, verdict_in}
use Rattle.message_graph.specs.declared.nodes.Judged.{Judged}
use Rattle.message_graph.specs.declared.nodes.Node.{Node}
use Rattle.message_graph.specs.Nodes as nodes
use Rattle.journal_state.specs.Parts.{answer_of_node, answers_of, shared_among}
use Rattle.sync_rules.proofs.Elements.{same_id_itself, same_id_swap}
use Rattle.journal_state.specs.Sound.{AreApart}

abbrev pub ids_of : List Held → List Id
ids_of hs = map (λ (h : Held). h.id) hs

-- ---- the answers that are kept

pub answers_set : (ns : List Node) (shares : List Bool) (n : ℕ) (j : Judged) (b : Bool) (a : Judgement) → length shares ≡ length ns → n < length ns → answer_of_node (Some j) b ≡ Some a
    → answers_of (nodes.with_answer n j ns) (set shares n b) ≡ set (answers_of ns shares) n (Some a)
answers_set [] shares n j b a many within e = absurd (omega arith)
answers_set (x ∷ ns) [] n j b a many within e = absurd (omega arith)
answers_set (x ∷ ns) (share ∷ shares) zero j b a many within e = ap (λ (o : Option Judgement). o ∷ answers_of ns shares) e
answers_set (x ∷ ns) (share ∷ shares) (suc n) j b a many within e =
    ap (λ (os : List (Option Judgement)). answer_of_node x.answer share ∷ os) (answers_set ns shares n j b a (omega arith) (omega arith) e)

-- ---- the answers of the clients

module _ {A : Type 0} (F F' : Held → A) (id : Id) (others : (x : Held) → same_id x.id id ≡ false → F' x ≡ F x) where
  rest_same : (hs : List Held) → is_among (ids_of hs) id ≡ false → map F' hs ≡ map F hs
  rest_same [] none = refl
  rest_same (x ∷ hs) none =
      let both = or_parts (same_id x.id id) (is_among (ids_of hs) id) none in
      (λ i. others x both.0 i ∷ rest_same hs both.1 i)

  not_there : (hs : List Held) (n : ℕ) (h : Held) (other : Id) → slice_get hs n ≡ Some h → is_among (ids_of hs) other ≡ false → same_id h.id other ≡ false
  not_there [] n h other at none = absurd (let e : None ≡ Some h = at in cc)
  not_there (x ∷ hs) zero h other at none =
      let is : x ≡ h = cc in ap (λ (w : Held). same_id w.id other) (sym is) ∙ (or_parts (same_id x.id other) (is_among (ids_of hs) other) none).0
  not_there (x ∷ hs) (suc n) h other at none = not_there hs n h other at (or_parts (same_id x.id other) (is_among (ids_of hs) other) none).1

  pub one_set : (hs : List Held) (n : ℕ) (h : Held) → slice_get hs n ≡ Some h → h.id ≡ id → AreApart (ids_of hs) → map F' hs ≡ set (map F hs) n (F' h)
  one_set [] n h at named apart = absurd (let e : None ≡ Some h = at in cc)
  one_set (x ∷ hs) zero h at named apart =
      let is : x ≡ h = cc in
      let none : is_among (ids_of hs) id ≡ false = ap (is_among (ids_of hs)) (sym named ∙ ap (λ (w : Held). w.id) (sym is)) ∙ apart.0 in
      (λ i. F' (is i) ∷ rest_same hs none i)
  one_set (x ∷ hs) (suc n) h at named apart =
      let away : same_id x.id id ≡ false = ap (same_id x.id) (sym named)
      ∙ (same_id_swap x.id h.id ∙ not_there hs n h x.id at apart.0) in
      (λ i. others x away i ∷ one_set hs n h at named apart.1 i)

contains-more : (s : Ids) (x q : Id) → fin_set.contains (fin_set.insert s x) q ≡ (same_id q x || fin_set.contains s q)
contains-more s x q = fin_set.contains-insert nat_list_cmp_total s x q ∙ ap (λ b. b || fin_set.contains s q) (sym (texts_ties q x))

pub answers_judged : (clients : Meaning) (f : Facts) (n : ℕ) (h : Held) → slice_get f.held n ≡ Some h → AreApart (ids_of f.held)
    → map (answer_of clients (after f (entry.Judged h.id))) f.held ≡ set (map (answer_of clients f) f.held) n (Some (verdict_in clients f.groups h.message))
answers_judged clients f n h at apart =
    one_set (answer_of clients f) (answer_of clients (after f (entry.Judged h.id))) h.id
    (λ x away. ap (λ b. cond b (Some (verdict_in clients f.groups x.message)) None) (contains-more f.judged h.id x.id ∙ ap (λ b. b || fin_set.contains f.judged x.id) away))
    f.held n h at refl apart
    ∙ ap (λ (o : Option Judgement). set (map (answer_of clients f) f.held) n o)
    (ap (λ b. cond b (Some (verdict_in clients f.groups h.message)) None)
    (contains-more f.judged h.id h.id
    ∙ ap (λ b. b || fin_set.contains f.judged h.id) (same_id_itself h.id)))

-- ---- the messages that may be sent on

away_or : (b c : Bool) → b ≡ false → (b || c) ≡ c
away_or b c e = ap (λ x. x || c) e

one_shared : (t : Bool) (x q : Id) (xs ys : List Id) → same_id x q ≡ false → is_among xs q ≡ is_among ys q → is_among (cond t (x ∷ xs) xs) q ≡ is_among ys q
one_shared true x q xs ys away same = away_or (same_id x q) (is_among xs q) away ∙ same
one_shared false x q xs ys away same = same

both_shared : (t : Bool) (x q : Id) (xs ys : List Id) → is_among xs q ≡ is_among ys q → is_among (cond t (x ∷ xs) xs) q ≡ is_among (cond t (x ∷ ys) ys) q
both_shared true x q xs ys same = ap (λ b. same_id x q || b) same
both_shared false x q xs ys same = same

-- what one message's judgement is says nothing of the others
pub shared_others : (hs : List Held) (answers : List (Option Judgement)) (n : ℕ) (h : Held) (o : Option Judgement) (q : Id) → slice_get hs n ≡ Some h → same_id h.id q ≡ false
    → is_among (shared_among hs (set answers n o)) q ≡ is_among (shared_among hs answers) q
shared_others [] answers n h o q at away = refl
shared_others (x ∷ hs) [] n h o q at away = refl
shared_others (x ∷ hs) (a ∷ answers) zero h o q at away =
    let is : x ≡ h = cc in
    let not_x : same_id x.id q ≡ false = ap (λ (w : Held). same_id w.id q) is ∙ away in
    one_shared (may_share o) x.id q (shared_among hs answers) (shared_among hs answers) not_x refl
    ∙ sym (one_shared (may_share a) x.id q (shared_among hs answers) (shared_among hs answers) not_x refl)
shared_others (x ∷ hs) (a ∷ answers) (suc n) h o q at away =
    both_shared (may_share a) x.id q (shared_among hs (set answers n o)) (shared_among hs answers) (shared_others hs answers n h o q at away)
