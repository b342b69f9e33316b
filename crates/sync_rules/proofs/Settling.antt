-- The settled law.
use Rattle.std.proofs.Common.{◌≡◌, ℕ, zero, suc, ◌+◌, ◌≤◌, Bool, true, false, cond, ◌&&◌, List, [], ◌∷◌, ◌++◌, length, refl, sym, ◌∙◌, ap, subst, inl, inr, arith, Option, Some, None, is_some, length-append}
use Rattle.std.specs.List.{list_any, list_all}
use Rattle.std.specs.FinSet as fin_set
use Rattle.std.proofs.lemmas.Bool.{and_parts, and_from, or_cases, or_left, or_right, false≢true, both_ways}
use Rattle.sync_rules.specs.declared.answers.Judgement.TheVariants as judgement
use Rattle.sync_rules.specs.declared.entries.Entry.{Entry}
use Rattle.sync_rules.specs.declared.entries.Entry.TheVariants as entry
use Rattle.sync_rules.specs.declared.states.Fate.{Fate}
use Rattle.sync_rules.specs.declared.states.Fate.TheVariants as fate_kind
use Rattle.sync_rules.specs.Clients.{Meaning}
use Rattle.sync_rules.specs.Lists.{is_among}
use Rattle.sync_rules.specs.Facts.{Facts, Held, Id, after, after_all, after_batches, nothing, facts, held_at, is_held, known_of, authored, arrived, kept_as, contact_of, ExtendsJournal}
use Rattle.sync_rules.specs.Steps.{IsSettled, verdict_in, is_beside, is_elsewhere, is_failing, is_served, fate, fate_held}
use Rattle.sync_rules.specs.Rounds.{graph_of, good, good_by, good_next, bad, bad_by, bad_first, bad_more, worse_by}
use Rattle.sync_rules.specs.Legal.{Legal, GoesOn}
use Rattle.sync_rules.specs.Laws.{IsDecided, DecidesStates, IsKeptBy}
use Rattle.sync_rules.proofs.Elements.{all_weaker, any_weaker, tally, tally_le}
use Rattle.sync_rules.proofs.RoundLaws.{good_le, bad_le, disjoint, good_grows, bad_grows}
use Rattle.sync_rules.proofs.StepLaws.{Rests, Waits, first_step_none, told_some}
use Rattle.sync_rules.proofs.Sound.{SoundFacts, has_delivery, has_refusal, held_at-In, held_at-id, groups_grow, held_grow}
use Rattle.sync_rules.proofs.Kept.{AllFit, sound_after, sound_all}
use Rattle.sync_rules.proofs.Runs.{legal_sound, allowed_fits}

module _ (clients : Meaning) (f : Facts) (s : SoundFacts clients f) where
  -- what has an end is in its rounds
  pub good_if_delivered : (id : Id) → is_among f.delivered id ≡ true → good (graph_of clients f) (length f.held) id ≡ true
  good_if_delivered id e =
      good_le (graph_of clients f) (length f.held) (tally (has_delivery f.delivered) f.held) id
      (tally_le (has_delivery f.delivered) f.held) (s.delivered_good id e)

  pub bad_if_invalid : (id : Id) → fin_set.contains f.invalid id ≡ true → bad (graph_of clients f) (length f.held) id ≡ true
  bad_if_invalid id e =
      bad_le (graph_of clients f) (length f.held) (tally (has_refusal f.invalid) f.held) id
      (tally_le (has_refusal f.invalid) f.held) (s.invalid_bad id e)

  -- a good message is not invalid, and a bad one is not delivered
  good_not_invalid : (k : ℕ) (id : Id) → good (graph_of clients f) k id ≡ true → fin_set.contains f.invalid id ≡ true → ⊥
  good_not_invalid k id g e = disjoint (graph_of clients f) k (length f.held) id g (bad_if_invalid id e)

  bad_not_delivered : (k : ℕ) (id : Id) → bad (graph_of clients f) k id ≡ true → is_among f.delivered id ≡ true → ⊥
  bad_not_delivered k id b e = disjoint (graph_of clients f) (length f.held) k id (good_if_delivered id e) b

  module _ (settled : IsSettled clients f) where
    rests_at : (id : Id) (h : Held) → held_at f.held id ≡ Some h → Rests clients f h
    rests_at id h at = told_some clients f h None (first_step_none clients f f.held settled h (held_at-In f.held id h at))

    -- ---- a good message is delivered

    waits_not_good : (k : ℕ) → ((d : Id) → good (graph_of clients f) k d ≡ true → is_among f.delivered d ≡ true)
        → (h : Held) → Waits clients f h → good_by (graph_of clients f) (good (graph_of clients f) k) h.message.group (verdict_in clients f.groups h.message) ≡ true → ⊥
    waits_not_good k before h w g =
        let test : Id → Bool = good (graph_of clients f) k in
        let at : good_by (graph_of clients f) test h.message.group (judgement.Accept w.accepted.deps w.accepted.share) ≡ true =
        ap (good_by (graph_of clients f) test h.message.group) (sym w.accepted.verdict) ∙ g in
        let served : list_all (is_served f h.message.group) w.accepted.deps ≡ true =
        all_weaker (λ d. is_beside h.message.group (held_at f.held d) && test d) (is_served f h.message.group)
        (λ d t. let both = and_parts (is_beside h.message.group (held_at f.held d)) (test d) t in
        and_from (is_beside h.message.group (held_at f.held d)) (is_among f.delivered d) both.0 (before d both.1))
        w.accepted.deps at in
        both_ways (list_all (is_served f h.message.group) w.accepted.deps) w.not_served served

    good_is_delivered_at : (k : ℕ) → ((d : Id) → good (graph_of clients f) k d ≡ true → is_among f.delivered d ≡ true)
        → (id : Id) (o : Option Held) → held_at f.held id ≡ o → good (graph_of clients f) (suc k) id ≡ true
        → good_next (graph_of clients f) (good (graph_of clients f) k) o ≡ true → is_among f.delivered id ≡ true
    good_is_delivered_at k before id None at whole g = absurd (false≢true g)
    good_is_delivered_at k before id (Some h) at whole g =
        let r = rests_at id h at in
        let same : h.id ≡ id = held_at-id f.held id h at in
        elim r.rest [
          | inl ended ↦
              elim (or_cases (is_among f.delivered h.id) (fin_set.contains f.invalid h.id) ended) [
                | inl d ↦ ap (is_among f.delivered) (sym same) ∙ d
                | inr i ↦ absurd (good_not_invalid (suc k) id whole (ap (fin_set.contains f.invalid) (sym same) ∙ i))
              ]
          | inr w ↦ absurd (waits_not_good k before h w g)
        ]

    pub good_is_delivered : (k : ℕ) (id : Id) → good (graph_of clients f) k id ≡ true → is_among f.delivered id ≡ true
    good_is_delivered zero id g = absurd (false≢true g)
    good_is_delivered (suc k) id g = good_is_delivered_at k (good_is_delivered k) id (held_at f.held id) refl g g

    -- ---- a bad message is invalid

    waits_not_bad : (h : Held) → Waits clients f h → bad_by (graph_of clients f) h.message.group (verdict_in clients f.groups h.message) ≡ true → ⊥
    waits_not_bad h w b =
        let at : bad_by (graph_of clients f) h.message.group (judgement.Accept w.accepted.deps w.accepted.share) ≡ true =
        ap (bad_by (graph_of clients f) h.message.group) (sym w.accepted.verdict) ∙ b in
        let failing : list_any (is_failing f h.message.group) w.accepted.deps ≡ true =
        any_weaker (λ d. is_elsewhere h.message.group (held_at f.held d)) (is_failing f h.message.group)
        (λ d t. or_left (is_elsewhere h.message.group (held_at f.held d)) (fin_set.contains f.invalid d) t) w.accepted.deps at in
        both_ways (list_any (is_failing f h.message.group) w.accepted.deps) w.none_fails failing

    waits_not_worse : (k : ℕ) → ((d : Id) → bad (graph_of clients f) k d ≡ true → fin_set.contains f.invalid d ≡ true)
        → (h : Held) → Waits clients f h → worse_by (bad (graph_of clients f) k) (verdict_in clients f.groups h.message) ≡ true → ⊥
    waits_not_worse k before h w b =
        let at : worse_by (bad (graph_of clients f) k) (judgement.Accept w.accepted.deps w.accepted.share) ≡ true =
        ap (worse_by (bad (graph_of clients f) k)) (sym w.accepted.verdict) ∙ b in
        let failing : list_any (is_failing f h.message.group) w.accepted.deps ≡ true =
        any_weaker (bad (graph_of clients f) k) (is_failing f h.message.group)
        (λ d t. or_right (is_elsewhere h.message.group (held_at f.held d)) (fin_set.contains f.invalid d) (before d t)) w.accepted.deps at in
        both_ways (list_any (is_failing f h.message.group) w.accepted.deps) w.none_fails failing

    bad_is_invalid_by : (k : ℕ) (id : Id) (h : Held) → held_at f.held id ≡ Some h → bad (graph_of clients f) k id ≡ true
        → (Waits clients f h → ⊥) → fin_set.contains f.invalid id ≡ true
    bad_is_invalid_by k id h at whole no_wait =
        let r = rests_at id h at in
        let same : h.id ≡ id = held_at-id f.held id h at in
        elim r.rest [
          | inl ended ↦
              elim (or_cases (is_among f.delivered h.id) (fin_set.contains f.invalid h.id) ended) [
                | inl d ↦ absurd (bad_not_delivered k id whole (ap (is_among f.delivered) (sym same) ∙ d))
                | inr i ↦ ap (fin_set.contains f.invalid) (sym same) ∙ i
              ]
          | inr w ↦ absurd (no_wait w)
        ]

    bad_first_is_invalid : (id : Id) (o : Option Held) → held_at f.held id ≡ o → bad (graph_of clients f) zero id ≡ true
        → bad_first (graph_of clients f) o ≡ true → fin_set.contains f.invalid id ≡ true
    bad_first_is_invalid id None at whole b = absurd (false≢true b)
    bad_first_is_invalid id (Some h) at whole b = bad_is_invalid_by zero id h at whole (λ w. waits_not_bad h w b)

    bad_more_is_invalid : (k : ℕ) → ((d : Id) → bad (graph_of clients f) k d ≡ true → fin_set.contains f.invalid d ≡ true)
        → (id : Id) (o : Option Held) → held_at f.held id ≡ o → bad (graph_of clients f) (suc k) id ≡ true
        → bad_more (graph_of clients f) (bad (graph_of clients f) k) o ≡ true → fin_set.contains f.invalid id ≡ true
    bad_more_is_invalid k before id None at whole b = absurd (false≢true b)
    bad_more_is_invalid k before id (Some h) at whole b = bad_is_invalid_by (suc k) id h at whole (λ w. waits_not_worse k before h w b)

    pub bad_is_invalid : (k : ℕ) (id : Id) → bad (graph_of clients f) k id ≡ true → fin_set.contains f.invalid id ≡ true
    bad_is_invalid zero id b = bad_first_is_invalid id (held_at f.held id) refl b b
    bad_is_invalid (suc k) id b =
        elim (or_cases (bad (graph_of clients f) k id) (bad_more (graph_of clients f) (bad (graph_of clients f) k) (held_at f.held id)) b) [
          | inl was ↦ bad_is_invalid k id was
          | inr more ↦ bad_more_is_invalid k (bad_is_invalid k) id (held_at f.held id) refl b more
        ]

    -- ---- states

    held_is_judged : (id : Id) (o : Option Held) → held_at f.held id ≡ o → is_some o ≡ true → fin_set.contains f.judged id ≡ true
    held_is_judged id None at held = absurd (false≢true held)
    held_is_judged id (Some h) at held =
        ap (fin_set.contains f.judged) (sym (held_at-id f.held id h at)) ∙ (rests_at id h at).judged

    fate_in_time : (id : Id) → is_held f.held id ≡ true → (b d : Bool) → fin_set.contains f.invalid id ≡ b → is_among f.delivered id ≡ d
        → fate f id ≡ Some (cond b fate_kind.Invalid (cond d fate_kind.Delivered fate_kind.Pending))
    fate_in_time id held b d eb ed =
        ap (λ t. cond t (Some (fate_held f id)) None) held
        ∙ ap (λ (x : Fate). Some x)
        ((λ i. cond (eb i) fate_kind.Invalid (cond (ed i) fate_kind.Delivered (cond (fin_set.contains f.judged id) fate_kind.Pending fate_kind.Unknown)))
        ∙ ap (λ t. cond b fate_kind.Invalid (cond d fate_kind.Delivered (cond t fate_kind.Pending fate_kind.Unknown)))
        (held_is_judged id (held_at f.held id) refl held))

    pub decided : DecidesStates clients f
    decided id held =
        elim (fin_set.contains f.invalid id) as (λ b. fin_set.contains f.invalid id ≡ b → IsDecided clients f (length f.held) id) [
          | true ↦ λ i.
              let is : fate f id ≡ Some fate_kind.Invalid = fate_in_time id held true (is_among f.delivered id) i refl in
              let b : bad (graph_of clients f) (length f.held) id ≡ true = bad_if_invalid id i in
              record {
                delivered = (λ e. cc, λ g. absurd (good_not_invalid (length f.held) id g i));
                invalid = (λ e. b, λ e. is);
                pending = λ _ none. absurd (both_ways (bad (graph_of clients f) (length f.held) id) none b);
              }
          | false ↦ λ i.
              elim (is_among f.delivered id) as (λ d. is_among f.delivered id ≡ d → IsDecided clients f (length f.held) id) [
                | true ↦ λ d.
                    let is : fate f id ≡ Some fate_kind.Delivered = fate_in_time id held false true i d in
                    let g : good (graph_of clients f) (length f.held) id ≡ true = good_if_delivered id d in
                    record {
                      delivered = (λ e. g, λ e. is);
                      invalid = (λ e. cc, λ b. absurd (both_ways (fin_set.contains f.invalid id) i (bad_is_invalid (length f.held) id b)));
                      pending = λ none _. absurd (both_ways (good (graph_of clients f) (length f.held) id) none g);
                    }
                | false ↦ λ d.
                    let is : fate f id ≡ Some fate_kind.Pending = fate_in_time id held false false i d in
                    record {
                      delivered = (λ e. cc, λ g. absurd (both_ways (is_among f.delivered id) d (good_is_delivered (length f.held) id g)));
                      invalid = (λ e. cc, λ b. absurd (both_ways (fin_set.contains f.invalid id) i (bad_is_invalid (length f.held) id b)));
                      pending = λ _ _. is;
                    }
              ] refl
        ] refl

pub settled_law : (clients : Meaning) (j : List (List Entry)) → Legal clients j → IsSettled clients (facts j) → DecidesStates clients (facts j)
settled_law clients j l settled = decided clients (facts j) (legal_sound clients j l) settled

-- ---- both only grow

push_grows : (held : List Held) (x : Held) → length held ≤ length (held ++ x ∷ [])
push_grows held x = let e : length (held ++ x ∷ []) ≡ length held + length (x ∷ []) = length-append held (x ∷ []) in omega (arith, e)

kept_itself : (clients : Meaning) (f : Facts) → IsKeptBy clients f f
kept_itself clients f = record { good = λ k id e. e; bad = λ k id e. e; held = omega arith }

kept_after : (clients : Meaning) (f : Facts) (e : Entry) → SoundFacts clients f → IsKeptBy clients f (after f e)
kept_after clients f (entry.Group def) s = record {
  good = good_grows (graph_of clients f) (graph_of clients (after f (entry.Group def))) (groups_grow clients f.groups f.held (known_of def) s.known);
  bad = bad_grows (graph_of clients f) (graph_of clients (after f (entry.Group def))) (groups_grow clients f.groups f.held (known_of def) s.known);
  held = omega arith;
}
kept_after clients f (entry.Author m) s = record {
  good = good_grows (graph_of clients f) (graph_of clients (after f (entry.Author m))) (held_grow clients f.groups f.held (authored m));
  bad = bad_grows (graph_of clients f) (graph_of clients (after f (entry.Author m))) (held_grow clients f.groups f.held (authored m));
  held = push_grows f.held (authored m);
}
kept_after clients f (entry.Arrive x m) s = record {
  good = good_grows (graph_of clients f) (graph_of clients (after f (entry.Arrive x m))) (held_grow clients f.groups f.held (arrived (contact_of f.sessions x) m));
  bad = bad_grows (graph_of clients f) (graph_of clients (after f (entry.Arrive x m))) (held_grow clients f.groups f.held (arrived (contact_of f.sessions x) m));
  held = push_grows f.held (arrived (contact_of f.sessions x) m);
}
kept_after clients f (entry.Kept from m) s = record {
  good = good_grows (graph_of clients f) (graph_of clients (after f (entry.Kept from m))) (held_grow clients f.groups f.held (kept_as from m));
  bad = bad_grows (graph_of clients f) (graph_of clients (after f (entry.Kept from m))) (held_grow clients f.groups f.held (kept_as from m));
  held = push_grows f.held (kept_as from m);
}
kept_after clients f _ s = record { good = λ k id e. e; bad = λ k id e. e; held = omega arith }

kept_then : (clients : Meaning) (f g h : Facts) → IsKeptBy clients f g → IsKeptBy clients g h → IsKeptBy clients f h
kept_then clients f g h a b = record {
  good = λ k id e. b.good k id (a.good k id e);
  bad = λ k id e. b.bad k id (a.bad k id e);
  held = let x : length f.held ≤ length g.held = a.held in let y : length g.held ≤ length h.held = b.held in omega (arith, x, y);
}

kept_all : (clients : Meaning) (f : Facts) (es : List Entry) → AllFit clients f es → SoundFacts clients f → IsKeptBy clients f (after_all f es)
kept_all clients f [] fit s = kept_itself clients f
kept_all clients f (e ∷ es) fit s =
    kept_then clients f (after f e) (after_all (after f e) es) (kept_after clients f e s)
    (kept_all clients (after f e) es fit.1 (sound_after clients f e fit.0 s))

-- ---- prefixes

pub goes_on_front : (clients : Meaning) (f : Facts) (bs cs : List (List Entry)) → GoesOn clients f (bs ++ cs) → GoesOn clients f bs
goes_on_front clients f [] cs g = tt
goes_on_front clients f (b ∷ bs) cs g = (g.0, goes_on_front clients (after_all f b) bs cs g.1)

pub goes_on_back : (clients : Meaning) (f : Facts) (bs cs : List (List Entry)) → GoesOn clients f (bs ++ cs) → GoesOn clients (after_batches f bs) cs
goes_on_back clients f [] cs g = g
goes_on_back clients f (b ∷ bs) cs g = goes_on_back clients (after_all f b) bs cs g.1

pub goes_on_both : (clients : Meaning) (f : Facts) (bs cs : List (List Entry)) → GoesOn clients f bs → GoesOn clients (after_batches f bs) cs → GoesOn clients f (bs ++ cs)
goes_on_both clients f [] cs a b = b
goes_on_both clients f (x ∷ bs) cs a b = (a.0, goes_on_both clients (after_all f x) bs cs a.1 b)

pub after_batches-append : (f : Facts) (bs cs : List (List Entry)) → after_batches f (bs ++ cs) ≡ after_batches (after_batches f bs) cs
after_batches-append f [] cs = refl
after_batches-append f (b ∷ bs) cs = after_batches-append (after_all f b) bs cs

kept_batches : (clients : Meaning) (f : Facts) (bs : List (List Entry)) → GoesOn clients f bs → SoundFacts clients f → IsKeptBy clients f (after_batches f bs)
kept_batches clients f [] g s = kept_itself clients f
kept_batches clients f (b ∷ bs) g s =
    let fit = allowed_fits clients f b g.0 in
    kept_then clients f (after_all f b) (after_batches (after_all f b) bs) (kept_all clients f b fit s)
    (kept_batches clients (after_all f b) bs g.1 (sound_all clients f b fit s))

pub prefix_legal : (clients : Meaning) (j before : List (List Entry)) → ExtendsJournal j before → Legal clients j → Legal clients before
prefix_legal clients j before e l = goes_on_front clients nothing before e.0 (subst (Legal clients) e.1 l)

pub rounds_grow : (clients : Meaning) (j before : List (List Entry)) → ExtendsJournal j before → Legal clients j → IsKeptBy clients (facts before) (facts j)
rounds_grow clients j before e l =
    let whole : Legal clients (before ++ e.0) = subst (Legal clients) e.1 l in
    let front = goes_on_front clients nothing before e.0 whole in
    let back = goes_on_back clients nothing before e.0 whole in
    let kept = kept_batches clients (facts before) e.0 back (legal_sound clients before front) in
    let same : facts j ≡ after_batches (facts before) e.0 = ap facts e.1 ∙ after_batches-append nothing before e.0 in
    subst (IsKeptBy clients (facts before)) (sym same) kept
