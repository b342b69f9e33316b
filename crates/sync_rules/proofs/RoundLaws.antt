-- The rounds: both grow from round to round and with the held messages, and no message is good and bad.
use Rattle.std.proofs.Common.{◌≡◌, ℕ, zero, suc, ◌≤◌, Bool, true, false, cond, ◌&&◌, List, refl, ◌∙◌, ap, subst, inl, inr, arith, Option, Some, None}
use Rattle.std.proofs.lemmas.Bool.{and_parts, and_from, or_cases, or_left, or_right, false≢true, cases_eq}
use Rattle.sync_ids.specs.Values.{MessageValue}
use Rattle.sync_rules.specs.declared.answers.Judgement.{Judgement}
use Rattle.sync_rules.specs.declared.answers.Judgement.TheVariants as judgement
use Rattle.sync_rules.specs.Lists.{same_id}
use Rattle.sync_rules.specs.Facts.{Held, Id, held_at}
use Rattle.sync_rules.specs.Steps.{is_beside, is_elsewhere}
use Rattle.sync_rules.specs.Rounds.{Graph, good, good_by, good_next, bad, bad_by, bad_first, bad_more, worse_by}
use Rattle.sync_rules.proofs.Elements.{all_weaker, any_weaker, all_not_any}

-- a message is not held in a group and in another one
pub beside_or_elsewhere : (group : Id) (o : Option Held) → is_beside group o ≡ true → is_elsewhere group o ≡ true → ⊥
beside_or_elsewhere group None b e = false≢true b
beside_or_elsewhere group (Some h) b e =
    let P : Bool → Type 0 = λ t. cond t false true ≡ true in
    false≢true (subst P b e)

-- ---- the rounds grow

good_weaker : (g : Graph) (was now : Id → Bool) → ((d : Id) → was d ≡ true → now d ≡ true)
    → (o : Option Held) → good_next g was o ≡ true → good_next g now o ≡ true
good_weaker g was now up None h = absurd (false≢true h)
good_weaker g was now up (Some x) h =
    elim (g.verdict x) as (λ v. good_by g was x.message.group v ≡ true → good_by g now x.message.group v ≡ true) [
      | judgement.Refuse ↦ λ r. absurd (false≢true r)
      | judgement.Accept deps share ↦ λ r.
          all_weaker (λ d. is_beside x.message.group (held_at g.held d) && was d) (λ d. is_beside x.message.group (held_at g.held d) && now d)
          (λ d t. let both = and_parts (is_beside x.message.group (held_at g.held d)) (was d) t in
          and_from (is_beside x.message.group (held_at g.held d)) (now d) both.0 (up d both.1)) deps r
    ] h

pub good_up : (g : Graph) (k : ℕ) (id : Id) → good g k id ≡ true → good g (suc k) id ≡ true
good_up g zero id h = absurd (false≢true h)
good_up g (suc k) id h = good_weaker g (good g k) (good g (suc k)) (good_up g k) (held_at g.held id) h

pub good_le : (g : Graph) (n k : ℕ) (id : Id) → k ≤ n → good g k id ≡ true → good g n id ≡ true
good_le g zero k id le h =
    let e : k ≡ zero = omega arith in
    let P : ℕ → Type 0 = λ m. good g m id ≡ true in
    subst P e h
good_le g (suc n) k id le h =
    elim (cases_eq k (suc n)) [
      | inl e ↦ let P : ℕ → Type 0 = λ m. good g m id ≡ true in subst P e h
      | inr other ↦ let below : k ≤ n = omega arith in good_up g n id (good_le g n k id below h)
    ]

pub bad_le : (g : Graph) (n k : ℕ) (id : Id) → k ≤ n → bad g k id ≡ true → bad g n id ≡ true
bad_le g zero k id le h =
    let e : k ≡ zero = omega arith in
    let P : ℕ → Type 0 = λ m. bad g m id ≡ true in
    subst P e h
bad_le g (suc n) k id le h =
    elim (cases_eq k (suc n)) [
      | inl e ↦ let P : ℕ → Type 0 = λ m. bad g m id ≡ true in subst P e h
      | inr other ↦
          let below : k ≤ n = omega arith in
          or_left (bad g n id) (bad_more g (bad g n) (held_at g.held id)) (bad_le g n k id below h)
    ]

-- ---- no message is good and bad

apart_first : (g : Graph) (was : Id → Bool) (o : Option Held) → good_next g was o ≡ true → bad_first g o ≡ true → ⊥
apart_first g was None h b = false≢true h
apart_first g was (Some x) h b =
    elim (g.verdict x) as (λ v. good_by g was x.message.group v ≡ true → bad_by g x.message.group v ≡ true → ⊥) [
      | judgement.Refuse ↦ λ r s. false≢true r
      | judgement.Accept deps share ↦ λ r s.
          all_not_any (λ d. is_beside x.message.group (held_at g.held d) && was d) (λ d. is_elsewhere x.message.group (held_at g.held d))
          (λ d t e. beside_or_elsewhere x.message.group (held_at g.held d) (and_parts (is_beside x.message.group (held_at g.held d)) (was d) t).0 e)
          deps r s
    ] h b

apart_more : (g : Graph) (was worse : Id → Bool) → ((d : Id) → was d ≡ true → worse d ≡ true → ⊥)
    → (o : Option Held) → good_next g was o ≡ true → bad_more g worse o ≡ true → ⊥
apart_more g was worse apart None h b = false≢true h
apart_more g was worse apart (Some x) h b =
    elim (g.verdict x) as (λ v. good_by g was x.message.group v ≡ true → worse_by worse v ≡ true → ⊥) [
      | judgement.Refuse ↦ λ r s. false≢true r
      | judgement.Accept deps share ↦ λ r s.
          all_not_any (λ d. is_beside x.message.group (held_at g.held d) && was d) worse
          (λ d t e. apart d (and_parts (is_beside x.message.group (held_at g.held d)) (was d) t).1 e)
          deps r s
    ] h b

apart_next : (g : Graph) (k : ℕ) → ((l : ℕ) (d : Id) → good g k d ≡ true → bad g l d ≡ true → ⊥)
    → (l : ℕ) (id : Id) → good g (suc k) id ≡ true → bad g l id ≡ true → ⊥
apart_next g k before zero id h b = apart_first g (good g k) (held_at g.held id) h b
apart_next g k before (suc l) id h b =
    elim (or_cases (bad g l id) (bad_more g (bad g l) (held_at g.held id)) b) [
      | inl was ↦ apart_next g k before l id h was
      | inr more ↦ apart_more g (good g k) (bad g l) (before l) (held_at g.held id) h more
    ]

pub disjoint : (g : Graph) (k l : ℕ) (id : Id) → good g k id ≡ true → bad g l id ≡ true → ⊥
disjoint g zero l id h b = false≢true h
disjoint g (suc k) l id h b = apart_next g k (disjoint g k) l id h b

-- ---- the rounds grow with the held messages

-- under an id the message of a held one is held; where it came from, which rounds never read, may be another
pub record HoldsMessage (held : List Held) (id : Id) (h : Held) : Type 0 where
  pub found : Held
  pub at : held_at held id ≡ Some found
  pub same : found.message ≡ h.message

-- the messages that one graph holds, the other holds with the same verdict
pub record Grows (g n : Graph) : Type 0 where
  pub held : (id : Id) (h : Held) → held_at g.held id ≡ Some h → HoldsMessage n.held id h
  pub verdict : (id : Id) (h x : Held) → held_at g.held id ≡ Some h → held_at n.held id ≡ Some x → x.message ≡ h.message → n.verdict x ≡ g.verdict h

module _ (g n : Graph) (grows : Grows g n) where
  beside_grows : (group d : Id) (o : Option Held) → held_at g.held d ≡ o → is_beside group o ≡ true → is_beside group (held_at n.held d) ≡ true
  beside_grows group d None e b = absurd (false≢true b)
  beside_grows group d (Some x) e b =
      let s = grows.held d x e in
      ap (is_beside group) s.at ∙ (ap (λ (m : MessageValue). same_id m.group group) s.same ∙ b)

  elsewhere_grows : (group d : Id) (o : Option Held) → held_at g.held d ≡ o → is_elsewhere group o ≡ true → is_elsewhere group (held_at n.held d) ≡ true
  elsewhere_grows group d None e b = absurd (false≢true b)
  elsewhere_grows group d (Some x) e b =
      let s = grows.held d x e in
      ap (is_elsewhere group) s.at ∙ (ap (λ (m : MessageValue). cond (same_id m.group group) false true) s.same ∙ b)

  good_by_grows : (was now : Id → Bool) → ((d : Id) → was d ≡ true → now d ≡ true) → (group : Id) (v : Judgement)
      → good_by g was group v ≡ true → good_by n now group v ≡ true
  good_by_grows was now up group judgement.Refuse h = h
  good_by_grows was now up group (judgement.Accept deps share) h =
      all_weaker (λ d. is_beside group (held_at g.held d) && was d) (λ d. is_beside group (held_at n.held d) && now d)
      (λ d t. let both = and_parts (is_beside group (held_at g.held d)) (was d) t in
      and_from (is_beside group (held_at n.held d)) (now d) (beside_grows group d (held_at g.held d) refl both.0) (up d both.1)) deps h

  good_next_grows : (was now : Id → Bool) → ((d : Id) → was d ≡ true → now d ≡ true) → (id : Id) (o : Option Held) → held_at g.held id ≡ o
      → good_next g was o ≡ true → good_next n now (held_at n.held id) ≡ true
  good_next_grows was now up id None e h = absurd (false≢true h)
  good_next_grows was now up id (Some x) e h =
      let s = grows.held id x e in
      let verdict : n.verdict s.found ≡ g.verdict x = grows.verdict id x s.found e s.at s.same in
      ap (good_next n now) s.at
      ∙ ((λ i. good_by n now (s.same i).group (verdict i)) ∙ good_by_grows was now up x.message.group (g.verdict x) h)

  pub good_grows : (k : ℕ) (id : Id) → good g k id ≡ true → good n k id ≡ true
  good_grows zero id h = absurd (false≢true h)
  good_grows (suc k) id h = good_next_grows (good g k) (good n k) (good_grows k) id (held_at g.held id) refl h

  bad_by_grows : (group : Id) (v : Judgement) → bad_by g group v ≡ true → bad_by n group v ≡ true
  bad_by_grows group judgement.Refuse h = h
  bad_by_grows group (judgement.Accept deps share) h =
      any_weaker (λ d. is_elsewhere group (held_at g.held d)) (λ d. is_elsewhere group (held_at n.held d))
      (λ d t. elsewhere_grows group d (held_at g.held d) refl t) deps h

  bad_first_grows : (id : Id) (o : Option Held) → held_at g.held id ≡ o → bad_first g o ≡ true → bad_first n (held_at n.held id) ≡ true
  bad_first_grows id None e h = absurd (false≢true h)
  bad_first_grows id (Some x) e h =
      let s = grows.held id x e in
      let verdict : n.verdict s.found ≡ g.verdict x = grows.verdict id x s.found e s.at s.same in
      ap (bad_first n) s.at
      ∙ ((λ i. bad_by n (s.same i).group (verdict i)) ∙ bad_by_grows x.message.group (g.verdict x) h)

  worse_by_grows : (was now : Id → Bool) → ((d : Id) → was d ≡ true → now d ≡ true) → (v : Judgement) → worse_by was v ≡ true → worse_by now v ≡ true
  worse_by_grows was now up judgement.Refuse h = h
  worse_by_grows was now up (judgement.Accept deps share) h = any_weaker was now up deps h

  bad_more_grows : (was now : Id → Bool) → ((d : Id) → was d ≡ true → now d ≡ true) → (id : Id) (o : Option Held) → held_at g.held id ≡ o
      → bad_more g was o ≡ true → bad_more n now (held_at n.held id) ≡ true
  bad_more_grows was now up id None e h = absurd (false≢true h)
  bad_more_grows was now up id (Some x) e h =
      let s = grows.held id x e in
      ap (bad_more n now) s.at
      ∙ (ap (worse_by now) (grows.verdict id x s.found e s.at s.same) ∙ worse_by_grows was now up (g.verdict x) h)

  pub bad_grows : (k : ℕ) (id : Id) → bad g k id ≡ true → bad n k id ≡ true
  bad_grows zero id h = bad_first_grows id (held_at g.held id) refl h
  bad_grows (suc k) id h =
      elim (or_cases (bad g k id) (bad_more g (bad g k) (held_at g.held id)) h) [
        | inl was ↦ or_left (bad n k id) (bad_more n (bad n k) (held_at n.held id)) (bad_grows k id was)
        | inr more ↦ or_right (bad n k id) (bad_more n (bad n k) (held_at n.held id))
            (bad_more_grows (bad g k) (bad n k) (bad_grows k) id (held_at g.held id) refl more)
      ]
