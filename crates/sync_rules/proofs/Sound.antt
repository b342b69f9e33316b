-- What every legal journal keeps: a delivered message is good and an invalid one is bad, each at a round that counts the
-- held messages with that end.
use Rattle.std.proofs.Common.{◌≡◌, ℕ, zero, suc, ◌+◌, ◌≤◌, Bool, true, false, cond, ◌&&◌, ◌||◌, ◌⊎◌, List, [], ◌∷◌, ◌++◌, refl, sym, ◌∙◌, ap, subst, inl, inr, arith, Option, Some, None, is_some}
use Rattle.std.specs.List.{list_any, list_all}
use Rattle.std.specs.FinSet as fin_set
use Rattle.std.specs.Cmp.Lexicographic.{nat_list_cmp_total, texts_ties}
use Rattle.std.proofs.lemmas.Bool.{and_parts, and_from, or_cases, or_left, or_right, or_parts, false≢true}
use Rattle.sync_ids.specs.Values.{MessageValue}
use Rattle.sync_rules.specs.declared.answers.Judgement.TheVariants as judgement
use Rattle.sync_rules.specs.Clients.{Meaning}
use Rattle.sync_rules.specs.Lists.{same_id, is_among, In}
use Rattle.sync_rules.specs.Facts.{Facts, Held, Known, Id, Ids, held_at, group_at, is_held}
use Rattle.sync_rules.specs.Steps.{verdict_in, verdict_for, is_beside, is_elsewhere, is_failing, is_served}
use Rattle.sync_rules.specs.Rounds.{Graph, good, good_by, good_next, bad, bad_by, bad_first, bad_more, worse_by}
use Rattle.sync_rules.proofs.Elements.{same_id-is, same_id_itself, same_id_swap, In-push_cases, all_weaker, any_weaker, tally, tally_more, tally-append, among-push}
use Rattle.sync_rules.proofs.RoundLaws.{good_le, bad_le, Grows, good_grows, bad_grows}
use Rattle.sync_rules.proofs.StepLaws.{Delivers, Invalidates, Fails}

-- ---- look-ups in longer lists

pub held_at-push : (held : List Held) (x : Held) (id : Id) (h : Held) → held_at held id ≡ Some h → held_at (held ++ x ∷ []) id ≡ Some h
held_at-push [] x id h e = cc
held_at-push (y ∷ held) x id h e =
    elim (same_id y.id id) as (λ b. cond b (Some y) (held_at held id) ≡ Some h → cond b (Some y) (held_at (held ++ x ∷ []) id) ≡ Some h) [
      | true ↦ λ e. e
      | false ↦ λ e. held_at-push held x id h e
    ] e

pub held_at-push_new : (held : List Held) (x : Held) (id : Id) → held_at held id ≡ None → held_at (held ++ x ∷ []) id ≡ cond (same_id x.id id) (Some x) None
held_at-push_new [] x id e = refl
held_at-push_new (y ∷ held) x id e =
    elim (same_id y.id id) as (λ b. cond b (Some y) (held_at held id) ≡ None
    → cond b (Some y) (held_at (held ++ x ∷ []) id) ≡ cond (same_id x.id id) (Some x) None) [
      | true ↦ λ e. cc
      | false ↦ λ e. held_at-push_new held x id e
    ] e

pub group_at-push : (groups : List Known) (x : Known) (id : Id) → is_some (group_at groups id) ≡ true → group_at (groups ++ x ∷ []) id ≡ group_at groups id
group_at-push [] x id e = absurd (false≢true e)
group_at-push (y ∷ groups) x id e =
    elim (same_id y.id id) as (λ b. is_some (cond b (Some y) (group_at groups id)) ≡ true
    → cond b (Some y) (group_at (groups ++ x ∷ []) id) ≡ cond b (Some y) (group_at groups id)) [
      | true ↦ λ e. refl
      | false ↦ λ e. group_at-push groups x id e
    ] e

-- what a look-up finds is held, under the id that was asked for
pub held_at-In : (held : List Held) (id : Id) (h : Held) → held_at held id ≡ Some h → In h held
held_at-In [] id h e = cc
held_at-In (y ∷ held) id h e =
    elim (same_id y.id id) as (λ b. cond b (Some y) (held_at held id) ≡ Some h → In h (y ∷ held)) [
      | true ↦ λ e. let same : h ≡ y = cc in inl same
      | false ↦ λ e. inr (held_at-In held id h e)
    ] e

pub held_at-id : (held : List Held) (id : Id) (h : Held) → held_at held id ≡ Some h → h.id ≡ id
held_at-id [] id h e = cc
held_at-id (y ∷ held) id h e =
    elim (same_id y.id id) as (λ b. same_id y.id id ≡ b → cond b (Some y) (held_at held id) ≡ Some h → h.id ≡ id) [
      | true ↦ λ s e. let same : y ≡ h = cc in ap (λ (w : Held). w.id) (sym same) ∙ same_id-is y.id id s
      | false ↦ λ s e. held_at-id held id h e
    ] refl e

-- ---- sets of ids

pub contains-more : (s : Ids) (k q : Id) → fin_set.contains (fin_set.insert s k) q ≡ (same_id k q || fin_set.contains s q)
contains-more s k q =
    fin_set.contains-insert nat_list_cmp_total s k q
    ∙ ap (λ b. b || fin_set.contains s q) (sym (texts_ties q k) ∙ same_id_swap q k)

-- ---- the invariant

abbrev pub graph : Meaning → List Known → List Held → Graph
graph clients groups held = record { held = held; verdict = λ h. verdict_in clients groups h.message }

abbrev pub has_delivery : List Id → Held → Bool
has_delivery delivered h = is_among delivered h.id

abbrev pub has_refusal : Ids → Held → Bool
has_refusal invalid h = fin_set.contains invalid h.id

pub record Sound (clients : Meaning) (groups : List Known) (held : List Held) (invalid : Ids) (delivered : List Id) : Type 0 where
  -- a held message is found by its id, and its group is known
  pub names : (h : Held) → In h held → held_at held h.id ≡ Some h
  pub known : (h : Held) → In h held → is_some (group_at groups h.message.group) ≡ true
  pub delivered_good : (id : Id) → is_among delivered id ≡ true
      → good (graph clients groups held) (tally (has_delivery delivered) held) id ≡ true
  pub invalid_bad : (id : Id) → fin_set.contains invalid id ≡ true
      → bad (graph clients groups held) (tally (has_refusal invalid) held) id ≡ true

abbrev pub SoundFacts : Meaning → Facts → Type 0
SoundFacts clients f = Sound clients f.groups f.held f.invalid f.delivered

-- ---- one more delivery

-- a message whose dependencies are all held beside it and good is good in the next round
good_from_served : (clients : Meaning) (f : Facts) (h : Held) (k : ℕ) (deps : List Id) (share : Bool)
    → verdict_in clients f.groups h.message ≡ judgement.Accept deps share
    → held_at f.held h.id ≡ Some h
    → ((d : Id) → is_among f.delivered d ≡ true → good (graph clients f.groups f.held) k d ≡ true)
    → list_all (is_served f h.message.group) deps ≡ true
    → good (graph clients f.groups f.held) (suc k) h.id ≡ true
good_from_served clients f h k deps share v at was served =
    let g : Graph = graph clients f.groups f.held in
    let test : Id → Bool = good g k in
    let by : good_by g test h.message.group (judgement.Accept deps share) ≡ true =
    all_weaker (is_served f h.message.group) (λ d. is_beside h.message.group (held_at f.held d) && test d)
    (λ d t. let both = and_parts (is_beside h.message.group (held_at f.held d)) (is_among f.delivered d) t in
    and_from (is_beside h.message.group (held_at f.held d)) (test d) both.0 (was d both.1)) deps served in
    ap (good_next g test) at ∙ (ap (good_by g test h.message.group) v ∙ by)

pub delivered_stays_good : (clients : Meaning) (f : Facts) (h : Held) → SoundFacts clients f → In h f.held → Delivers clients f h h.id
    → (id : Id) → is_among (f.delivered ++ h.id ∷ []) id ≡ true
    → good (graph clients f.groups f.held) (tally (has_delivery (f.delivered ++ h.id ∷ [])) f.held) id ≡ true
delivered_stays_good clients f h s inside d id among =
    let now : List Id = f.delivered ++ h.id ∷ [] in
    let g : Graph = graph clients f.groups f.held in
    let old : ℕ = tally (has_delivery f.delivered) f.held in
    let open_now = or_parts (is_among f.delivered h.id) (fin_set.contains f.invalid h.id) d.still_open.no_end in
    let more : 1 + old ≤ tally (has_delivery now) f.held =
    tally_more (has_delivery f.delivered) (has_delivery now)
    (λ x e. among-push f.delivered h.id x.id ∙ or_right (same_id h.id x.id) (is_among f.delivered x.id) e)
    f.held h inside open_now.0
    (among-push f.delivered h.id h.id ∙ or_left (same_id h.id h.id) (is_among f.delivered h.id) (same_id_itself h.id)) in
    elim (or_cases (same_id h.id id) (is_among f.delivered id) (sym (among-push f.delivered h.id id) ∙ among)) [
      | inl e ↦
          let new : good g (suc old) h.id ≡ true =
          good_from_served clients f h old d.accepted.deps d.accepted.share d.accepted.verdict (s.names h inside) s.delivered_good d.served in
          let le : suc old ≤ tally (has_delivery now) f.held = omega arith in
          subst (λ (x : Id). good g (tally (has_delivery now) f.held) x ≡ true) (same_id-is h.id id e)
          (good_le g (tally (has_delivery now) f.held) (suc old) h.id le new)
      | inr was ↦
          let le : old ≤ tally (has_delivery now) f.held = omega arith in
          good_le g (tally (has_delivery now) f.held) old id le (s.delivered_good id was)
    ]

-- ---- one more invalid message

bad_from_failing : (clients : Meaning) (f : Facts) (h : Held) (k : ℕ) (deps : List Id) (share : Bool)
    → verdict_in clients f.groups h.message ≡ judgement.Accept deps share
    → held_at f.held h.id ≡ Some h
    → ((d : Id) → fin_set.contains f.invalid d ≡ true → bad (graph clients f.groups f.held) k d ≡ true)
    → list_any (is_failing f h.message.group) deps ≡ true
    → bad (graph clients f.groups f.held) (suc k) h.id ≡ true
bad_from_failing clients f h k deps share v at was failing =
    let g : Graph = graph clients f.groups f.held in
    elim (any_parts (λ d. is_elsewhere h.message.group (held_at f.held d)) (λ d. fin_set.contains f.invalid d) deps failing) [
      | inl away ↦
          let first : bad g zero h.id ≡ true = ap (bad_first g) at ∙ (ap (bad_by g h.message.group) v ∙ away) in
          let le : zero ≤ suc k = omega arith in
          bad_le g (suc k) zero h.id le first
      | inr refused ↦
          let more : bad_more g (bad g k) (held_at f.held h.id) ≡ true =
          ap (bad_more g (bad g k)) at ∙ (ap (worse_by (bad g k)) v
          ∙ any_weaker (λ d. fin_set.contains f.invalid d) (bad g k) was deps refused) in
          or_right (bad g k h.id) (bad_more g (bad g k) (held_at f.held h.id)) more
    ]
  where
    any_parts : (p q : Id → Bool) (xs : List Id) → list_any (λ d. p d || q d) xs ≡ true → (list_any p xs ≡ true) ⊎ (list_any q xs ≡ true)
    any_parts p q [] h = absurd (false≢true h)
    any_parts p q (x ∷ xs) h =
        elim (or_cases (p x || q x) (list_any (λ d. p d || q d) xs) h) [
          | inl here ↦ elim (or_cases (p x) (q x) here) [
            | inl a ↦ inl (or_left (p x) (list_any p xs) a)
            | inr b ↦ inr (or_left (q x) (list_any q xs) b)
          ]
          | inr later ↦ elim (any_parts p q xs later) [
            | inl a ↦ inl (or_right (p x) (list_any p xs) a)
            | inr b ↦ inr (or_right (q x) (list_any q xs) b)
          ]
        ]

bad_from_cause : (clients : Meaning) (f : Facts) (h : Held) → SoundFacts clients f → In h f.held
    → (verdict_in clients f.groups h.message ≡ judgement.Refuse) ⊎ Fails clients f h
    → bad (graph clients f.groups f.held) (suc (tally (has_refusal f.invalid) f.held)) h.id ≡ true
bad_from_cause clients f h s inside cause =
    let g : Graph = graph clients f.groups f.held in
    let old : ℕ = tally (has_refusal f.invalid) f.held in
    elim cause [
      | inl refused ↦
          let first : bad g zero h.id ≡ true =
          ap (bad_first g) (s.names h inside) ∙ ap (bad_by g h.message.group) refused in
          let le : zero ≤ suc old = omega arith in
          bad_le g (suc old) zero h.id le first
      | inr fails ↦
          bad_from_failing clients f h old fails.accepted.deps fails.accepted.share fails.accepted.verdict (s.names h inside) s.invalid_bad fails.failing
    ]

pub invalid_stays_bad : (clients : Meaning) (f : Facts) (h : Held) → SoundFacts clients f → In h f.held → Invalidates clients f h h.id
    → (id : Id) → fin_set.contains (fin_set.insert f.invalid h.id) id ≡ true
    → bad (graph clients f.groups f.held) (tally (has_refusal (fin_set.insert f.invalid h.id)) f.held) id ≡ true
invalid_stays_bad clients f h s inside d id among =
    let now : Ids = fin_set.insert f.invalid h.id in
    let g : Graph = graph clients f.groups f.held in
    let old : ℕ = tally (has_refusal f.invalid) f.held in
    let open_now = or_parts (is_among f.delivered h.id) (fin_set.contains f.invalid h.id) d.still_open.no_end in
    let more : 1 + old ≤ tally (has_refusal now) f.held =
    tally_more (has_refusal f.invalid) (has_refusal now)
    (λ x e. contains-more f.invalid h.id x.id ∙ or_right (same_id h.id x.id) (fin_set.contains f.invalid x.id) e)
    f.held h inside open_now.1
    (contains-more f.invalid h.id h.id ∙ or_left (same_id h.id h.id) (fin_set.contains f.invalid h.id) (same_id_itself h.id)) in
    elim (or_cases (same_id h.id id) (fin_set.contains f.invalid id) (sym (contains-more f.invalid h.id id) ∙ among)) [
      | inl e ↦
          let le : suc old ≤ tally (has_refusal now) f.held = omega arith in
          subst (λ (x : Id). bad g (tally (has_refusal now) f.held) x ≡ true) (same_id-is h.id id e)
          (bad_le g (tally (has_refusal now) f.held) (suc old) h.id le (bad_from_cause clients f h s inside d.cause))
      | inr was ↦
          let le : old ≤ tally (has_refusal now) f.held = omega arith in
          bad_le g (tally (has_refusal now) f.held) old id le (s.invalid_bad id was)
    ]

-- ---- longer lists of groups and of held messages

-- a verdict stays where the group was known
pub verdict_stays : (clients : Meaning) (groups : List Known) (x : Known) (m : MessageValue) → is_some (group_at groups m.group) ≡ true
    → verdict_in clients (groups ++ x ∷ []) m ≡ verdict_in clients groups m
verdict_stays clients groups x m known = ap (λ o. verdict_for clients o m) (group_at-push groups x m.group known)

pub groups_grow : (clients : Meaning) (groups : List Known) (held : List Held) (x : Known)
    → ((h : Held) → In h held → is_some (group_at groups h.message.group) ≡ true)
    → Grows (graph clients groups held) (graph clients (groups ++ x ∷ []) held)
groups_grow clients groups held x known = record {
  held = λ id h e. record { found = h; at = e; same = refl };
  verdict = λ id h y e later same.
      ap (verdict_in clients (groups ++ x ∷ [])) same ∙ verdict_stays clients groups x h.message (known h (held_at-In held id h e));
}

pub held_grow : (clients : Meaning) (groups : List Known) (held : List Held) (x : Held)
    → Grows (graph clients groups held) (graph clients groups (held ++ x ∷ []))
held_grow clients groups held x = record {
  held = λ id h e. record { found = h; at = held_at-push held x id h e; same = refl };
  verdict = λ id h y e later same. ap (verdict_in clients groups) same;
}

pub Sound-group : (clients : Meaning) (groups : List Known) (held : List Held) (invalid : Ids) (delivered : List Id) (x : Known)
    → Sound clients groups held invalid delivered → Sound clients (groups ++ x ∷ []) held invalid delivered
Sound-group clients groups held invalid delivered x s =
    let grows : Grows (graph clients groups held) (graph clients (groups ++ x ∷ []) held) = groups_grow clients groups held x s.known in
    record {
      names = s.names;
      known = λ h inside. ap is_some (group_at-push groups x h.message.group (s.known h inside)) ∙ s.known h inside;
      delivered_good = λ id e. good_grows (graph clients groups held) (graph clients (groups ++ x ∷ []) held) grows
          (tally (has_delivery delivered) held) id (s.delivered_good id e);
      invalid_bad = λ id e. bad_grows (graph clients groups held) (graph clients (groups ++ x ∷ []) held) grows
          (tally (has_refusal invalid) held) id (s.invalid_bad id e);
    }

tally_push : (p : Held → Bool) (held : List Held) (x : Held) → tally p held ≤ tally p (held ++ x ∷ [])
tally_push p held x = let e : tally p (held ++ x ∷ []) ≡ tally p held + tally p (x ∷ []) = tally-append p held (x ∷ []) in omega (arith, e)

some_or_none : (o : Option Held) → is_some o ≡ false → o ≡ None
some_or_none None e = refl
some_or_none (Some x) e = absurd (false≢true (sym e))

pub Sound-held : (clients : Meaning) (groups : List Known) (held : List Held) (invalid : Ids) (delivered : List Id) (x : Held)
    → is_some (group_at groups x.message.group) ≡ true → is_held held x.id ≡ false
    → Sound clients groups held invalid delivered → Sound clients groups (held ++ x ∷ []) invalid delivered
Sound-held clients groups held invalid delivered x known new s =
    let none : held_at held x.id ≡ None = some_or_none (held_at held x.id) new in
    let g : Graph = graph clients groups held in
    let n : Graph = graph clients groups (held ++ x ∷ []) in
    let grows : Grows g n = held_grow clients groups held x in
    record {
      names = λ h inside. elim (In-push_cases h x held inside) [
        | inl was ↦ held_at-push held x h.id h (s.names h was)
        | inr e ↦
            let at : held_at (held ++ x ∷ []) x.id ≡ Some x =
            held_at-push_new held x x.id none ∙ ap (λ b. cond b (Some x) None) (same_id_itself x.id) in
            subst (λ (w : Held). held_at (held ++ x ∷ []) w.id ≡ Some w) (sym e) at
      ];
      known = λ h inside. elim (In-push_cases h x held inside) [
        | inl was ↦ s.known h was
        | inr e ↦ subst (λ (w : Held). is_some (group_at groups w.message.group) ≡ true) (sym e) known
      ];
      delivered_good = λ id e.
          good_le n (tally (has_delivery delivered) (held ++ x ∷ [])) (tally (has_delivery delivered) held) id (tally_push (has_delivery delivered) held x)
          (good_grows g n grows (tally (has_delivery delivered) held) id (s.delivered_good id e));
      invalid_bad = λ id e.
          bad_le n (tally (has_refusal invalid) (held ++ x ∷ [])) (tally (has_refusal invalid) held) id (tally_push (has_refusal invalid) held x)
          (bad_grows g n grows (tally (has_refusal invalid) held) id (s.invalid_bad id e));
    }
