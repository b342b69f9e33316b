-- Targets one after the other, and what their deeds ask for.
use Rattle.std.proofs.Common.{◌≡◌, ℕ, ◌+◌, Bool, true, false, List, [], ◌∷◌, ◌++◌, take, drop}
use Rattle.std.proofs.Common.{refl, sym, ap, ◌∙◌, subst, append_assoc, append-nil, Some, None}
use Rattle.std.proofs.Common.{Result, Ok, Err}
use Rattle.std.specs.Prelude.{cond, is_some, OnOk}
use Rattle.std.proofs.lemmas.List.{take-append-drop}
use Rattle.outside.specs.Outside.{Outside}
use Rattle.sync_ids.specs.Ids.{group_id_of}
use Rattle.sync_ids.specs.Values.{GroupValue}
use Rattle.sync_rules.specs.declared.entries.Entry.{Entry}
use Rattle.sync_rules.specs.declared.entries.Entry.TheVariants as entry
use Rattle.sync_rules.specs.Lists.{same_id}
use Rattle.sync_rules.proofs.Elements.{same_id_itself}
use Rattle.sync_rules.specs.Clients.{Meaning}
use Rattle.sync_rules.specs.Facts.{Facts, Known, after, after_batches, group_at, known_of}
use Rattle.sync_rules.proofs.Settling.{after_batches-append}
use Rattle.sync_store.specs.Store.{StoreValue}
use Rattle.sync_words.specs.declared.outcome.Outcome.{Outcome}
use Rattle.client_sharing.specs.declared.agreement.Target.{Target}
use Rattle.sharing_commands.specs.Adding.{GathersFront}
use Rattle.sharing_commands.specs.Deeds.{all_batches, all_text, batches_for}
use Rattle.sharing_commands.specs.Deeds.{text_for}
use Rattle.sharing_commands.proofs.Fronts.{adds_short, adds_then, facts_added}

module _ (clients : Meaning) (contact : ℕ) where
  all_append : (f : Facts) (xs ys : List Target)
      → all_batches clients contact f (xs ++ ys)
      ≡ all_batches clients contact f xs
      ++ all_batches clients contact (after_batches f (all_batches clients contact f xs)) ys
  all_append f [] ys = refl
  all_append f (t ∷ xs) ys =
      let b = batches_for clients contact f t in
      let g = after_batches f b in
      let rest = all_batches clients contact g xs in
      ap (λ (z : List (List Entry)). b ++ z) (all_append g xs ys)
      ∙ sym (append_assoc b rest (all_batches clients contact (after_batches g rest) ys))
      ∙ ap (λ (h : Facts). (b ++ rest) ++ all_batches clients contact h ys)
      (sym (after_batches-append f b rest))

  text_append : (f : Facts) (xs ys : List Target)
      → all_text clients contact f (xs ++ ys)
      ≡ all_text clients contact f xs
      ++ all_text clients contact (after_batches f (all_batches clients contact f xs)) ys
  text_append f [] ys = refl
  text_append f (t ∷ xs) ys =
      let b = batches_for clients contact f t in
      let g = after_batches f b in
      let rest = all_batches clients contact g xs in
      let line = text_for clients contact f t in
      let lines = all_text clients contact g xs in
      ap (λ (z : List ℕ). line ++ z) (text_append g xs ys)
      ∙ sym (append_assoc line lines (all_text clients contact (after_batches g rest) ys))
      ∙ ap (λ (h : Facts). (line ++ lines) ++ all_text clients contact h ys)
      (sym (after_batches-append f b rest))

  -- the batches of some targets and one more
  with_one : (f g : Facts) (xs : List Target) (t : Target) → g ≡ after_batches f
      (all_batches clients contact f xs)
      → all_batches clients contact f xs ++ batches_for clients contact g t
      ≡ all_batches clients contact f (xs ++ t ∷ [])
  with_one f g xs t is =
      ap (λ (h : Facts). all_batches clients contact f xs ++ batches_for clients contact h t) is
      ∙ ap (λ (z : List (List Entry)). all_batches clients contact f xs ++ z)
      (sym
      (append-nil (batches_for clients contact
      (after_batches f (all_batches clients contact f xs)) t)))
      ∙ sym (all_append f xs (t ∷ []))

  text_with_one : (f g : Facts) (xs : List Target) (t : Target) → g ≡ after_batches f
      (all_batches clients contact f xs)
      → all_text clients contact f xs ++ text_for clients contact g t
      ≡ all_text clients contact f (xs ++ t ∷ [])
  text_with_one f g xs t is =
      ap (λ (h : Facts). all_text clients contact f xs ++ text_for clients contact h t) is
      ∙ ap (λ (z : List ℕ). all_text clients contact f xs ++ z)
      (sym
      (append-nil (text_for clients contact (after_batches f (all_batches clients contact f xs))
      t)))
      ∙ sym (text_append f xs (t ∷ []))

  module _ (s0 s1 s2 : StoreValue) (o0 o1 o2 : Outside) (ts : List Target) (i : ℕ) (t : Target)
      (next : take (i + 1) ts ≡ take i ts ++ t ∷ []) (u : Unit {0})
      (done : GathersFront clients s0 s1 o0 o1 (all_batches clients contact s0.state.facts (take i ts))
      (Ok u)) where
    at : s1.state.facts ≡ after_batches s0.state.facts
        (all_batches clients contact s0.state.facts (take i ts))
    at = facts_added clients s0 s1 o0 o1 (all_batches clients contact s0.state.facts (take i ts)) u
        done

    one_on : (r : Result (Unit {0}) Outcome) → GathersFront clients s1 s2 o1 o2
        (batches_for clients contact s1.state.facts t) r
        → GathersFront clients s0 s2 o0 o2
        (all_batches clients contact s0.state.facts (take (i + 1) ts)) r
    one_on r more =
        let same =
        with_one s0.state.facts s1.state.facts (take i ts) t at
        ∙ ap (λ (xs : List Target). all_batches clients contact s0.state.facts xs) (sym next) in
        subst (λ (all : List (List Entry)). GathersFront clients s0 s2 o0 o2 all r) same
        (adds_then clients s0 s1 s2 o0 o1 o2
        (all_batches clients contact s0.state.facts (take i ts))
        (batches_for clients contact s1.state.facts t) u r done more)

    -- one target more
    pub set_more : GathersFront clients s1 s2 o1 o2 (batches_for clients contact s1.state.facts t)
        (Ok u)
        → GathersFront clients s0 s2 o0 o2
        (all_batches clients contact s0.state.facts (take (i + 1) ts)) (Ok u)
    set_more more = one_on (Ok u) more

    -- none behind one that was not done
    pub set_stopped : (came : Outcome) → GathersFront clients s1 s2 o1 o2
        (batches_for clients contact s1.state.facts t) (Err came)
        → GathersFront clients s0 s2 o0 o2 (all_batches clients contact s0.state.facts ts) (Err came)
    set_stopped came more =
        let f = s0.state.facts in
        let front = take (i + 1) ts in
        let rest =
        all_batches clients contact (after_batches f (all_batches clients contact f front))
        (drop (i + 1) ts) in
        let same : all_batches clients contact f front ++ rest ≡ all_batches clients contact f ts =
        sym (all_append f front (drop (i + 1) ts))
        ∙ ap (λ (xs : List Target). all_batches clients contact f xs)
        (take-append-drop (i + 1) ts) in
        subst (λ (all : List (List Entry)). GathersFront clients s0 s2 o0 o2 all (Err came)) same
        (adds_short clients s0 s2 o0 o2 (all_batches clients contact f front) rest came
        (one_on (Err came) more))

    pub text_more : (start old new : List ℕ)
        → old ≡ start ++ all_text clients contact s0.state.facts (take i ts)
        → new ≡ old ++ text_for clients contact s1.state.facts t
        → new ≡ start ++ all_text clients contact s0.state.facts (take (i + 1) ts)
    text_more start old new before more =
        let f = s0.state.facts in
        more
        ∙ ap (λ (z : List ℕ). z ++ text_for clients contact s1.state.facts t) before
        ∙ append_assoc start (all_text clients contact f (take i ts))
        (text_for clients contact s1.state.facts t)
        ∙ ap (λ (z : List ℕ). start ++ z) (text_with_one f s1.state.facts (take i ts) t at
        ∙ ap (λ (xs : List Target). all_text clients contact f xs) (sym next))

-- ---- a group that was added is known

pub added_known : (groups : List Known) (x : Known)
    → is_some (group_at (groups ++ x ∷ []) x.id) ≡ true
added_known [] x = ap (λ (b : Bool). is_some (cond b (Some x) None)) (same_id_itself x.id)
added_known (y ∷ groups) x =
    elim (same_id y.id x.id) as (λ b. is_some (cond b (Some y) (group_at (groups ++ x ∷ []) x.id))
    ≡ true) [
      | true ↦ refl
      | false ↦ added_known groups x
    ]

pub group_known : (clients : Meaning) (s s' : StoreValue) (o o' : Outside) (def : GroupValue)
    (batch : List Entry) (r : Result (Unit {0}) Outcome)
    → batch ≡ entry.Group def ∷ [] → GathersFront clients s s' o o' (batch ∷ []) r
    → OnOk r (is_some (group_at s'.state.facts.groups (group_id_of def)) ≡ true)
group_known clients s s' o o' def batch (Ok u) is added =
    let there : s'.state.facts ≡ after s.state.facts (entry.Group def) =
    facts_added clients s s' o o' (batch ∷ []) u added
    ∙ ap (λ (b : List Entry). after_batches s.state.facts (b ∷ [])) is in
    ap (λ (f : Facts). is_some (group_at f.groups (group_id_of def))) there
    ∙ added_known s.state.facts.groups (known_of def)
group_known clients s s' o o' def batch (Err e) is added = tt
