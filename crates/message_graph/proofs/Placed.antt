-- Where each node's name has its place: what a push of a name and a new holder leave.
use Rattle.std.proofs.Common.{◌≡◌, ℕ, zero, suc, ◌⊎◌, ◌+◌, ◌<◌, List, [], ◌∷◌, ◌++◌, length, Option, None, Some, slice_get, refl, sym, ap, subst, ◌∙◌, get_or, set, arith, inl, inr, length-append}
use Rattle.std.proofs.lemmas.List.{get_or-set_same, get_or-set_other, get_or_append_left, get_or_push, get_or_past, length-map, map-set, length-set, map-append}
use Rattle.std.proofs.lemmas.Bool.{cases_eq, cases_lt}
use Rattle.message_graph.specs.declared.index.Slot.{Slot}
use Rattle.message_graph.specs.Links.{place_of, holder_at, names_at, IsPlaced}
use Rattle.message_graph.proofs.Linked.{holders_of}

-- a slot that nobody holds, at the end
pub placed-push : (slots : List Slot) (places : List ℕ) (slot : Slot) → slot.holder ≡ None → IsPlaced slots places → IsPlaced (slots ++ slot ∷ []) places
placed-push slots places slot free p =
    let are : holders_of (slots ++ slot ∷ []) ≡ holders_of slots ++ None ∷ [] = map-append (λ (s : Slot). s.holder) slots (slot ∷ []) ∙ ap (λ o. holders_of slots ++ o ∷ []) free in
    let len : length (holders_of slots) ≡ length slots = length-map slots (λ (s : Slot). s.holder) in
    let total : length (slots ++ slot ∷ []) ≡ length slots + 1 = length-append slots (slot ∷ []) in
    record {
      found = λ place number h.
          let at : get_or (holders_of slots ++ None ∷ []) place None ≡ Some number = sym (ap (λ hs. get_or hs place None) are) ∙ h in
          elim (cases_lt place (length slots)) [
            | inl old ↦ p.found place number (sym (get_or_append_left (holders_of slots) (None ∷ []) None place (omega (arith, len, old))) ∙ at)
            | inr past ↦ elim (cases_eq place (length slots)) [
              | inl last ↦ absurd (let c : None ≡ Some number = sym (get_or_push (holders_of slots) None None place (len ∙ sym last)) ∙ at in cc)
              | inr beyond ↦ absurd (let c : None ≡ Some number = sym (get_or_past (holders_of slots ++ None ∷ []) place None (omega (arith, length-append (holders_of slots) (None ∷ []), len, past, beyond))) ∙ at in cc)
            ]
          ];
      inside = λ number place h. let old = p.inside number place h in omega (arith, old, total);
    }

-- other slots with the same holders
pub placed-same : (slots others : List Slot) (places : List ℕ) → holders_of others ≡ holders_of slots → length others ≡ length slots → IsPlaced slots places → IsPlaced others places
placed-same slots others places same len p = record {
  found = λ place number h. p.found place number (sym (ap (λ hs. get_or hs place None) same) ∙ h);
  inside = λ number place h. let old = p.inside number place h in omega (arith, old, len);
}

-- the next node holds the name of a place
pub placed-hold : (slots : List Slot) (places : List ℕ) (place : ℕ) (slot : Slot) → place < length slots → slot.holder ≡ Some (length places) → IsPlaced slots places
    → IsPlaced (set slots place slot) (places ++ place ∷ [])
placed-hold slots places place slot within held p =
    let are : holders_of (set slots place slot) ≡ set (holders_of slots) place slot.holder = map-set (λ (s : Slot). s.holder) slots place slot in
    let len : length (holders_of slots) ≡ length slots = length-map slots (λ (s : Slot). s.holder) in
    let total = length-set slots place slot in
    record {
      found = λ other number h.
          let at : get_or (set (holders_of slots) place slot.holder) other None ≡ Some number = sym (ap (λ hs. get_or hs other None) are) ∙ h in
          elim (cases_eq other place) [
            | inl same ↦
                let here : slot.holder ≡ Some number = sym (get_or-set_same (holders_of slots) place slot.holder None (omega (arith, len, within))) ∙ (ap (λ k. get_or (set (holders_of slots) place slot.holder) k None) (sym same) ∙ at) in
                let is : length places ≡ number = (let c : Some (length places) ≡ Some number = sym held ∙ here in cc) in
                ap (slice_get (places ++ place ∷ [])) (sym is) ∙ get-pushed places place ∙ ap Some (sym same)
            | inr apart ↦ get-kept places place number other (p.found other number (sym (get_or-set_other (holders_of slots) place other slot.holder None apart) ∙ at))
          ];
      inside = λ number other h. elim (get-push_is places place number other h) [
        | inl old ↦ let was = p.inside number other old in omega (arith, was, total)
        | inr last ↦ subst (λ k. k < length (set slots place slot)) last (omega (arith, within, total))
      ];
    }
  where
    get-pushed : (xs : List ℕ) (x : ℕ) → slice_get (xs ++ x ∷ []) (length xs) ≡ Some x
    get-pushed [] x = refl
    get-pushed (y ∷ ys) x = get-pushed ys x

    get-kept : (xs : List ℕ) (x k y : ℕ) → slice_get xs k ≡ Some y → slice_get (xs ++ x ∷ []) k ≡ Some y
    get-kept [] x k y h = absurd (let c : None ≡ Some y = h in cc)
    get-kept (z ∷ zs) x zero y h = h
    get-kept (z ∷ zs) x (suc k) y h = get-kept zs x k y h

    get-push_is : (xs : List ℕ) (x k y : ℕ) → slice_get (xs ++ x ∷ []) k ≡ Some y → (slice_get xs k ≡ Some y) ⊎ (x ≡ y)
    get-push_is [] x zero y h = inr (let c : Some x ≡ Some y = h in cc)
    get-push_is [] x (suc k) y h = absurd (let c : None ≡ Some y = h in cc)
    get-push_is (z ∷ zs) x zero y h = inl h
    get-push_is (z ∷ zs) x (suc k) y h = get-push_is zs x k y h

-- the place of a name that a node holds
pub held_place : (names : List (List ℕ)) (slots : List Slot) (places : List ℕ) (p : IsPlaced slots places) (name : List ℕ) (number : ℕ)
    → holder_at (holders_of slots) (place_of names name) ≡ Some number → (place : ℕ) × ((place_of names name ≡ Some place) × (slice_get places number ≡ Some place))
held_place names slots places p name number h = by (place_of names name) refl h
  where
    by : (o : Option ℕ) → place_of names name ≡ o → holder_at (holders_of slots) o ≡ Some number → (place : ℕ) × ((place_of names name ≡ Some place) × (slice_get places number ≡ Some place))
    by None e g = absurd (let c : None ≡ Some number = g in cc)
    by (Some place) e g = (place, (e, p.found place number g))

-- a new name leaves the names of the nodes
pub names_at-push : (names : List (List ℕ)) (name : List ℕ) (slots : List Slot) (places : List ℕ) → length slots ≡ length names → IsPlaced slots places → names_at (names ++ name ∷ []) places ≡ names_at names places
names_at-push names name slots places many p = by places (λ number place h. let old = p.inside number place h in omega (arith, old, many))
  where
    by : (ps : List ℕ) → ((number place : ℕ) → slice_get ps number ≡ Some place → place < length names) → names_at (names ++ name ∷ []) ps ≡ names_at names ps
    by [] h = refl
    by (place ∷ ps) h = (λ i. get_or_append_left names (name ∷ []) [] place (h 0 place refl) i ∷ by ps (λ number other there. h (suc number) other there) i)
