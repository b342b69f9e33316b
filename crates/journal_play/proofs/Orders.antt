-- Two lists without repetitions that have the same elements are the same in some order.
use Rattle.std.proofs.Common.{◌≡◌, Bool, true, false, cond, List, [], ◌∷◌, ◌++◌, refl, sym, ◌∙◌, ap, subst, inl, inr}
use Rattle.std.specs.List.{filter}
use Rattle.std.specs.List.Sorted.{IsPermutation}
use Rattle.std.proofs.lemmas.List.Sorted.{IsPermutation-refl, IsPermutation-sym, IsPermutation-cons, IsPermutation-middle, IsPermutation-trans}
use Rattle.sync_rules.specs.Lists.{In}
use Rattle.sync_rules.proofs.Elements.{In-append_cases, In-append_left, In-append_right}

module _ {A : Type 0} where
  -- no element is there twice
  abbrev pub IsDistinct : List A → Type 0
  IsDistinct [] = Unit {0}
  IsDistinct (x ∷ xs) = (In x xs → ⊥) × IsDistinct xs

  -- an element, with what stands before it and behind
  record IsAt (x : A) (ys : List A) : Type 0 where
    pub front : List A
    pub back : List A
    pub split : ys ≡ front ++ x ∷ back

  at_of : (x : A) (ys : List A) → In x ys → IsAt x ys
  at_of x [] h = absurd h
  at_of x (y ∷ ys) h =
      elim h [
        | inl e ↦ record { front = []; back = ys; split = ap (λ w. w ∷ ys) (sym e) }
        | inr t ↦
            let s = at_of x ys t in
            record { front = y ∷ s.front; back = s.back; split = ap (λ l. y ∷ l) s.split }
      ]

  -- an element taken out
  out_of : (x : A) (front back : List A) → IsDistinct (front ++ x ∷ back) → IsDistinct (front ++ back) × (In x (front ++ back) → ⊥)
  out_of x [] back d = (d.1, d.0)
  out_of x (y ∷ front) back d =
      let rest = out_of x front back d.1 in (
        (
          λ h. d.0
              (elim (In-append_cases y front back h) [
                | inl a ↦ In-append_left y front (x ∷ back) a
                | inr b ↦ In-append_right y front (x ∷ back) (inr b)
              ]),
          rest.0,
        ),
        λ h.
            elim h [
              | inl e ↦ d.0 (In-append_right y front (x ∷ back) (inl (sym e)))
              | inr t ↦ rest.1 t
            ],
      )

  within_rest : (x z : A) (front back : List A) → In z (front ++ x ∷ back) → (z ≡ x → ⊥) → In z (front ++ back)
  within_rest x z front back h apart =
      elim (In-append_cases z front (x ∷ back) h) [
        | inl a ↦ In-append_left z front back a
        | inr b ↦ elim b [ inl e ↦ absurd (apart e) | inr t ↦ In-append_right z front back t ]
      ]

  within_whole : (x z : A) (front back : List A) → In z (front ++ back) → In z (front ++ x ∷ back)
  within_whole x z front back h =
      elim (In-append_cases z front back h) [
        | inl a ↦ In-append_left z front (x ∷ back) a
        | inr b ↦ In-append_right z front (x ∷ back) (inr b)
      ]

  none_in : (y : A) (ys : List A) → ((z : A) → In z (y ∷ ys) → In z []) → ⊥
  none_in y ys down = down y (inl refl)

  pub same_elements : (xs ys : List A) → IsDistinct xs → IsDistinct ys → ((z : A) → In z xs → In z ys) → ((z : A) → In z ys → In z xs)
      → IsPermutation xs ys
  same_elements [] [] dx dy up down = IsPermutation-refl []
  same_elements [] (y ∷ ys) dx dy up down = absurd (none_in y ys down)
  same_elements (x ∷ xs) ys dx dy up down =
      let s : IsAt x ys = at_of x ys (up x (inl refl)) in
      let split : IsDistinct (s.front ++ x ∷ s.back) = subst IsDistinct s.split dy in
      let out = out_of x s.front s.back split in
      let rest : IsPermutation xs (s.front ++ s.back) =
      same_elements xs (s.front ++ s.back) dx.1 out.0
      (λ z h. within_rest x z s.front s.back (subst (In z) s.split (up z (inr h))) (λ e. dx.0 (subst (λ w. In w xs) e h)))
      (λ z h.
      let back : In z (x ∷ xs) = down z (subst (In z) (sym s.split) (within_whole x z s.front s.back h)) in
      elim back [ inl e ↦ absurd (out.1 (subst (λ w. In w (s.front ++ s.back)) e h)) | inr t ↦ t ]) in
      IsPermutation-trans (x ∷ xs) (x ∷ (s.front ++ s.back)) ys (IsPermutation-cons x xs (s.front ++ s.back) rest)
      (IsPermutation-sym ys (x ∷ (s.front ++ s.back))
      (subst (λ l. IsPermutation l (x ∷ (s.front ++ s.back))) (sym s.split) (IsPermutation-middle s.front x s.back)))

  -- ---- what a filter keeps

  pub In-filter : (p : A → Bool) (xs : List A) (z : A) → In z xs → p z ≡ true → In z (filter p xs)
  In-filter p [] z h e = absurd h
  In-filter p (x ∷ xs) z h e =
      elim (p x) as (λ b. p x ≡ b → In z (cond b (x ∷ filter p xs) (filter p xs))) [
        | true ↦ λ s. elim h [ inl here ↦ inl here | inr t ↦ inr (In-filter p xs z t e) ]
        | false ↦ λ s. elim h [ inl here ↦ absurd (let both : false ≡ true = sym s ∙ ap p (sym here) ∙ e in cc) | inr t ↦ In-filter p xs z t e ]
      ] refl

  pub of_filter : (p : A → Bool) (xs : List A) (z : A) → In z (filter p xs) → In z xs × (p z ≡ true)
  of_filter p [] z h = absurd h
  of_filter p (x ∷ xs) z h =
      elim (p x) as (λ b. p x ≡ b → In z (cond b (x ∷ filter p xs) (filter p xs)) → In z (x ∷ xs) × (p z ≡ true)) [
        | true ↦ λ s h.
            elim h [
              | inl here ↦ (inl here, ap p here ∙ s)
              | inr t ↦ let r = of_filter p xs z t in (inr r.0, r.1)
            ]
        | false ↦ λ s h. let r = of_filter p xs z h in (inr r.0, r.1)
      ] refl h

  pub IsDistinct-filter : (p : A → Bool) (xs : List A) → IsDistinct xs → IsDistinct (filter p xs)
  IsDistinct-filter p [] d = tt
  IsDistinct-filter p (x ∷ xs) d =
      elim (p x) as (λ b. IsDistinct (cond b (x ∷ filter p xs) (filter p xs))) [
        | true ↦ (λ h. d.0 (of_filter p xs x h).0, IsDistinct-filter p xs d.1)
        | false ↦ IsDistinct-filter p xs d.1
      ]
