-- The items of arrival numbers, as they are added.
use Rattle.std.proofs.Common.{◌≡◌, ℕ, suc, ◌+◌, ◌<◌, ◌==◌, true, false, cond, List, [], ◌∷◌}
use Rattle.std.proofs.Common.{◌++◌, length, length-append, Option, None, Some, get_or, refl, sym}
use Rattle.std.proofs.Common.{ap, ◌∙◌, subst, inl, inr, arith}
use Rattle.std.specs.Prelude.{IfSome, slice_set}
use Rattle.std.specs.Option.{option_map, option_or}
use Rattle.std.proofs.lemmas.Bool.{cases_eq}
use Rattle.std.proofs.lemmas.List.{get_or_append_left, get_or_default, get_or-set_same}
use Rattle.std.proofs.lemmas.List.{get_or-set_other, length-set}
use Rattle.std.proofs.Math.Seq.{get_or-append_seam}
use Rattle.tree_commands.specs.Threads.{number_among, IsThread}

-- ---- an item is one of the list

pub shifted : (k : ℕ) (o : Option ℕ) → IfSome o (λ p. p < k)
    → IfSome (option_map suc o) (λ p. p < suc k)
shifted k None h = tt
shifted k (Some p) h = omega (arith, h)

pub among_less : (ns : List ℕ) (m : ℕ) → IfSome (number_among ns m) (λ p. p < length ns)
among_less [] m = tt
among_less (n ∷ ns) m =
    elim (n == m) as (λ b. IfSome (cond b (Some 0) (option_map suc (number_among ns m)))
    (λ p. p < suc (length ns))) [
      | true ↦ omega arith
      | false ↦ shifted (length ns) (number_among ns m) (among_less ns m)
    ]

-- what is kept of a message that is replied to is an earlier item
pub found_earlier : (ns : List ℕ) (ps places : List (Option ℕ)) (m : ℕ) (o : Option ℕ)
    → IsThread ns ps places → m < length places → o ≡ get_or places m o
    → IfSome o (λ p. p < length ps)
found_earlier ns ps places m o t within is =
    let value : number_among ns m ≡ o =
    sym (is ∙ get_or_default places m o None within ∙ t.each m within) in
    subst (λ k. IfSome o (λ p. p < k)) (sym t.many)
    (subst (λ x. IfSome x (λ p. p < length ns)) value (among_less ns m))

-- ---- one more number

or_later : (o : Option ℕ) (k : ℕ) → option_map suc (option_or o (Some k)) ≡ option_or
    (option_map suc o) (Some (suc k))
or_later None k = refl
or_later (Some p) k = refl

same_eq : (n m : ℕ) → n ≡ m → (n == m) ≡ true
same_eq n m e = grind (arith, e)

other_eq : (n m : ℕ) → (n ≡ m → ⊥) → (n == m) ≡ false
other_eq n m ne = grind (arith, ne)

pub among_pushed : (ns : List ℕ) (n : ℕ) → number_among (ns ++ n ∷ []) n ≡ option_or
    (number_among ns n) (Some (length ns))
among_pushed [] n = ap (λ b. cond b (Some 0) None) (same_eq n n refl)
among_pushed (m ∷ ns) n =
    elim (m == n) as (λ b. cond b (Some 0) (option_map suc (number_among (ns ++ n ∷ []) n)) ≡
    option_or (cond b (Some 0) (option_map suc (number_among ns n))) (Some (suc (length ns)))) [
      | true ↦ refl
      | false ↦ ap (option_map suc) (among_pushed ns n) ∙ or_later (number_among ns n) (length ns)
    ]

pub among_other : (ns : List ℕ) (n m : ℕ) → (n ≡ m → ⊥)
    → number_among (ns ++ n ∷ []) m ≡ number_among ns m
among_other [] n m ne = ap (λ b. cond b (Some 0) None) (other_eq n m ne)
among_other (x ∷ ns) n m ne = ap (λ o. cond (x == m) (Some 0) (option_map suc o))
    (among_other ns n m ne)

-- ---- a tree with one more item

module _ (ns : List ℕ) (ps places : List (Option ℕ)) (n : ℕ) (p : Option ℕ) where
  pub more_items : IsThread ns ps places → n < length places
      → IsThread (ns ++ n ∷ []) (ps ++ p ∷ [])
      (slice_set places n (option_or (get_or places n None) (Some (length ps))))
  more_items t within = record { many = many; each = each; within = inside }
    where
      now : List (Option ℕ)
      now = slice_set places n (option_or (get_or places n None) (Some (length ps)))

      long : length now ≡ length places
      long = length-set places n _

      many : length (ps ++ p ∷ []) ≡ length (ns ++ n ∷ [])
      many = length-append ps (p ∷ []) ∙ ap (λ k. k + 1) t.many ∙ sym (length-append ns (n ∷ []))

      each : (m : ℕ) → m < length now → get_or now m None ≡ number_among (ns ++ n ∷ []) m
      each m h =
          elim (cases_eq n m) [
            | inl e ↦
                get_at m (sym e)
                ∙ ap (λ o. option_or o (Some (length ps))) (t.each n within)
                ∙ ap (λ k. option_or (number_among ns n) (Some k)) t.many
                ∙ sym (among_pushed ns n)
                ∙ ap (λ x. number_among (ns ++ n ∷ []) x) e
            | inr ne ↦
                get_or-set_other places n m _ None (λ e. ne (sym e))
                ∙ t.each m (subst (λ k. m < k) long h)
                ∙ sym (among_other ns n m ne)
          ]
        where
          get_at : (m : ℕ) → m ≡ n → get_or now m None ≡ option_or (get_or places n None)
              (Some (length ps))
          get_at m e = ap (λ k. get_or now k None) e ∙ get_or-set_same places n _ None within

      inside : (i : ℕ) → i < length (ns ++ n ∷ []) → get_or (ns ++ n ∷ []) i 0 < length now
      inside i h =
          elim (cases_eq i (length ns)) [
            | inl e ↦
                let is : get_or (ns ++ n ∷ []) i 0 ≡ n = ap (λ k. get_or (ns ++ n ∷ []) k 0) e
                ∙ get_or-append_seam ns n [] 0 in
                omega (arith, is, within, long)
            | inr ne ↦
                let one_more : length (ns ++ n ∷ []) ≡ length ns + 1 = length-append ns (n ∷ []) in
                let less : i < length ns = grind (arith, h, ne, one_more) in
                let is : get_or (ns ++ n ∷ []) i 0 ≡ get_or ns i 0 =
                get_or_append_left ns (n ∷ []) 0 i less in
                let old : get_or ns i 0 < length places = t.within i less in
                omega (arith, is, old, long)
          ]

-- the same by what the calls say that add it
pub added_item : (ns ns' : List ℕ) (ps ps' places : List (Option ℕ)) (n number : ℕ)
    (p kept place : Option ℕ) → IsThread ns ps places → n < length places
    → ns' ≡ ns ++ n ∷ [] → ps' ≡ ps ++ p ∷ [] → kept ≡ get_or places n kept
    → place ≡ option_or kept (Some number) → number ≡ length ps
    → IsThread ns' ps' (slice_set places n place)
added_item ns ns' ps ps' places n number p kept place t within pushed added was is numbered =
    let kept_is : kept ≡ get_or places n None = was ∙ get_or_default places n kept None within in
    let place_is : place ≡ option_or (get_or places n None) (Some (length ps)) =
    is ∙ ap (λ o. option_or o (Some number)) kept_is
    ∙ ap (λ k. option_or (get_or places n None) (Some k)) numbered in
    subst (λ x. IsThread ns' ps' (slice_set places n x)) (sym place_is)
    (subst (λ x. IsThread ns' x
    (slice_set places n (option_or (get_or places n None) (Some (length ps))))) (sym added)
    (subst (λ x. IsThread x (ps ++ p ∷ [])
    (slice_set places n (option_or (get_or places n None) (Some (length ps))))) (sym pushed)
    (more_items ns ps places n p t within)))
