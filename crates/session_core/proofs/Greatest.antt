-- The first greatest of the nonces that were looked at.
use Rattle.std.proofs.Common.{◌≡◌, ◌≢◌, ℕ, ◌+◌, ◌<◌, Bool, true, false, List, length, sym, ap, ◌∙◌, refl, below_more, true≢false, get_or, []}
use Rattle.std.proofs.lemmas.List.{get_or_default}
use Rattle.std.proofs.lemmas.Cmp.{nat_list_cmp_total, tied_itself}
use Rattle.std.specs.Cmp.Lexicographic.{slice_cmp, slice_partial_cmp, lists_agrees}
use Rattle.std.specs.Ordering.{nat_cmp, is_gt, is_some_and, ordering_reverse, partial_gt}
use Rattle.std.specs.Prelude.{Some}
use Rattle.std.specs.declared.cmp.Ordering.{Ordering}
use Rattle.std.specs.declared.cmp.Ordering.TheVariants as ordering
use Rattle.session_core.specs.Links.{compared}

-- of the nonces before `end` none is greater than the kept one, and those before the kept one are less
pub record IsBest (nonces : List (List ℕ)) (end kept : ℕ) : Type 0 where
  pub within : kept < length nonces
  pub greatest : (other : ℕ) → other < end → compared nonces other kept ≢ ordering.Greater
  pub first : (other : ℕ) → other < kept → compared nonces other kept ≡ ordering.Less

less≢greater : ordering.Less ≢ ordering.Greater
less≢greater e = true≢false (sym (ap is_gt e))

equal≢greater : ordering.Equal ≢ ordering.Greater
equal≢greater e = true≢false (sym (ap is_gt e))

module _ (nonces : List (List ℕ)) (end kept : ℕ) (best : IsBest nonces end kept) where
  -- the next one is not greater
  pub best_stays : compared nonces end kept ≢ ordering.Greater → IsBest nonces (end + 1) kept
  best_stays here = record {
    within = best.within;
    greatest = below_more (λ other. compared nonces other kept ≢ ordering.Greater) end best.greatest here;
    first = best.first;
  }

  -- those before a greater one are less than it
  below_greater : compared nonces end kept ≡ ordering.Greater → (other : ℕ) → other < end → compared nonces other end ≡ ordering.Less
  below_greater greater other earlier = by (compared nonces other kept) refl (best.greatest other earlier)
    where
      nonce : ℕ → List ℕ
      nonce place = get_or nonces place []

      above : compared nonces kept end ≡ ordering.Less
      above = nat_list_cmp_total.antisymm (nonce kept) (nonce end) ∙ ap ordering_reverse greater

      by : (o : Ordering) → compared nonces other kept ≡ o → o ≢ ordering.Greater → compared nonces other end ≡ ordering.Less
      by ordering.Less e h = nat_list_cmp_total.trans (nonce other) (nonce kept) (nonce end) e above
      by ordering.Equal e h = nat_list_cmp_total.congr (nonce other) (nonce kept) (nonce end) e ∙ above
      by ordering.Greater e h = absurd (h refl)

  -- the next one is greater
  pub best_moves : end < length nonces → compared nonces end kept ≡ ordering.Greater → IsBest nonces (end + 1) end
  best_moves within greater = record {
    within = within;
    greatest =
        below_more (λ other. compared nonces other end ≢ ordering.Greater) end
        (λ other earlier e. less≢greater (sym (below_greater greater other earlier) ∙ e))
        (λ e. equal≢greater (sym (tied_itself nat_list_cmp_total (get_or nonces end [])) ∙ e));
    first = below_greater greater;
  }

  -- what the test of the next one and the kept one tells
  told : (a b : List ℕ) (r : Bool) → end < length nonces → a ≡ get_or nonces end a → b ≡ get_or nonces kept b
      → r ≡ partial_gt (slice_partial_cmp (λ x y. Some (nat_cmp x y))) a b → is_gt (compared nonces end kept) ≡ r
  told a b r within first second test =
      (λ i. is_gt (slice_cmp nat_cmp (at_first i) (at_second i)))
      ∙ sym (test ∙ ap (is_some_and is_gt) (lists_agrees {R = nat_cmp} {C = λ x y. Some (nat_cmp x y)} (λ x y. refl) a b))
    where
      at_first : get_or nonces end [] ≡ a
      at_first = sym (first ∙ get_or_default nonces end a [] within)

      at_second : get_or nonces kept [] ≡ b
      at_second = sym (second ∙ get_or_default nonces kept b [] best.within)

  greater_told : (o : Ordering) → is_gt o ≡ true → o ≡ ordering.Greater
  greater_told ordering.Less e = absurd (true≢false (sym e))
  greater_told ordering.Equal e = absurd (true≢false (sym e))
  greater_told ordering.Greater e = refl

  -- the step, where the test of the next one and the kept one is true, and where it is false
  pub next_greater : (a b : List ℕ) → end < length nonces → a ≡ get_or nonces end a → b ≡ get_or nonces kept b
      → true ≡ partial_gt (slice_partial_cmp (λ x y. Some (nat_cmp x y))) a b → IsBest nonces (end + 1) end
  next_greater a b within first second test =
      best_moves within (greater_told (compared nonces end kept) (told a b true within first second test))

  pub next_not : (a b : List ℕ) → end < length nonces → a ≡ get_or nonces end a → b ≡ get_or nonces kept b
      → false ≡ partial_gt (slice_partial_cmp (λ x y. Some (nat_cmp x y))) a b → IsBest nonces (end + 1) kept
  next_not a b within first second test =
      best_stays (λ e. true≢false (sym (ap is_gt e) ∙ told a b false within first second test))
