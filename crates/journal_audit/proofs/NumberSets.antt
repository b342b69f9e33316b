-- An ordered set of numbers as a set.
use Rattle.std.proofs.Common.{◌≡◌, ℕ, Bool, cond, ◌||◌, List, [], ◌∷◌, refl, sym, ◌∙◌, nat_eq}
use Rattle.std.specs.List.{list_any}
use Rattle.std.specs.Ordering.{is_eq, nat_cmp}
use Rattle.std.specs.Cmp.{nat_eq_equiv, unsigned_tied}
use Rattle.journal_audit.specs.Numbers.{has}

pub at_number : (k n : ℕ) → is_eq (nat_cmp k n) ≡ nat_eq n k
at_number k n = unsigned_tied k n ∙ nat_eq_equiv.symm k n

-- a set asks by the order
pub has-is : (ns : List ℕ) (n : ℕ) → list_any (λ k. is_eq (nat_cmp n k)) ns ≡ has ns n
has-is [] n = refl
has-is (x ∷ xs) n = λ i. at_number n x i || has-is xs n i

-- one number put in or taken out
pub has_put : (old new : List ℕ) (k : ℕ) (b : Bool)
    → ((q : ℕ) → list_any (λ x. is_eq (nat_cmp q x)) new ≡ cond (is_eq (nat_cmp k q)) b (list_any (λ x. is_eq (nat_cmp q x)) old))
    → (n : ℕ) → has new n ≡ cond (nat_eq n k) b (has old n)
has_put old new k b put n = sym (has-is new n) ∙ put n ∙ (λ i. cond (at_number k n i) b (has-is old n i))
