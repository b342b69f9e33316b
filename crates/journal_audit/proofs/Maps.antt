-- Entries in the order of their keys as a map from keys to values.
use Rattle.std.proofs.Common.{◌≡◌, ℕ, cond, ◌⊎◌, List, [], ◌∷◌, Some, None, refl, sym, ◌∙◌, ap, subst, inl, inr}
use Rattle.std.specs.FinMap as fin_map
use Rattle.std.specs.Cmp.{IsTotalOrder, eq_by_cmp_equiv}
use Rattle.std.specs.Ordering.{eq_by_cmp, is_eq, nat_cmp, ordering_then}
use Rattle.std.specs.Map.{lookup}
use Rattle.std.specs.declared.cmp.Ordering.{Ordering}
use Rattle.std.specs.declared.cmp.Ordering.TheVariants.{Less, Equal, Greater}
use Rattle.sync_rules.specs.declared.entries.Level.{Level}
use Rattle.sync_rules.specs.declared.entries.Level.TheVariants as level
use Rattle.sync_rules.specs.Facts.{Id, LevelMap, Pair, id_cmp, pair_cmp, put_level}

-- pairs that tie are equal
tied_parts : (a b : ℕ) (x y : Id) → ordering_then (nat_cmp a b) (id_cmp x y) ≡ Equal → ◌≡◌ {A = Pair} (a, x) (b, y)
tied_parts a b x y =
    elim (nat_cmp a b) as (λ r. nat_cmp a b ≡ r → ordering_then r (id_cmp x y) ≡ Equal → ◌≡◌ {A = Pair} (a, x) (b, y)) [
      | Less ↦ λ p e. cc
      | Equal ↦ λ p e i. (fin_map.nat_cmp-IsAntisymmetric a b p i, fin_map.slice_cmp-IsAntisymmetric fin_map.nat_cmp-IsAntisymmetric x y e i)
      | Greater ↦ λ p e. cc
    ] refl

pub pair_same : fin_map.IsAntisymmetric pair_cmp
pair_same a b e = tied_parts a.0 b.0 a.1 b.1 e

module _ {K X : Type 0} {R : K → K → Ordering} (o : IsTotalOrder R) where
  find-lookup : (q : K) (es : List (K × X)) → fin_map.find R q es ≡ lookup (λ k. is_eq (R q k)) es
  find-lookup q [] = refl
  find-lookup q (e ∷ es) = ap (cond (eq_by_cmp R q e.0) (Some e.1)) (find-lookup q es)

  -- what a key finds
  pub got : (es : List (K × X)) (q : K) → fin_map.get (fin_map.from_entries {R = R} es) q ≡ lookup (λ k. is_eq (R q k)) es
  got es q = fin_map.get-from_entries o es q ∙ find-lookup q es

  -- one entry put in
  pub map_put : fin_map.IsAntisymmetric R → (es new : List (K × X)) (k : K) (v : X)
      → ((q : K) → lookup (λ x. is_eq (R q x)) new ≡ cond (is_eq (R k q)) (Some v) (lookup (λ x. is_eq (R q x)) es))
      → fin_map.from_entries {R = R} new ≡ fin_map.insert (fin_map.from_entries es) k v
  map_put same es new k v put =
      fin_map.same_map o same _ _ (λ q. got new q ∙ put q
      ∙ sym (fin_map.get-insert o (fin_map.from_entries es) k v q ∙ (λ i. cond ((eq_by_cmp_equiv o).symm q k i) (Some v) (got es q i))))

  -- and taken out
  pub map_drop : fin_map.IsAntisymmetric R → (es new : List (K × X)) (k : K)
      → ((q : K) → lookup (λ x. is_eq (R q x)) new ≡ cond (is_eq (R k q)) None (lookup (λ x. is_eq (R q x)) es))
      → fin_map.from_entries {R = R} new ≡ fin_map.remove (fin_map.from_entries es) k
  map_drop same es new k drop =
      fin_map.same_map o same _ _ (λ q. got new q ∙ drop q
      ∙ sym (fin_map.get-remove o (fin_map.from_entries es) k q ∙ (λ i. cond ((eq_by_cmp_equiv o).symm q k i) None (got es q i))))

-- a level that is not Invisible is put in
pub level_put : (levels : LevelMap) (pair : Pair) (l : Level) → (l ≡ level.Visible) ⊎ (l ≡ level.Shared) → fin_map.insert levels pair l ≡ put_level levels pair l
level_put levels pair l (inl e) = subst (λ x. fin_map.insert levels pair x ≡ put_level levels pair x) (sym e) refl
level_put levels pair l (inr e) = subst (λ x. fin_map.insert levels pair x ≡ put_level levels pair x) (sym e) refl
