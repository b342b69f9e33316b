-- Levels kept as a list of pairs with their levels are a map from pairs to levels.
use Rattle.std.proofs.Common.{◌≡◌, ℕ, Bool, cond, ◌&&◌, nat_eq, List, [], ◌∷◌, Some, None, refl}
use Rattle.std.proofs.Common.{sym, ◌∙◌, ap, Option, unwrap_or}
use Rattle.std.specs.FinMap as fin_map
use Rattle.std.specs.Cmp.{IsTotalOrder, nat_cmp_total, unsigned_ties, both_tied, eq_by_cmp_equiv}
use Rattle.std.specs.Cmp.Lexicographic.{slice_cmp, nat_list_cmp_total, texts_ties}
use Rattle.std.specs.Ordering.{nat_cmp, eq_by_cmp, ordering_then}
use Rattle.std.specs.Map.{lookup}
use Rattle.std.specs.declared.cmp.Ordering.TheVariants.{Less, Equal, Greater}
use Rattle.std.proofs.lemmas.Cmp.{on_total, then_total}
use Rattle.sync_rules.specs.declared.entries.Level.TheVariants as level
use Rattle.sync_rules.specs.declared.entries.Level.{Level}
use Rattle.sync_rules.specs.Lists.{same_id}
use Rattle.sync_rules.specs.Facts.{Id, Pair, LevelMap, pair_cmp, id_cmp, level_at}

-- whether two pairs are the same
abbrev pub same_pair : Pair → Pair → Bool
same_pair a b = nat_eq a.0 b.0 && same_id a.1 b.1

pair_total : IsTotalOrder pair_cmp
pair_total = then_total (on_total (λ (p : Pair). p.0) nat_cmp_total) (on_total (λ (p : Pair). p.1) nat_list_cmp_total)

pair_tied : (a b : Pair) → eq_by_cmp pair_cmp a b ≡ same_pair a b
pair_tied a b = sym (both_tied (nat_eq a.0 b.0) (same_id a.1 b.1) (nat_cmp a.0 b.0) (slice_cmp nat_cmp a.1 b.1) (unsigned_ties a.0 b.0) (texts_ties a.1 b.1))

pair_swap : (a b : Pair) → eq_by_cmp pair_cmp a b ≡ same_pair b a
pair_swap a b = (eq_by_cmp_equiv pair_total).symm a b ∙ pair_tied b a

tied_parts : (a b : ℕ) (x y : Id) → ordering_then (nat_cmp a b) (id_cmp x y) ≡ Equal → ◌≡◌ {A = Pair} (a, x) (b, y)
tied_parts a b x y =
    elim (nat_cmp a b) as (λ r. nat_cmp a b ≡ r → ordering_then r (id_cmp x y) ≡ Equal → ◌≡◌ {A = Pair} (a, x) (b, y)) [
      | Less ↦ λ p e. cc
      | Equal ↦ λ p e i. (fin_map.nat_cmp-IsAntisymmetric a b p i, fin_map.slice_cmp-IsAntisymmetric fin_map.nat_cmp-IsAntisymmetric x y e i)
      | Greater ↦ λ p e. cc
    ] refl

pair_same : fin_map.IsAntisymmetric pair_cmp
pair_same a b e = tied_parts a.0 b.0 a.1 b.1 e

find-lookup : (q : Pair) (es : List (Pair × Level)) → fin_map.find pair_cmp q es ≡ lookup (same_pair q) es
find-lookup q [] = refl
find-lookup q (e ∷ es) = λ i. cond (pair_tied q e.0 i) (Some e.1) (find-lookup q es i)

-- the level of a pair is the one that is kept
pub kept_level : (es : List (Pair × Level)) (contact : ℕ) (group : Id)
    → level_at (fin_map.from_entries {R = pair_cmp} es) contact group
    ≡ unwrap_or (lookup (same_pair (contact, group)) es) level.Invisible
kept_level es contact group = ap (λ (o : Option Level). unwrap_or o level.Invisible)
    (fin_map.get-from_entries pair_total es (contact, group) ∙ find-lookup (contact, group) es)

got : (es : List (Pair × Level)) (q : Pair) → fin_map.get (fin_map.from_entries {R = pair_cmp} es) q ≡ lookup (same_pair q) es
got es q = fin_map.get-from_entries pair_total es q ∙ find-lookup q es

-- what is kept once one level is set
pub kept_put : (es new : List (Pair × Level)) (k : Pair) (l : Level)
    → ((q : Pair) → lookup (same_pair q) new ≡ cond (same_pair k q) (Some l) (lookup (same_pair q) es))
    → ◌≡◌ {A = LevelMap} (fin_map.from_entries new) (fin_map.insert (fin_map.from_entries es) k l)
kept_put es new k l h =
    fin_map.same_map pair_total pair_same _ _ (λ q. got new q ∙ h q ∙ sym (fin_map.get-insert pair_total (fin_map.from_entries es) k l q ∙ (λ i. cond (pair_swap q k i) (Some l) (got es q i))))

-- and once one is taken out
pub kept_drop : (es new : List (Pair × Level)) (k : Pair)
    → ((q : Pair) → lookup (same_pair q) new ≡ cond (same_pair k q) None (lookup (same_pair q) es))
    → ◌≡◌ {A = LevelMap} (fin_map.from_entries new) (fin_map.remove (fin_map.from_entries es) k)
kept_drop es new k h =
    fin_map.same_map pair_total pair_same _ _ (λ q. got new q ∙ h q ∙ sym (fin_map.get-remove pair_total (fin_map.from_entries es) k q ∙ (λ i. cond (pair_swap q k i) None (got es q i))))
