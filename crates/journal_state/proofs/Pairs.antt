-- Maps of contacts and ids: the row of each, and when two maps are one.
use Rattle.std.proofs.Common.{◌≡◌, ℕ, Bool, true, false, cond, Option, Some, None, refl, sym, ◌∙◌}
use Rattle.std.proofs.Common.{unwrap_or}
use Rattle.std.proofs.Common.{ap}
use Rattle.std.specs.FinMap as fin_map
use Rattle.std.specs.Ordering.{nat_cmp, eq_by_cmp, ordering_then}
use Rattle.std.specs.declared.cmp.Ordering.TheVariants.{Less, Equal, Greater}
use Rattle.std.proofs.lemmas.Bool.{false≢true}
use Rattle.sync_rules.specs.Facts.{Id, Pair, Row, Rows, pair_cmp, id_cmp, no_row, is_no_row, row_at}
use Rattle.sync_rules.specs.Facts.{put_row}
use Rattle.sync_rules.proofs.ScanLaws.{pair_total}

tied_parts : (a b : ℕ) (x y : Id) → ordering_then (nat_cmp a b) (id_cmp x y) ≡ Equal → ◌≡◌ {A = Pair} (a, x) (b, y)
tied_parts a b x y =
    elim (nat_cmp a b) as (λ r. nat_cmp a b ≡ r → ordering_then r (id_cmp x y) ≡ Equal → ◌≡◌ {A = Pair} (a, x) (b, y)) [
      | Less ↦ λ p e. cc
      | Equal ↦ λ p e i. (fin_map.nat_cmp-IsAntisymmetric a b p i, fin_map.slice_cmp-IsAntisymmetric fin_map.nat_cmp-IsAntisymmetric x y e i)
      | Greater ↦ λ p e. cc
    ] refl

pair_same : fin_map.IsAntisymmetric pair_cmp
pair_same a b e = tied_parts a.0 b.0 a.1 b.1 e

pub row_at_empty : (contact : ℕ) (id : Id) → row_at fin_map.empty contact id ≡ no_row
row_at_empty contact id = ap (λ (o : Option Row). unwrap_or o no_row)
    (fin_map.get-empty pair_cmp (contact, id))

-- ---- maps without empty rows

-- no row of the map is all false and zero
abbrev pub IsLean : Rows → Type 0
IsLean rows = (p : Pair) (r : Row) → fin_map.get rows p ≡ Some r → is_no_row r ≡ false

pub lean_empty : IsLean fin_map.empty
lean_empty p r e = let none : None ≡ Some r = sym (fin_map.get-empty pair_cmp p) ∙ e in cc

lean_dropped : (b : Bool) (o : Option Row) → ((r : Row) → o ≡ Some r → is_no_row r ≡ false) → (r : Row) → cond b None o ≡ Some r → is_no_row r ≡ false
lean_dropped true o was r e = cc
lean_dropped false o was r e = was r e

lean_chosen : (b : Bool) (w : Row) (o : Option Row) → is_no_row w ≡ false → ((r : Row) → o ≡ Some r → is_no_row r ≡ false) → (r : Row) → cond b (Some w) o ≡ Some r → is_no_row r ≡ false
lean_chosen true w o some was r e = let same : w ≡ r = cc in ap is_no_row (sym same) ∙ some
lean_chosen false w o some was r e = was r e

pub lean_put : (rows : Rows) (p : Pair) (w : Row) → IsLean rows → IsLean (put_row rows p w)
lean_put rows p w lean =
    elim (is_no_row w) as (λ b. is_no_row w ≡ b → IsLean (cond b (fin_map.remove rows p) (fin_map.insert rows p w))) [
      | true ↦ λ e q r h. lean_dropped (eq_by_cmp pair_cmp q p) (fin_map.get rows q) (lean q) r (sym (fin_map.get-remove pair_total rows p q) ∙ h)
      | false ↦ λ e q r h. lean_chosen (eq_by_cmp pair_cmp q p) w (fin_map.get rows q) e (lean q) r (sym (fin_map.get-insert pair_total rows p w q) ∙ h)
    ] refl

same_or : (a b : Option Row) → ((r : Row) → a ≡ Some r → is_no_row r ≡ false)
    → ((r : Row) → b ≡ Some r → is_no_row r ≡ false) → unwrap_or a no_row ≡ unwrap_or b no_row → a
    ≡ b
same_or None None p q e = refl
same_or (Some r) None p q e = absurd (false≢true (sym (p r refl) ∙ ap is_no_row e))
same_or None (Some r) p q e = absurd (false≢true (sym (q r refl) ∙ ap is_no_row (sym e)))
same_or (Some r) (Some s) p q e = ap Some e

-- two such maps with the same rows are one
pub same_rows : (m n : Rows) → IsLean m → IsLean n → ((contact : ℕ) (id : Id) → row_at m contact id ≡ row_at n contact id) → m ≡ n
same_rows m n p q each =
    fin_map.same_map pair_total pair_same m n (λ x. same_or (fin_map.get m x) (fin_map.get n x) (p x) (q x) (each x.0 x.1))
