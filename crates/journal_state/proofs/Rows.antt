-- The rows that the table of what is due stands for.
use Rattle.std.proofs.Common.{◌≡◌, ℕ, zero, suc, ◌+◌, ◌<◌, Bool, true, false, cond, ◌&&◌, nat_eq, List, [], ◌∷◌, Option, Some, None, slice_index_or, refl, sym, ◌∙◌, ap, arith, eqb-true}
use Rattle.std.specs.Option.{option_map}
use Rattle.sync_rules.specs.Lists.{same_id}
use Rattle.sync_rules.specs.Facts.{Id, Held, Row, Rows, no_row, row_at}
use Rattle.sync_rules.specs.Views.{place_of}
use Rattle.retry_table.specs.Table as retry
use Rattle.journal_state.specs.Parts.{put_rows, rows_from, rows_in}
use Rattle.sync_rules.proofs.RowLaws.{row_at_put}
use Rattle.journal_state.proofs.Pairs.{row_at_empty, IsLean, lean_empty, lean_put, same_rows}

-- the row of the message of a place
abbrev pub row_by : List retry.KeptRow → Option ℕ → Row
row_by kept None = no_row
row_by kept (Some n) = (retry.kept_in kept n).row

-- ---- one contact

eq_self : (n : ℕ) → nat_eq n n ≡ true
eq_self n = grind arith

later_row : (k : retry.KeptRow) (ks : List retry.KeptRow) (o : Option ℕ) → row_by ks o ≡ row_by (k ∷ ks) (option_map suc o)
later_row k ks None = refl
later_row k ks (Some n) = refl

no_kept_row : (o : Option ℕ) → no_row ≡ row_by [] o
no_kept_row None = refl
no_kept_row (Some n) = refl

pub own_rows : (contact : ℕ) (ks : List retry.KeptRow) (held : List Held) (rows : Rows) (id : Id) → row_at rows contact id ≡ no_row
    → row_at (put_rows contact ks held rows) contact id ≡ row_by ks (place_of held id)
own_rows contact [] held rows id none = none ∙ no_kept_row (place_of held id)
own_rows contact (k ∷ ks) [] rows id none = none
own_rows contact (k ∷ ks) (h ∷ hs) rows id none =
    row_at_put (put_rows contact ks hs rows) contact contact id h.id k.row
    ∙ (ap (λ b. cond (b && same_id h.id id) k.row (row_at (put_rows contact ks hs rows) contact id)) (eq_self contact)
    ∙ elim (same_id h.id id) as (λ b. cond b k.row (row_at (put_rows contact ks hs rows) contact id) ≡ row_by (k ∷ ks) (cond b (Some 0) (option_map suc (place_of hs id)))) [
      | true ↦ refl
      | false ↦ own_rows contact ks hs rows id none ∙ later_row k ks (place_of hs id)
    ])

apart_row : (a b : ℕ) (t : Bool) (r w : Row) → (a ≡ b → ⊥) → cond (nat_eq a b && t) r w ≡ w
apart_row a b t r w apart =
    elim (nat_eq a b) as (λ x. nat_eq a b ≡ x → cond (x && t) r w ≡ w) [
      | true ↦ λ e. absurd (apart (eqb-true a b e))
      | false ↦ λ e. refl
    ] refl

pub other_rows : (contact c : ℕ) (ks : List retry.KeptRow) (held : List Held) (rows : Rows) (id : Id) → (contact ≡ c → ⊥)
    → row_at (put_rows c ks held rows) contact id ≡ row_at rows contact id
other_rows contact c [] held rows id apart = refl
other_rows contact c (k ∷ ks) [] rows id apart = refl
other_rows contact c (k ∷ ks) (h ∷ hs) rows id apart =
    row_at_put (put_rows c ks hs rows) contact c id h.id k.row
    ∙ (apart_row contact c (same_id h.id id) k.row (row_at (put_rows c ks hs rows) contact id) apart ∙ other_rows contact c ks hs rows id apart)

lean_rows : (contact : ℕ) (ks : List retry.KeptRow) (held : List Held) (rows : Rows) → IsLean rows → IsLean (put_rows contact ks held rows)
lean_rows contact [] held rows lean = lean
lean_rows contact (k ∷ ks) [] rows lean = lean
lean_rows contact (k ∷ ks) (h ∷ hs) rows lean = lean_put (put_rows contact ks hs rows) (contact, h.id) k.row (lean_rows contact ks hs rows lean)

-- ---- all contacts

none_below : (first : ℕ) (each : List (List retry.KeptRow)) (held : List Held) (contact : ℕ) (id : Id) → contact < first → row_at (rows_from first each held) contact id ≡ no_row
none_below first [] held contact id below = row_at_empty contact id
none_below first (ks ∷ each) held contact id below =
    other_rows contact first ks held (rows_from (first + 1) each held) id (λ e. omega arith) ∙ none_below (first + 1) each held contact id (omega arith)

rows_at : (first n : ℕ) (each : List (List retry.KeptRow)) (held : List Held) (id : Id)
    → row_at (rows_from first each held) (first + n) id ≡ row_by (slice_index_or each n []) (place_of held id)
rows_at first n [] held id = row_at_empty (first + n) id ∙ no_kept_row (place_of held id)
rows_at first zero (ks ∷ each) held id =
    let here : first + 0 ≡ first = omega arith in
    ap (λ c. row_at (rows_from first (ks ∷ each) held) c id) here
    ∙ own_rows first ks held (rows_from (first + 1) each held) id (none_below (first + 1) each held first id (omega arith))
rows_at first (suc n) (ks ∷ each) held id =
    let next : first + suc n ≡ (first + 1) + n = omega arith in
    other_rows (first + suc n) first ks held (rows_from (first + 1) each held) id (λ e. omega arith)
    ∙ (ap (λ c. row_at (rows_from (first + 1) each held) c id) next ∙ rows_at (first + 1) n each held id)

-- the row of a contact and an id is that of the place of its message
pub row_found : (table : retry.Table) (held : List Held) (contact : ℕ) (id : Id)
    → row_at (rows_in table held) contact id ≡ row_by (retry.rows_of table contact) (place_of held id)
row_found table held contact id =
    let all : 0 + contact ≡ contact = omega arith in
    ap (λ c. row_at (rows_in table held) c id) (sym all) ∙ rows_at 0 contact table.rows held id

lean_from : (first : ℕ) (each : List (List retry.KeptRow)) (held : List Held) → IsLean (rows_from first each held)
lean_from first [] held = lean_empty
lean_from first (ks ∷ each) held = lean_rows first ks held (rows_from (first + 1) each held) (lean_from (first + 1) each held)

pub lean_in : (table : retry.Table) (held : List Held) → IsLean (rows_in table held)
lean_in table held = lean_from 0 table.rows held

-- what has the same rows is the same map
pub rows_are : (table : retry.Table) (held : List Held) (rows : Rows) → IsLean rows
    → ((contact : ℕ) (id : Id) → row_by (retry.rows_of table contact) (place_of held id) ≡ row_at rows contact id) → rows_in table held ≡ rows
rows_are table held rows lean each =
    same_rows (rows_in table held) rows (lean_in table held) lean (λ contact id. row_found table held contact id ∙ each contact id)
