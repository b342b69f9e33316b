-- What a change of the table of what is due makes of the facts.
use Rattle.std.proofs.Common.{◌≡◌, ℕ, zero, suc, ◌<◌, ◌≤◌, Bool, true, false, cond, ◌&&◌, nat_eq, List, [], ◌∷◌, length, Option, None, Some, slice_get, slice_index_or, refl, sym, ◌∙◌, ap, arith, eqb-true}
use Rattle.std.specs.FinMap as fin_map
use Rattle.std.proofs.lemmas.Bool.{false≢true}
use Rattle.sync_rules.specs.Lists.{same_id}
use Rattle.sync_rules.specs.Facts.{Held, Id, Row, change_row, row_at}
use Rattle.sync_rules.specs.Views.{place_of, IsFound}
use Rattle.retry_table.specs.Table as retry
use Rattle.journal_state.specs.Parts.{Parts, facts_of, rows_in, wants_in}
use Rattle.journal_state.specs.Whole.{IsState}
use Rattle.sync_rules.proofs.Elements.{same_id-is, same_id_itself}
use Rattle.sync_rules.proofs.PlaceLaws.{place_found}
use Rattle.sync_rules.proofs.RowLaws.{row_at_put}
use Rattle.journal_state.proofs.Pairs.{lean_put}
use Rattle.journal_state.proofs.Rows.{row_by, row_found, rows_are, lean_in}
use Rattle.journal_state.proofs.Seen.{row_there}
use Rattle.journal_state.proofs.Tables.{SameKept, either, kept_here, kept_there}

-- ---- maps by their rows

row_same : (t u : retry.Table) (contact : ℕ) → ((n : ℕ) → (retry.kept_at t contact n).row ≡ (retry.kept_at u contact n).row) → (o : Option ℕ)
    → row_by (retry.rows_of t contact) o ≡ row_by (retry.rows_of u contact) o
row_same t u contact same None = refl
row_same t u contact same (Some n) = same n

pub rows_same : (t u : retry.Table) (held : List Held) → ((contact n : ℕ) → (retry.kept_at t contact n).row ≡ (retry.kept_at u contact n).row) → rows_in t held ≡ rows_in u held
rows_same t u held same =
    rows_are t held (rows_in u held) (lean_in u held) (λ contact id. row_same t u contact (same contact) (place_of held id) ∙ sym (row_found u held contact id))

pub wants_same : (t u : retry.Table) (contacts : ℕ) → ((contact : ℕ) → (retry.wants_of t contact).ids ≡ (retry.wants_of u contact).ids) → wants_in t contacts ≡ wants_in u contacts
wants_same t u zero same = refl
wants_same t u (suc k) same = λ i. fin_map.insert (wants_same t u k same i) k (same k i)

-- ---- a table that says the same of readiness

module _ (p : Parts) (s : IsState p) (t : retry.Table) (space : ℕ) where
  pub with_table : ((contact n : ℕ) → (retry.kept_at t contact n).ready ≡ (retry.kept_at p.retry contact n).ready)
      → ((contact n : ℕ) → length p.held ≤ n → retry.kept_at t contact n ≡ retry.no_kept)
      → ((contact : ℕ) → p.table.contacts ≤ contact → (retry.wants_of t contact).ids ≡ [])
      → ((n : ℕ) → retry.group_at t n ≡ retry.group_at p.retry n)
      → IsState (record p { retry = t; space = space })
  with_table ready rows wants groups = record {
    named = s.named;
    grouped = s.grouped;
    distinct = s.distinct;
    each_share = s.each_share;
    order = s.order;
    within = s.within;
    ended = s.ended;
    many = s.many;
    free_rows = rows;
    free_wants = wants;
    hidden = s.hidden;
    shown = s.shown;
    released = λ n h node at here. groups n ∙ s.released n h node at here;
    unreleased = λ n beyond. groups n ∙ s.unreleased n beyond;
    ready = λ contact n h known at. ready contact n ∙ s.ready contact n h known at;
  }

  pub same_state : SameKept p.retry t → IsState (record p { retry = t; space = space })
  same_state k = with_table (λ contact n. ap (λ (x : retry.KeptRow). x.ready) (k.rows contact n))
      (λ contact n beyond. k.rows contact n ∙ s.free_rows contact n beyond)
      (λ contact beyond. k.wants contact ∙ s.free_wants contact beyond) k.groups

  pub same_facts : SameKept p.retry t → facts_of (record p { retry = t; space = space }) ≡ facts_of p
  same_facts k = λ i. record (facts_of p) {
    rows = rows_same t p.retry p.held (λ contact n. ap (λ (x : retry.KeptRow). x.row) (k.rows contact n)) i;
    wanted = wants_same t p.retry p.table.contacts k.wants i;
  }

-- ---- one row changed

and_no : (b : Bool) → (b && false) ≡ false
and_no true = refl
and_no false = refl

pub within_held : {A : Type 0} (xs : List A) (n : ℕ) (x : A) → slice_get xs n ≡ Some x → n < length xs
within_held [] n x at = absurd (let e : None ≡ Some x = at in cc)
within_held (y ∷ xs) zero x at = omega arith
within_held (y ∷ xs) (suc n) x at = let later = within_held xs n x at in omega (arith, later)

module _ (p : Parts) (s : IsState p) (contact n : ℕ) (h : Held) (at : slice_get p.held n ≡ Some h) (change : Row → Row) (t : retry.Table)
    (k : retry.KeepsRow p.retry t contact n (retry.with_row change (retry.kept_at p.retry contact n))) (within : n < length (retry.rows_of p.retry contact)) where
  own_row : (c : ℕ) → (retry.kept_at t c n).row ≡ cond (nat_eq c contact && true) (change (row_at (rows_in p.retry p.held) contact h.id)) (row_at (rows_in p.retry p.held) c h.id)
  own_row c =
      elim (nat_eq c contact) as (λ b. nat_eq c contact ≡ b → (retry.kept_at t c n).row ≡ cond (b && true) (change (row_at (rows_in p.retry p.held) contact h.id)) (row_at (rows_in p.retry p.held) c h.id)) [
        | true ↦ λ e.
            ap (λ x. (retry.kept_at t x n).row) (eqb-true c contact e)
            ∙ (ap (λ (x : retry.KeptRow). x.row) (kept_here p.retry t contact n (retry.with_row change (retry.kept_at p.retry contact n)) k within)
            ∙ ap change (sym (row_there p s contact n h at)))
        | false ↦ λ e.
            ap (λ (x : retry.KeptRow). x.row) (kept_there p.retry t contact n (retry.with_row change (retry.kept_at p.retry contact n)) k c n
            (λ same q. false≢true (sym e ∙ (ap (λ x. nat_eq x contact) same ∙ grind arith))))
            ∙ sym (row_there p s c n h at)
      ] refl

  other_row : (c : ℕ) (id : Id) → same_id h.id id ≡ false → (o : Option ℕ) → IsFound p.held id o → row_by (retry.rows_of t c) o ≡ row_by (retry.rows_of p.retry c) o
  other_row c id away None found = refl
  other_row c id away (Some m) found =
      ap (λ (x : retry.KeptRow). x.row) (kept_there p.retry t contact n (retry.with_row change (retry.kept_at p.retry contact n)) k c m
      (λ same q. false≢true
      (sym away
      ∙ (ap (λ (x : Id). same_id h.id x)
      (sym found.named
      ∙ ap (λ (x : Held). x.id)
      (let both : Some found.message ≡ Some h = sym found.stands
      ∙ (ap (slice_get p.held) q ∙ at) in (let one : found.message ≡ h = cc in one)))
      ∙ same_id_itself h.id))))

  each_row : (c : ℕ) (id : Id) → row_by (retry.rows_of t c) (place_of p.held id) ≡ row_at (change_row (rows_in p.retry p.held) contact h.id change) c id
  each_row c id =
      by (same_id h.id id) refl ∙ sym (row_at_put (rows_in p.retry p.held) c contact id h.id (change (row_at (rows_in p.retry p.held) contact h.id)))
    where
      by : (b : Bool) → same_id h.id id ≡ b
          → row_by (retry.rows_of t c) (place_of p.held id) ≡ cond (nat_eq c contact && same_id h.id id) (change (row_at (rows_in p.retry p.held) contact h.id)) (row_at (rows_in p.retry p.held) c id)
      by true e =
          let is : h.id ≡ id = same_id-is h.id id e in
          ap (row_by (retry.rows_of t c)) (ap (place_of p.held) (sym is) ∙ s.distinct n h at)
          ∙ (own_row c
          ∙ ((λ i. cond (nat_eq c contact && sym e i) (change (row_at (rows_in p.retry p.held) contact h.id)) (row_at (rows_in p.retry p.held) c (is i)))))
      by false e =
          other_row c id e (place_of p.held id) (place_found p.held id)
          ∙ (sym (row_found p.retry p.held c id)
          ∙ sym ((λ i. cond (nat_eq c contact && e i) (change (row_at (rows_in p.retry p.held) contact h.id)) (row_at (rows_in p.retry p.held) c id))
          ∙ ap (λ b. cond b (change (row_at (rows_in p.retry p.held) contact h.id)) (row_at (rows_in p.retry p.held) c id)) (and_no (nat_eq c contact))))

  pub marked_rows : rows_in t p.held ≡ change_row (rows_in p.retry p.held) contact h.id change
  marked_rows = rows_are t p.held (change_row (rows_in p.retry p.held) contact h.id change)
      (lean_put (rows_in p.retry p.held) (contact, h.id) (change (row_at (rows_in p.retry p.held) contact h.id)) (lean_in p.retry p.held)) each_row

  same_wants : (c : ℕ) → (retry.wants_of t c).ids ≡ (retry.wants_of p.retry c).ids
  same_wants c = ap (λ (ws : List retry.WantedFromContact). (retry.wants_of (record p.retry { wants = ws }) c).ids) k.wants

  same_ready : (c m : ℕ) → (retry.kept_at t c m).ready ≡ (retry.kept_at p.retry c m).ready
  same_ready c m = either c contact
      (λ e. either m n
      (λ q. (λ i. (retry.kept_at t (e i) (q i)).ready)
      ∙ (ap (λ (x : retry.KeptRow). x.ready) (kept_here p.retry t contact n (retry.with_row change (retry.kept_at p.retry contact n)) k within)
      ∙ sym (λ i. (retry.kept_at p.retry (e i) (q i)).ready)))
      (λ away. ap (λ (x : retry.KeptRow). x.ready) (kept_there p.retry t contact n (retry.with_row change (retry.kept_at p.retry contact n)) k c m (λ same q. away q))))
      (λ away. ap (λ (x : retry.KeptRow). x.ready) (kept_there p.retry t contact n (retry.with_row change (retry.kept_at p.retry contact n)) k c m (λ same q. away same)))

  free_still : (c m : ℕ) → length p.held ≤ m → retry.kept_at t c m ≡ retry.no_kept
  free_still c m beyond =
      let inside : n < length p.held = within_held p.held n h at in
      kept_there p.retry t contact n (retry.with_row change (retry.kept_at p.retry contact n)) k c m (λ same q. omega (arith, inside)) ∙ s.free_rows c m beyond

  pub marked_state : IsState (record p { retry = t })
  marked_state = with_table p s t p.space same_ready free_still (λ c beyond. same_wants c ∙ s.free_wants c beyond)
      (λ m. ap (λ (gs : List (Option ℕ)). slice_index_or gs m None) k.groups)

  pub marked_facts : facts_of (record p { retry = t }) ≡ record (facts_of p) { rows = change_row (rows_in p.retry p.held) contact h.id change }
  marked_facts = λ i. record (facts_of p) { rows = marked_rows i; wanted = wants_same t p.retry p.table.contacts same_wants i }
