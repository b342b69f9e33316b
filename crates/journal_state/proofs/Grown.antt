-- A table of what is due that keeps the same with more room.
use Rattle.std.proofs.Common.{◌≡◌, ◌≢◌, ℕ, zero, suc, ◌≤◌, Bool, true, false, nat_eq, List, [], ◌∷◌, ◌++◌, ◌-◌, Option, None, Some, Result, Ok, Err, OnOk, OnErr, length, replicate, slice_index_or, refl, sym, ◌∙◌, ap, subst, arith, eqb-true}
use Rattle.std.proofs.lemmas.List.{length-append}
use Rattle.std.specs.FinMap as fin_map
use Rattle.sync_rules.specs.Facts.{Held}
use Rattle.sync_rules.specs.Views.{place_of}
use Rattle.retry_table.specs.Table as retry
use Rattle.journal_state.specs.Parts.{Parts, facts_of, rows_in, wants_in}
use Rattle.journal_state.specs.Whole.{IsState}
use Rattle.journal_state.proofs.Tables.{padded}
use Rattle.journal_state.specs.Delivery.{GrowsRoom}
use Rattle.journal_state.proofs.Rows.{row_by, row_found, lean_in, rows_are}

-- ---- tables that stand for the same

by_place : (old new : retry.Table) (contact : ℕ) → ((n : ℕ) → (retry.kept_at new contact n).row ≡ (retry.kept_at old contact n).row) → (o : Option ℕ)
    → row_by (retry.rows_of new contact) o ≡ row_by (retry.rows_of old contact) o
by_place old new contact same None = refl
by_place old new contact same (Some n) = same n

-- tables with the same rows stand for the same map
pub rows_same : (old new : retry.Table) (held : List Held) → ((contact n : ℕ) → (retry.kept_at new contact n).row ≡ (retry.kept_at old contact n).row) → rows_in new held ≡ rows_in old held
rows_same old new held same =
    rows_are new held (rows_in old held) (lean_in old held)
    (λ contact id. by_place old new contact (same contact) (place_of held id) ∙ sym (row_found old held contact id))

-- tables with the same wanted ids stand for the same map
pub wants_same : (old new : retry.Table) → ((contact : ℕ) → (retry.wants_of new contact).ids ≡ (retry.wants_of old contact).ids) → (contacts : ℕ) → wants_in new contacts ≡ wants_in old contacts
wants_same old new same zero = refl
wants_same old new same (suc k) = λ i. fin_map.insert (wants_same old new same k i) k (same k i)

-- ---- what came of a call

pub either : {A E : Type 0} (r : Result A E) (P Q G : Type 0) → OnOk r P → OnErr r Q → (P → G) → (Q → G) → G
either (Ok x) P Q G ok err f g = f ok
either (Err x) P Q G ok err f g = g err

pub on_err : {A E : Type 0} (r : Result A E) (P : Type 0) → P → OnErr r P
on_err (Ok x) P h = tt
on_err (Err x) P h = h

-- ---- more room

none_more : (more n : ℕ) → slice_index_or (replicate more retry.no_kept) n retry.no_kept ≡ retry.no_kept
none_more zero n = refl
none_more (suc more) zero = refl
none_more (suc more) (suc n) = none_more more n

same_kept : (rows : List retry.KeptRow) (more n : ℕ) → slice_index_or (rows ++ replicate more retry.no_kept) n retry.no_kept ≡ slice_index_or rows n retry.no_kept
same_kept [] more n = none_more more n
same_kept (k ∷ rows) more zero = refl
same_kept (k ∷ rows) more (suc n) = same_kept rows more n

pub same_table : (t : retry.Table) → GrowsRoom t t
same_table t = record { kept = λ contact n. refl; wants = λ contact. refl; room = λ contact. omega arith; groups = λ n. refl }

-- room is made twice
pub grown_twice : (old mid new : retry.Table) → GrowsRoom old mid → GrowsRoom mid new → GrowsRoom old new
grown_twice old mid new a b = record {
  kept = λ contact n. b.kept contact n ∙ a.kept contact n;
  wants = λ contact. b.wants contact ∙ a.wants contact;
  room = λ contact. let one = a.room contact in let two = b.room contact in omega (arith, one, two);
  groups = λ n. b.groups n ∙ a.groups n;
}

-- room for messages to be released
pub grown_release : (t : retry.Table) (more : ℕ) → GrowsRoom t (record t { groups = t.groups ++ replicate more None })
grown_release t more = record {
  kept = λ contact n. refl;
  wants = λ contact. refl;
  room = λ contact. omega arith;
  groups = λ n. padded t.groups None more n;
}

module _ (old new : retry.Table) (contact numbers room : ℕ) (r : retry.ReservesRows old new contact numbers room) where
  kept_by : (c n : ℕ) (b : Bool) → nat_eq c contact ≡ b → retry.kept_at new c n ≡ retry.kept_at old c n
  kept_by c n true e =
      let same : c ≡ contact = eqb-true c contact e in
      ap (λ x. retry.kept_at new x n) same
      ∙ (ap (λ (rows : List retry.KeptRow). retry.kept_in rows n) r.rows
      ∙ (same_kept (retry.rows_of old contact) _ n ∙ ap (λ x. retry.kept_at old x n) (sym same)))
  kept_by c n false e = ap (λ (rows : List retry.KeptRow). retry.kept_in rows n) (r.other_rows c (let ne : c ≢ contact = (λ q. grind (arith, e, q)) in ne))

  wants_by : (c : ℕ) (b : Bool) → nat_eq c contact ≡ b → (retry.wants_of new c).ids ≡ (retry.wants_of old c).ids
  wants_by c true e =
      let same : c ≡ contact = eqb-true c contact e in
      ap (λ x. (retry.wants_of new x).ids) same ∙ (ap (λ (w : retry.WantedFromContact). w.ids) r.wants ∙ ap (λ x. (retry.wants_of old x).ids) (sym same))
  wants_by c false e = ap (λ (w : retry.WantedFromContact). w.ids) (r.other_wants c (let ne : c ≢ contact = (λ q. grind (arith, e, q)) in ne))

  room_by : (c : ℕ) (b : Bool) → nat_eq c contact ≡ b → length (retry.rows_of old c) ≤ length (retry.rows_of new c)
  room_by c true e =
      let same : c ≡ contact = eqb-true c contact e in
      let many : length (retry.rows_of new contact) ≡ length (retry.rows_of old contact ++ replicate (numbers - length (retry.rows_of old contact)) retry.no_kept) = ap length r.rows in
      let here : length (retry.rows_of old contact) ≤ length (retry.rows_of new contact) =
      omega (arith, many, length-append (retry.rows_of old contact) (replicate (numbers - length (retry.rows_of old contact)) retry.no_kept)) in
      subst (λ x. length (retry.rows_of old x) ≤ length (retry.rows_of new x)) (sym same) here
  room_by c false e =
      let same : length (retry.rows_of new c) ≡ length (retry.rows_of old c) = ap length (r.other_rows c (let ne : c ≢ contact = (λ q. grind (arith, e, q)) in ne)) in
      omega (arith, same)

  -- a contact that has more room keeps the same
  pub reserved : GrowsRoom old new
  reserved = record {
    kept = λ c n. kept_by c n (nat_eq c contact) refl;
    wants = λ c. wants_by c (nat_eq c contact) refl;
    room = λ c. room_by c (nat_eq c contact) refl;
    groups = λ n. ap (λ (gs : List (Option ℕ)). slice_index_or gs n None) r.groups;
  }

pub grown_state : (p : Parts) → IsState p → (t : retry.Table) → GrowsRoom p.retry t → IsState (record p { retry = t })
grown_state p s t g = record {
  named = s.named;
  grouped = s.grouped;
  distinct = s.distinct;
  each_share = s.each_share;
  order = s.order;
  within = s.within;
  ended = s.ended;
  many = s.many;
  free_rows = λ contact n beyond. g.kept contact n ∙ s.free_rows contact n beyond;
  free_wants = λ contact beyond. g.wants contact ∙ s.free_wants contact beyond;
  hidden = s.hidden;
  shown = s.shown;
  released = λ n h node at here. g.groups n ∙ s.released n h node at here;
  unreleased = λ n beyond. g.groups n ∙ s.unreleased n beyond;
  ready = λ contact n h known at. ap (λ (k : retry.KeptRow). k.ready) (g.kept contact n) ∙ s.ready contact n h known at;
}

pub grown_facts : (p : Parts) (t : retry.Table) → GrowsRoom p.retry t → facts_of (record p { retry = t }) ≡ facts_of p
grown_facts p t g =
    let rows : rows_in t p.held ≡ rows_in p.retry p.held = rows_same p.retry t p.held (λ contact n. ap (λ (k : retry.KeptRow). k.row) (g.kept contact n)) in
    let wants : wants_in t p.table.contacts ≡ wants_in p.retry p.table.contacts = wants_same p.retry t g.wants p.table.contacts in
    λ i. record (facts_of p) { rows = rows i; wanted = wants i }
