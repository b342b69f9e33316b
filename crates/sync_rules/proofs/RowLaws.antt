-- What one more entry makes of a row and of the wanted ids.
use Rattle.std.proofs.Common.{◌≡◌, ℕ, min, Bool, true, false, not, cond, ◌&&◌, ◌||◌, List, [], ◌∷◌}
use Rattle.std.proofs.Common.{refl, sym, ◌∙◌, ap, Option, Some, None, nat_eq, eqb-true, eq-eqb}
use Rattle.std.proofs.Common.{arith, unwrap_or}
use Rattle.std.specs.FinMap as fin_map
use Rattle.std.specs.Ordering.{eq_by_cmp}
use Rattle.std.proofs.lemmas.Bool.{and_parts, or_parts, not-true}
use Rattle.sync_ids.specs.Ids.{message_id_of}
use Rattle.sync_rules.specs.declared.entries.Entry.{Entry}
use Rattle.sync_rules.specs.declared.entries.Entry.TheVariants as entry
use Rattle.sync_rules.specs.declared.entries.Out.TheVariants as out
use Rattle.sync_rules.specs.declared.limits.TheConstants.{MAX_TRIES}
use Rattle.sync_rules.specs.Lists.{same_id, is_among, has_repeat, firsts, firsts_after, unless_among}
use Rattle.sync_rules.specs.Facts.{Facts, Id, Row, Rows, pair_cmp, no_row, is_no_row, row_at}
use Rattle.sync_rules.specs.Facts.{put_row, change_row, change_rows, row_heard, row_seen, row_acked}
use Rattle.sync_rules.specs.Facts.{row_asked, row_offered, row_sent, row_tried, one_more_try}
use Rattle.sync_rules.specs.Facts.{expiry_after, wait_for, contact_of, latency_of, after, after_all}
use Rattle.sync_rules.specs.PeerLaws.{is_with, is_of, is_heard, is_shown_seen, is_asked}
use Rattle.sync_rules.specs.PeerLaws.{is_counted_from, tries, is_out, is_acked, is_answered}
use Rattle.sync_rules.specs.PeerLaws.{tries_stated, expiry_stated, never}
use Rattle.sync_rules.proofs.Elements.{same_id-is, same_id_itself, same_id_swap}
use Rattle.sync_rules.proofs.ScanLaws.{pair_total, pair_tied}

-- ---- one row changed

no_row-is : (r : Row) → is_no_row r ≡ true → r ≡ no_row
no_row-is r h =
    let a = and_parts (not r.seen) (not r.owed && (not r.asked && (nat_eq r.tries 0 && nat_eq r.expiry 0))) h in
    let b = and_parts (not r.owed) (not r.asked && (nat_eq r.tries 0 && nat_eq r.expiry 0)) a.1 in
    let c = and_parts (not r.asked) (nat_eq r.tries 0 && nat_eq r.expiry 0) b.1 in
    let d = and_parts (nat_eq r.tries 0) (nat_eq r.expiry 0) c.1 in
    let seen : r.seen ≡ false = not-true r.seen a.0 in
    let owed : r.owed ≡ false = not-true r.owed b.0 in
    let asked : r.asked ≡ false = not-true r.asked c.0 in
    let none : r.tries ≡ 0 = eqb-true r.tries 0 d.0 in
    let at_once : r.expiry ≡ 0 = eqb-true r.expiry 0 d.1 in
    λ i. record { seen = seen i; owed = owed i; asked = asked i; tries = none i; expiry = at_once i }

row_chosen : (b : Bool) (r : Row) (o : Option Row) → unwrap_or (cond b (Some r) o) no_row
    ≡ cond b r (unwrap_or o no_row)
row_chosen true r o = refl
row_chosen false r o = refl

row_dropped : (b : Bool) (o : Option Row) → unwrap_or (cond b None o) no_row
    ≡ cond b no_row (unwrap_or o no_row)
row_dropped true o = refl
row_dropped false o = refl

abbrev pub hits : ℕ → Id → ℕ → Id → Bool
hits contact id c x = nat_eq contact c && same_id x id

pub hits-is : (contact c : ℕ) (id x : Id)
    → eq_by_cmp pair_cmp (contact, id) (c, x) ≡ hits contact id c x
hits-is contact c id x = pair_tied contact c id x ∙ ap (λ b. nat_eq contact c && b) (same_id_swap id x)

pub row_at_put : (rows : Rows) (contact c : ℕ) (id x : Id) (r : Row)
    → row_at (put_row rows (c, x) r) contact id
    ≡ cond (hits contact id c x) r (row_at rows contact id)
row_at_put rows contact c id x r =
    elim (is_no_row r) as (λ b. is_no_row r ≡ b → row_at (cond b (fin_map.remove rows (c, x)) (fin_map.insert rows (c, x) r)) contact id ≡ cond (hits contact id c x) r (row_at rows contact id)) [
      | true ↦ λ e.
          ap (λ (o : Option Row). unwrap_or o no_row)
          (fin_map.get-remove pair_total rows (c, x) (contact, id))
          ∙ (row_dropped (eq_by_cmp pair_cmp (contact, id) (c, x)) (fin_map.get rows (contact, id))
          ∙ (ap (λ b. cond b no_row (row_at rows contact id)) (hits-is contact c id x)
          ∙ ap (λ (w : Row). cond (hits contact id c x) w (row_at rows contact id)) (sym (no_row-is r e))))
      | false ↦ λ e.
          ap (λ (o : Option Row). unwrap_or o no_row)
          (fin_map.get-insert pair_total rows (c, x) r (contact, id))
          ∙ (row_chosen (eq_by_cmp pair_cmp (contact, id) (c, x)) r (fin_map.get rows (contact, id))
          ∙ ap (λ b. cond b r (row_at rows contact id)) (hits-is contact c id x))
    ] refl

-- the row that is hit is the one that was changed
same_row : (rows : Rows) (contact c : ℕ) (id x : Id) (g : Row → Row) (b : Bool) → hits contact id c x ≡ b
    → cond b (g (row_at rows c x)) (row_at rows contact id) ≡ cond b (g (row_at rows contact id)) (row_at rows contact id)
same_row rows contact c id x g true h =
    let both = and_parts (nat_eq contact c) (same_id x id) h in
    let one : contact ≡ c = eqb-true contact c both.0 in
    let two : x ≡ id = same_id-is x id both.1 in
    λ i. g (row_at rows (sym one i) (two i))
same_row rows contact c id x g false h = refl

pub row_at_change : (rows : Rows) (contact c : ℕ) (id x : Id) (g : Row → Row)
    → row_at (change_row rows c x g) contact id ≡ cond (hits contact id c x) (g (row_at rows contact id)) (row_at rows contact id)
row_at_change rows contact c id x g =
    row_at_put rows contact c id x (g (row_at rows c x)) ∙ same_row rows contact c id x g (hits contact id c x) refl

-- ---- rows of distinct ids

among_same : (ids : List Id) (x id : Id) → same_id x id ≡ true → is_among ids x ≡ is_among ids id
among_same ids x id e = ap (is_among ids) (same_id-is x id e)

-- b: the contact; s: this id; t: among the later ids, of which none is this one; r is the row before
rows_step : (b s t : Bool) (g : Row → Row) (r : Row) → (s ≡ true → t ≡ false)
    → cond (b && t) (g (cond (b && s) (g r) r)) (cond (b && s) (g r) r) ≡ cond (b && (s || t)) (g r) r
rows_step false s t g r apart = refl
rows_step true true t g r apart = ap (λ x. cond x (g (g r)) (g r)) (apart refl)
rows_step true false t g r apart = refl

pub row_at_changes : (rows : Rows) (contact c : ℕ) (id : Id) (xs : List Id) (g : Row → Row) → has_repeat xs ≡ false
    → row_at (change_rows rows c xs g) contact id ≡ cond (nat_eq contact c && is_among xs id) (g (row_at rows contact id)) (row_at rows contact id)
row_at_changes rows contact c id [] g distinct =
    elim (nat_eq contact c) as (λ b. row_at rows contact id ≡ cond (b && false) (g (row_at rows contact id)) (row_at rows contact id)) [ true ↦ refl | false ↦ refl ]
row_at_changes rows contact c id (x ∷ xs) g distinct =
    let parts = or_parts (is_among xs x) (has_repeat xs) distinct in
    row_at_changes (change_row rows c x g) contact c id xs g parts.1
    ∙ (ap (λ (w : Row). cond (nat_eq contact c && is_among xs id) (g w) w) (row_at_change rows contact c id x g)
    ∙ rows_step (nat_eq contact c) (same_id x id) (is_among xs id) g (row_at rows contact id)
    (λ e. sym (among_same xs x id e) ∙ parts.0))

-- ---- the first occurrences of a list

-- seen: whether the first id is among the earlier ones; s: whether it is the one asked for; n: whether that is among the
-- earlier ones; a: whether it is among the later ones
skip_step : (s a n : Bool) → (s ≡ true → n ≡ true) → (a && not (s || n)) ≡ ((s || a) && not n)
skip_step true a n h = no_and a ∙ (ap (λ b. (true || a) && not b) (sym (h refl)))
  where
    no_and : (a : Bool) → (a && false) ≡ false
    no_and true = refl
    no_and false = refl
skip_step false a n h = refl

keep_step : (s a n : Bool) → (s ≡ true → n ≡ false) → (s || (a && not (s || n))) ≡ ((s || a) && not n)
keep_step true a n h = ap not (sym (h refl))
keep_step false a n h = refl

among_first : (earlier : List Id) (ids : List Id) (id : Id) → is_among (firsts_after earlier ids) id ≡ (is_among ids id && not (is_among earlier id))
among_first earlier [] id = refl
among_first earlier (x ∷ ids) id =
    elim (is_among earlier x) as (λ b. is_among earlier x ≡ b → is_among (unless_among b x (firsts_after (x ∷ earlier) ids)) id ≡ ((same_id x id || is_among ids id) && not (is_among earlier id))) [
      | true ↦ λ e.
          among_first (x ∷ earlier) ids id
          ∙ skip_step (same_id x id) (is_among ids id) (is_among earlier id) (λ s. sym (among_same earlier x id s) ∙ e)
      | false ↦ λ e.
          ap (λ b. same_id x id || b) (among_first (x ∷ earlier) ids id)
          ∙ keep_step (same_id x id) (is_among ids id) (is_among earlier id) (λ s. sym (among_same earlier x id s) ∙ e)
    ] refl

and_true : (b : Bool) → (b && true) ≡ b
and_true true = refl
and_true false = refl

and_false : (b : Bool) → (b && false) ≡ false
and_false true = refl
and_false false = refl

pub among-firsts : (ids : List Id) (id : Id) → is_among (firsts ids) id ≡ is_among ids id
among-firsts ids id = among_first [] ids id ∙ and_true (is_among ids id)

distinct_after : (earlier : List Id) (ids : List Id) → has_repeat (firsts_after earlier ids) ≡ false
distinct_after earlier [] = refl
distinct_after earlier (x ∷ ids) =
    elim (is_among earlier x) as (λ b. has_repeat (unless_among b x (firsts_after (x ∷ earlier) ids)) ≡ false) [
      | true ↦ distinct_after (x ∷ earlier) ids
      | false ↦
          let none : is_among (firsts_after (x ∷ earlier) ids) x ≡ false =
          among_first (x ∷ earlier) ids x
          ∙ (ap (λ b. is_among ids x && not (b || is_among earlier x)) (same_id_itself x) ∙ and_false (is_among ids x)) in
          ap (λ b. b || has_repeat (firsts_after (x ∷ earlier) ids)) none ∙ distinct_after (x ∷ earlier) ids
    ]

pub firsts_distinct : (ids : List Id) → has_repeat (firsts ids) ≡ false
firsts_distinct ids = distinct_after [] ids

pub row_at_firsts : (rows : Rows) (contact c : ℕ) (id : Id) (ids : List Id) (g : Row → Row)
    → row_at (change_rows rows c (firsts ids) g) contact id ≡ cond (nat_eq contact c && is_among ids id) (g (row_at rows contact id)) (row_at rows contact id)
row_at_firsts rows contact c id ids g =
    row_at_changes rows contact c id (firsts ids) g (firsts_distinct ids)
    ∙ ap (λ b. cond (nat_eq contact c && b) (g (row_at rows contact id)) (row_at rows contact id)) (among-firsts ids id)

-- ---- one more entry, part by part

module _ (f : Facts) (contact : ℕ) (id : Id) where
  abbrev row : Row
  row = row_at f.rows contact id

  abbrev row_then : Entry → Row
  row_then e = row_at (after f e).rows contact id

  -- a part that the change sets, leaves or clears
  part_set : {A : Type 0} (p : Row → A) (b : Bool) (g : Row → Row) (v : A) → ((r : Row) → p (g r) ≡ v) → p (cond b (g row) row) ≡ cond b v (p row)
  part_set p true g v is = is row
  part_set p false g v is = refl

  part_kept : {A : Type 0} (p : Row → A) (b : Bool) (g : Row → Row) → ((r : Row) → p (g r) ≡ p r) → p (cond b (g row) row) ≡ p row
  part_kept p true g is = is row
  part_kept p false g is = refl

  part_raised : {A : Type 0} (p : Row → A) (b : Bool) (g : Row → Row) (v : A) → p (g row) ≡ v → p (cond b (g row) row) ≡ cond b v (p row)
  part_raised p true g v is = is
  part_raised p false g v is = refl

  or_chosen : (b c : Bool) → cond b true c ≡ cond b true (cond false false c)
  or_chosen true c = refl
  or_chosen false c = refl

  pub seen_step : (e : Entry) → (row_then e).seen ≡ cond (is_shown_seen contact id f e) true (cond (never f e) false row.seen)
  seen_step (entry.Arrive s m) =
      ap (λ (r : Row). r.seen) (row_at_change f.rows contact (contact_of f.sessions s) id (message_id_of m) row_heard)
      ∙ part_set (λ r. r.seen) (is_with contact f s && same_id (message_id_of m) id) row_heard true (λ r. refl)
  seen_step (entry.Again s x) =
      ap (λ (r : Row). r.seen) (row_at_change f.rows contact (contact_of f.sessions s) id x row_heard)
      ∙ part_set (λ r. r.seen) (is_with contact f s && same_id x id) row_heard true (λ r. refl)
  seen_step (entry.Seen s x) =
      ap (λ (r : Row). r.seen) (row_at_change f.rows contact (contact_of f.sessions s) id x row_seen)
      ∙ part_set (λ r. r.seen) (is_with contact f s && same_id x id) row_seen true (λ r. refl)
  seen_step (entry.Asked s x) =
      ap (λ (r : Row). r.seen) (row_at_change f.rows contact (contact_of f.sessions s) id x row_asked)
      ∙ part_kept (λ r. r.seen) (is_with contact f s && same_id x id) row_asked (λ r. refl)
  seen_step (entry.Out s now (out.Acks ids)) =
      ap (λ (r : Row). r.seen) (row_at_firsts f.rows contact (contact_of f.sessions s) id ids row_acked)
      ∙ part_kept (λ r. r.seen) (is_with contact f s && is_among ids id) row_acked (λ r. refl)
  seen_step (entry.Out s now (out.Requests ids)) = refl
  seen_step (entry.Out s now (out.Offers ids)) =
      ap (λ (r : Row). r.seen) (row_at_firsts f.rows contact (contact_of f.sessions s) id ids (row_offered now (latency_of f.sessions s)))
      ∙ part_kept (λ r. r.seen) (is_with contact f s && is_among ids id) (row_offered now (latency_of f.sessions s)) (λ r. refl)
  seen_step (entry.Out s now (out.Send x)) =
      ap (λ (r : Row). r.seen) (row_at_change f.rows contact (contact_of f.sessions s) id x (row_sent now (latency_of f.sessions s)))
      ∙ part_kept (λ r. r.seen) (is_with contact f s && same_id x id) (row_sent now (latency_of f.sessions s)) (λ r. refl)
  seen_step (entry.Tried t) =
      ap (λ (r : Row). r.seen) (row_at_change f.rows contact t.contact id t.id (row_tried t))
      ∙ (part_raised (λ r. r.seen) (is_of contact id t) (row_tried t) (t.seen || row.seen) refl
      ∙ or_set (is_of contact id t) t.seen row.seen)
    where
      -- b: the pair; s: it is said so
      or_set : (b s was : Bool) → cond b (s || was) was ≡ cond (b && s) true was
      or_set true true was = refl
      or_set true false was = refl
      or_set false s was = refl
  seen_step _ = refl

  -- b: the pair; s: what is said of it
  said : (b s was : Bool) → cond b s was ≡ cond (b && s) true (cond (b && not s) false was)
  said true true was = refl
  said true false was = refl
  said false s was = refl

  no_clear : (b c : Bool) → c ≡ cond (b && false) false c
  no_clear true c = refl
  no_clear false c = refl

  pub owed_step : (e : Entry) → (row_then e).owed ≡ cond (is_heard contact id f e) true (cond (is_acked contact id f e) false row.owed)
  owed_step (entry.Arrive s m) =
      ap (λ (r : Row). r.owed) (row_at_change f.rows contact (contact_of f.sessions s) id (message_id_of m) row_heard)
      ∙ part_set (λ r. r.owed) (is_with contact f s && same_id (message_id_of m) id) row_heard true (λ r. refl)
  owed_step (entry.Again s x) =
      ap (λ (r : Row). r.owed) (row_at_change f.rows contact (contact_of f.sessions s) id x row_heard)
      ∙ part_set (λ r. r.owed) (is_with contact f s && same_id x id) row_heard true (λ r. refl)
  owed_step (entry.Seen s x) =
      ap (λ (r : Row). r.owed) (row_at_change f.rows contact (contact_of f.sessions s) id x row_seen)
      ∙ part_kept (λ r. r.owed) (is_with contact f s && same_id x id) row_seen (λ r. refl)
  owed_step (entry.Asked s x) =
      ap (λ (r : Row). r.owed) (row_at_change f.rows contact (contact_of f.sessions s) id x row_asked)
      ∙ part_kept (λ r. r.owed) (is_with contact f s && same_id x id) row_asked (λ r. refl)
  owed_step (entry.Out s now (out.Acks ids)) =
      ap (λ (r : Row). r.owed) (row_at_firsts f.rows contact (contact_of f.sessions s) id ids row_acked)
      ∙ part_set (λ r. r.owed) (is_with contact f s && is_among ids id) row_acked false (λ r. refl)
  owed_step (entry.Out s now (out.Requests ids)) = no_clear (is_with contact f s) row.owed
  owed_step (entry.Out s now (out.Offers ids)) =
      ap (λ (r : Row). r.owed) (row_at_firsts f.rows contact (contact_of f.sessions s) id ids (row_offered now (latency_of f.sessions s)))
      ∙ (part_kept (λ r. r.owed) (is_with contact f s && is_among ids id) (row_offered now (latency_of f.sessions s)) (λ r. refl)
      ∙ no_clear (is_with contact f s) row.owed)
  owed_step (entry.Out s now (out.Send x)) =
      ap (λ (r : Row). r.owed) (row_at_change f.rows contact (contact_of f.sessions s) id x (row_sent now (latency_of f.sessions s)))
      ∙ (part_kept (λ r. r.owed) (is_with contact f s && same_id x id) (row_sent now (latency_of f.sessions s)) (λ r. refl)
      ∙ no_clear (is_with contact f s) row.owed)
  owed_step (entry.Tried t) =
      ap (λ (r : Row). r.owed) (row_at_change f.rows contact t.contact id t.id (row_tried t))
      ∙ (part_set (λ r. r.owed) (is_of contact id t) (row_tried t) t.owed (λ r. refl)
      ∙ said (is_of contact id t) t.owed row.owed)
  owed_step _ = refl

  pub asked_step : (e : Entry) → (row_then e).asked ≡ cond (is_asked contact id f e) true (cond (is_answered contact id f e) false row.asked)
  asked_step (entry.Arrive s m) =
      ap (λ (r : Row). r.asked) (row_at_change f.rows contact (contact_of f.sessions s) id (message_id_of m) row_heard)
      ∙ part_kept (λ r. r.asked) (is_with contact f s && same_id (message_id_of m) id) row_heard (λ r. refl)
  asked_step (entry.Again s x) =
      ap (λ (r : Row). r.asked) (row_at_change f.rows contact (contact_of f.sessions s) id x row_heard)
      ∙ part_kept (λ r. r.asked) (is_with contact f s && same_id x id) row_heard (λ r. refl)
  asked_step (entry.Seen s x) =
      ap (λ (r : Row). r.asked) (row_at_change f.rows contact (contact_of f.sessions s) id x row_seen)
      ∙ part_kept (λ r. r.asked) (is_with contact f s && same_id x id) row_seen (λ r. refl)
  asked_step (entry.Asked s x) =
      ap (λ (r : Row). r.asked) (row_at_change f.rows contact (contact_of f.sessions s) id x row_asked)
      ∙ part_set (λ r. r.asked) (is_with contact f s && same_id x id) row_asked true (λ r. refl)
  asked_step (entry.Out s now (out.Acks ids)) =
      ap (λ (r : Row). r.asked) (row_at_firsts f.rows contact (contact_of f.sessions s) id ids row_acked)
      ∙ (part_kept (λ r. r.asked) (is_with contact f s && is_among ids id) row_acked (λ r. refl)
      ∙ no_clear (is_with contact f s) row.asked)
  asked_step (entry.Out s now (out.Requests ids)) = no_clear (is_with contact f s) row.asked
  asked_step (entry.Out s now (out.Offers ids)) =
      ap (λ (r : Row). r.asked) (row_at_firsts f.rows contact (contact_of f.sessions s) id ids (row_offered now (latency_of f.sessions s)))
      ∙ (part_kept (λ r. r.asked) (is_with contact f s && is_among ids id) (row_offered now (latency_of f.sessions s)) (λ r. refl)
      ∙ no_clear (is_with contact f s) row.asked)
  asked_step (entry.Out s now (out.Send x)) =
      ap (λ (r : Row). r.asked) (row_at_change f.rows contact (contact_of f.sessions s) id x (row_sent now (latency_of f.sessions s)))
      ∙ part_set (λ r. r.asked) (is_with contact f s && same_id x id) (row_sent now (latency_of f.sessions s)) false (λ r. refl)
  asked_step (entry.Tried t) =
      ap (λ (r : Row). r.asked) (row_at_change f.rows contact t.contact id t.id (row_tried t))
      ∙ (part_set (λ r. r.asked) (is_of contact id t) (row_tried t) t.asked (λ r. refl)
      ∙ said (is_of contact id t) t.asked row.asked)
  asked_step _ = refl

  no_try : {A : Type 0} (b : Bool) (n m : A) → m ≡ cond (b && false) n m
  no_try true n m = refl
  no_try false n m = refl

  pub tries_step : (e : Entry) → (row_then e).tries
      ≡ cond (is_counted_from contact id f e) (min MAX_TRIES (tries_stated e)) (cond (is_out contact (tries id) f e) (one_more_try row.tries) row.tries)
  tries_step (entry.Arrive s m) =
      ap (λ (r : Row). r.tries) (row_at_change f.rows contact (contact_of f.sessions s) id (message_id_of m) row_heard)
      ∙ part_kept (λ r. r.tries) (is_with contact f s && same_id (message_id_of m) id) row_heard (λ r. refl)
  tries_step (entry.Again s x) =
      ap (λ (r : Row). r.tries) (row_at_change f.rows contact (contact_of f.sessions s) id x row_heard)
      ∙ part_kept (λ r. r.tries) (is_with contact f s && same_id x id) row_heard (λ r. refl)
  tries_step (entry.Seen s x) =
      ap (λ (r : Row). r.tries) (row_at_change f.rows contact (contact_of f.sessions s) id x row_seen)
      ∙ part_kept (λ r. r.tries) (is_with contact f s && same_id x id) row_seen (λ r. refl)
  tries_step (entry.Asked s x) =
      ap (λ (r : Row). r.tries) (row_at_change f.rows contact (contact_of f.sessions s) id x row_asked)
      ∙ part_set (λ r. r.tries) (is_with contact f s && same_id x id) row_asked 0 (λ r. refl)
  tries_step (entry.Out s now (out.Acks ids)) =
      ap (λ (r : Row). r.tries) (row_at_firsts f.rows contact (contact_of f.sessions s) id ids row_acked)
      ∙ (part_kept (λ r. r.tries) (is_with contact f s && is_among ids id) row_acked (λ r. refl)
      ∙ no_try (is_with contact f s) (one_more_try row.tries) row.tries)
  tries_step (entry.Out s now (out.Requests ids)) = no_try (is_with contact f s) (one_more_try row.tries) row.tries
  tries_step (entry.Out s now (out.Offers ids)) =
      ap (λ (r : Row). r.tries) (row_at_firsts f.rows contact (contact_of f.sessions s) id ids (row_offered now (latency_of f.sessions s)))
      ∙ part_raised (λ r. r.tries) (is_with contact f s && is_among ids id) (row_offered now (latency_of f.sessions s)) (one_more_try row.tries) refl
  tries_step (entry.Out s now (out.Send x)) =
      ap (λ (r : Row). r.tries) (row_at_change f.rows contact (contact_of f.sessions s) id x (row_sent now (latency_of f.sessions s)))
      ∙ part_raised (λ r. r.tries) (is_with contact f s && same_id x id) (row_sent now (latency_of f.sessions s)) (one_more_try row.tries) refl
  tries_step (entry.Tried t) =
      ap (λ (r : Row). r.tries) (row_at_change f.rows contact t.contact id t.id (row_tried t))
      ∙ part_set (λ r. r.tries) (is_of contact id t) (row_tried t) (min MAX_TRIES t.tries) (λ r. refl)
  tries_step _ = refl

  -- the expiry that an entry sets
  abbrev pub expiry_by : Entry → ℕ
  expiry_by (entry.Out s now what) = expiry_after now (latency_of f.sessions s) (one_more_try row.tries)
  expiry_by _ = 0

  pub expiry_step : (e : Entry) → (row_then e).expiry
      ≡ cond (is_counted_from contact id f e) (expiry_stated e) (cond (is_out contact (tries id) f e) (expiry_by e) row.expiry)
  expiry_step (entry.Arrive s m) =
      ap (λ (r : Row). r.expiry) (row_at_change f.rows contact (contact_of f.sessions s) id (message_id_of m) row_heard)
      ∙ part_kept (λ r. r.expiry) (is_with contact f s && same_id (message_id_of m) id) row_heard (λ r. refl)
  expiry_step (entry.Again s x) =
      ap (λ (r : Row). r.expiry) (row_at_change f.rows contact (contact_of f.sessions s) id x row_heard)
      ∙ part_kept (λ r. r.expiry) (is_with contact f s && same_id x id) row_heard (λ r. refl)
  expiry_step (entry.Seen s x) =
      ap (λ (r : Row). r.expiry) (row_at_change f.rows contact (contact_of f.sessions s) id x row_seen)
      ∙ part_kept (λ r. r.expiry) (is_with contact f s && same_id x id) row_seen (λ r. refl)
  expiry_step (entry.Asked s x) =
      ap (λ (r : Row). r.expiry) (row_at_change f.rows contact (contact_of f.sessions s) id x row_asked)
      ∙ part_set (λ r. r.expiry) (is_with contact f s && same_id x id) row_asked 0 (λ r. refl)
  expiry_step (entry.Out s now (out.Acks ids)) =
      ap (λ (r : Row). r.expiry) (row_at_firsts f.rows contact (contact_of f.sessions s) id ids row_acked)
      ∙ (part_kept (λ r. r.expiry) (is_with contact f s && is_among ids id) row_acked (λ r. refl)
      ∙ no_try (is_with contact f s) (expiry_by (entry.Out s now (out.Acks ids))) row.expiry)
  expiry_step (entry.Out s now (out.Requests ids)) = no_try (is_with contact f s) (expiry_by (entry.Out s now (out.Requests ids))) row.expiry
  expiry_step (entry.Out s now (out.Offers ids)) =
      ap (λ (r : Row). r.expiry) (row_at_firsts f.rows contact (contact_of f.sessions s) id ids (row_offered now (latency_of f.sessions s)))
      ∙ part_raised (λ r. r.expiry) (is_with contact f s && is_among ids id) (row_offered now (latency_of f.sessions s)) (expiry_by (entry.Out s now (out.Offers ids))) refl
  expiry_step (entry.Out s now (out.Send x)) =
      ap (λ (r : Row). r.expiry) (row_at_change f.rows contact (contact_of f.sessions s) id x (row_sent now (latency_of f.sessions s)))
      ∙ part_raised (λ r. r.expiry) (is_with contact f s && same_id x id) (row_sent now (latency_of f.sessions s)) (expiry_by (entry.Out s now (out.Send x))) refl
  expiry_step (entry.Tried t) =
      ap (λ (r : Row). r.expiry) (row_at_change f.rows contact t.contact id t.id (row_tried t))
      ∙ part_set (λ r. r.expiry) (is_of contact id t) (row_tried t) (wait_for t.tries t.expiry) (λ r. refl)
  expiry_step _ = refl

  -- ---- no wait without a try

  -- what an entry states has no wait where it has no try
  stated_waits : (e : Entry) → min MAX_TRIES (tries_stated e) ≡ 0 → expiry_stated e ≡ 0
  stated_waits (entry.Tried t) none =
      let few : t.tries ≡ 0 = omega (arith, none) in
      ap (λ b. cond b 0 t.expiry) (eq-eqb t.tries 0 few)
  stated_waits _ none = refl

  -- c: tries are counted from the entry; o: it is a try
  waits_by : (c o : Bool) (e : Entry) → (row.tries ≡ 0 → row.expiry ≡ 0)
      → cond c (min MAX_TRIES (tries_stated e)) (cond o (one_more_try row.tries) row.tries) ≡ 0
      → cond c (expiry_stated e) (cond o (expiry_by e) row.expiry) ≡ 0
  waits_by true o e was none = stated_waits e none
  waits_by false true e was none = absurd (omega (arith, none))
  waits_by false false e was none = was none

  pub waits_one : (e : Entry) → (row.tries ≡ 0 → row.expiry ≡ 0) → (row_then e).tries ≡ 0 → (row_then e).expiry ≡ 0
  waits_one e was none =
      expiry_step e
      ∙ waits_by (is_counted_from contact id f e) (is_out contact (tries id) f e) e was (sym (tries_step e) ∙ none)

-- a row without a try has no wait, where none before had one
pub waits_all : (f : Facts) (es : List Entry) (contact : ℕ) (id : Id)
    → ((row_at f.rows contact id).tries ≡ 0 → (row_at f.rows contact id).expiry ≡ 0)
    → (row_at (after_all f es).rows contact id).tries ≡ 0 → (row_at (after_all f es).rows contact id).expiry ≡ 0
waits_all f [] contact id was = was
waits_all f (e ∷ es) contact id was = waits_all (after f e) es contact id (waits_one f contact id e was)
