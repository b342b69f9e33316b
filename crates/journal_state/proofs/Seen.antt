-- What the look-ups of the parts tell of the facts.
use Rattle.std.proofs.Common.{◌≡◌, ℕ, zero, suc, ◌+◌, ◌<◌, ◌≤◌, Bool, true, false, not, ◌&&◌, ◌||◌, nat_le, nat_lt, List, [], ◌∷◌, length, map, take, Option, None, Some, slice_get, refl, sym, ◌∙◌, ap, arith}
use Rattle.std.specs.List.{list_all}
use Rattle.std.specs.Option.{option_map}
use Rattle.std.proofs.lemmas.List.{take-map}
use Rattle.sync_rules.specs.declared.entries.Mode.{Mode}
use Rattle.sync_rules.specs.Lists.{is_among}
use Rattle.sync_rules.specs.Facts.{Held, Id, Row, row_at, level_at, is_level_shared}
use Rattle.sync_ids.specs.declared.lists.TheConstants.{MAX_IDS}
use Rattle.sync_rules.specs.Sessions.{is_author, is_sendable, is_ripe, owed_to, send_of, offers_of}
use Rattle.sync_rules.specs.Sessions.{goes_sooner, sooner_of, sooner_offers_of}
use Rattle.sync_rules.specs.Views.{is_seen_in}
use Rattle.retry_table.specs.Table as retry
use Rattle.retry_table.specs.Table.{tried_of}
use Rattle.retry_table.specs.Due.{numbers_where, may_be_sent, is_sent_at, is_offered_at, owed_in}
use Rattle.retry_table.specs.Due.{is_sooner_at, message_in, offers_in, sooner_in, sooner_offers_in}
use Rattle.journal_state.specs.Parts.{Parts, answers_of, facts_of, shared_among}
use Rattle.journal_state.specs.Whole.{IsState, id_at}
use Rattle.journal_state.proofs.Rows.{row_by, row_found}
use Rattle.journal_state.proofs.Listed.{id_there, listed, first_listed, all_below, found_below, all_taken}

pub there : {A : Type 0} (xs : List A) (n : ℕ) → n < length xs → (x : A) × (slice_get xs n ≡ Some x)
there [] n within = absurd (omega arith)
there (x ∷ xs) zero within = (x, refl)
there (x ∷ xs) (suc n) within = there xs n (omega arith)

regrouped : (a b x c : Bool) → (a && (b && (x && c))) ≡ ((a && (b && c)) && x)
regrouped true true true true = refl
regrouped true true true false = refl
regrouped true true false true = refl
regrouped true true false false = refl
regrouped true false x c = refl
regrouped false b x c = refl

module _ (p : Parts) (s : IsState p) where
  -- the row of a held message
  pub row_there : (contact n : ℕ) (h : Held) → slice_get p.held n ≡ Some h → row_at (facts_of p).rows contact h.id ≡ (retry.kept_at p.retry contact n).row
  row_there contact n h at = row_found p.retry p.held contact h.id ∙ ap (row_by (retry.rows_of p.retry contact)) (s.distinct n h at)

  seen_there : (contact n : ℕ) (h : Held) → slice_get p.held n ≡ Some h → (retry.kept_at p.retry contact n).row.seen ≡ is_seen_in (facts_of p) contact (slice_get p.held n)
  seen_there contact n h at = ap (λ (r : Row). r.seen) (sym (row_there contact n h at)) ∙ ap (is_seen_in (facts_of p) contact) (sym at)

  pub seen_found : (contact n : ℕ) → n < length p.held → (retry.kept_at p.retry contact n).row.seen ≡ is_seen_in (facts_of p) contact (slice_get p.held n)
  seen_found contact n within = let at = there p.held n within in seen_there contact n at.0 at.1

  -- what is kept of it, as it is stated
  pub tried_found : (contact n : ℕ) (id : Id) → option_map (λ (h : Held). h.id) (slice_get p.held n) ≡ Some id
      → option_map (λ (h : Held). tried_of contact h.id (row_at (facts_of p).rows contact h.id)) (slice_get p.held n)
      ≡ Some (tried_of contact id (retry.kept_at p.retry contact n).row)
  tried_found contact n id named = by (slice_get p.held n) refl named
    where
      by : (o : Option Held) → slice_get p.held n ≡ o → option_map (λ (h : Held). h.id) o ≡ Some id
          → option_map (λ (h : Held). tried_of contact h.id (row_at (facts_of p).rows contact h.id)) o
          ≡ Some (tried_of contact id (retry.kept_at p.retry contact n).row)
      by None at named = absurd (let none : None ≡ Some id = named in cc)
      by (Some h) at named =
          let same : h.id ≡ id = cc in
          λ i. Some (tried_of contact (same i) (row_there contact n h at i))

  id_named : (n : ℕ) (h : Held) → slice_get p.held n ≡ Some h → id_at p.held (0 + n) ≡ h.id
  id_named n h at = let e : 0 + n ≡ n = omega arith in ap (id_at p.held) e ∙ id_there p.held n h at

  free : (contact n : ℕ) → length p.held ≤ n → retry.kept_in (retry.rows_of p.retry contact) n ≡ retry.no_kept
  free contact n beyond = s.free_rows contact n beyond

  bounded : (contact n : ℕ) → length p.held ≤ 0 + n → retry.kept_in (retry.rows_of p.retry contact) n ≡ retry.no_kept
  bounded contact n beyond = s.free_rows contact n (omega arith)

  -- ---- acknowledgements

  pub owed_found : (contact : ℕ) → map (id_at p.held) (owed_in (retry.rows_of p.retry contact)) ≡ owed_to (facts_of p) contact
  owed_found contact =
      let t : retry.KeptRow → Bool = λ kept. kept.row.owed in
      sym (take-map (id_at p.held) MAX_IDS (numbers_where t 0 (retry.rows_of p.retry contact)))
      ∙ ap (take MAX_IDS) (listed (λ kept. kept.row.owed) (λ h. (row_at (facts_of p).rows contact h.id).owed) (id_at p.held) refl 0 (retry.rows_of p.retry contact) p.held
      (λ n h at. (ap (λ (r : Row). r.owed) (row_there contact n h at), id_named n h at)) (free contact))

  pub owed_below : (contact : ℕ) → list_all (λ n. nat_lt n (length p.held)) (owed_in (retry.rows_of p.retry contact)) ≡ true
  owed_below contact =
      let t : retry.KeptRow → Bool = λ kept. kept.row.owed in
      all_taken (λ n. nat_lt n (length p.held)) MAX_IDS (numbers_where t 0 (retry.rows_of p.retry contact))
      (all_below t refl (length p.held) 0 (retry.rows_of p.retry contact) (bounded contact))

  -- ---- what may be sent

  shared : List Id
  shared = shared_among p.held (answers_of p.nodes p.shares)

  sendable_there : (contact n : ℕ) (h : Held) → contact < 256 → slice_get p.held n ≡ Some h
      → is_sendable (facts_of p) (shared_among p.held (answers_of p.nodes p.shares)) contact h
      ≡ may_be_sent (retry.kept_at p.retry contact n)
  sendable_there contact n h known at =
      regrouped (is_among (facts_of p).delivered h.id) (is_level_shared (level_at p.table.levels contact h.message.group)) (not (row_at (facts_of p).rows contact h.id).seen)
      (is_author h.origin || is_among (shared_among p.held (answers_of p.nodes p.shares)) h.id)
      ∙ (λ i. sym (s.ready contact n h known at) i && not (row_there contact n h at i).seen)

  pub send_found : (contact : ℕ) (mode : Mode) (now : ℕ) → contact < 256
      → option_map (id_at p.held) (message_in mode now (retry.rows_of p.retry contact)) ≡ send_of (facts_of p) (shared_among p.held (answers_of p.nodes p.shares)) contact mode now
  send_found contact mode now known =
      first_listed (is_sent_at mode now)
      (λ h. is_sendable (facts_of p) (shared_among p.held (answers_of p.nodes p.shares)) contact h && is_ripe mode now (row_at (facts_of p).rows contact h.id))
      (id_at p.held) refl 0 (retry.rows_of p.retry contact) p.held
      (λ n h at. ((λ i. sendable_there contact n h known at i && is_ripe mode now (row_there contact n h at i)), id_named n h at)) (free contact)

  pub send_below : (contact : ℕ) (mode : Mode) (now n : ℕ) → message_in mode now (retry.rows_of p.retry contact) ≡ Some n → nat_lt n (length p.held) ≡ true
  send_below contact mode now n e = found_below (is_sent_at mode now) refl (length p.held) 0 (retry.rows_of p.retry contact) (bounded contact) n e

  pub offers_found : (contact now : ℕ) → contact < 256
      → map (id_at p.held) (offers_in now (retry.rows_of p.retry contact)) ≡ offers_of (facts_of p) (shared_among p.held (answers_of p.nodes p.shares)) contact now
  offers_found contact now known =
      sym (take-map (id_at p.held) MAX_IDS (numbers_where (is_offered_at now) 0 (retry.rows_of p.retry contact)))
      ∙ ap (take MAX_IDS) (listed (is_offered_at now)
      (λ h. is_sendable (facts_of p) (shared_among p.held (answers_of p.nodes p.shares)) contact h
      && (not (row_at (facts_of p).rows contact h.id).asked && nat_le (row_at (facts_of p).rows contact h.id).expiry now))
      (id_at p.held) refl 0 (retry.rows_of p.retry contact) p.held
      (λ n h at. ((λ i. sendable_there contact n h known at i && (not (row_there contact n h at i).asked && nat_le (row_there contact n h at i).expiry now)), id_named n h at)) (free contact))

  pub offers_below : (contact now : ℕ) → list_all (λ n. nat_lt n (length p.held)) (offers_in now (retry.rows_of p.retry contact)) ≡ true
  offers_below contact now =
      all_taken (λ n. nat_lt n (length p.held)) MAX_IDS (numbers_where (is_offered_at now) 0 (retry.rows_of p.retry contact))
      (all_below (is_offered_at now) refl (length p.held) 0 (retry.rows_of p.retry contact) (bounded contact))

  -- ---- what goes before its time

  pub sooner_found : (contact latency now : ℕ) → contact < 256
      → option_map (id_at p.held) (sooner_in latency now (retry.rows_of p.retry contact)) ≡ sooner_of (facts_of p) (shared_among p.held (answers_of p.nodes p.shares)) contact latency now
  sooner_found contact latency now known =
      first_listed (is_sooner_at latency now)
      (λ h. is_sendable (facts_of p) (shared_among p.held (answers_of p.nodes p.shares)) contact h && goes_sooner latency now (row_at (facts_of p).rows contact h.id))
      (id_at p.held) refl 0 (retry.rows_of p.retry contact) p.held
      (λ n h at. ((λ i. sendable_there contact n h known at i && goes_sooner latency now (row_there contact n h at i)), id_named n h at)) (free contact)

  pub sooner_below : (contact latency now n : ℕ) → sooner_in latency now (retry.rows_of p.retry contact) ≡ Some n → nat_lt n (length p.held) ≡ true
  sooner_below contact latency now n e = found_below (is_sooner_at latency now) refl (length p.held) 0 (retry.rows_of p.retry contact) (bounded contact) n e

  pub sooner_offers_found : (contact latency now : ℕ) → contact < 256
      → map (id_at p.held) (sooner_offers_in latency now (retry.rows_of p.retry contact)) ≡ sooner_offers_of (facts_of p) (shared_among p.held (answers_of p.nodes p.shares)) contact latency now
  sooner_offers_found contact latency now known =
      sym (take-map (id_at p.held) MAX_IDS (numbers_where (is_sooner_at latency now) 0 (retry.rows_of p.retry contact)))
      ∙ ap (take MAX_IDS) (listed (is_sooner_at latency now)
      (λ h. is_sendable (facts_of p) (shared_among p.held (answers_of p.nodes p.shares)) contact h && goes_sooner latency now (row_at (facts_of p).rows contact h.id))
      (id_at p.held) refl 0 (retry.rows_of p.retry contact) p.held
      (λ n h at. ((λ i. sendable_there contact n h known at i && goes_sooner latency now (row_there contact n h at i)), id_named n h at)) (free contact))

  pub sooner_offers_below : (contact latency now : ℕ) → list_all (λ n. nat_lt n (length p.held)) (sooner_offers_in latency now (retry.rows_of p.retry contact)) ≡ true
  sooner_offers_below contact latency now =
      all_taken (λ n. nat_lt n (length p.held)) MAX_IDS (numbers_where (is_sooner_at latency now) 0 (retry.rows_of p.retry contact))
      (all_below (is_sooner_at latency now) refl (length p.held) 0 (retry.rows_of p.retry contact) (bounded contact))
