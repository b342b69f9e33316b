-- The rows of a brief account: the Tried entries of a contact suit, and put the rows that they tell into the map.
use Rattle.std.proofs.Common.{◌≡◌, ℕ, ◌<◌, ◌≤◌, min, Bool, true, false, not, cond, ◌&&◌, ◌||◌}
use Rattle.std.proofs.Common.{nat_eq, eqb-true, List, [], ◌∷◌, ◌++◌, Option, Some, None, refl, sym}
use Rattle.std.proofs.Common.{◌∙◌, ap, subst, arith, unwrap_or}
use Rattle.std.specs.FinMap as fin_map
use Rattle.std.proofs.lemmas.Bool.{and_parts, or_left, or_parts, or_right, false≢true}
use Rattle.sync_rules.specs.declared.entries.Entry.{Entry}
use Rattle.sync_rules.specs.declared.entries.Entry.TheVariants as entry
use Rattle.sync_rules.specs.declared.entries.Tried.{Tried}
use Rattle.sync_rules.specs.declared.states.Start.TheVariants as start
use Rattle.sync_rules.specs.declared.limits.TheConstants.{MAX_TRIES}
use Rattle.sync_rules.specs.Lists.{same_id, is_among, has_repeat}
use Rattle.sync_rules.specs.Facts.{Facts, Held, Id, Row, Rows, Wants, after, after_all, is_held}
use Rattle.sync_rules.specs.Facts.{is_no_row, put_row, row_at, row_tried, wait_for, no_row}
use Rattle.sync_rules.specs.Legal.{AreRows}
use Rattle.sync_rules.specs.Consistency.{HasRows, ids_of_held}
use Rattle.sync_rules.proofs.Elements.{same_id-is, same_id_itself}
use Rattle.sync_rules.proofs.Kept.{after_all-append}
use Rattle.brief_account.specs.Brief.{row_entries, row_entry}
use Rattle.brief_account.proofs.PeersKnown.{HasWaits}
use Rattle.brief_account.proofs.PeersMaps.{both, fill, put, put-get}

-- ---- entries that lead from rows and wanted ids to others

-- facts of a brief account whose rows and wanted ids are these
abbrev pub with_peers : Facts → Rows → Wants → Facts
with_peers g rows wanted = record g { start = start.Opening; rows = rows; wanted = wanted }

-- each entry suits, and they lead from these rows and wanted ids to those
pub record IsTold (g : Facts) (es : List Entry) (rows : Rows) (wanted : Wants) (rows_then : Rows)
    (wanted_then : Wants) : Type 0 where
  pub suits : AreRows (with_peers g rows wanted) es
  pub reached : after_all (with_peers g rows wanted) es ≡ with_peers g rows_then wanted_then

pub told_none : (g : Facts) (rows : Rows) (wanted : Wants) → IsTold g [] rows wanted rows wanted
told_none g rows wanted = record { suits = tt; reached = refl }

pub suits_both : (h : Facts) (es fs : List Entry) → AreRows h es → AreRows (after_all h es) fs → AreRows h (es ++ fs)
suits_both h [] fs a b = b
suits_both h (e ∷ es) fs a b = (a.0, suits_both (after h e) es fs a.1 b)

pub told_then : (g : Facts) (es fs : List Entry) (rows : Rows) (wanted : Wants) (rows_mid : Rows) (wanted_mid : Wants)
    (rows_then : Rows) (wanted_then : Wants)
    → IsTold g es rows wanted rows_mid wanted_mid → IsTold g fs rows_mid wanted_mid rows_then wanted_then
    → IsTold g (es ++ fs) rows wanted rows_then wanted_then
told_then g es fs rows wanted rows_mid wanted_mid rows_then wanted_then a b = record {
  suits = suits_both (with_peers g rows wanted) es fs a.suits (subst (λ h. AreRows h fs) (sym a.reached) b.suits);
  reached = after_all-append (with_peers g rows wanted) es fs ∙ (ap (λ h. after_all h fs) a.reached ∙ b.reached);
}

-- ---- one row

abbrev tried_as : ℕ → Id → Row → Tried
tried_as contact id r =
    record {
      contact = contact;
      id = id;
      seen = r.seen;
      owed = r.owed;
      asked = r.asked;
      tries = r.tries;
      expiry = r.expiry;
    }

-- a row that is all false and zero but for a wait
abbrev is_untold : Row → Bool
is_untold r = not r.seen && (not r.owed && (not r.asked && nat_eq r.tries 0))

-- such a row has no wait
untold_empty : (r : Row) → (r.tries ≡ 0 → r.expiry ≡ 0) → (b : Bool) → is_untold r ≡ b → is_no_row r ≡ false → b ≡ false
untold_empty r waits false e some = refl
untold_empty r waits true e some =
    let a = and_parts (not r.seen) (not r.owed && (not r.asked && nat_eq r.tries 0)) e in
    let b = and_parts (not r.owed) (not r.asked && nat_eq r.tries 0) a.1 in
    let c = and_parts (not r.asked) (nat_eq r.tries 0) b.1 in
    let at_once : r.expiry ≡ 0 = waits (eqb-true r.tries 0 c.1) in
    let none : is_no_row r ≡ true = λ i. a.0 i && (b.0 i && (c.0 i && (c.1 i && nat_eq (at_once i) 0))) in
    absurd (false≢true (sym some ∙ none))

waits_as : (r : Row) → (r.tries ≡ 0 → r.expiry ≡ 0) → wait_for r.tries r.expiry ≡ r.expiry
waits_as r waits = at (nat_eq r.tries 0) refl
  where
    at : (b : Bool) → nat_eq r.tries 0 ≡ b → cond b 0 r.expiry ≡ r.expiry
    at true e = sym (waits (eqb-true r.tries 0 e))
    at false e = refl

-- what is kept of a row takes the place of an empty one
restored : (contact : ℕ) (id : Id) (r : Row) → r.tries ≤ MAX_TRIES → (r.tries ≡ 0 → r.expiry ≡ 0)
    → row_tried (tried_as contact id r) (unwrap_or None no_row) ≡ r
restored contact id r few waits = λ i. record {
  seen = or_false r.seen i;
  owed = r.owed;
  asked = r.asked;
  tries = within i;
  expiry = waits_as r waits i;
}
  where
    or_false : (b : Bool) → (b || false) ≡ b
    or_false true = refl
    or_false false = refl

    within : min MAX_TRIES r.tries ≡ r.tries
    within = omega (arith, few)

-- what is said of a row that is told
record IsTellable (g : Facts) (contact : ℕ) (id : Id) (r : Row) : Type 0 where
  not_empty : is_no_row r ≡ false
  few : r.tries ≤ MAX_TRIES
  waits : r.tries ≡ 0 → r.expiry ≡ 0

row_told : (g : Facts) (rows : Rows) (wanted : Wants) (contact : ℕ) (id : Id) (r : Row) → contact < g.contacts
    → is_held g.held id ≡ true
    → IsTellable g contact id r → fin_map.get rows (contact, id) ≡ None
    → IsTold g (entry.Tried (tried_as contact id r) ∷ []) rows wanted (fin_map.insert rows (contact, id) r) wanted
row_told g rows wanted contact id r known held is new = record {
  suits = (
    record {
      known_contact = known;
      held = held;
      few_tries = is.few;
      no_wait = is.waits;
      not_empty = untold_empty r is.waits (is_untold r) refl is.not_empty;
      first = ap (λ (o : Option Row). is_no_row (unwrap_or o no_row)) new;
    },
    tt,
  );
  reached = ap (λ (w : Rows). with_peers g w wanted)
      (ap (λ (o : Option Row). put_row rows (contact, id)
      (row_tried (tried_as contact id r) (unwrap_or o no_row))) new
      ∙ (ap (put_row rows (contact, id)) (restored contact id r is.few is.waits)
      ∙ ap (λ b. cond b (fin_map.remove rows (contact, id)) (fin_map.insert rows (contact, id) r)) is.not_empty));
}

-- the entry of a row, where there is one
found_told : (g : Facts) (rows : Rows) (wanted : Wants) (contact : ℕ) (id : Id) (o : Option Row) → contact < g.contacts
    → is_held g.held id ≡ true
    → ((r : Row) → o ≡ Some r → IsTellable g contact id r) → fin_map.get rows (contact, id) ≡ None
    → IsTold g (row_entry contact id (unwrap_or o no_row)) rows wanted (put rows (contact, id) o)
    wanted
found_told g rows wanted contact id None known held is new = told_none g rows wanted
found_told g rows wanted contact id (Some r) known held is new =
    let one : IsTellable g contact id r = is r refl in
    subst (λ b. IsTold g (cond b [] (entry.Tried (tried_as contact id r) ∷ [])) rows wanted
    (fin_map.insert rows (contact, id) r) wanted) (sym one.not_empty)
    (row_told g rows wanted contact id r known held one new)

-- ---- the rows of a contact

module _ (f g : Facts) (has : HasRows f) (waits : HasWaits f.rows) (wanted : Wants) (contact : ℕ)
    (known : contact < g.contacts) where
  tellable : (id : Id) (r : Row) → fin_map.get f.rows (contact, id) ≡ Some r → IsTellable g contact id r
  tellable id r at = record {
    not_empty = (has contact id r at).not_empty;
    few = (has contact id r at).few_tries;
    waits = λ e. ap (λ (o : Option Row). (unwrap_or o no_row).expiry) (sym at)
        ∙ waits contact id (ap (λ (o : Option Row). (unwrap_or o no_row).tries) at ∙ e);
  }

  -- another id of the contact is told nothing by this one
  untouched : (rows : Rows) (x id : Id) → same_id x id ≡ false → fin_map.get rows (contact, id) ≡ None
      → fin_map.get (put rows (contact, x) (fin_map.get f.rows (contact, x))) (contact, id) ≡ None
  untouched rows x id apart none =
      put-get f.rows rows contact contact id x
      ∙ (missed (nat_eq contact contact) (same_id x id) (both f.rows rows contact id) (fin_map.get rows (contact, id))
      apart ∙ none)
    where
      missed : (a b : Bool) (m o : Option Row) → b ≡ false → cond (a && b) m o ≡ o
      missed true b m o e = ap (λ b. cond b m o) e
      missed false b m o e = refl

  pub rows_told : (rows : Rows) (hs : List Held) → has_repeat (ids_of_held hs) ≡ false
      → ((id : Id) → is_among (ids_of_held hs) id ≡ true → is_held g.held id ≡ true)
      → ((id : Id) → is_among (ids_of_held hs) id ≡ true → fin_map.get rows (contact, id) ≡ None)
      → IsTold g (row_entries f.rows contact hs) rows wanted (fill f.rows rows contact (ids_of_held hs)) wanted
  rows_told rows [] distinct held new = told_none g rows wanted
  rows_told rows (h ∷ hs) distinct held new =
      let parts = or_parts (is_among (ids_of_held hs) h.id) (has_repeat (ids_of_held hs)) distinct in
      let here : is_among (h.id ∷ ids_of_held hs) h.id ≡ true =
      or_left (same_id h.id h.id) (is_among (ids_of_held hs) h.id) (same_id_itself h.id) in
      let then : Rows = put rows (contact, h.id) (fin_map.get f.rows (contact, h.id)) in
      told_then g (row_entry contact h.id (row_at f.rows contact h.id)) (row_entries f.rows contact hs)
      rows wanted then wanted (fill f.rows then contact (ids_of_held hs)) wanted
      (found_told g rows wanted contact h.id (fin_map.get f.rows (contact, h.id)) known (held h.id here) (tellable h.id)
      (new h.id here))
      (rows_told then hs parts.1
      (λ id e. held id (or_right (same_id h.id id) (is_among (ids_of_held hs) id) e))
      (λ id e. untouched rows h.id id (other h.id hs id parts.0 e (same_id h.id id) refl)
      (new id (or_right (same_id h.id id) (is_among (ids_of_held hs) id) e))))
    where
      other : (x : Id) (hs : List Held) (id : Id) → is_among (ids_of_held hs) x ≡ false
          → is_among (ids_of_held hs) id ≡ true → (b : Bool) → same_id x id ≡ b → b ≡ false
      other x hs id none e false is = refl
      other x hs id none e true is =
          absurd (false≢true (sym none ∙ (ap (is_among (ids_of_held hs)) (same_id-is x id is) ∙ e)))
