-- What a journal knows of rows and of wanted ids: a row without tries has no wait, and each known contact has a list of
-- wanted ids, perhaps an empty one.
use Rattle.std.proofs.Common.{◌≡◌, ℕ, ◌+◌, ◌<◌, Bool, true, false, cond, nat_eq, List, [], ◌∷◌}
use Rattle.std.proofs.Common.{Option, Some, is_some, refl, sym, ◌∙◌, ap, subst, arith, unwrap_or}
use Rattle.std.specs.FinMap as fin_map
use Rattle.std.specs.Ordering.{nat_cmp, eq_by_cmp}
use Rattle.std.specs.Cmp.{nat_cmp_total, unsigned_tied}
use Rattle.sync_ids.specs.Ids.{message_id_of}
use Rattle.sync_rules.specs.declared.entries.Entry.{Entry}
use Rattle.sync_rules.specs.declared.entries.Entry.TheVariants as entry
use Rattle.sync_rules.specs.declared.entries.Out.TheVariants as out
use Rattle.sync_rules.specs.declared.entries.Tried.{Tried}
use Rattle.sync_rules.specs.Clients.{Meaning}
use Rattle.sync_rules.specs.Lists.{firsts, without}
use Rattle.sync_rules.specs.Facts.{Facts, Id, Row, Rows, Wants, after, after_all, change_each}
use Rattle.sync_rules.specs.Facts.{change_row, change_rows, contact_of, entries_of, facts, is_held}
use Rattle.sync_rules.specs.Facts.{latency_of, nothing, pair_cmp, row_acked, row_asked, row_at}
use Rattle.sync_rules.specs.Facts.{row_heard, row_offered, row_seen, row_sent, row_tried, wait_for}
use Rattle.sync_rules.specs.Facts.{wanted_by_none, wanted_from, with_want, without_each, no_row}
use Rattle.sync_rules.specs.Legal.{Legal}
use Rattle.sync_rules.specs.Meeting.{AllMeet, MeetsNoStep}
use Rattle.sync_rules.specs.Consistency.{HasHeld, HasRows, HasWanted}
use Rattle.sync_rules.proofs.Kept.{after_batches-is}
use Rattle.sync_rules.proofs.RowLaws.{hits, row_at_change}
use Rattle.sync_rules.proofs.MeetingLaws.{legal_meets}
use Rattle.sync_rules.proofs.ConsistencyLaws.{legal_consistent}

-- ---- a row without tries has no wait

abbrev pub HasWaits : Rows → Type 0
HasWaits rows = (contact : ℕ) (id : Id) → (row_at rows contact id).tries ≡ 0 → (row_at rows contact id).expiry ≡ 0

abbrev IsWaiting : Row → Type 0
IsWaiting r = r.tries ≡ 0 → r.expiry ≡ 0

-- a change that keeps that
abbrev KeepsWait : (Row → Row) → Type 0
KeepsWait change = (r : Row) → IsWaiting r → IsWaiting (change r)

waits_chosen : (b : Bool) (change : Row → Row) (r : Row) → KeepsWait change → IsWaiting r
    → IsWaiting (cond b (change r) r)
waits_chosen true change r keeps is = keeps r is
waits_chosen false change r keeps is = is

waits_change : (rows : Rows) (c : ℕ) (x : Id) (change : Row → Row) → KeepsWait change → HasWaits rows
    → HasWaits (change_row rows c x change)
waits_change rows c x change keeps has contact id =
    subst IsWaiting (sym (row_at_change rows contact c id x change))
    (waits_chosen (hits contact id c x) change (row_at rows contact id) keeps (has contact id))

waits_changes : (rows : Rows) (c : ℕ) (ids : List Id) (change : Row → Row) → KeepsWait change → HasWaits rows
    → HasWaits (change_rows rows c ids change)
waits_changes rows c [] change keeps has = has
waits_changes rows c (x ∷ ids) change keeps has =
    waits_changes (change_row rows c x change) c ids change keeps (waits_change rows c x change keeps has)

offered_waits : (now latency : ℕ) → KeepsWait (row_offered now latency)
offered_waits now latency r is none = absurd (omega (arith, none))

sent_waits : (now latency : ℕ) → KeepsWait (row_sent now latency)
sent_waits now latency r is none = absurd (omega (arith, none))

tried_waits : (t : Tried) → KeepsWait (row_tried t)
tried_waits t r is none = let same : t.tries ≡ 0 = omega (arith, none) in ap (λ (n : ℕ). wait_for n t.expiry) same

waits_after : (f : Facts) (e : Entry) → HasWaits f.rows → HasWaits (after f e).rows
waits_after f (entry.Arrive s m) has =
    waits_change f.rows (contact_of f.sessions s) (message_id_of m) row_heard (λ r is. is) has
waits_after f (entry.Again s id) has = waits_change f.rows (contact_of f.sessions s) id row_heard (λ r is. is) has
waits_after f (entry.Seen s id) has = waits_change f.rows (contact_of f.sessions s) id row_seen (λ r is. is) has
waits_after f (entry.Asked s id) has = waits_change f.rows (contact_of f.sessions s) id row_asked (λ r is e. refl) has
waits_after f (entry.Out s now (out.Acks ids)) has =
    waits_changes f.rows (contact_of f.sessions s) (firsts ids) row_acked (λ r is. is) has
waits_after f (entry.Out s now (out.Requests ids)) has = has
waits_after f (entry.Out s now (out.Offers ids)) has =
    waits_changes f.rows (contact_of f.sessions s) (firsts ids) (row_offered now (latency_of f.sessions s))
    (offered_waits now (latency_of f.sessions s)) has
waits_after f (entry.Out s now (out.Send id)) has =
    waits_change f.rows (contact_of f.sessions s) id (row_sent now (latency_of f.sessions s))
    (sent_waits now (latency_of f.sessions s)) has
waits_after f (entry.Tried t) has = waits_change f.rows t.contact t.id (row_tried t) (tried_waits t) has
waits_after f _ has = has

waits_all : (f : Facts) (es : List Entry) → HasWaits f.rows → HasWaits (after_all f es).rows
waits_all f [] has = has
waits_all f (e ∷ es) has = waits_all (after f e) es (waits_after f e has)

-- it holds of every list of batches
pub has_waits : (j : List (List Entry)) → HasWaits (facts j).rows
has_waits j =
    subst (λ (f : Facts). HasWaits f.rows) (sym (after_batches-is nothing j))
    (waits_all nothing (entries_of j)
    (λ contact id e. ap (λ (o : Option Row). (unwrap_or o no_row).expiry)
    (fin_map.get-empty pair_cmp (contact, id))))

-- ---- each known contact has a list of wanted ids

abbrev pub HasLists : ℕ → Wants → Type 0
HasLists contacts wanted = (contact : ℕ) → contact < contacts → is_some (fin_map.get wanted contact) ≡ true

some_chosen : (b : Bool) (ids : List Id) (o : Option (List Id)) → is_some (cond b (Some ids) o) ≡ cond b true (is_some o)
some_chosen true ids o = refl
some_chosen false ids o = refl

some_put : (wanted : Wants) (c : ℕ) (ids : List Id) (contact : ℕ)
    → is_some (fin_map.get (fin_map.insert wanted c ids) contact)
    ≡ cond (nat_eq contact c) true (is_some (fin_map.get wanted contact))
some_put wanted c ids contact =
    ap is_some (fin_map.get-insert nat_cmp_total wanted c ids contact)
    ∙ (some_chosen (eq_by_cmp nat_cmp contact c) ids (fin_map.get wanted contact)
    ∙ ap (λ b. cond b true (is_some (fin_map.get wanted contact))) (unsigned_tied contact c))

either_way : (b : Bool) (o : Option (List Id)) → is_some o ≡ true → cond b true (is_some o) ≡ true
either_way true o e = refl
either_way false o e = e

lists_put : (contacts : ℕ) (wanted : Wants) (c : ℕ) (ids : List Id) → HasLists contacts wanted
    → HasLists contacts (fin_map.insert wanted c ids)
lists_put contacts wanted c ids has contact known =
    some_put wanted c ids contact ∙ either_way (nat_eq contact c) (fin_map.get wanted contact) (has contact known)

-- one contact more
lists_more : (contacts : ℕ) (wanted : Wants) (c : ℕ) (ids : List Id) → c ≡ contacts → HasLists contacts wanted
    → HasLists (contacts + 1) (fin_map.insert wanted c ids)
lists_more contacts wanted c ids next has contact known =
    some_put wanted c ids contact ∙ chosen (nat_eq contact c) refl
  where
    chosen : (b : Bool) → nat_eq contact c ≡ b → cond b true (is_some (fin_map.get wanted contact)) ≡ true
    chosen true e = refl
    chosen false e = has contact
        (let apart : contact ≡ contacts → ⊥ = λ same. eqb_apart contact c e (same ∙ sym next) in
        omega (arith, known, apart))
      where
        eqb_apart : (a b : ℕ) → nat_eq a b ≡ false → a ≡ b → ⊥
        eqb_apart a b e same = absurd (grind (arith, e, same))

some_changed : (change : List Id → List Id) (es : List (ℕ × List Id)) (contact : ℕ)
    → is_some (fin_map.find nat_cmp contact (change_each change es)) ≡ is_some (fin_map.find nat_cmp contact es)
some_changed change [] contact = refl
some_changed change (e ∷ es) contact =
    elim (eq_by_cmp nat_cmp contact e.0) as (λ b.
    is_some (cond b (Some (change e.1)) (fin_map.find nat_cmp contact (change_each change es)))
    ≡ is_some (cond b (Some e.1) (fin_map.find nat_cmp contact es))) [
      | true ↦ refl
      | false ↦ some_changed change es contact
    ]

lists_held : (contacts : ℕ) (wanted : Wants) (id : Id) → HasLists contacts wanted
    → HasLists contacts (wanted_by_none wanted id)
lists_held contacts wanted id has contact known =
    ap is_some (fin_map.get-from_entries nat_cmp_total (change_each (without id) (fin_map.entries wanted)) contact)
    ∙ (some_changed (without id) (fin_map.entries wanted) contact
    ∙ (ap is_some (sym (fin_map.get-entries wanted contact)) ∙ has contact known))

lists_after : (clients : Meaning) (f : Facts) (e : Entry) → MeetsNoStep clients f e → HasLists f.contacts f.wanted
    → HasLists (after f e).contacts (after f e).wanted
lists_after clients f (entry.Contact c) met has =
    lists_more f.contacts f.wanted c (wanted_from f.wanted c) met.1.0 has
lists_after clients f (entry.Author m) met has = lists_held f.contacts f.wanted (message_id_of m) has
lists_after clients f (entry.Arrive s m) met has = lists_held f.contacts f.wanted (message_id_of m) has
lists_after clients f (entry.Kept from m) met has = lists_held f.contacts f.wanted (message_id_of m) has
lists_after clients f (entry.Offered s id) met has =
    lists_put f.contacts f.wanted (contact_of f.sessions s)
    (with_want (is_held f.held id) (wanted_from f.wanted (contact_of f.sessions s)) id) has
lists_after clients f (entry.Out s now (out.Requests ids)) met has =
    lists_put f.contacts f.wanted (contact_of f.sessions s)
    (without_each ids (wanted_from f.wanted (contact_of f.sessions s))) has
lists_after clients f (entry.Want c id) met has =
    lists_put f.contacts f.wanted c (with_want (is_held f.held id) (wanted_from f.wanted c) id) has
lists_after clients f _ met has = has

lists_all : (clients : Meaning) (f : Facts) (es : List Entry) → AllMeet clients f es → HasLists f.contacts f.wanted
    → HasLists (after_all f es).contacts (after_all f es).wanted
lists_all clients f [] met has = has
lists_all clients f (e ∷ es) met has = lists_all clients (after f e) es met.1 (lists_after clients f e met.0 has)

pub has_lists : (clients : Meaning) (j : List (List Entry)) → Legal clients j
    → HasLists (facts j).contacts (facts j).wanted
has_lists clients j l =
    subst (λ (f : Facts). HasLists f.contacts f.wanted) (sym (after_batches-is nothing j))
    (lists_all clients nothing (entries_of j) (legal_meets clients j l) (λ contact known. absurd (omega (arith, known))))

-- ---- all of it

pub record HasPeers (f : Facts) : Type 0 where
  pub held : HasHeld f
  pub rows : HasRows f
  pub wanted : HasWanted f
  pub waits : HasWaits f.rows
  pub lists : HasLists f.contacts f.wanted

pub legal_has_peers : (clients : Meaning) (j : List (List Entry)) → Legal clients j → HasPeers (facts j)
legal_has_peers clients j l = record {
  held = (legal_consistent clients j l).held;
  rows = (legal_consistent clients j l).rows;
  wanted = (legal_consistent clients j l).wanted;
  waits = has_waits j;
  lists = has_lists clients j l;
}
