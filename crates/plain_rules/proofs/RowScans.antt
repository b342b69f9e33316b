-- The row of a contact and a message is found by going over entries, and how long a message waits.
use Rattle.std.proofs.Common.{◌≡◌, ℕ, zero, suc, ◌+◌, ◌*◌, ◌-◌, ◌^◌, ◌<◌, ◌≤◌, min, Bool, true}
use Rattle.std.proofs.Common.{false, cond, ◌&&◌, nat_eq, List, take, get_or, length, refl, sym, ◌∙◌}
use Rattle.std.proofs.Common.{ap, arith, Option, unwrap_or}
use Rattle.std.proofs.Math.Nat.{pow-suc, mul_assoc}
use Rattle.std.specs.FinMap as fin_map
use Rattle.sync_ids.specs.Ids.{message_id_of}
use Rattle.sync_rules.specs.declared.entries.Entry.{Entry}
use Rattle.sync_rules.specs.declared.entries.Entry.TheVariants as entry
use Rattle.sync_rules.specs.declared.entries.Out.TheVariants as out
use Rattle.sync_rules.specs.Lists.{same_id, is_among}
use Rattle.sync_rules.specs.Facts.{Facts, Id, Row, after, after_all, nothing, contact_of}
use Rattle.sync_rules.specs.Facts.{latency_of, row_at, no_row, pair_cmp, row_heard, row_seen}
use Rattle.sync_rules.specs.Facts.{row_asked, row_acked, row_offered, row_sent, row_tried}
use Rattle.plain_rules.specs.Rows.{row_then}
use Rattle.sync_rules.proofs.RowLaws.{row_at_change, row_at_firsts}
use Rattle.plain_rules.proofs.Loops.{entries_more, same_conds}

both_conds : {A : Type 0} (a b : Bool) (x y : A) → cond (a && b) x y ≡ cond a (cond b x y) y
both_conds true b x y = refl
both_conds false b x y = refl

-- the law of one more entry, of a whole row
pub row_step : (f : Facts) (contact : ℕ) (id : Id) (e : Entry) → row_at (after f e).rows contact id ≡ row_then contact id f (row_at f.rows contact id) e
row_step f contact id (entry.Arrive s m) = row_at_change f.rows contact (contact_of f.sessions s) id (message_id_of m) row_heard
row_step f contact id (entry.Again s x) = row_at_change f.rows contact (contact_of f.sessions s) id x row_heard
row_step f contact id (entry.Seen s x) = row_at_change f.rows contact (contact_of f.sessions s) id x row_seen
row_step f contact id (entry.Asked s x) = row_at_change f.rows contact (contact_of f.sessions s) id x row_asked
row_step f contact id (entry.Out s now (out.Acks ids)) =
    row_at_firsts f.rows contact (contact_of f.sessions s) id ids row_acked
    ∙ both_conds (nat_eq contact (contact_of f.sessions s)) (is_among ids id) (row_acked (row_at f.rows contact id)) (row_at f.rows contact id)
row_step f contact id (entry.Out s now (out.Requests ids)) = same_conds (nat_eq contact (contact_of f.sessions s)) (row_at f.rows contact id)
row_step f contact id (entry.Out s now (out.Offers ids)) =
    row_at_firsts f.rows contact (contact_of f.sessions s) id ids (row_offered now (latency_of f.sessions s))
    ∙ both_conds (nat_eq contact (contact_of f.sessions s)) (is_among ids id) (row_offered now (latency_of f.sessions s) (row_at f.rows contact id)) (row_at f.rows contact id)
row_step f contact id (entry.Out s now (out.Send x)) =
    row_at_change f.rows contact (contact_of f.sessions s) id x (row_sent now (latency_of f.sessions s))
    ∙ both_conds (nat_eq contact (contact_of f.sessions s)) (same_id x id) (row_sent now (latency_of f.sessions s) (row_at f.rows contact id)) (row_at f.rows contact id)
row_step f contact id (entry.Tried t) = row_at_change f.rows contact t.contact id t.id (row_tried t)
row_step f contact id _ = refl

pub no_row_at : (contact : ℕ) (id : Id) → row_at nothing.rows contact id ≡ no_row
no_row_at contact id = ap (λ (o : Option Row). unwrap_or o no_row)
    (fin_map.get-empty pair_cmp (contact, id))

-- ---- the wait

pub doubled : (x n : ℕ) → 1 ≤ n → min (min (x * 2 ^ (n - 1)) (2 ^ 64 - 1) * 2) (2 ^ 64 - 1) ≡ min (x * 2 ^ (n + 1 - 1)) (2 ^ 64 - 1)
doubled x zero one = absurd (omega arith)
doubled x (suc m) one =
    let a : suc m - 1 ≡ m = omega arith in
    let b : suc m + 1 - 1 ≡ suc m = omega arith in
    rw (a, b) (twice (x * 2 ^ m) (x * 2 ^ suc m) (ap (λ y. x * y) (pow-suc 2 m) ∙ sym (mul_assoc x (2 ^ m) 2)))
  where
    twice : (y z : ℕ) → z ≡ y * 2 → min (min y (2 ^ 64 - 1) * 2) (2 ^ 64 - 1) ≡ min z (2 ^ 64 - 1)
    twice y z e = omega arith

-- ---- a loop

pub row_goes_on : (f : Facts) (es : List Entry) (k : ℕ) (e : Entry) (contact : ℕ) (id : Id) (was now : Row) → k < length es → e ≡ get_or es k e
    → was ≡ row_at (after_all f (take k es)).rows contact id → now ≡ row_then contact id (after_all f (take k es)) was e
    → now ≡ row_at (after_all f (take (k + 1) es)).rows contact id
row_goes_on f es k e contact id was now within at before is =
    is
    ∙ (ap (λ (r : Row). row_then contact id (after_all f (take k es)) r e) before
    ∙ sym (ap (λ (g : Facts). row_at g.rows contact id) (entries_more f es k e within at) ∙ row_step (after_all f (take k es)) contact id e))
