-- Rows keep their limits: at most MAX_TRIES tries, and a time only behind a try.
use Rattle.std.proofs.Common.{◌≡◌, ℕ, ◌<◌, ◌≤◌, Bool, true, false, cond, nat_lt, List, length, refl, sym, ◌∙◌, ap, subst, arith}
use Rattle.sync_rules.specs.declared.entries.Tried.{Tried}
use Rattle.sync_rules.specs.Facts.{Row, one_more_try}
use Rattle.retry_table.specs.Table as retry
use Rattle.journal_state.specs.declared.marks.Mark.{Mark}
use Rattle.journal_state.specs.declared.marks.Mark.TheVariants as mark
use Rattle.journal_state.specs.Delivery.{ReadiesMessage}
use Rattle.journal_state.specs.Inside.{IsLimited, LimitsRows}
use Rattle.journal_state.specs.Marks.{marked}
use Rattle.journal_state.proofs.Tables.{either, kept_here, kept_there}

few_tries : (tries : ℕ) → one_more_try tries ≤ 64
few_tries tries = omega arith

some_try : (tries : ℕ) → one_more_try tries ≡ 0 → ⊥
some_try tries e = omega arith

pub limited_mark : (m : Mark) (r : Row) → IsLimited r → IsLimited (marked m r)
limited_mark mark.Heard r l = record { few = l.few; wait = l.wait }
limited_mark mark.Seen r l = record { few = l.few; wait = l.wait }
limited_mark mark.Asked r l = record { few = omega arith; wait = λ e. refl }
limited_mark mark.Acked r l = record { few = l.few; wait = l.wait }
limited_mark (mark.Offered now latency) r l = record { few = few_tries r.tries; wait = λ e. absurd (some_try r.tries e) }
limited_mark (mark.Sent now latency) r l = record { few = few_tries r.tries; wait = λ e. absurd (some_try r.tries e) }

pub limited_tried : (t : Tried) (r : Row) → t.tries ≤ 64 → (t.tries ≡ 0 → t.expiry ≡ 0) → IsLimited (retry.row_restored t r)
limited_tried t r few wait = record { few = few; wait = wait }

-- nothing is kept
pub limits_none : (table : retry.Table) → retry.IsEmpty table → LimitsRows table
limits_none table none contact n =
    let row : ◌≡◌ {A = Row} (retry.kept_at table contact n).row retry.no_kept.row = ap (λ (ks : List retry.KeptRow). (retry.kept_in ks n).row) (none.rows contact) in
    subst IsLimited (sym row) (record { few = omega arith; wait = λ e. refl })

-- the rows are as before
pub limits_same : (old new : retry.Table) → ((contact n : ℕ) → (retry.kept_at new contact n).row ≡ (retry.kept_at old contact n).row) → LimitsRows old → LimitsRows new
limits_same old new same l contact n = subst IsLimited (sym (same contact n)) (l contact n)

-- one row is another
pub limits_kept : (old new : retry.Table) (contact n : ℕ) (kept : retry.KeptRow) → retry.KeepsRow old new contact n kept → n < length (retry.rows_of old contact)
    → IsLimited kept.row → LimitsRows old → LimitsRows new
limits_kept old new contact n kept k within own l c m = either c contact
    (λ e. either m n
    (λ q. subst IsLimited (sym ((λ i. (retry.kept_at new (e i) (q i)).row) ∙ ap (λ (x : retry.KeptRow). x.row) (kept_here old new contact n kept k within))) own)
    (λ away. subst IsLimited (sym (ap (λ (x : retry.KeptRow). x.row) (kept_there old new contact n kept k c m (λ same q. away q)))) (l c m)))
    (λ away. subst IsLimited (sym (ap (λ (x : retry.KeptRow). x.row) (kept_there old new contact n kept k c m (λ same q. away same)))) (l c m))

-- ---- a message is made ready

row_readied : (goes : Bool) (w : retry.KeptRow) → (cond goes (retry.with_ready true w) w).row ≡ w.row
row_readied true w = refl
row_readied false w = refl

pub readied_row : (old new : retry.Table) (goes : ℕ → Bool) (contacts n : ℕ) → ReadiesMessage old new goes contacts n → (contact k : ℕ)
    → (retry.kept_at new contact k).row ≡ (retry.kept_at old contact k).row
readied_row old new goes contacts n r contact k = either k n own (λ away. ap (λ (w : retry.KeptRow). w.row) (r.apart contact k away))
  where
    own : k ≡ n → (retry.kept_at new contact k).row ≡ (retry.kept_at old contact k).row
    own q = by (nat_lt contact contacts) refl
      where
        by : (b : Bool) → nat_lt contact contacts ≡ b → (retry.kept_at new contact k).row ≡ (retry.kept_at old contact k).row
        by true f =
            ap (λ j. (retry.kept_at new contact j).row) q
            ∙ (ap (λ (w : retry.KeptRow). w.row) (r.here contact (grind (arith, f)))
            ∙ (row_readied (goes contact) (retry.kept_at old contact n) ∙ ap (λ j. (retry.kept_at old contact j).row) (sym q)))
        by false f = ap (λ (ks : List retry.KeptRow). (retry.kept_in ks k).row) (r.beyond contact (grind (arith, f)))
