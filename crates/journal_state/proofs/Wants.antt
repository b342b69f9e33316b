-- The wanted ids that the table of what is due stands for.
use Rattle.std.proofs.Common.{◌≡◌, ℕ, zero, suc, ◌<◌, ◌≤◌, Bool, true, false, cond, nat_eq, nat_le}
use Rattle.std.proofs.Common.{List, [], Option, Some, refl, sym, ◌∙◌, ap, arith, eqb-true}
use Rattle.std.proofs.Common.{unwrap_or}
use Rattle.std.specs.FinMap as fin_map
use Rattle.std.specs.Cmp.{nat_cmp_total, unsigned_ties}
use Rattle.std.specs.Ordering.{nat_cmp, eq_by_cmp}
use Rattle.sync_rules.specs.Facts.{Id, Wants, wanted_from}
use Rattle.retry_table.specs.Table as retry
use Rattle.journal_state.specs.Parts.{wants_in}

chosen : (b : Bool) (ids : List Id) (o : Option (List Id)) → unwrap_or (cond b (Some ids) o) []
    ≡ cond b ids (unwrap_or o [])
chosen true ids o = refl
chosen false ids o = refl

-- the ids wanted from a contact once one contact's are set
pub wanted_insert : (wanted : Wants) (c contact : ℕ) (ids : List Id) → wanted_from (fin_map.insert wanted c ids) contact ≡ cond (nat_eq contact c) ids (wanted_from wanted contact)
wanted_insert wanted c contact ids =
    ap (λ (o : Option (List Id)). unwrap_or o [])
    (fin_map.get-insert nat_cmp_total wanted c ids contact)
    ∙ (chosen (eq_by_cmp nat_cmp contact c) ids (fin_map.get wanted contact) ∙ ap (λ b. cond b ids (wanted_from wanted contact)) (sym (unsigned_ties contact c)))

below_step : (table : retry.Table) (c k : ℕ) (b : Bool) → nat_eq c k ≡ b → c < suc k → (c < k → wanted_from (wants_in table k) c ≡ (retry.wants_of table c).ids)
    → cond b (retry.wants_of table k).ids (wanted_from (wants_in table k) c) ≡ (retry.wants_of table c).ids
below_step table c k true e below later = ap (λ x. (retry.wants_of table x).ids) (sym (eqb-true c k e))
below_step table c k false e below later = later (grind (arith, e))

wants_below : (table : retry.Table) (contacts c : ℕ) → c < contacts → wanted_from (wants_in table contacts) c ≡ (retry.wants_of table c).ids
wants_below table zero c below = absurd (omega arith)
wants_below table (suc k) c below =
    wanted_insert (wants_in table k) k c (retry.wants_of table k).ids ∙ below_step table c k (nat_eq c k) refl below (wants_below table k c)

beyond_step : (c k : ℕ) (b : Bool) (ids w : List Id) → nat_eq c k ≡ b → suc k ≤ c → w ≡ [] → cond b ids w ≡ []
beyond_step c k true ids w e beyond none = absurd (let same : c ≡ k = eqb-true c k e in omega arith)
beyond_step c k false ids w e beyond none = none

wants_beyond : (table : retry.Table) (contacts c : ℕ) → contacts ≤ c → wanted_from (wants_in table contacts) c ≡ []
wants_beyond table zero c beyond = ap (λ (o : Option (List Id)). unwrap_or o [])
    (fin_map.get-empty nat_cmp c)
wants_beyond table (suc k) c beyond =
    wanted_insert (wants_in table k) k c (retry.wants_of table k).ids
    ∙ beyond_step c k (nat_eq c k) (retry.wants_of table k).ids (wanted_from (wants_in table k) c) refl beyond (wants_beyond table k c (omega arith))

by_test : (table : retry.Table) (contacts c : ℕ) → ((contact : ℕ) → contacts ≤ contact → (retry.wants_of table contact).ids ≡ []) → (b : Bool) → nat_le contacts c ≡ b
    → wanted_from (wants_in table contacts) c ≡ (retry.wants_of table c).ids
by_test table contacts c free true e = let beyond : contacts ≤ c = grind (arith, e) in wants_beyond table contacts c beyond ∙ sym (free c beyond)
by_test table contacts c free false e = wants_below table contacts c (grind (arith, e))

-- the ids wanted from a contact are those that are kept for it
pub wants_found : (table : retry.Table) (contacts c : ℕ) → ((contact : ℕ) → contacts ≤ contact → (retry.wants_of table contact).ids ≡ [])
    → wanted_from (wants_in table contacts) c ≡ (retry.wants_of table c).ids
wants_found table contacts c free = by_test table contacts c free (nat_le contacts c) refl
