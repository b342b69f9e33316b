-- Sessions stay known, and a journal that was just begun hears.
use Rattle.std.proofs.Common.{◌≡◌, ℕ, true, cond, List, refl, sym, ◌∙◌, ap, arith, Option, Some}
use Rattle.std.proofs.Common.{None, is_some, unwrap_or}
use Rattle.std.specs.FinMap as fin_map
use Rattle.std.specs.Ordering.{nat_cmp}
use Rattle.sync_ids.specs.Values.{GroupValue}
use Rattle.sync_ids.specs.Ids.{group_id_of}
use Rattle.sync_rules.specs.declared.entries.Entry.{Entry}
use Rattle.sync_rules.specs.declared.entries.Session.{Session}
use Rattle.sync_rules.specs.Clients.{Meaning}
use Rattle.sync_rules.specs.Facts.{Facts, after_all, after_batches, session_at, contact_of}
use Rattle.sync_rules.specs.Facts.{contact_in, known_of}
use Rattle.sync_rules.specs.Steps.{kind_of_def}
use Rattle.sync_rules.specs.Hearing.{IsHearing, one_session}
use Rattle.sync_rules.proofs.Elements.{same_id_itself}
use Rattle.sync_rules.proofs.Continuing.{continues_all, continues_batches}

-- ---- sessions stay

-- a session that is known stays known, with its contact
pub record Stays (f g : Facts) (n : ℕ) : Type 0 where
  pub known : is_some (session_at g.sessions n) ≡ true
  pub contact : contact_of g.sessions n ≡ contact_of f.sessions n

stays_at : (f g : Facts) (n : ℕ) (o : Option Session) → session_at f.sessions n ≡ o → is_some o ≡ true
    → ((s : Session) → session_at f.sessions n ≡ Some s → session_at g.sessions n ≡ Some s) → Stays f g n
stays_at f g n None e known up = cc
stays_at f g n (Some s) e known up =
    let at : session_at g.sessions n ≡ Some s = up s e in
    record { known = ap is_some at; contact = ap contact_in at ∙ sym (ap contact_in e) }

pub stays_all : (f : Facts) (es : List Entry) (n : ℕ) → is_some (session_at f.sessions n) ≡ true → Stays f (after_all f es) n
stays_all f es n known = stays_at f (after_all f es) n (session_at f.sessions n) refl known (λ s e. (continues_all f es).same_session n s e)

pub stays_batches : (f : Facts) (bs : List (List Entry)) (n : ℕ) → is_some (session_at f.sessions n) ≡ true → Stays f (after_batches f bs) n
stays_batches f bs n known = stays_at f (after_batches f bs) n (session_at f.sessions n) refl known (λ s e. (continues_batches f bs).same_session n s e)

-- ---- the beginning

pub one_session_hears : (clients : Meaning) (def : GroupValue) → is_some (kind_of_def clients def) ≡ true → IsHearing clients (one_session def) 0 0 0
one_session_hears clients def known = record {
  legal = (
    (refl, refl, (refl, omega arith)),
    (
      (refl, refl, record { known_client = known; new = refl; few = omega arith }),
      (
        (
          refl,
          refl,
          (
            omega arith,
            ap (λ b. is_some (cond b (Some (known_of def)) None))
                (same_id_itself (group_id_of def)),
          ),
        ),
        (
          (refl, refl, record { numbered = refl; few = omega arith; known_contact = omega arith; some_latency = omega arith; suited_nonce = refl }),
          tt,
        ),
      ),
    ),
  );
  settled = refl;
  known_session = refl;
  same_contact = refl;
  numbered = sym (ap (λ (o : Option ℕ). unwrap_or o 0) (fin_map.get-empty nat_cmp 0));
}
