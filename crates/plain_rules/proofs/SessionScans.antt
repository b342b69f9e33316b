-- The session of a number is found by going over entries.
use Rattle.std.proofs.Common.{◌≡◌, ℕ, true, false, cond, nat_eq, List, [], ◌∷◌, ◌++◌, refl, sym, ◌∙◌, ap, Some, None}
use Rattle.sync_rules.specs.declared.entries.Entry.{Entry}
use Rattle.sync_rules.specs.declared.entries.Entry.TheVariants as entry
use Rattle.sync_rules.specs.declared.entries.Session.{Session}
use Rattle.sync_rules.specs.Facts.{Facts, after, after_all, after_batches, nothing, facts, session_at}
use Rattle.sync_rules.specs.Scans.{first_of_two}
use Rattle.plain_rules.specs.Sessions.{session_named, first_session, first_session_in}
use Rattle.sync_rules.proofs.ScanLaws.{first-none, first-assoc}

session-push : (sessions : List Session) (x : Session) (n : ℕ)
    → session_at (sessions ++ x ∷ []) n ≡ first_of_two (session_at sessions n) (cond (nat_eq x.number n) (Some x) None)
session-push [] x n = refl
session-push (y ∷ sessions) x n =
    elim (nat_eq y.number n) as (λ b. cond b (Some y) (session_at (sessions ++ x ∷ []) n)
    ≡ first_of_two (cond b (Some y) (session_at sessions n)) (cond (nat_eq x.number n) (Some x) None)) [
      | true ↦ refl
      | false ↦ session-push sessions x n
    ]

session_after_one : (f : Facts) (e : Entry) (n : ℕ) → session_at (after f e).sessions n ≡ first_of_two (session_at f.sessions n) (session_named n e)
session_after_one f (entry.Session s) n = session-push f.sessions s n
session_after_one f _ n = sym (first-none (session_at f.sessions n))

session_after_all : (f : Facts) (es : List Entry) (n : ℕ) → session_at (after_all f es).sessions n ≡ first_of_two (session_at f.sessions n) (first_session n es)
session_after_all f [] n = sym (first-none (session_at f.sessions n))
session_after_all f (e ∷ es) n =
    session_after_all (after f e) es n
    ∙ (ap (λ o. first_of_two o (first_session n es)) (session_after_one f e n)
    ∙ first-assoc (session_at f.sessions n) (session_named n e) (first_session n es))

session_after_batches : (f : Facts) (bs : List (List Entry)) (n : ℕ) → session_at (after_batches f bs).sessions n ≡ first_of_two (session_at f.sessions n) (first_session_in n bs)
session_after_batches f [] n = sym (first-none (session_at f.sessions n))
session_after_batches f (b ∷ bs) n =
    session_after_batches (after_all f b) bs n
    ∙ (ap (λ o. first_of_two o (first_session_in n bs)) (session_after_all f b n)
    ∙ first-assoc (session_at f.sessions n) (first_session n b) (first_session_in n bs))

pub session_found : (j : List (List Entry)) (es : List Entry) (n : ℕ)
    → session_at (after_all (facts j) es).sessions n ≡ first_of_two (first_session_in n j) (first_session n es)
session_found j es n =
    session_after_all (facts j) es n ∙ ap (λ o. first_of_two o (first_session n es)) (session_after_batches nothing j n)
