-- A settling batch that is filled step by step.
use Rattle.std.proofs.Common.{◌≡◌, ℕ, zero, suc, ◌+◌, ◌<◌, ◌≤◌, List, [], ◌∷◌, ◌++◌, length, get_or, set, length-append, refl, sym, ◌∙◌, ap, arith, Some}
use Rattle.sync_rules.specs.declared.entries.Entry.{Entry}
use Rattle.sync_rules.specs.Clients.{Meaning}
use Rattle.sync_rules.specs.Facts.{Facts, after, after_all, facts}
use Rattle.sync_rules.specs.Steps.{next}
use Rattle.sync_rules.specs.Legal.{IsSettling}
use Rattle.plain_rules.specs.Settling.{AddsSettling, with_last}
use Rattle.sync_rules.specs.Left.{left_of}
use Rattle.sync_rules.proofs.LeftLaws.{steps_lower}
use Rattle.sync_rules.proofs.WorkLaws.{facts-push}

with_last-is : (old : List (List Entry)) (b : List Entry) (e : Entry) → with_last (old ++ b ∷ []) e ≡ old ++ (b ++ e ∷ []) ∷ []
with_last-is [] b e = refl
with_last-is (x ∷ []) b e = refl
with_last-is (x ∷ y ∷ old) b e = ap (λ (t : List (List Entry)). x ∷ t) (with_last-is (y ∷ old) b e)

-- the last batch, put back with one more entry
pub set_last : (bs : List (List Entry)) (i : ℕ) (old new : List Entry) (e : Entry) → i + 1 ≡ length bs → old ≡ get_or bs i old → new ≡ old ++ e ∷ []
    → set bs i new ≡ with_last bs e
set_last [] i old new e n at is = absurd (omega arith)
set_last (b ∷ []) zero old new e n at is = ap (λ (x : List Entry). x ∷ []) (is ∙ ap (λ (x : List Entry). x ++ e ∷ []) at)
set_last (b ∷ []) (suc i) old new e n at is = absurd (omega arith)
set_last (b ∷ c ∷ bs) zero old new e n at is = absurd (omega arith)
set_last (b ∷ c ∷ bs) (suc i) old new e n at is = ap (λ (t : List (List Entry)). b ∷ t) (set_last (c ∷ bs) i old new e (omega (arith, n)) at is)

settling-push : (clients : Meaning) (f : Facts) (es : List Entry) (e : Entry) → IsSettling clients f es → next clients (after_all f es) ≡ Some e → IsSettling clients f (es ++ e ∷ [])
settling-push clients f [] e s n = (n, tt)
settling-push clients f (x ∷ es) e s n = (s.0, settling-push clients (after f x) es e s.1 n)

pub adds_one : (clients : Meaning) (j : List (List Entry)) (e : Entry) → next clients (facts j) ≡ Some e → AddsSettling clients 1 j (j ++ (e ∷ []) ∷ [])
adds_one clients j e n = record { batch = e ∷ []; stands = refl; some = omega arith; few = omega arith; settling = (n, tt) }

pub adds_more : (clients : Meaning) (most : ℕ) (old j : List (List Entry)) (e : Entry) → AddsSettling clients most old j → next clients (facts j) ≡ Some e
    → AddsSettling clients (most + 1) old (with_last j e)
adds_more clients most old j e a n =
    let at : facts j ≡ after_all (facts old) a.batch = ap facts a.stands ∙ facts-push old a.batch in
    let longer : length (a.batch ++ e ∷ []) ≡ length a.batch + 1 = length-append a.batch (e ∷ []) in
    let few : length a.batch ≤ most = a.few in
    record {
      batch = a.batch ++ e ∷ [];
      stands = ap (λ (x : List (List Entry)). with_last x e) a.stands ∙ with_last-is old a.batch e;
      some = omega (arith, longer);
      few = omega (arith, longer, few);
      settling = settling-push clients (facts old) a.batch e a.settling (sym (ap (next clients) at) ∙ n);
    }

-- fewer steps are left behind a settling batch
pub fewer_left : (clients : Meaning) (most : ℕ) (old j : List (List Entry)) → AddsSettling clients most old j → left_of (facts j) < left_of (facts old)
fewer_left clients most old j a =
    let at : left_of (facts j) ≡ left_of (after_all (facts old) a.batch) = ap left_of (ap facts a.stands ∙ facts-push old a.batch) in
    let lower = steps_lower clients (facts old) a.batch a.settling in
    omega (arith, at, lower, a.some)
