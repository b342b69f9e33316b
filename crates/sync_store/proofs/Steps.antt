-- Steps of settling: what they leave as it was, and how many there can be.
use Rattle.std.proofs.Common.{◌≡◌, ℕ, ◌+◌, ◌≤◌, Bool, false, IsTrue, ◌↔◌, List, [], ◌∷◌, ◌++◌}
use Rattle.std.proofs.Common.{length, Some, refl, sym, ap, ◌∙◌, arith}
use Rattle.std.specs.List.{AllByRecursion}
use Rattle.std.proofs.lemmas.Bool.{false≢true}
use Rattle.sync_rules.specs.declared.entries.Entry.{Entry}
use Rattle.sync_rules.specs.Clients.{Meaning}
use Rattle.sync_rules.specs.Consistency.{ids_of_held}
use Rattle.sync_rules.specs.Facts.{Facts, after, after_all, after_batches, takes_of}
use Rattle.sync_rules.specs.Left.{left_of}
use Rattle.sync_rules.proofs.LeftLaws.{steps_lower}
use Rattle.sync_rules.specs.Legal.{AllSettling, IsSettling}
use Rattle.sync_rules.proofs.BatchEntries.{settling_each}
use Rattle.sync_rules.proofs.StepKinds.{settling_only}
use Rattle.sync_rules.specs.Steps.{IsSettled, next}
use Rattle.sync_rules.specs.EntryTests.{IsSettlingEntry}
use Rattle.entry_codec.specs.Payloads.{names_of}
use Rattle.sync_store.specs.Settling.{AreFilled, IsFullBatch, steps_in}
use Rattle.sync_store.specs.Store.{HasNumbers}

-- ---- the entries

pub all_steps : (clients : Meaning) (f : Facts) (es : List Entry) → IsSettling clients f es
    → AllByRecursion IsSettlingEntry es
all_steps clients f es settling =
    settling_each IsSettlingEntry (λ e step. step) clients f es settling

-- one step more
pub settling-push : (clients : Meaning) (f : Facts) (es : List Entry) (e : Entry)
    → IsSettling clients f es → next clients (after_all f es) ≡ Some e
    → IsSettling clients f (es ++ e ∷ [])
settling-push clients f [] e settling is = (is, tt)
settling-push clients f (x ∷ xs) e settling is =
    (settling.0, settling-push clients (after f x) xs e settling.1 is)

pub after_push : (f : Facts) (es : List Entry) (e : Entry) → after_all f (es ++ e ∷ []) ≡ after
    (after_all f es) e
after_push f [] e = refl
after_push f (x ∷ xs) e = after_push (after f x) xs e

-- steps keep the names
pub names_stay : (clients : Meaning) (f : Facts) (es : List Entry) → IsSettling clients f es
    → names_of (after_all f es) ≡ names_of f
names_stay clients f es settling = ap ids_of_held (settling_only clients f es settling).held

-- ---- counts

-- steps bring no message, begin no session and take no record
pub numbers_stay : (clients : Meaning) (f : Facts) (es : List Entry) (end : ℕ)
    → IsSettling clients f es → HasNumbers f end → HasNumbers (after_all f es) end
numbers_stay clients f es end settling numbers =
    let only = settling_only clients f es settling in
    record {
      held = omega (arith, ap length only.held, numbers.held);
      sessions = omega (arith, ap length only.sessions, numbers.sessions);
      records = λ session.
          omega (arith, ap (λ t. takes_of t session) only.takes, numbers.records session);
    }

-- batches of steps leave as many fewer
pub batches_lower : (clients : Meaning) (f : Facts) (more : List (List Entry))
    → AllSettling clients f more → left_of (after_batches f more) + steps_in more ≤ left_of f
batches_lower clients f [] settling = omega arith
batches_lower clients f (b ∷ bs) settling =
    omega (
      arith,
      steps_lower clients f b settling.0.2,
      batches_lower clients (after_all f b) bs settling.1,
    )

pub steps_in-append : (xs ys : List (List Entry)) → steps_in (xs ++ ys) ≡ steps_in xs + steps_in ys
steps_in-append [] ys = omega arith
steps_in-append (x ∷ xs) ys = omega (arith, steps_in-append xs ys)

-- ---- full batches

one_filled : (more : List (List Entry)) → length more ≤ 1 → AreFilled more
one_filled [] few = tt
one_filled (x ∷ []) few = tt
one_filled (x ∷ y ∷ ys) few = absurd (omega (arith, few))

behind_full : (x : List Entry) (more : List (List Entry)) → IsFullBatch x → length more ≤ 1
    → AreFilled (x ∷ more)
behind_full x [] full few = tt
behind_full x (y ∷ []) full few = (full, tt)
behind_full x (y ∷ z ∷ zs) full few = absurd (omega (arith, few))

-- full batches, and one more at most
pub filled_push : (xs more : List (List Entry)) → AllByRecursion IsFullBatch xs → length more ≤ 1
    → AreFilled (xs ++ more)
filled_push [] more all few = one_filled more few
filled_push (x ∷ []) more all few = behind_full x more all.0 few
filled_push (x ∷ y ∷ ys) more all few = (all.0, filled_push (y ∷ ys) more all.1 few)

pub all-append : {A : Type 0} (P : A → Type 0) (xs ys : List A) → AllByRecursion P xs
    → AllByRecursion P ys → AllByRecursion P (xs ++ ys)
all-append P [] ys first second = second
all-append P (x ∷ xs) ys first second = (first.0, all-append P xs ys first.1 second)

-- a store of which the test says so has a step left
pub unsettled : (clients : Meaning) (f : Facts) (b : Bool) → IsTrue b ↔ IsSettled clients f
    → b ≡ false → IsSettled clients f → ⊥
unsettled clients f b means failed settled = false≢true (sym failed ∙ means.1 settled)
