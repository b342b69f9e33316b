-- What settling makes of a journal.
use Rattle.std.proofs.Common.{◌≡◌, List, [], ◌∷◌, ◌++◌, sym, ◌∙◌, ap, subst, arith, Some, append_assoc, append-nil}
use Rattle.sync_rules.specs.declared.entries.Entry.{Entry}
use Rattle.sync_rules.specs.declared.entries.Entry.TheVariants as entry
use Rattle.sync_rules.specs.Clients.{Meaning}
use Rattle.sync_rules.specs.Facts.{Facts, after_all, after_batches, nothing, facts}
use Rattle.sync_rules.specs.Steps.{next}
use Rattle.sync_rules.specs.Legal.{Allowed, IsSettlingBatch, AllSettling, GoesOn, Legal}
use Rattle.sync_rules.specs.Hearing.{SettlesJournal}
use Rattle.sync_rules.specs.EntryTests.{IsSettlingEntry}
use Rattle.sync_rules.proofs.StepLaws.{next_is_settling}
use Rattle.sync_rules.proofs.Settling.{goes_on_both, after_batches-append}

-- ---- journals

pub facts-push : (j : List (List Entry)) (b : List Entry) → facts (j ++ b ∷ []) ≡ after_all (facts j) b
facts-push j b = after_batches-append nothing j (b ∷ [])

pub settles_itself : (clients : Meaning) (j : List (List Entry)) → SettlesJournal clients j j
settles_itself clients j = record { more = []; extends = sym (append-nil j); settling = tt }

all_settling-append : (clients : Meaning) (f : Facts) (bs cs : List (List Entry)) → AllSettling clients f bs → AllSettling clients (after_batches f bs) cs → AllSettling clients f (bs ++ cs)
all_settling-append clients f [] cs a b = b
all_settling-append clients f (x ∷ bs) cs a b = (a.0, all_settling-append clients (after_all f x) bs cs a.1 b)

pub settles_then : (clients : Meaning) (old mid new : List (List Entry)) → SettlesJournal clients old mid → SettlesJournal clients mid new → SettlesJournal clients old new
settles_then clients old mid new a b =
    let whole : facts mid ≡ after_batches (facts old) a.more = ap facts a.extends ∙ after_batches-append nothing old a.more in
    record {
      more = a.more ++ b.more;
      extends = b.extends ∙ (ap (λ (x : List (List Entry)). x ++ b.more) a.extends ∙ append_assoc old a.more b.more);
      settling = all_settling-append clients (facts old) a.more b.more a.settling (subst (λ (f : Facts). AllSettling clients f b.more) whole b.settling);
    }

one_step_batch : (clients : Meaning) (f : Facts) (e : Entry) → next clients f ≡ Some e → IsSettlingBatch clients f (e ∷ [])
one_step_batch clients f e n = (omega arith, omega arith, (n, tt))

pub settles_step : (clients : Meaning) (old j : List (List Entry)) (e : Entry) → SettlesJournal clients old j → next clients (facts j) ≡ Some e → SettlesJournal clients old (j ++ (e ∷ []) ∷ [])
settles_step clients old j e s n =
    let whole : facts j ≡ after_batches (facts old) s.more = ap facts s.extends ∙ after_batches-append nothing old s.more in
    record {
      more = s.more ++ (e ∷ []) ∷ [];
      extends = ap (λ (x : List (List Entry)). x ++ (e ∷ []) ∷ []) s.extends ∙ append_assoc old s.more ((e ∷ []) ∷ []);
      settling = all_settling-append clients (facts old) s.more ((e ∷ []) ∷ []) s.settling
          (subst (λ (f : Facts). AllSettling clients f ((e ∷ []) ∷ [])) whole (one_step_batch clients (facts j) e n, tt));
    }

allowed_by : (clients : Meaning) (f : Facts) (e : Entry) (es : List Entry) → IsSettlingEntry e → IsSettlingBatch clients f (e ∷ es) → Allowed clients f (e ∷ es)
allowed_by clients f (entry.Judged id) es k s = s
allowed_by clients f (entry.Deliver id) es k s = s
allowed_by clients f (entry.Invalid id) es k s = s
allowed_by clients f _ es k s = absurd k

pub allowed_settling : (clients : Meaning) (f : Facts) (es : List Entry) → IsSettlingBatch clients f es → Allowed clients f es
allowed_settling clients f [] s = absurd (omega arith)
allowed_settling clients f (e ∷ es) s = allowed_by clients f e es (next_is_settling clients f e s.2.0) s

pub settling_goes_on : (clients : Meaning) (f : Facts) (bs : List (List Entry)) → AllSettling clients f bs → GoesOn clients f bs
settling_goes_on clients f [] a = tt
settling_goes_on clients f (b ∷ bs) a = (allowed_settling clients f b a.0, settling_goes_on clients (after_all f b) bs a.1)

pub settles_legal : (clients : Meaning) (old new : List (List Entry)) → SettlesJournal clients old new → Legal clients old → Legal clients new
settles_legal clients old new s l =
    subst (Legal clients) (sym s.extends) (goes_on_both clients nothing old s.more l (settling_goes_on clients (facts old) s.more s.settling))
