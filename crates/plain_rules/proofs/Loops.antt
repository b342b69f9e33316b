-- One more turn of a loop over entries or batches, and its end.
use Rattle.std.proofs.Common.{◌≡◌, ℕ, zero, suc, ◌+◌, ◌<◌, ◌≤◌, Bool, true, false, cond, List, [], ◌∷◌, ◌++◌, take, drop, get_or, length, add-one, refl, sym, ◌∙◌, ap, arith, append-nil}
use Rattle.sync_rules.specs.declared.entries.Entry.{Entry}
use Rattle.sync_rules.specs.Facts.{Facts, after, after_all, facts}
use Rattle.sync_rules.proofs.Kept.{after_all-append}
use Rattle.sync_rules.proofs.WorkLaws.{facts-push}

-- a choice of the same
pub same_conds : {A : Type 0} (a : Bool) (x : A) → x ≡ cond a x x
same_conds true x = refl
same_conds false x = refl

drop-all : {A : Type 0} (i : ℕ) (xs : List A) → length xs ≤ i → drop i xs ≡ []
drop-all zero [] end = refl
drop-all (suc i) [] end = refl
drop-all zero (x ∷ xs) end = absurd (omega arith)
drop-all (suc i) (x ∷ xs) end = drop-all i xs (omega (arith, end))

take-more : {A : Type 0} (xs : List A) (k : ℕ) (x : A) → k < length xs → x ≡ get_or xs k x → take (suc k) xs ≡ take k xs ++ x ∷ []
take-more [] k x within at = absurd (omega arith)
take-more (y ∷ ys) zero x within at = ap (λ z. z ∷ []) (sym at)
take-more (y ∷ ys) (suc k) x within at = ap (λ t. y ∷ t) (take-more ys k x (omega (arith, within)) at)

pub entries_more : (f : Facts) (es : List Entry) (k : ℕ) (e : Entry) → k < length es → e ≡ get_or es k e
    → after_all f (take (k + 1) es) ≡ after (after_all f (take k es)) e
entries_more f es k e within at =
    ap (λ n. after_all f (take n es)) (add-one k) ∙ (ap (after_all f) (take-more es k e within at) ∙ after_all-append f (take k es) (e ∷ []))

pub batches_more : (bs : List (List Entry)) (k : ℕ) (b : List Entry) → k < length bs → b ≡ get_or bs k b
    → facts (take (k + 1) bs) ≡ after_all (facts (take k bs)) b
batches_more bs k b within at =
    ap (λ n. facts (take n bs)) (add-one k) ∙ (ap facts (take-more bs k b within at) ∙ facts-push (take k bs) b)

-- at the end of a loop that pushes what each element gives, all was pushed
pub pushed_all : {A B : Type 0} (F : List A → List B) (xs : List A) (i : ℕ) (pushed whole : List B) → length xs ≤ i → F [] ≡ []
    → pushed ++ F (drop i xs) ≡ whole → pushed ≡ whole
pushed_all F xs i pushed whole end none is =
    sym (append-nil pushed) ∙ (ap (λ t. pushed ++ t) (sym (ap F (drop-all i xs end) ∙ none)) ∙ is)
