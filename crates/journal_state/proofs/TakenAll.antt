-- Entries taken one after the other.
use Rattle.std.proofs.Common.{◌≡◌, List, [], ◌∷◌, ◌++◌, length, refl, sym, ◌∙◌, ap, subst, append_assoc, arith}
use Rattle.sync_rules.specs.declared.entries.Entry.{Entry}
use Rattle.sync_rules.specs.Facts.{Facts, after, after_all}
use Rattle.journal_state.specs.Taking.{CanTake, CanTakeAll, TakesEntry, TakesAll}
use Rattle.journal_state.specs.Whole.{StateValue}

-- so many entries are taken, and these are left
pub record IsUnderway (old new : StateValue) (done left all : List Entry) : Type 0 where
  pub taken : TakesAll old new done
  pub can : CanTakeAll new left
  pub whole : done ++ left ≡ all

pub underway_none : (s : StateValue) (left all : List Entry) → left ≡ all → CanTakeAll s all → IsUnderway s s [] left all
underway_none s left all e can = record { taken = record { facts = refl; knows = λ clients k. k }; can = subst (CanTakeAll s) (sym e) can; whole = e }

after_more : (f : Facts) (es : List Entry) (e : Entry) → after_all f (es ++ e ∷ []) ≡ after (after_all f es) e
after_more f [] e = refl
after_more f (x ∷ es) e = after_more (after f x) es e

pub underway_can : (old new : StateValue) (done left rest all : List Entry) (e : Entry) → IsUnderway old new done left all → left ≡ e ∷ rest → CanTake new e
underway_can old new done left rest all e u same = (subst (CanTakeAll new) same u.can).0

pub underway_more : (old mid new : StateValue) (done left rest all : List Entry) (e : Entry) → IsUnderway old mid done left all → left ≡ e ∷ rest → TakesEntry mid new e
    → IsUnderway old new (done ++ e ∷ []) rest all
underway_more old mid new done left rest all e u same t = record {
  taken = record {
    facts = t.facts ∙ (ap (λ (f : Facts). after f e) u.taken.facts ∙ sym (after_more old.facts done e));
    knows = λ clients k. t.knows clients (u.taken.knows clients k);
  };
  can = (subst (CanTakeAll mid) same u.can).1 new t;
  whole = append_assoc done (e ∷ []) rest ∙ (ap (λ (es : List Entry). done ++ es) (sym same) ∙ u.whole);
}

append_none : (es : List Entry) → es ++ [] ≡ es
append_none [] = refl
append_none (e ∷ es) = ap (λ (xs : List Entry). e ∷ xs) (append_none es)

pub underway_whole : (old new : StateValue) (done left all : List Entry) → IsUnderway old new done left all → left ≡ [] → TakesAll old new all
underway_whole old new done left all u none =
    subst (λ (es : List Entry). TakesAll old new es) (sym (append_none done) ∙ (ap (λ (es : List Entry). done ++ es) (sym none) ∙ u.whole)) u.taken

pub none_left : (es : List Entry) → length es ≡ 0 → es ≡ []
none_left [] e = refl
none_left (x ∷ es) e = absurd (omega arith)
