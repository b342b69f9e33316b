-- Marks of a list of held messages, one after the other.
use Rattle.std.proofs.Common.{◌≡◌, ℕ, zero, suc, ◌<◌, Bool, true, List, [], ◌∷◌, ◌++◌, length, get_or, refl, sym, ◌∙◌, ap, arith}
use Rattle.std.specs.List.{list_all}
use Rattle.std.proofs.lemmas.Bool.{and_parts}
use Rattle.sync_rules.specs.Facts.{Facts, Id, Row, Rows, change_row, change_rows}
use Rattle.journal_state.specs.Room.{KeepsRoom}
use Rattle.journal_state.specs.Whole.{StateValue}

pub rows_more : (rows : Rows) (contact : ℕ) (xs : List Id) (x : Id) (f : Row → Row) → change_rows rows contact (xs ++ x ∷ []) f ≡ change_row (change_rows rows contact xs f) contact x f
rows_more rows contact [] x f = refl
rows_more rows contact (y ∷ xs) x f = rows_more (change_row rows contact y f) contact xs x f

pub all_at : {A : Type 0} (test : A → Bool) (xs : List A) (i : ℕ) (d : A) → i < length xs → list_all test xs ≡ true → test (get_or xs i d) ≡ true
all_at test [] i d within all = absurd (omega arith)
all_at test (x ∷ xs) zero d within all = (and_parts (test x) (list_all test xs) all).0
all_at test (x ∷ xs) (suc i) d within all = all_at test xs i d (omega arith) (and_parts (test x) (list_all test xs) all).1

-- the rows of these ids are changed, and all else is as it was
pub record IsMarked (old new : StateValue) (contact : ℕ) (ids : List Id) (change : Row → Row) : Type 0 where
  pub facts : new.facts ≡ record old.facts { rows = change_rows old.facts.rows contact ids change }
  pub answers : new.answers ≡ old.answers
  pub room : KeepsRoom old.room new.room

pub marked_none : (s : StateValue) (contact : ℕ) (change : Row → Row) → IsMarked s s contact [] change
marked_none s contact change = record { facts = refl; answers = refl; room = record { entries = omega arith; rows = λ c. omega arith; wants = λ c. omega arith } }

pub marked_more : (old mid new : StateValue) (contact : ℕ) (ids : List Id) (id : Id) (change : Row → Row) → IsMarked old mid contact ids change
    → new.facts ≡ record mid.facts { rows = change_row mid.facts.rows contact id change } → new.answers ≡ mid.answers → KeepsRoom mid.room new.room
    → IsMarked old new contact (ids ++ id ∷ []) change
marked_more old mid new contact ids id change m facts answers room = record {
  facts =
      facts
      ∙ (ap (λ (f : Facts). record f { rows = change_row f.rows contact id change }) m.facts
      ∙ ap (λ (rows : Rows). record old.facts { rows = rows }) (sym (rows_more old.facts.rows contact ids id change)));
  answers = answers ∙ m.answers;
  room = record {
    entries = let a = m.room.entries in let b = room.entries in omega (arith, a, b);
    rows = λ c. let a = m.room.rows c in let b = room.rows c in omega (arith, a, b);
    wants = λ c. let a = m.room.wants c in let b = room.wants c in omega (arith, a, b);
  };
}

-- what is held is as before
pub marked_held : (old new : StateValue) (contact : ℕ) (ids : List Id) (change : Row → Row) → IsMarked old new contact ids change → new.facts.held ≡ old.facts.held
marked_held old new contact ids change m = ap (λ (f : Facts). f.held) m.facts
