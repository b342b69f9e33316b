-- What holds of plain facts stays so when a row changes.
use Rattle.std.proofs.Common.{◌≡◌, ℕ, ◌<◌, arith, Bool, subst, true, false, cond, ◌&&◌, List, Some, refl, sym, ◌∙◌, ap, nat_eq, eq-eqb, eqb-true, is_some}
use Rattle.std.specs.List.{slice_get}
use Rattle.std.proofs.lemmas.Bool.{and_parts, false≢true}
use Rattle.sync_rules.specs.Facts.{Held, Id, Known, LevelMap, Row, Rows, change_row, is_held, row_at}
use Rattle.sync_rules.specs.Lists.{same_id}
use Rattle.sync_rules.specs.Views.{IsPlace, place_of}
use Rattle.sync_rules.proofs.Elements.{same_id-is, same_id_itself}
use Rattle.sync_rules.proofs.RowLaws.{hits, row_at_change}
use Rattle.journal_audit.specs.declared.messages.Line.{Line}
use Rattle.journal_audit.specs.declared.early.Mark.{Mark}
use Rattle.journal_audit.specs.declared.ready.Ready.{Ready}
use Rattle.journal_audit.specs.Early.{AreLate, goes_early, lowered, mark_of}
use Rattle.journal_audit.specs.Lines.{Kept, held_in, held_of}
use Rattle.journal_audit.specs.Numbers.{has_for}
use Rattle.journal_audit.specs.Plain.{AreSound, HasPlainRows, OwesAcks}
use Rattle.journal_audit.specs.Sleeping.{SleeperLists}
use Rattle.journal_audit.specs.Standing.{AreStanding, IsPlaced, may_go}
use Rattle.journal_audit.proofs.Lines.{get_held, place_own}
use Rattle.journal_audit.proofs.Stands.{stand_put, within_on}

never : (b : Bool) → b ≡ true → b ≡ false → ⊥
never b holds fails = false≢true (sym fails ∙ holds)

not_true : (b : Bool) → (b ≡ true → ⊥) → b ≡ false
not_true true h = absurd (h refl)
not_true false h = refl

module _ (contacts : ℕ) (groups : List Known) (levels : LevelMap) (kept : Kept) (rows : Rows) (waiting : List ℕ) (sleepers : SleeperLists) (owed : List (List ℕ)) (ready : Ready) (early : List Mark)
    (s : AreSound contacts groups levels kept rows waiting sleepers owed ready early) where
  module _ (rows' : Rows) (owed' : List (List ℕ)) (ready' : Ready) (c : ℕ) (id : Id) (n : ℕ) (change : Row → Row) (row : Row) (l : Line) (place : IsPlace (held_in kept.lines) id n)
      (changed : rows' ≡ change_row rows c id change) (row_is : row ≡ change (row_at rows c id))
      (owed_is : (x m : ℕ) → has_for owed' x m ≡ cond (nat_eq x c && nat_eq m n) row.owed (has_for owed x m))
      (here_is : slice_get kept.lines n ≡ Some l) (goes : Bool) (goes_is : goes ≡ may_go levels c l row) (placed : IsPlaced ready ready' c n goes row)
      (early' : List Mark) (fallen : (x : ℕ) → mark_of early' x ≡ cond (nat_eq x c) (lowered n (mark_of early x)) (mark_of early x)) where
    abbrev held : List Held
    held = held_in kept.lines

    row_now : (x : ℕ) (y : Id) → row_at rows' x y ≡ cond (hits x y c id) (change (row_at rows x y)) (row_at rows x y)
    row_now x y = ap (λ (r : Rows). row_at r x y) changed ∙ row_at_change rows x c y id change

    rows_fit : HasPlainRows held rows'
    rows_fit x y none =
        let apart : same_id id y ≡ false = not_true (same_id id y) (λ e. never (is_held held id) (ap is_some place.first) (ap (is_held held) (same_id-is id y e) ∙ none)) in
        row_now x y ∙ (ap (λ b. cond (nat_eq x c && b) (change (row_at rows x y)) (row_at rows x y)) apart ∙ (by (nat_eq x c) ∙ s.rows_fit x y none))
      where
        by : (t : Bool) → cond (t && false) (change (row_at rows x y)) (row_at rows x y) ≡ row_at rows x y
        by true = refl
        by false = refl

    -- the message of the number is the one of the id
    here : (m : ℕ) (h : Held) → slice_get held m ≡ Some h → same_id id h.id ≡ true → m ≡ n
    here m h at e =
        let one : Some m ≡ Some n = sym (place_own held m h s.lines.distinct at) ∙ (ap (place_of held) (sym (same_id-is id h.id e) ∙ sym place.named) ∙ place_own held n place.message s.lines.distinct place.stands) in
        cc

    there : (m : ℕ) (h : Held) → slice_get held m ≡ Some h → m ≡ n → same_id id h.id ≡ true
    there m h at e =
        let one : Some h ≡ Some place.message = sym at ∙ (ap (slice_get held) e ∙ place.stands) in
        let same : h ≡ place.message = cc in
        ap (λ (k : Held). same_id id k.id) same ∙ (ap (same_id id) place.named ∙ same_id_itself id)

    -- the row and the number are hit together
    hit : (x m : ℕ) (h : Held) → slice_get held m ≡ Some h → hits x h.id c id ≡ (nat_eq x c && nat_eq m n)
    hit x m h at = ap (λ b. nat_eq x c && b) (by (same_id id h.id) refl) where
      by : (b : Bool) → same_id id h.id ≡ b → same_id id h.id ≡ nat_eq m n
      by true e = e ∙ sym (eq-eqb m n (here m h at e))
      by false e = e ∙ sym (not_true (nat_eq m n) (λ t. never (same_id id h.id) (there m h at (eqb-true m n t)) e))

    -- where they are hit, the row is the one that was made
    made : (x m : ℕ) (h : Held) → slice_get held m ≡ Some h → (nat_eq x c && nat_eq m n) ≡ true → row_at rows' x h.id ≡ row
    made x m h at e =
        let both = and_parts (nat_eq x c) (nat_eq m n) e in
        let contact : x ≡ c = eqb-true x c both.0 in
        let named : id ≡ h.id = same_id-is id h.id (there m h at (eqb-true m n both.1)) in
        row_now x h.id ∙ (ap (λ b. cond b (change (row_at rows x h.id)) (row_at rows x h.id)) (hit x m h at ∙ e)
        ∙ ((λ i. change (row_at rows (contact i) (sym named i))) ∙ sym row_is))

    left : (x m : ℕ) (h : Held) → slice_get held m ≡ Some h → (nat_eq x c && nat_eq m n) ≡ false → row_at rows' x h.id ≡ row_at rows x h.id
    left x m h at e = row_now x h.id ∙ ap (λ b. cond b (change (row_at rows x h.id)) (row_at rows x h.id)) (hit x m h at ∙ e)

    owes : OwesAcks held rows' owed'
    owes x m h under at out = by (nat_eq x c && nat_eq m n) refl where
      by : (b : Bool) → (nat_eq x c && nat_eq m n) ≡ b → (row_at rows' x h.id).owed ≡ false
      by true e = ap (λ (r : Row). r.owed) (made x m h at e) ∙ (sym (owed_is x m ∙ ap (λ b. cond b row.owed (has_for owed x m)) e) ∙ out)
      by false e = ap (λ (r : Row). r.owed) (left x m h at e) ∙ s.owes x m h under at (sym (owed_is x m ∙ ap (λ b. cond b row.owed (has_for owed x m)) e) ∙ out)

    stand : AreStanding levels kept rows' ready'
    stand =
        stand_put levels kept rows rows' ready ready' c n l goes row here_is
        (made c n (held_of l) (get_held kept.lines n l here_is) (itself c n))
        (λ x m y at e. left x m (held_of y) (get_held kept.lines m y at) e) goes_is placed s.stand
      where
        itself : (a b : ℕ) → (nat_eq a a && nat_eq b b) ≡ true
        itself a b = λ i. eq-eqb a a refl i && eq-eqb b b refl i

    -- behind the row that changed nothing is said, and before it the rows are the same
    late : AreLate kept rows' early'
    late x m y at low = by (nat_eq x c) (nat_eq m n) refl refl where
      by : (a b : Bool) → nat_eq x c ≡ a → nat_eq m n ≡ b → goes_early (mark_of early' x).latency (mark_of early' x).now (row_at rows' x y.id) ≡ false
      by true true ec en =
          let is : mark_of early' x ≡ lowered n (mark_of early x) = fallen x ∙ ap (λ t. cond t (lowered n (mark_of early x)) (mark_of early x)) ec in
          let same : m ≡ n = eqb-true m n en in
          let below : m < (lowered n (mark_of early x)).from = subst (λ (k : Mark). m < k.from) is low in
          absurd (omega (arith, below, same))
      by true false ec en =
          let is : mark_of early' x ≡ lowered n (mark_of early x) = fallen x ∙ ap (λ t. cond t (lowered n (mark_of early x)) (mark_of early x)) ec in
          let below : m < (lowered n (mark_of early x)).from = subst (λ (k : Mark). m < k.from) is low in
          let row_same = left x m (held_of y) (get_held kept.lines m y at) ((λ i. ec i && en i)) in
          (λ i. goes_early (is i).latency (is i).now (row_same i)) ∙ s.late x m y at (omega (arith, below))
      by false b ec en =
          let is : mark_of early' x ≡ mark_of early x = fallen x ∙ ap (λ t. cond t (lowered n (mark_of early x)) (mark_of early x)) ec in
          let below : m < (mark_of early x).from = subst (λ (k : Mark). m < k.from) is low in
          let row_same = left x m (held_of y) (get_held kept.lines m y at) ((λ i. ec i && en i)) in
          (λ i. goes_early (is i).latency (is i).now (row_same i)) ∙ s.late x m y at below

    pub sound_row : AreSound contacts groups levels kept rows' waiting sleepers owed' ready' early'
    sound_row = record {
      lines = s.lines;
      levels_fit = s.levels_fit;
      grouped = s.grouped;
      rows_fit = rows_fit;
      waits = s.waits;
      owes = owes;
      stand = stand;
      within = within_on kept ready ready' s.within placed.cursors;
      late = late;
    }
