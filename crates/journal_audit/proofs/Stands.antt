-- Where the messages stand that may go to contacts, and what changes it.
use Rattle.std.proofs.Common.{◌≡◌, ℕ, zero, suc, ◌+◌, ◌<◌, ◌≤◌, Bool, true, false, cond, not, ◌&&◌, ◌||◌, nat_eq, List, [], ◌∷◌, ◌++◌, length, map, drop, None, Some, refl, sym, ◌∙◌, ap, subst, get_or, inl, inr, arith, eq-eqb, eqb-true}
use Rattle.std.specs.List.{AllByRecursion, slice_get}
use Rattle.std.proofs.lemmas.Bool.{and_parts, cases_lt, false≢true, or_cases, or_left, or_parts, or_right}
use Rattle.std.proofs.lemmas.Option.{slice_get-get_or, slice_get_within}
use Rattle.std.proofs.lemmas.List.{length-append}
use Rattle.sync_rules.specs.Consistency.{ids_of_held}
use Rattle.sync_rules.specs.Facts.{Id, LevelMap, Row, Rows, is_level_shared, level_at, row_at}
use Rattle.sync_rules.specs.Lists.{has_repeat, is_among, same_id}
use Rattle.sync_rules.specs.Sessions.{is_author, is_sooner}
use Rattle.sync_rules.proofs.SoonerLaws.{stays_not_sooner}
use Rattle.journal_audit.specs.declared.early.Mark.{Mark}
use Rattle.journal_audit.specs.Early.{AreLate, goes_early, mark_of}
use Rattle.sync_rules.proofs.Elements.{same_id-is}
use Rattle.journal_audit.specs.declared.clocks.Clocks.{Clocks}
use Rattle.journal_audit.specs.declared.facts.PlainFacts.{PlainFacts}
use Rattle.journal_audit.specs.declared.messages.Line.{Line}
use Rattle.journal_audit.specs.declared.ready.Ready.{Ready}
use Rattle.journal_audit.specs.Bringing.{Places}
use Rattle.journal_audit.specs.Changes.{BecomesFacts}
use Rattle.journal_audit.specs.Lines.{AreLines, Kept, delivered_line, held_in, held_of, id_at, line_changed}
use Rattle.journal_audit.specs.Numbers.{CursorList, from_of, has}
use Rattle.journal_audit.specs.Plain.{IsPlainSound, facts_of}
use Rattle.journal_audit.specs.Standing.{AreStanding, AreWithin, IsPlaced, StandsAt, StandsOn, may_go, shares, stands}
use Rattle.journal_audit.proofs.Brought.{brought_then}
use Rattle.journal_audit.proofs.Lines.{get_held, id_at-get, old_or_new, same_place, was_line}
use Rattle.journal_audit.proofs.Sleeps.{has_push}

-- ---- numbers behind a place

none_dropped : (k : ℕ) (ns : List ℕ) (n : ℕ) → has ns n ≡ false → has (drop k ns) n ≡ false
none_dropped zero ns n none = none
none_dropped (suc k) [] n none = none
none_dropped (suc k) (x ∷ ns) n none = none_dropped k ns n (or_parts (nat_eq x n) (has ns n) none).1

drop_push : (k : ℕ) (ns : List ℕ) (n : ℕ) → k ≤ length ns → drop k (ns ++ n ∷ []) ≡ drop k ns ++ n ∷ []
drop_push zero ns n le = refl
drop_push (suc k) [] n le = absurd (omega (arith, le))
drop_push (suc k) (x ∷ ns) n le = drop_push k ns n (omega (arith, le))

drop_at : (k : ℕ) (ns : List ℕ) (n : ℕ) → slice_get ns k ≡ Some n → drop k ns ≡ n ∷ drop (suc k) ns
drop_at k [] n at = cc
drop_at zero (x ∷ ns) n at = let same : x ≡ n = cc in ap (λ (y : ℕ). y ∷ ns) same
drop_at (suc k) (x ∷ ns) n at = drop_at k ns n at

-- the number of a message that was delivered is among those
number_at : (ls : List Line) (k n : ℕ) (l : Line) → has_repeat (ids_of_held (held_in ls)) ≡ false → slice_get ls n ≡ Some l → k < length ls → same_id (id_at ls k) l.id ≡ true → k ≡ n
number_at ls k n l distinct at below same =
    let there : slice_get ls k ≡ Some (get_or ls k l) = slice_get-get_or ls k l below in
    same_place (held_in ls) k n (held_of (get_or ls k l)) (held_of l) distinct (get_held ls k (get_or ls k l) there) (get_held ls n l at)
    (sym (id_at-get ls k (get_or ls k l) there) ∙ same_id-is (id_at ls k) l.id same)

among_has : (ls : List Line) (ns : List ℕ) (n : ℕ) (l : Line) → has_repeat (ids_of_held (held_in ls)) ≡ false → slice_get ls n ≡ Some l → AllByRecursion (λ k. k < length ls) ns
    → is_among (map (id_at ls) ns) l.id ≡ true → has ns n ≡ true
among_has ls [] n l distinct at within some = some
among_has ls (k ∷ ns) n l distinct at within some =
    elim (or_cases (same_id (id_at ls k) l.id) (is_among (map (id_at ls) ns) l.id) some) [
      | inl here ↦ or_left (nat_eq k n) (has ns n) (eq-eqb k n (number_at ls k n l distinct at within.0 here))
      | inr later ↦ or_right (nat_eq k n) (has ns n) (among_has ls ns n l distinct at within.1 later)
    ]

-- a message that may go was delivered
no_go : (levels : LevelMap) (contact : ℕ) (l : Line) (r : Row) → l.delivered ≡ false → may_go levels contact l r ≡ true → ⊥
no_go levels contact l r off goes =
    false≢true (sym off ∙ (and_parts l.delivered (is_level_shared (level_at levels contact l.message.group) && (not r.seen && (is_author l.origin || shares l.answer))) goes).0)

-- nothing may go of what is not among the delivered ones
undelivered : (levels : LevelMap) (kept : Kept) (contact n : ℕ) (l : Line) (r : Row) → AreLines kept → slice_get kept.lines n ≡ Some l → has kept.delivered n ≡ false
    → may_go levels contact l r ≡ true → ⊥
undelivered levels kept contact n l r are at none goes = by l.delivered refl where
  by : (b : Bool) → l.delivered ≡ b → ⊥
  by true e = false≢true (sym none ∙ among_has kept.lines kept.delivered n l are.distinct at are.within (are.ended n l at ∙ e))
  by false e = no_go levels contact l r e goes

-- ---- lines

-- a message more, which is not delivered
pub stand_held : (levels : LevelMap) (kept kept' : Kept) (rows : Rows) (ready : Ready) (l : Line) → AreStanding levels kept rows ready → kept'.lines ≡ kept.lines ++ l ∷ []
    → kept'.delivered ≡ kept.delivered → l.delivered ≡ false → AreStanding levels kept' rows ready
stand_held levels kept kept' rows ready l s more same off c m x few at out =
    elim (old_or_new kept.lines l m x (ap (λ (ls : List Line). slice_get ls m) (sym more) ∙ at)).cases [
      | inl old ↦ s c m x few old (ap (λ (ds : List ℕ). has (drop (from_of ready.cursors c) ds) m) (sym same) ∙ out)
      | inr both ↦ subst (λ (y : Line). StandsAt levels rows ready c m y) (sym both.1) (λ goes. absurd (no_go levels c l (row_at rows c l.id) off goes))
    ]

-- something became of a message that does not matter here
pub stand_changed : (change : Line → Line) (levels : LevelMap) (kept kept' : Kept) (rows : Rows) (ready : Ready) (n : ℕ)
    → ((c m : ℕ) (l : Line) → StandsAt levels rows ready c m l → StandsAt levels rows ready c m (change l)) → AreStanding levels kept rows ready
    → kept'.lines ≡ line_changed change n kept.lines → kept'.delivered ≡ kept.delivered → AreStanding levels kept' rows ready
stand_changed change levels kept kept' rows ready n over s changed same c m x few at out =
    let was = was_line change n kept.lines m x (ap (λ (ls : List Line). slice_get ls m) (sym changed) ∙ at) in
    let old = s c m was.before few was.at (ap (λ (ds : List ℕ). has (drop (from_of ready.cursors c) ds) m) (sym same) ∙ out) in
    elim was.became [
      | inl both ↦ subst (λ (y : Line). StandsAt levels rows ready c m y) (sym both.1) (over c m was.before old)
      | inr both ↦ subst (λ (y : Line). StandsAt levels rows ready c m y) (sym both.1) old
    ]

-- a message is delivered
pub stand_delivered : (levels : LevelMap) (kept kept' : Kept) (rows : Rows) (ready : Ready) (n : ℕ) → AreStanding levels kept rows ready → AreWithin kept ready
    → kept'.lines ≡ line_changed delivered_line n kept.lines → kept'.delivered ≡ kept.delivered ++ n ∷ [] → AreStanding levels kept' rows ready
stand_delivered levels kept kept' rows ready n s within changed pushed c m x few at out =
    let from = from_of ready.cursors c in
    let ds = kept.delivered in
    let was = was_line delivered_line n kept.lines m x (ap (λ (ls : List Line). slice_get ls m) (sym changed) ∙ at) in
    let told : (nat_eq n m || has (drop from ds) m) ≡ false =
    sym (has_push (drop from ds) n m)
    ∙ (ap (λ (t : List ℕ). has t m) (sym (drop_push from ds n (within c))) ∙ (ap (λ (t : List ℕ). has (drop from t) m) (sym pushed) ∙ out)) in
    let parts = or_parts (nat_eq n m) (has (drop from ds) m) told in
    elim was.became [
      | inl both ↦ absurd (false≢true (sym parts.0 ∙ eq-eqb n m (sym both.0)))
      | inr both ↦ subst (λ (y : Line). StandsAt levels rows ready c m y) (sym both.1) (s c m was.before few was.at parts.1)
    ]

pub within_delivered : (kept kept' : Kept) (ready : Ready) (n : ℕ) → AreWithin kept ready → kept'.delivered ≡ kept.delivered ++ n ∷ [] → AreWithin kept' ready
within_delivered kept kept' ready n within pushed c =
    let old = within c in
    let long : length kept'.delivered ≡ length kept.delivered + 1 = ap length pushed ∙ length-append kept.delivered (n ∷ []) in
    omega (arith, old, long)

pub within_same : (kept kept' : Kept) (ready : Ready) → AreWithin kept ready → kept'.delivered ≡ kept.delivered → AreWithin kept' ready
within_same kept kept' ready within same c =
    let old = within c in
    let long : length kept'.delivered ≡ length kept.delivered = ap length same in
    omega (arith, old, long)

-- ---- cursors

-- the cursor of a contact is set back
set_back : (cursors cursors' : CursorList) (c x : ℕ) (ds : List ℕ) (m : ℕ) → ((y : ℕ) → from_of cursors' y ≡ cond (nat_eq y c) 0 (from_of cursors y))
    → has (drop (from_of cursors' x) ds) m ≡ false → has (drop (from_of cursors x) ds) m ≡ false
set_back cursors cursors' c x ds m is out = by (nat_eq x c) refl where
  now : (b : Bool) → nat_eq x c ≡ b → has (drop (cond b 0 (from_of cursors x)) ds) m ≡ false
  now b e = ap (λ (k : ℕ). has (drop k ds) m) (sym (is x ∙ ap (λ t. cond t 0 (from_of cursors x)) e)) ∙ out

  by : (b : Bool) → nat_eq x c ≡ b → has (drop (from_of cursors x) ds) m ≡ false
  by true e = none_dropped (from_of cursors x) ds m (now true e)
  by false e = now false e

pub stand_back : (levels : LevelMap) (kept : Kept) (rows : Rows) (ready : Ready) (cursors' : CursorList) (c : ℕ) → AreStanding levels kept rows ready
    → ((y : ℕ) → from_of cursors' y ≡ cond (nat_eq y c) 0 (from_of ready.cursors y)) → AreStanding levels kept rows (record ready { cursors = cursors' })
stand_back levels kept rows ready cursors' c s is x m l few at out = s x m l few at (set_back ready.cursors cursors' c x kept.delivered m is out)

pub within_set : (kept : Kept) (ready : Ready) (cursors' : CursorList) (c from : ℕ) → AreWithin kept ready → from ≤ length kept.delivered
    → ((y : ℕ) → from_of cursors' y ≡ cond (nat_eq y c) from (from_of ready.cursors y)) → AreWithin kept (record ready { cursors = cursors' })
within_set kept ready cursors' c from within most is x = by (nat_eq x c) refl where
  now : (b : Bool) → nat_eq x c ≡ b → from_of cursors' x ≡ cond b from (from_of ready.cursors x)
  now b e = is x ∙ ap (λ t. cond t from (from_of ready.cursors x)) e

  by : (b : Bool) → nat_eq x c ≡ b → from_of cursors' x ≤ length kept.delivered
  by true e = let same = now true e in omega (arith, same, most)
  by false e = let same = now false e in let old = within x in omega (arith, same, old)

-- the next delivered message stands where it belongs
pub stand_next : (levels : LevelMap) (kept : Kept) (rows : Rows) (ready : Ready) (cursors' : CursorList) (c n k : ℕ) → AreStanding levels kept rows ready
    → ((l : Line) → slice_get kept.lines n ≡ Some l → StandsAt levels rows ready c n l) → from_of ready.cursors c ≡ k → slice_get kept.delivered k ≡ Some n
    → ((y : ℕ) → from_of cursors' y ≡ cond (nat_eq y c) (k + 1) (from_of ready.cursors y)) → AreStanding levels kept rows (record ready { cursors = cursors' })
stand_next levels kept rows ready cursors' c n k s here from next is x m l few at out = by (nat_eq x c) refl where
  ds : List ℕ
  ds = kept.delivered

  now : (b : Bool) → nat_eq x c ≡ b → has (drop (cond b (k + 1) (from_of ready.cursors x)) ds) m ≡ false
  now b e = ap (λ (j : ℕ). has (drop j ds) m) (sym (is x ∙ ap (λ t. cond t (k + 1) (from_of ready.cursors x)) e)) ∙ out

  at_it : x ≡ c → (b : Bool) → nat_eq n m ≡ b → StandsAt levels rows ready x m l
  at_it same true e =
      let number : n ≡ m = eqb-true n m e in
      subst (λ (y : ℕ). StandsAt levels rows ready y m l) (sym same)
      (subst (λ (j : ℕ). StandsAt levels rows ready c j l) number (here l (ap (slice_get kept.lines) number ∙ at)))
  at_it same false e =
      let one : k + 1 ≡ suc k = omega arith in
      let later : has (drop (suc k) ds) m ≡ false =
      ap (λ (j : ℕ). has (drop j ds) m) (sym one) ∙ now true (eq-eqb x c same) in
      let all : has (drop k ds) m ≡ false = ap (λ (t : List ℕ). has t m) (drop_at k ds n next) ∙ (λ i. e i || later i) in
      s x m l few at (ap (λ (j : ℕ). has (drop j ds) m) (ap (from_of ready.cursors) same ∙ from) ∙ all)

  by : (b : Bool) → nat_eq x c ≡ b → StandsAt levels rows ready x m l
  by true e = at_it (eqb-true x c e) (nat_eq n m) refl
  by false e = s x m l few at (now false e)

-- a level was set, and the contact begins anew
pub stand_level : (levels levels' : LevelMap) (kept : Kept) (rows : Rows) (ready : Ready) (cursors' : CursorList) (c : ℕ) → AreLines kept → AreStanding levels kept rows ready
    → ((x : ℕ) (group : Id) → nat_eq x c ≡ false → level_at levels' x group ≡ level_at levels x group)
    → ((y : ℕ) → from_of cursors' y ≡ cond (nat_eq y c) 0 (from_of ready.cursors y)) → AreStanding levels' kept rows (record ready { cursors = cursors' })
stand_level levels levels' kept rows ready cursors' c are s others is x m l few at out = by (nat_eq x c) refl where
  now : (b : Bool) → nat_eq x c ≡ b → has (drop (cond b 0 (from_of ready.cursors x)) kept.delivered) m ≡ false
  now b e = ap (λ (j : ℕ). has (drop j kept.delivered) m) (sym (is x ∙ ap (λ t. cond t 0 (from_of ready.cursors x)) e)) ∙ out

  by : (b : Bool) → nat_eq x c ≡ b → StandsAt levels' rows ready x m l
  by true e = λ goes. absurd (undelivered levels' kept x m l (row_at rows x l.id) are at (now true e) goes)
  by false e = λ goes.
      s x m l few at (now false e)
      ((λ i. l.delivered
      && (is_level_shared (sym (others x l.message.group e) i) && (not (row_at rows x l.id).seen && (is_author l.origin || shares l.answer)))) ∙ goes)

-- ---- what is put where it belongs

-- what stands still does
pub stand_on : (levels : LevelMap) (kept : Kept) (rows : Rows) (ready ready' : Ready) → AreStanding levels kept rows ready → StandsOn ready ready' → AreStanding levels kept rows ready'
stand_on levels kept rows ready ready' s on c m l few at out goes =
    on.stay c m (row_at rows c l.id)
    (s c m l few at (ap (λ (x : CursorList). has (drop (from_of x c) kept.delivered) m) (sym on.cursors) ∙ out) goes)

module _ (levels : LevelMap) (kept : Kept) (rows rows' : Rows) (ready ready' : Ready) (c n : ℕ) (l : Line) (goes : Bool) (row : Row) where
  -- one message was put where it belongs, whose row may be another; the rows of all others are the same
  pub stand_put : slice_get kept.lines n ≡ Some l → row_at rows' c l.id ≡ row
      → ((x m : ℕ) (y : Line) → slice_get kept.lines m ≡ Some y → (nat_eq x c && nat_eq m n) ≡ false → row_at rows' x y.id ≡ row_at rows x y.id)
      → goes ≡ may_go levels c l row → IsPlaced ready ready' c n goes row → AreStanding levels kept rows ready → AreStanding levels kept rows' ready'
  stand_put here row_is left goes_is placed s x m y few at out = by (nat_eq x c && nat_eq m n) refl where
    mine : x ≡ c → m ≡ n → StandsAt levels rows' ready' x m y
    mine contact number =
        let one : Some l ≡ Some y = sym here ∙ (ap (slice_get kept.lines) (sym number) ∙ at) in
        let same : l ≡ y = cc in
        let told : StandsAt levels rows' ready' c n l =
        λ will.
        ap (stands ready' c n) row_is
        ∙ placed.here (goes_is ∙ (ap (may_go levels c l) (sym row_is) ∙ will)) in
        subst (λ (a : ℕ). StandsAt levels rows' ready' a m y) (sym contact)
        (subst (λ (a : ℕ). StandsAt levels rows' ready' c a y) (sym number)
        (subst (λ (a : Line). StandsAt levels rows' ready' c n a) same told))

    by : (b : Bool) → (nat_eq x c && nat_eq m n) ≡ b → StandsAt levels rows' ready' x m y
    by true e = let both = and_parts (nat_eq x c) (nat_eq m n) e in mine (eqb-true x c both.0) (eqb-true m n both.1)
    by false e = λ will.
        let row_same = left x m y at e in
        let was : stands ready x m (row_at rows x y.id) ≡ true =
        s x m y few at (ap (λ (k : CursorList). has (drop (from_of k x) kept.delivered) m) (sym placed.cursors) ∙ out)
        (ap (may_go levels x y) (sym row_same) ∙ will) in
        ap (stands ready' x m) row_same ∙ placed.others x m (row_at rows x y.id) e was

pub within_on : (kept : Kept) (ready ready' : Ready) → AreWithin kept ready → ready'.cursors ≡ ready.cursors → AreWithin kept ready'
within_on kept ready ready' within same c = subst (λ (k : CursorList). from_of k c ≤ length kept.delivered) (sym same) (within c)

-- ---- the facts

-- what is ready is no fact
pub becomes_ready : (p new : PlainFacts) (ready' : Ready) → IsPlainSound p → new ≡ record p { ready = ready' } → AreStanding p.levels p.messages p.rows ready'
    → AreWithin p.messages ready' → BecomesFacts p new (facts_of p)
becomes_ready p new ready' s is stand within =
    subst (λ (q : PlainFacts). BecomesFacts p q (facts_of p)) (sym is)
    (record {
      facts = refl;
      sound = record {
        lines = s.lines;
        levels_fit = s.levels_fit;
        grouped = s.grouped;
        rows_fit = s.rows_fit;
        waits = s.waits;
        owes = s.owes;
        stand = stand;
        within = within;
        late = s.late;
      };
      knows = λ clients knows. knows;
    })

-- a contact's mark went on: no message before it goes before its time
pub becomes_early : (p new : PlainFacts) (early' : List Mark) → IsPlainSound p → new ≡ record p { early = early' } → AreLate p.messages p.rows early' → BecomesFacts p new (facts_of p)
becomes_early p new early' s is late =
    subst (λ (q : PlainFacts). BecomesFacts p q (facts_of p)) (sym is)
    (record {
      facts = refl;
      sound = record {
        lines = s.lines;
        levels_fit = s.levels_fit;
        grouped = s.grouped;
        rows_fit = s.rows_fit;
        waits = s.waits;
        owes = s.owes;
        stand = s.stand;
        within = s.within;
        late = late;
      };
      knows = λ clients knows. knows;
    })

pub late_still : (latency longer now later : ℕ) (r : Row) → latency ≤ longer → now ≤ later → goes_early latency now r ≡ false → goes_early longer later r ≡ false
late_still latency longer now later r l n off =
    by r.seen r.asked (is_sooner latency now r) (is_sooner longer later r) (λ e. stays_not_sooner latency longer now later r l n e) off
  where
    by : (seen asked was will : Bool) → (was ≡ false → will ≡ false) → (not seen && (not asked && was)) ≡ false → (not seen && (not asked && will)) ≡ false
    by true asked was will up e = refl
    by false true was will up e = refl
    by false false was will up e = up e

pub passed : (p : PlainFacts) (early' : List Mark) (contact latency now start from : ℕ) → IsPlainSound p → start ≤ (mark_of p.early contact).from
    → ((n : ℕ) → n < start → (mark_of p.early contact).latency ≤ latency) → ((n : ℕ) → n < start → (mark_of p.early contact).now ≤ now)
    → ((n : ℕ) (l : Line) → start ≤ n → n < from → slice_get p.messages.lines n ≡ Some l → goes_early latency now (row_at p.rows contact l.id) ≡ false)
    → ((c : ℕ) → mark_of early' c ≡ cond (nat_eq c contact) (record { from = from; latency = latency; now = now }) (mark_of p.early c))
    → AreLate p.messages p.rows early'
passed p early' contact latency now start from s begins quick early rest set c n l at low = by (nat_eq c contact) refl where
  mark : Mark
  mark = record { from = from; latency = latency; now = now }

  mine : c ≡ contact → n < from → goes_early latency now (row_at p.rows c l.id) ≡ false
  mine same below =
      elim (cases_lt n start) [
        | inl before ↦
            let under : n < (mark_of p.early contact).from = omega (arith, before, begins) in
            let was : goes_early (mark_of p.early contact).latency (mark_of p.early contact).now (row_at p.rows c l.id) ≡ false =
            subst (λ k. goes_early (mark_of p.early k).latency (mark_of p.early k).now (row_at p.rows c l.id) ≡ false) same
            (s.late c n l at (subst (λ k. n < (mark_of p.early k).from) (sym same) under)) in
            late_still (mark_of p.early contact).latency latency (mark_of p.early contact).now now (row_at p.rows c l.id) (quick n before) (early n before) was
        | inr behind ↦ subst (λ k. goes_early latency now (row_at p.rows k l.id) ≡ false) (sym same) (rest n l behind below at)
      ]

  by : (b : Bool) → nat_eq c contact ≡ b → goes_early (mark_of early' c).latency (mark_of early' c).now (row_at p.rows c l.id) ≡ false
  by true e =
      let is : mark_of early' c ≡ mark = set c ∙ ap (λ t. cond t mark (mark_of p.early c)) e in
      let below : n < from = subst (λ (k : Mark). n < k.from) is low in
      ap (λ (k : Mark). goes_early k.latency k.now (row_at p.rows c l.id)) is ∙ mine (eqb-true c contact e) below
  by false e =
      let is : mark_of early' c ≡ mark_of p.early c = set c ∙ ap (λ t. cond t mark (mark_of p.early c)) e in
      ap (λ (k : Mark). goes_early k.latency k.now (row_at p.rows c l.id)) is ∙ s.late c n l at (subst (λ (k : Mark). n < k.from) is low)

-- a message that was put where it belongs stands there
pub stands_here : (p : PlainFacts) (ready' : Ready) (contact n : ℕ) (l : Line) (goes : Bool) (row : Row) → slice_get p.messages.lines n ≡ Some l → row ≡ row_at p.rows contact l.id
    → goes ≡ may_go p.levels contact l row → IsPlaced p.ready ready' contact n goes row
    → (x : Line) → slice_get p.messages.lines n ≡ Some x → StandsAt p.levels p.rows ready' contact n x
stands_here p ready' contact n l goes row here row_is goes_is placed x at =
    let one : Some l ≡ Some x = sym here ∙ at in
    let same : l ≡ x = cc in
    let told : StandsAt p.levels p.rows ready' contact n l =
    λ will. ap (stands ready' contact n) (sym row_is) ∙ placed.here (goes_is ∙ (ap (may_go p.levels contact l) row_is ∙ will)) in
    subst (λ (y : Line). StandsAt p.levels p.rows ready' contact n y) same told

-- one message was put where it belongs
pub place_message : (p new : PlainFacts) (ready' : Ready) (contact n : ℕ) (l : Line) (goes : Bool) (row : Row) → IsPlainSound p → new ≡ record p { ready = ready' }
    → slice_get p.messages.lines n ≡ Some l → row ≡ row_at p.rows contact l.id → goes ≡ may_go p.levels contact l row → IsPlaced p.ready ready' contact n goes row
    → Places p new contact n
place_message p new ready' contact n l goes row s is here row_is goes_is placed =
    subst (λ (q : PlainFacts). Places p q contact n) (sym is)
    (record {
      becomes =
          becomes_ready p (record p { ready = ready' }) ready' s refl
          (stand_put p.levels p.messages p.rows p.rows p.ready ready' contact n l goes row here (sym row_is) (λ x m y at e. refl) goes_is placed s.stand)
          (within_on p.messages p.ready ready' s.within placed.cursors);
      stands = stands_here p ready' contact n l goes row here row_is goes_is placed;
      messages = refl;
      cursors = placed.cursors;
    })

-- there is none of this number
pub place_none : (p : PlainFacts) (contact n : ℕ) → IsPlainSound p → None ≡ slice_get p.messages.lines n → Places p p contact n
place_none p contact n s none = record {
  becomes = record { facts = refl; sound = s; knows = λ clients knows. knows };
  stands = λ l at. let wrong : None ≡ Some l = none ∙ at in cc;
  messages = refl;
  cursors = refl;
}

-- an alarm rang
pub ring_sound : (p new : PlainFacts) (ready' : Ready) → IsPlainSound p → new ≡ record p { ready = ready' } → StandsOn p.ready ready' → BecomesFacts p new (facts_of p)
ring_sound p new ready' s is on =
    becomes_ready p new ready' s is (stand_on p.levels p.messages p.rows p.ready ready' s.stand on) (within_on p.messages p.ready ready' s.within on.cursors)

-- a contact's cursor is set back
pub back_sound : (p new : PlainFacts) (clocks' : Clocks) (cursors' : CursorList) (contact : ℕ) → IsPlainSound p
    → new ≡ record p { ready = record p.ready { cursors = cursors'; clocks = clocks' } }
    → ((y : ℕ) → from_of cursors' y ≡ cond (nat_eq y contact) 0 (from_of p.ready.cursors y)) → BecomesFacts p new (facts_of p)
back_sound p new clocks' cursors' contact s is set =
    becomes_ready p new (record p.ready { cursors = cursors'; clocks = clocks' }) s is (stand_back p.levels p.messages p.rows p.ready cursors' contact s.stand set)
    (within_set p.messages p.ready cursors' contact 0 s.within (omega arith) set)

-- one delivered message more was brought
pub next_sound : (p q new : PlainFacts) (cursors' : CursorList) (contact n k : ℕ) → Places p q contact n → new ≡ record q { ready = record q.ready { cursors = cursors' } }
    → k ≡ from_of p.ready.cursors contact → slice_get p.messages.delivered k ≡ Some n
    → ((y : ℕ) → from_of cursors' y ≡ cond (nat_eq y contact) (k + 1) (from_of q.ready.cursors y)) → BecomesFacts p new (facts_of p)
next_sound p q new cursors' contact n k placed is from next set =
    let s = placed.becomes.sound in
    let next_now : slice_get q.messages.delivered k ≡ Some n = ap (λ (m : Kept). slice_get m.delivered k) placed.messages ∙ next in
    let from_now : from_of q.ready.cursors contact ≡ k = ap (λ (c : CursorList). from_of c contact) placed.cursors ∙ sym from in
    let most = slice_get_within q.messages.delivered k n next_now in
    brought_then p q new placed.becomes
    (becomes_ready q new (record q.ready { cursors = cursors' }) s is
    (stand_next q.levels q.messages q.rows q.ready cursors' contact n k s.stand placed.stands from_now next_now set)
    (within_set q.messages q.ready cursors' contact (k + 1) s.within (omega (arith, most)) set))
