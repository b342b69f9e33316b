-- What holds of plain facts stays so when a message is held, and when something becomes of one.
use Rattle.std.proofs.Common.{◌≡◌, ℕ, ◌⊎◌, Bool, true, false, cond, ◌&&◌, ◌||◌, List, [], ◌∷◌, ◌++◌, length, Option, Some, None, refl, sym, ◌∙◌, ap, subst, inl, inr, is_some, nat_eq, nat_lt, arith, eq-eqb, eqb-true}
use Rattle.std.specs.List.{slice_get}
use Rattle.std.proofs.lemmas.Bool.{and_from, and_parts, false≢true, or_right}
use Rattle.std.proofs.lemmas.Bool.Decides.{nat_tests}
use Rattle.std.proofs.lemmas.Option.{slice_get_within}
use Rattle.sync_rules.specs.Facts.{Facts, Held, Id, Known, LevelMap, Row, Rows, expiry_after, one_more_try, group_at, held_at, is_held, row_at}
use Rattle.sync_rules.specs.Steps.{step_open}
use Rattle.sync_rules.proofs.Sound.{held_at-push}
use Rattle.journal_audit.specs.declared.messages.Line.{Line}
use Rattle.journal_audit.specs.declared.early.Mark.{Mark}
use Rattle.journal_audit.specs.declared.ready.Ready.{Ready}
use Rattle.journal_audit.specs.Early.{AreLate, goes_early, lowered, mark_of}
use Rattle.journal_audit.specs.Lines.{AreLines, Kept, delivered_line, held_in, held_of, invalid_line, judged_line, line_changed}
use Rattle.journal_audit.specs.Numbers.{has}
use Rattle.journal_audit.specs.Plain.{AreGrouped, AreSound, HasPlainRows, OwesAcks}
use Rattle.journal_audit.specs.Sleeping.{AreWoken, IsAtRest, LaysDown, SleeperLists, WaitsOrRests, is_under, sleeps_on}
use Rattle.journal_audit.specs.Standing.{AreStanding, AreWithin}
use Rattle.journal_audit.proofs.Kept.{lines_changed, lines_delivered, lines_push}
use Rattle.journal_audit.proofs.Lines.{WasLine, held_get, get_held, old_or_new, same_held, was_line}
use Rattle.journal_audit.proofs.Places.{held_push}
use Rattle.journal_audit.proofs.Sleeps.{DiffersAt, differs_delivered, differs_held, differs_invalid, rests_on, steps_judged}
use Rattle.journal_audit.proofs.Stands.{stand_changed, stand_delivered, stand_held, within_delivered, within_same}

never : (b : Bool) → b ≡ true → b ≡ false → ⊥
never b holds fails = false≢true (sym fails ∙ holds)

not_true : (b : Bool) → (b ≡ true → ⊥) → b ≡ false
not_true true h = absurd (h refl)
not_true false h = refl

not_below : (n : ℕ) → nat_lt n 0 ≡ false
not_below n = grind (arith, nat_tests)

-- a set to which numbers were added
pub added : (t old : Bool) → cond t true old ≡ false → (t ≡ false) × (old ≡ false)
added true old e = absurd (false≢true (sym e))
added false old e = (refl, e)

-- who waits behind a change and its wake
pub woken_as : (kept : Kept) (sleepers : SleeperLists) (id own : Id) (numbers mid new : List ℕ) (before : ℕ → Bool) → own ≡ id
    → ((m : ℕ) → has numbers m ≡ is_under sleepers id m) → AreWoken kept id numbers mid new → ((m : ℕ) → has mid m ≡ before m)
    → (m : ℕ) → has new m ≡ false → (before m ≡ false) × (is_under sleepers own m ≡ true → sleeps_on kept own (slice_get kept.lines m) ≡ true)
woken_as kept sleepers id own numbers mid new before named under woken mid_is m out =
    let told = woken m out in (
      sym (mid_is m) ∙ told.0,
      λ u. ap (λ (x : Id). sleeps_on kept x (slice_get kept.lines m)) named ∙ told.1 (under m ∙ (ap (λ (x : Id). is_under sleepers x m) (sym named) ∙ u)),
    )

grouped_push : (groups : List Known) (hs : List Held) (h : Held) → AreGrouped groups hs → is_some (group_at groups h.message.group) ≡ true → AreGrouped groups (hs ++ h ∷ [])
grouped_push groups [] h all known = and_from (is_some (group_at groups h.message.group)) true known refl
grouped_push groups (x ∷ hs) h all known =
    let parts = and_parts (is_some (group_at groups x.message.group)) _ all in
    and_from (is_some (group_at groups x.message.group)) _ parts.0 (grouped_push groups hs h parts.1 known)

still_held : (hs : List Held) (h : Held) (id : Id) → is_held (hs ++ h ∷ []) id ≡ false → is_held hs id ≡ false
still_held hs h id none = by (held_at hs id) refl where
  by : (o : Option Held) → held_at hs id ≡ o → is_held hs id ≡ false
  by None e = ap is_some e
  by (Some x) e = absurd (never (is_held (hs ++ h ∷ []) id) (ap is_some (held_at-push hs h id x e)) none)

module _ (contacts : ℕ) (groups : List Known) (levels : LevelMap) (kept : Kept) (rows : Rows) (waiting : List ℕ) (sleepers : SleeperLists) (owed : List (List ℕ)) (ready : Ready) (early : List Mark)
    (s : AreSound contacts groups levels kept rows waiting sleepers owed ready early) where
  -- ---- one message more

  module _ (kept' : Kept) (waiting' : List ℕ) (l : Line) (more : kept'.lines ≡ kept.lines ++ l ∷ []) (same : kept'.delivered ≡ kept.delivered)
      (known : is_some (group_at groups l.message.group) ≡ true) (new : is_held (held_in kept.lines) l.id ≡ false) (undelivered : l.delivered ≡ false) (valid : l.invalid ≡ false)
      (waits_too : (m : ℕ) → has waiting' m ≡ false
      → (cond (nat_eq m (length kept.lines)) true (has waiting m) ≡ false) × (is_under sleepers l.id m ≡ true → sleeps_on kept' l.id (slice_get kept'.lines m) ≡ true)) where
    held_more : held_in kept'.lines ≡ held_in kept.lines ++ held_of l ∷ []
    held_more = ap held_in more ∙ held_push kept.lines l

    was : (m : ℕ) (h : Held) → slice_get (held_in kept'.lines) m ≡ Some h → (slice_get (held_in kept.lines) m ≡ Some h) ⊎ ((m ≡ length kept.lines) × (h ≡ held_of l))
    was m h at =
        let line = held_get (kept.lines ++ l ∷ []) m h (ap (λ (ls : List Line). slice_get (held_in ls) m) (sym more) ∙ at) in
        elim (old_or_new kept.lines l m line.line line.at).cases [
          | inl old ↦ inl (get_held kept.lines m line.line old ∙ ap Some (sym line.is))
          | inr both ↦ inr (both.0, line.is ∙ ap held_of both.1)
        ]

    waits : WaitsOrRests kept' waiting' sleepers
    waits m x at out =
        let told = waits_too m out in
        let apart = added (nat_eq m (length kept.lines)) (has waiting m) told.0 in
        elim (old_or_new kept.lines l m x (ap (λ (ls : List Line). slice_get ls m) (sym more) ∙ at)).cases [
          | inl old ↦ rests_on kept kept' sleepers l.id m x (differs_held kept kept' l s.lines more same valid) (s.waits m x old apart.1)
              (λ under. ap (sleeps_on kept' l.id) (sym at) ∙ told.1 under)
          | inr both ↦ absurd (never (nat_eq m (length kept.lines)) (eq-eqb m (length kept.lines) both.0) apart.0)
        ]

    owes : OwesAcks (held_in kept'.lines) rows owed
    owes c m h under at out =
        elim (was m h at) [
          | inl old ↦ s.owes c m h under old out
          | inr both ↦ ap (λ (k : Held). (row_at rows c k.id).owed) both.1 ∙ ap (λ (r : Row). r.owed) (s.rows_fit c l.id new)
        ]

    late_held : AreLate kept' rows early
    late_held c m x at low =
        elim (old_or_new kept.lines l m x (ap (λ (ls : List Line). slice_get ls m) (sym more) ∙ at)).cases [
          | inl old ↦ s.late c m x old low
          | inr both ↦ ap (λ (y : Line). goes_early (mark_of early c).latency (mark_of early c).now (row_at rows c y.id)) both.1
              ∙ (ap (goes_early (mark_of early c).latency (mark_of early c).now) (s.rows_fit c l.id new) ∙ not_below (expiry_after (mark_of early c).now (mark_of early c).latency (one_more_try 0)))
        ]

    pub sound_held : AreSound contacts groups levels kept' rows waiting' sleepers owed ready early
    sound_held = record {
      lines = lines_push kept kept' l s.lines more same new undelivered;
      levels_fit = s.levels_fit;
      grouped = subst (AreGrouped groups) (sym held_more) (grouped_push groups (held_in kept.lines) (held_of l) s.grouped known);
      rows_fit = λ c id none. s.rows_fit c id (still_held (held_in kept.lines) (held_of l) id (ap (λ hs. is_held hs id) (sym held_more) ∙ none));
      waits = waits;
      owes = owes;
      stand = stand_held levels kept kept' rows ready l s.stand more same undelivered;
      within = within_same kept kept' ready s.within same;
      late = late_held;
    }

  -- ---- what became of a message

  changed_so : (change : Line → Line) → ((l : Line) → held_of (change l) ≡ held_of l) → (kept' : Kept) (n : ℕ) (waiting' : List ℕ) (sleepers' : SleeperLists)
      → kept'.lines ≡ line_changed change n kept.lines → AreLines kept' → WaitsOrRests kept' waiting' sleepers' → AreStanding levels kept' rows ready → AreWithin kept' ready
      → AreSound contacts groups levels kept' rows waiting' sleepers' owed ready early
  changed_so change held kept' n waiting' sleepers' changed lines waits stand within =
      let hs : held_in kept'.lines ≡ held_in kept.lines = ap held_in changed ∙ same_held change held n kept.lines in
      record {
        lines = lines;
        levels_fit = s.levels_fit;
        grouped = subst (AreGrouped groups) (sym hs) s.grouped;
        rows_fit = subst (λ k. HasPlainRows k rows) (sym hs) s.rows_fit;
        waits = waits;
        owes = subst (λ k. OwesAcks k rows owed) (sym hs) s.owes;
        stand = stand;
        within = within;
        late = late_changed;
      }
    where
      late_changed : AreLate kept' rows early
      late_changed c m x at low =
          let was = was_line change n kept.lines m x (ap (λ (ls : List Line). slice_get ls m) (sym changed) ∙ at) in
          let same : x.id ≡ was.before.id = elim was.became [
            | inl both ↦ ap (λ (y : Line). y.id) both.1 ∙ ap (λ (h : Held). h.id) (held was.before)
            | inr both ↦ ap (λ (y : Line). y.id) both.1
          ] in
          ap (λ (i : Id). goes_early (mark_of early c).latency (mark_of early c).now (row_at rows c i)) same ∙ s.late c m was.before was.at low

  pub lines_judged : (kept' : Kept) (n : ℕ) → kept'.lines ≡ line_changed judged_line n kept.lines → kept'.delivered ≡ kept.delivered → AreLines kept'
  lines_judged kept' n changed same = lines_changed judged_line (λ l. refl) (λ l. refl) kept kept' n s.lines changed same

  pub sound_judged : (kept' : Kept) (n : ℕ) (waiting' : List ℕ) (sleepers' : SleeperLists) → kept'.lines ≡ line_changed judged_line n kept.lines → kept'.delivered ≡ kept.delivered
      → LaysDown kept' waiting waiting' sleepers sleepers' → AreSound contacts groups levels kept' rows waiting' sleepers' owed ready early
  sound_judged kept' n waiting' sleepers' changed same lays =
      changed_so judged_line (λ l. refl) kept' n waiting' sleepers' changed (lines_judged kept' n changed same) waits
      (stand_changed judged_line levels kept kept' rows ready n (λ c m l stands. stands) s.stand changed same) (within_same kept kept' ready s.within same)
    where
      now : (b : Line) → IsAtRest kept sleepers n b → IsAtRest kept' sleepers' n (judged_line b)
      now b rest = record {
        judged = refl;
        still = λ on. (
          ap (λ (f : Facts). step_open f (held_of b) b.answer) (steps_judged kept kept' n changed same) ∙ (rest.still on).0,
          λ d among. lays.sleepers d n ((rest.still on).1 d among),
        );
      }

      as_before : (m : ℕ) (b : Line) → IsAtRest kept sleepers m b → IsAtRest kept' sleepers' m b
      as_before m b rest = record {
        judged = rest.judged;
        still = λ on. (
          ap (λ (f : Facts). step_open f (held_of b) b.answer) (steps_judged kept kept' n changed same) ∙ (rest.still on).0,
          λ d among. lays.sleepers d m ((rest.still on).1 d among),
        );
      }

      slept : (m : ℕ) (x : Line) → has waiting m ≡ false → WasLine judged_line n kept.lines m x → IsAtRest kept' sleepers' m x
      slept m x out was =
          let old = s.waits m was.before was.at out in
          elim was.became [
            | inl both ↦ subst (λ (y : Line). IsAtRest kept' sleepers' m y) (sym both.1)
                (subst (λ (k : ℕ). IsAtRest kept' sleepers' k (judged_line was.before)) (sym both.0) (now was.before (subst (λ (k : ℕ). IsAtRest kept sleepers k was.before) both.0 old)))
            | inr both ↦ subst (λ (y : Line). IsAtRest kept' sleepers' m y) (sym both.1) (as_before m was.before old)
          ]

      waits : WaitsOrRests kept' waiting' sleepers'
      waits m x at out = by (has waiting m) refl where
        by : (b : Bool) → has waiting m ≡ b → IsAtRest kept' sleepers' m x
        by true e = lays.rests m x at e out
        by false e = slept m x e (was_line judged_line n kept.lines m x (ap (λ (ls : List Line). slice_get ls m) (sym changed) ∙ at))

  -- a message that ends waits no more, if it was judged; and those are woken that sleep under it
  ended_so : (change : Line → Line) → ((l : Line) → held_of (change l) ≡ held_of l) → ((l : Line) → (change l).judged ≡ l.judged)
      → ((l : Line) → ((change l).delivered || (change l).invalid) ≡ true) → (kept' : Kept) (n : ℕ) (l : Line) (waiting' : List ℕ) → slice_get kept.lines n ≡ Some l
      → kept'.lines ≡ line_changed change n kept.lines → AreLines kept' → DiffersAt kept kept' l.id → AreStanding levels kept' rows ready → AreWithin kept' ready
      → ((m : ℕ) → has waiting' m ≡ false
      → (cond (nat_eq m n && l.judged) false (has waiting m) ≡ false) × (is_under sleepers l.id m ≡ true → sleeps_on kept' l.id (slice_get kept'.lines m) ≡ true))
      → AreSound contacts groups levels kept' rows waiting' sleepers owed ready early
  ended_so change held judged ends kept' n l waiting' here changed lines differs stand within stops =
      changed_so change held kept' n waiting' sleepers changed lines waits stand within
    where
      still : (m : ℕ) (b : Line) → slice_get kept.lines m ≡ Some b → (nat_eq m n && l.judged) ≡ false → has waiting' m ≡ false → IsAtRest kept sleepers m b
      still m b at apart out = s.waits m b at (sym (ap (λ t. cond t false (has waiting m)) apart) ∙ (stops m out).0)

      was_judged : (m : ℕ) (b : Line) → slice_get kept.lines m ≡ Some b → m ≡ n → has waiting' m ≡ false → (j : Bool) → l.judged ≡ j → b.judged ≡ true
      was_judged m b at e out true is =
          let one : Some b ≡ Some l = sym at ∙ (ap (slice_get kept.lines) e ∙ here) in
          let same : b ≡ l = cc in
          ap (λ (y : Line). y.judged) same ∙ is
      was_judged m b at e out false is =
          let off : (nat_eq m n && l.judged) ≡ false = ap (λ j. nat_eq m n && j) is ∙ by (nat_eq m n) in
          (still m b at off out).judged
        where
          by : (t : Bool) → (t && false) ≡ false
          by true = refl
          by false = refl

      apart : (m : ℕ) → (m ≡ n → ⊥) → (nat_eq m n && l.judged) ≡ false
      apart m other = ap (λ t. t && l.judged) (not_true (nat_eq m n) (λ e. other (eqb-true m n e)))

      over : (m : ℕ) (b : Line) → b.judged ≡ true → IsAtRest kept' sleepers m (change b)
      over m b is = record { judged = judged b ∙ is; still = λ on. absurd (never ((change b).delivered || (change b).invalid) (ends b) on) }

      by : (m : ℕ) (x : Line) → slice_get kept'.lines m ≡ Some x → has waiting' m ≡ false → WasLine change n kept.lines m x → IsAtRest kept' sleepers m x
      by m x at out was =
          elim was.became [
            | inl both ↦ subst (λ (y : Line). IsAtRest kept' sleepers m y) (sym both.1) (over m was.before (was_judged m was.before was.at both.0 out l.judged refl))
            | inr both ↦ subst (λ (y : Line). IsAtRest kept' sleepers m y) (sym both.1)
                (rests_on kept kept' sleepers l.id m was.before differs (still m was.before was.at (apart m both.0) out)
                (λ under. ap (λ (y : Line). sleeps_on kept' l.id (Some y)) (sym both.1) ∙ (ap (sleeps_on kept' l.id) (sym at) ∙ (stops m out).1 under)))
          ]

      waits : WaitsOrRests kept' waiting' sleepers
      waits m x at out = by m x at out (was_line change n kept.lines m x (ap (λ (ls : List Line). slice_get ls m) (sym changed) ∙ at))

  invalid_ends : (l : Line) → (l.delivered || true) ≡ true
  invalid_ends l = or_right l.delivered true refl

  pub lines_refused : (kept' : Kept) (n : ℕ) → kept'.lines ≡ line_changed invalid_line n kept.lines → kept'.delivered ≡ kept.delivered → AreLines kept'
  lines_refused kept' n changed same = lines_changed invalid_line (λ x. refl) (λ x. refl) kept kept' n s.lines changed same

  pub sound_refused : (kept' : Kept) (n : ℕ) (l : Line) (waiting' : List ℕ) → slice_get kept.lines n ≡ Some l → kept'.lines ≡ line_changed invalid_line n kept.lines
      → kept'.delivered ≡ kept.delivered
      → ((m : ℕ) → has waiting' m ≡ false
      → (cond (nat_eq m n && l.judged) false (has waiting m) ≡ false) × (is_under sleepers l.id m ≡ true → sleeps_on kept' l.id (slice_get kept'.lines m) ≡ true))
      → AreSound contacts groups levels kept' rows waiting' sleepers owed ready early
  sound_refused kept' n l waiting' here changed same stops =
      ended_so invalid_line (λ x. refl) (λ x. refl) invalid_ends kept' n l waiting' here changed (lines_refused kept' n changed same)
      (differs_invalid kept kept' n l here changed same)
      (stand_changed invalid_line levels kept kept' rows ready n (λ c m x stands. stands) s.stand changed same) (within_same kept kept' ready s.within same) stops

  pub lines_ended : (kept' : Kept) (n : ℕ) (l : Line) → slice_get kept.lines n ≡ Some l → kept'.lines ≡ line_changed delivered_line n kept.lines
      → kept'.delivered ≡ kept.delivered ++ n ∷ [] → AreLines kept'
  lines_ended kept' n l here changed pushed = lines_delivered kept kept' n l s.lines here (slice_get_within kept.lines n l here) changed pushed

  pub sound_delivered : (kept' : Kept) (n : ℕ) (l : Line) (waiting' : List ℕ) → slice_get kept.lines n ≡ Some l → kept'.lines ≡ line_changed delivered_line n kept.lines
      → kept'.delivered ≡ kept.delivered ++ n ∷ []
      → ((m : ℕ) → has waiting' m ≡ false
      → (cond (nat_eq m n && l.judged) false (has waiting m) ≡ false) × (is_under sleepers l.id m ≡ true → sleeps_on kept' l.id (slice_get kept'.lines m) ≡ true))
      → AreSound contacts groups levels kept' rows waiting' sleepers owed ready early
  sound_delivered kept' n l waiting' here changed pushed stops =
      ended_so delivered_line (λ x. refl) (λ x. refl) (λ x. refl) kept' n l waiting' here changed (lines_ended kept' n l here changed pushed)
      (differs_delivered kept kept' n l here changed pushed)
      (stand_delivered levels kept kept' rows ready n s.stand s.within changed pushed) (within_delivered kept kept' ready n s.within pushed) stops
