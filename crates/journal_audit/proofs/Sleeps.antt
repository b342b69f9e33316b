-- Messages that sleep, and what wakes them.
use Rattle.std.proofs.Common.{◌≡◌, ℕ, zero, suc, ◌+◌, ◌<◌, Bool, true, false, cond, not, ◌&&◌, ◌||◌, nat_eq, List, [], ◌∷◌, ◌++◌, length, map, drop, Option, Some, None, refl, sym, ◌∙◌, ap, subst, get_or, arith, eq-eqb, eqb-true}
use Rattle.std.specs.FinSet as fin_set
use Rattle.std.specs.Cmp.Lexicographic.{texts_ties}
use Rattle.std.specs.List.{list_all, list_any, slice_get}
use Rattle.std.specs.Map.{lookup}
use Rattle.std.specs.Ordering.{is_eq}
use Rattle.std.proofs.lemmas.Bool.{false≢true, or_left, or_parts, or_right}
use Rattle.std.proofs.lemmas.List.{drop_more}
use Rattle.sync_rules.specs.declared.answers.Judgement.{Judgement}
use Rattle.sync_rules.specs.declared.answers.Judgement.TheVariants as judgement
use Rattle.sync_rules.specs.declared.entries.Entry.{Entry}
use Rattle.sync_rules.specs.declared.entries.Entry.TheVariants as entry
use Rattle.sync_rules.specs.Facts.{Facts, Held, Id, Ids, held_at, id_cmp, nothing}
use Rattle.sync_rules.specs.Lists.{is_among, same_id}
use Rattle.sync_rules.specs.Steps.{is_beside, is_elsewhere, is_failing, is_served, step_open}
use Rattle.sync_rules.proofs.Elements.{same_id-is, same_id_itself}
use Rattle.sync_rules.proofs.Sound.{contains-more, held_at-push, held_at-push_new}
use Rattle.journal_audit.specs.declared.messages.Line.{Line}
use Rattle.journal_audit.specs.Lines.{AreLines, Kept, delivered_in, delivered_line, held_in, held_of, id_at, invalid_in, invalid_line, judged_line, line_changed}
use Rattle.journal_audit.specs.Looks.{step_of_line}
use Rattle.journal_audit.specs.Numbers.{has}
use Rattle.journal_audit.specs.Sleeping.{AreWoken, IsAtRest, IsWoken, LaysDown, SleepOn, SleeperLists, SleepsUnder, deps_in, is_in, is_under, sleeps_on, steps_of}
use Rattle.journal_audit.proofs.Lines.{among_push, delivered_push, delivered_same, flagged_push, id_at-get, invalid_more, map_push, same_flagged, same_held, same_ids}
use Rattle.journal_audit.proofs.Places.{held_push}

not_true : (b : Bool) → (b ≡ true → ⊥) → b ≡ false
not_true true h = absurd (h refl)
not_true false h = refl

-- ---- tests of dependencies

any_none : (p q : Id → Bool) (ids : List Id) → ((d : Id) → is_among ids d ≡ true → p d ≡ false → q d ≡ false) → list_any p ids ≡ false → list_any q ids ≡ false
any_none p q [] keeps none = refl
any_none p q (x ∷ ids) keeps none =
    let parts = or_parts (p x) (list_any p ids) none in
    let here : q x ≡ false = keeps x (or_left (same_id x x) (is_among ids x) (same_id_itself x)) parts.0 in
    let rest : list_any q ids ≡ false = any_none p q ids (λ d at. keeps d (or_right (same_id x d) (is_among ids d) at)) parts.1 in
    λ i. here i || rest i

all_same : (p q : Id → Bool) (ids : List Id) → ((d : Id) → is_among ids d ≡ true → q d ≡ p d) → list_all q ids ≡ list_all p ids
all_same p q [] same = refl
all_same p q (x ∷ ids) same =
    let here : q x ≡ p x = same x (or_left (same_id x x) (is_among ids x) (same_id_itself x)) in
    let rest : list_all q ids ≡ list_all p ids = all_same p q ids (λ d at. same d (or_right (same_id x d) (is_among ids d) at)) in
    λ i. here i && rest i

-- one that fails a test is enough
pub all_not : (test : Id → Bool) (ids : List Id) (k : ℕ) (x : Id) → k < length ids → x ≡ get_or ids k x → test x ≡ false → list_all test ids ≡ false
all_not test [] k x within at fails = absurd (omega (arith, within))
all_not test (y ∷ ids) zero x within at fails = ap (λ (z : Id). test z && list_all test ids) (sym at) ∙ ap (λ b. b && list_all test ids) fails
all_not test (y ∷ ids) (suc k) x within at fails = ap (λ b. test y && b) (all_not test ids k x (omega (arith, within)) at fails) ∙ off (test y) where
  off : (b : Bool) → (b && false) ≡ false
  off true = refl
  off false = refl

-- ---- a message without a step

-- what says that there is none
cond_none : (b c : Bool) (x y : Entry) → cond b (Some x) (cond c (Some y) None) ≡ None → (b ≡ false) × (c ≡ false)
cond_none true c x y none = cc
cond_none false true x y none = cc
cond_none false false x y none = (refl, refl)

still_none : (f f' : Facts) (h : Held) (answer : Judgement) → step_open f h answer ≡ None
    → (list_any (is_failing f h.message.group) (deps_in answer) ≡ false → list_any (is_failing f' h.message.group) (deps_in answer) ≡ false)
    → (list_all (is_served f h.message.group) (deps_in answer) ≡ false → list_all (is_served f' h.message.group) (deps_in answer) ≡ false) → step_open f' h answer ≡ None
still_none f f' h judgement.Refuse none fails serves = let wrong : Some (entry.Invalid h.id) ≡ None = none in cc
still_none f f' h (judgement.Accept deps share) none fails serves =
    let parts = cond_none (list_any (is_failing f h.message.group) deps) (list_all (is_served f h.message.group) deps) (entry.Invalid h.id) (entry.Deliver h.id) none in
    let none_fails = fails parts.0 in
    let not_all = serves parts.1 in
    λ i. cond (none_fails i) (Some (entry.Invalid h.id)) (cond (not_all i) (Some (entry.Deliver h.id)) None)

-- a message at rest has no step, and one that has none is at rest under its dependencies
pub rest_step : (kept : Kept) (sleepers : SleeperLists) (n : ℕ) (l : Line) → IsAtRest kept sleepers n l → step_of_line (steps_of kept) l ≡ None
rest_step kept sleepers n l rest = by (l.delivered || l.invalid) refl where
  by : (b : Bool) → (l.delivered || l.invalid) ≡ b → step_of_line (steps_of kept) l ≡ None
  by true e = λ i. cond (rest.judged i) (cond (e i) None (step_open (steps_of kept) (held_of l) l.answer)) (Some (entry.Judged l.id))
  by false e = let none = (rest.still e).0 in λ i. cond (rest.judged i) (cond (e i) None (none i)) (Some (entry.Judged l.id))

pub rest_from : (kept : Kept) (sleepers : SleeperLists) (n : ℕ) (l : Line) → step_of_line (steps_of kept) l ≡ None → SleepsUnder sleepers n (deps_in l.answer)
    → IsAtRest kept sleepers n l
rest_from kept sleepers n l none under = by l.judged refl none where
  by : (b : Bool) → l.judged ≡ b → cond b (cond (l.delivered || l.invalid) None (step_open (steps_of kept) (held_of l) l.answer)) (Some (entry.Judged l.id)) ≡ None
      → IsAtRest kept sleepers n l
  by true is none = record {
    judged = is;
    still = λ on. (sym (ap (λ b. cond b None (step_open (steps_of kept) (held_of l) l.answer)) on) ∙ none, under);
  }
  by false is none = let wrong : Some (entry.Judged l.id) ≡ None = none in cc

-- ---- what steps look at differs at one id

abbrev pub DiffersAt : Kept → Kept → Id → Type 0
DiffersAt old new id =
    (group d : Id) → same_id id d ≡ false
    → (is_failing (steps_of new) group d ≡ is_failing (steps_of old) group d) × (is_served (steps_of new) group d ≡ is_served (steps_of old) group d)

-- a message at rest stays so, where it sleeps on
pub rests_on : (old new : Kept) (sleepers : SleeperLists) (id : Id) (n : ℕ) (l : Line) → DiffersAt old new id → IsAtRest old sleepers n l
    → (is_under sleepers id n ≡ true → sleeps_on new id (Some l) ≡ true) → IsAtRest new sleepers n l
rests_on old new sleepers id n l differs rest on = record {
  judged = rest.judged;
  still = λ goes. (by goes (is_among (deps_in l.answer) id) refl, (rest.still goes).1);
}
  where
    group : Id
    group = l.message.group

    deps : List Id
    deps = deps_in l.answer

    tests : (ended fails all : Bool) → ended ≡ false → (ended || (not fails && not all)) ≡ true → (fails ≡ false) × (all ≡ false)
    tests true fails all goes told = absurd (false≢true (sym goes))
    tests false true all goes told = absurd (false≢true told)
    tests false false true goes told = absurd (false≢true told)
    tests false false false goes told = (refl, refl)

    by : (l.delivered || l.invalid) ≡ false → (b : Bool) → is_among deps id ≡ b → step_open (steps_of new) (held_of l) l.answer ≡ None
    by goes true among =
        let was = rest.still goes in
        let off = tests (l.delivered || l.invalid) (is_failing (steps_of new) group id) (list_all (is_served (steps_of new) group) deps) goes (on (was.1 id among)) in
        still_none (steps_of old) (steps_of new) (held_of l) l.answer was.0
        (any_none (is_failing (steps_of old) group) (is_failing (steps_of new) group) deps (λ d at none. fails off.0 d (same_id id d) refl none)) (λ none. off.1)
      where
        fails : is_failing (steps_of new) group id ≡ false → (d : Id) (b : Bool) → same_id id d ≡ b → is_failing (steps_of old) group d ≡ false → is_failing (steps_of new) group d ≡ false
        fails here d true e none = ap (is_failing (steps_of new) group) (sym (same_id-is id d e)) ∙ here
        fails here d false e none = (differs group d e).0 ∙ none
    by goes false among =
        let apart : (d : Id) → is_among deps d ≡ true → same_id id d ≡ false =
        λ d at. not_true (same_id id d) (λ e. false≢true (sym among ∙ (ap (is_among deps) (same_id-is id d e) ∙ at))) in
        still_none (steps_of old) (steps_of new) (held_of l) l.answer (rest.still goes).0
        (any_none (is_failing (steps_of old) group) (is_failing (steps_of new) group) deps (λ d at none. (differs group d (apart d at)).0 ∙ none))
        (λ none. all_same (is_served (steps_of old) group) (is_served (steps_of new) group) deps (λ d at. (differs group d (apart d at)).1) ∙ none)

-- the delivered ids by the lines and the numbers
delivered_by : (k : Kept) (ls : List Line) (ns : List ℕ) → k.lines ≡ ls → k.delivered ≡ ns → delivered_in k ≡ map (id_at ls) ns
delivered_by k ls ns lines numbers = λ i. map (id_at (lines i)) (numbers i)

held_other : (hs : List Held) (x : Held) (d : Id) → same_id x.id d ≡ false → held_at (hs ++ x ∷ []) d ≡ held_at hs d
held_other hs x d apart = by (held_at hs d) refl where
  by : (o : Option Held) → held_at hs d ≡ o → held_at (hs ++ x ∷ []) d ≡ held_at hs d
  by None e = held_at-push_new hs x d e ∙ (ap (λ b. cond b (Some x) None) apart ∙ sym e)
  by (Some h) e = held_at-push hs x d h e ∙ sym e

-- a message that is held differs at its own id alone
pub differs_held : (old new : Kept) (l : Line) → AreLines old → new.lines ≡ old.lines ++ l ∷ [] → new.delivered ≡ old.delivered → l.invalid ≡ false → DiffersAt old new l.id
differs_held old new l are more same valid group d apart =
    let ls = old.lines in
    let h : held_at (held_in new.lines) d ≡ held_at (held_in ls) d =
    ap (λ (xs : List Line). held_at (held_in xs) d) more
    ∙ (ap (λ (hs : List Held). held_at hs d) (held_push ls l) ∙ held_other (held_in ls) (held_of l) d apart) in
    let v : invalid_in new.lines ≡ invalid_in ls =
    ap invalid_in more ∙ ap (λ (ids : List Id). fin_set.from_list ids) (flagged_push (λ x. x.invalid) ls l valid) in
    let s : delivered_in new ≡ delivered_in old =
    delivered_by new (ls ++ l ∷ []) old.delivered more same ∙ delivered_push ls l old.delivered are.within in
    ((λ i. is_elsewhere group (h i) || fin_set.contains (v i) d), (λ i. is_beside group (h i) && is_among (s i) d))

-- and so one that is invalid, or delivered
pub differs_invalid : (old new : Kept) (n : ℕ) (l : Line) → slice_get old.lines n ≡ Some l → new.lines ≡ line_changed invalid_line n old.lines → new.delivered ≡ old.delivered
    → DiffersAt old new l.id
differs_invalid old new n l at changed same group d apart =
    let ls = old.lines in
    let h : held_at (held_in new.lines) d ≡ held_at (held_in ls) d =
    ap (λ (xs : List Line). held_at (held_in xs) d) changed ∙ ap (λ (hs : List Held). held_at hs d) (same_held invalid_line (λ x. refl) n ls) in
    let v : fin_set.contains (invalid_in new.lines) d ≡ fin_set.contains (invalid_in ls) d =
    ap (λ (ids : Ids). fin_set.contains ids d) (ap invalid_in changed ∙ invalid_more n ls l at)
    ∙ (contains-more (invalid_in ls) l.id d ∙ ap (λ b. b || fin_set.contains (invalid_in ls) d) apart) in
    let s : delivered_in new ≡ delivered_in old =
    delivered_by new (line_changed invalid_line n ls) old.delivered changed same
    ∙ delivered_same (line_changed invalid_line n ls) ls old.delivered (same_ids invalid_line (λ x. refl) n ls) in
    ((λ i. is_elsewhere group (h i) || v i), (λ i. is_beside group (h i) && is_among (s i) d))

pub differs_delivered : (old new : Kept) (n : ℕ) (l : Line) → slice_get old.lines n ≡ Some l → new.lines ≡ line_changed delivered_line n old.lines
    → new.delivered ≡ old.delivered ++ n ∷ [] → DiffersAt old new l.id
differs_delivered old new n l at changed pushed group d apart =
    let ls = old.lines in
    let ns = old.delivered in
    let h : held_at (held_in new.lines) d ≡ held_at (held_in ls) d =
    ap (λ (xs : List Line). held_at (held_in xs) d) changed ∙ ap (λ (hs : List Held). held_at hs d) (same_held delivered_line (λ x. refl) n ls) in
    let v : invalid_in new.lines ≡ invalid_in ls =
    ap invalid_in changed ∙ ap (λ (ids : List Id). fin_set.from_list ids) (same_flagged delivered_line (λ x. x.invalid) (λ x. refl) (λ x. refl) n ls) in
    let ids : delivered_in new ≡ delivered_in old ++ l.id ∷ [] =
    delivered_by new (line_changed delivered_line n ls) (ns ++ n ∷ []) changed pushed
    ∙ (delivered_same (line_changed delivered_line n ls) ls (ns ++ n ∷ []) (same_ids delivered_line (λ x. refl) n ls)
    ∙ (map_push ls ns n ∙ ap (λ (i : Id). map (id_at ls) ns ++ i ∷ []) (id_at-get ls n l at))) in
    let s : is_among (delivered_in new) d ≡ is_among (delivered_in old) d =
    ap (λ (t : List Id). is_among t d) ids ∙ (among_push (delivered_in old) l.id d ∙ ap (λ b. b || is_among (delivered_in old) d) apart) in
    ((λ i. is_elsewhere group (h i) || fin_set.contains (v i) d), (λ i. is_beside group (h i) && s i))

-- one that is judged differs nowhere
pub steps_judged : (old new : Kept) (n : ℕ) → new.lines ≡ line_changed judged_line n old.lines → new.delivered ≡ old.delivered → steps_of new ≡ steps_of old
steps_judged old new n changed same =
    let ls = old.lines in
    let h : held_in new.lines ≡ held_in ls = ap held_in changed ∙ same_held judged_line (λ x. refl) n ls in
    let v : invalid_in new.lines ≡ invalid_in ls =
    ap invalid_in changed ∙ ap (λ (ids : List Id). fin_set.from_list ids) (same_flagged judged_line (λ x. x.invalid) (λ x. refl) (λ x. refl) n ls) in
    let s : delivered_in new ≡ delivered_in old =
    delivered_by new (line_changed judged_line n ls) old.delivered changed same
    ∙ delivered_same (line_changed judged_line n ls) ls old.delivered (same_ids judged_line (λ x. refl) n ls) in
    λ i. record nothing { held = h i; invalid = v i; delivered = s i }

-- ---- who sleeps on

pub on_none : (kept : Kept) (id : Id) (o : Option Line) → o ≡ None → sleeps_on kept id o ≡ true
on_none kept id o none = ap (sleeps_on kept id) none

pub on_ended : (kept : Kept) (id : Id) (o : Option Line) (l : Line) → o ≡ Some l → (l.delivered || l.invalid) ≡ true → sleeps_on kept id o ≡ true
on_ended kept id o l at ended = ap (sleeps_on kept id) at ∙ or_left (l.delivered || l.invalid) _ ended

pub on_unserved : (kept : Kept) (id : Id) (o : Option Line) (l : Line) → o ≡ Some l → is_failing (steps_of kept) l.message.group id ≡ false
    → list_all (is_served (steps_of kept) l.message.group) (deps_in l.answer) ≡ false → sleeps_on kept id o ≡ true
on_unserved kept id o l at valid open_still =
    ap (sleeps_on kept id) at ∙ or_right (l.delivered || l.invalid) _ (λ i. not (valid i) && not (open_still i))

-- ---- waking

-- some were woken, and these are left
abbrev pub WokenSoFar : Kept → Id → List ℕ → List ℕ → List ℕ → List ℕ → Type 0
WokenSoFar kept id numbers left old now =
    (n : ℕ) → has now n ≡ false → (has old n ≡ false) × (has numbers n ≡ true → (has left n || sleeps_on kept id (slice_get kept.lines n)) ≡ true)

pub woken_begun : (kept : Kept) (id : Id) (numbers old : List ℕ) → WokenSoFar kept id numbers numbers old old
woken_begun kept id numbers old n out = (out, λ among. or_left (has numbers n) _ among)

pub woken_more : (kept : Kept) (id : Id) (numbers old now next : List ℕ) (k d : ℕ) → k < length numbers
    → WokenSoFar kept id numbers (drop k numbers) old now → IsWoken kept id (get_or numbers k d) now next → WokenSoFar kept id numbers (drop (k + 1) numbers) old next
woken_more kept id numbers old now next k d within so woken n out =
    let one = woken n out in
    let was = so n one.0 in
    let left : drop k numbers ≡ get_or numbers k d ∷ drop (k + 1) numbers = drop_more numbers k d within in
    (was.0, λ among. by (nat_eq (get_or numbers k d) n) refl (ap (λ (t : List ℕ). has t n || sleeps_on kept id (slice_get kept.lines n)) (sym left) ∙ was.1 among))
  where
    by : (b : Bool) → nat_eq (get_or numbers k d) n ≡ b → ((nat_eq (get_or numbers k d) n || has (drop (k + 1) numbers) n) || sleeps_on kept id (slice_get kept.lines n)) ≡ true
        → (has (drop (k + 1) numbers) n || sleeps_on kept id (slice_get kept.lines n)) ≡ true
    by true e told = or_right (has (drop (k + 1) numbers) n) _ ((woken n out).1 e)
    by false e told = ap (λ b. (b || has (drop (k + 1) numbers) n) || sleeps_on kept id (slice_get kept.lines n)) (sym e) ∙ told

pub woken_all : (kept : Kept) (id : Id) (numbers left old now : List ℕ) → left ≡ [] → WokenSoFar kept id numbers left old now → AreWoken kept id numbers old now
woken_all kept id numbers left old now none so n out =
    let was = so n out in
    (was.0, λ among. ap (λ (t : List ℕ). has t n || sleeps_on kept id (slice_get kept.lines n)) (sym none) ∙ was.1 among)

-- one of a number that is put in waits
pub woken_put : (kept : Kept) (id : Id) (number : ℕ) (old new : List ℕ) → ((n : ℕ) → has new n ≡ cond (nat_eq n number) true (has old n)) → IsWoken kept id number old new
woken_put kept id number old new put n out =
    by (nat_eq n number) refl
  where
    swap : (a b : ℕ) → nat_eq a b ≡ true → nat_eq b a ≡ true
    swap a b e = subst (λ (x : ℕ). nat_eq x a ≡ true) (eqb-true a b e) (subst (λ (x : ℕ). nat_eq a x ≡ true) (sym (eqb-true a b e)) e)

    by : (b : Bool) → nat_eq n number ≡ b → (has old n ≡ false) × (nat_eq number n ≡ true → sleeps_on kept id (slice_get kept.lines n) ≡ true)
    by true e = absurd (false≢true (sym out ∙ (put n ∙ ap (λ b. cond b true (has old n)) e)))
    by false e = (
      sym (put n ∙ ap (λ b. cond b true (has old n)) e) ∙ out,
      λ same. absurd (false≢true (sym e ∙ swap number n same)),
    )

-- one that sleeps on need not wait
pub woken_none : (kept : Kept) (id : Id) (number : ℕ) (old : List ℕ) → sleeps_on kept id (slice_get kept.lines number) ≡ true → IsWoken kept id number old old
woken_none kept id number old on n out =
    (out, λ same. ap (λ (k : ℕ). sleeps_on kept id (slice_get kept.lines k)) (sym (eqb-true number n same)) ∙ on)

-- ---- laying down

pub has_push : (ns : List ℕ) (k n : ℕ) → has (ns ++ k ∷ []) n ≡ (nat_eq k n || has ns n)
has_push [] k n = refl
has_push (x ∷ ns) k n = ap (λ b. nat_eq x n || b) (has_push ns k n) ∙ by (nat_eq x n) (nat_eq k n) (has ns n) where
  by : (a b c : Bool) → (a || (b || c)) ≡ (b || (a || c))
  by true true c = refl
  by true false c = refl
  by false b c = refl

-- the sleepers under one id, with one more
pub under_added : (old mid new : SleeperLists) (id : Id) (number : ℕ) (bed numbers : List ℕ)
    → ((q : Id) → lookup (λ k. is_eq (id_cmp q k)) mid ≡ cond (is_eq (id_cmp id q)) None (lookup (λ k. is_eq (id_cmp q k)) old))
    → ((q : Id) → lookup (λ k. is_eq (id_cmp q k)) new ≡ cond (is_eq (id_cmp id q)) (Some numbers) (lookup (λ k. is_eq (id_cmp q k)) mid))
    → ((n : ℕ) → has bed n ≡ is_in (lookup (λ k. is_eq (id_cmp id k)) old) n) → numbers ≡ bed ++ number ∷ []
    → (i : Id) (n : ℕ) → is_under new i n ≡ ((same_id id i && nat_eq number n) || is_under old i n)
under_added old mid new id number bed numbers drops puts found pushed i n = by (same_id id i) refl where
  by : (b : Bool) → same_id id i ≡ b → is_under new i n ≡ ((same_id id i && nat_eq number n) || is_under old i n)
  by true e =
      let here : is_eq (id_cmp id i) ≡ true = sym (texts_ties id i) ∙ e in
      let bed_is : has bed n ≡ is_under old i n = found n ∙ ap (λ (x : Id). is_under old x n) (same_id-is id i e) in
      ap (λ (o : Option (List ℕ)). is_in o n) (puts i ∙ ap (λ b. cond b (Some numbers) (lookup (λ k. is_eq (id_cmp i k)) mid)) here)
      ∙ (ap (λ (ns : List ℕ). has ns n) pushed
      ∙ (has_push bed number n
      ∙ (ap (λ b. nat_eq number n || b) bed_is ∙ ap (λ b. (b && nat_eq number n) || is_under old i n) (sym e))))
  by false e =
      let apart : is_eq (id_cmp id i) ≡ false = sym (texts_ties id i) ∙ e in
      ap (λ (o : Option (List ℕ)). is_in o n)
      (puts i ∙ (ap (λ b. cond b (Some numbers) (lookup (λ k. is_eq (id_cmp i k)) mid)) apart
      ∙ (drops i ∙ ap (λ b. cond b None (lookup (λ k. is_eq (id_cmp i k)) old)) apart)))
      ∙ ap (λ b. (b && nat_eq number n) || is_under old i n) (sym e)

-- a message sleeps under some of the ids, and these are left
pub record LaidSoFar (n : ℕ) (ids left : List Id) (old now : SleeperLists) : Type 0 where
  pub under : (d : Id) → is_among ids d ≡ true → (is_among left d || is_under now d n) ≡ true
  pub rest : SleepOn old now

pub laid_begun : (n : ℕ) (ids : List Id) (old : SleeperLists) → LaidSoFar n ids ids old old
laid_begun n ids old = record { under = λ d among. or_left (is_among ids d) _ among; rest = λ d m under. under }

pub laid_more : (n : ℕ) (ids : List Id) (old now next : SleeperLists) (k : ℕ) (id : Id) → k < length ids → id ≡ get_or ids k id → LaidSoFar n ids (drop k ids) old now
    → ((d : Id) (m : ℕ) → is_under next d m ≡ ((same_id id d && nat_eq n m) || is_under now d m)) → LaidSoFar n ids (drop (k + 1) ids) old next
laid_more n ids old now next k id within at so add = record {
  under = λ d among. by d (same_id id d) refl (ap (λ (t : List Id). is_among t d || is_under now d n) (sym left) ∙ so.under d among);
  rest = λ d m under. add d m ∙ or_right (same_id id d && nat_eq n m) (is_under now d m) (so.rest d m under);
}
  where
    left : drop k ids ≡ id ∷ drop (k + 1) ids
    left = drop_more ids k id within ∙ ap (λ (x : Id). x ∷ drop (k + 1) ids) (sym at)

    same_number : (m : ℕ) → nat_eq m m ≡ true
    same_number m = eq-eqb m m refl

    by : (d : Id) (b : Bool) → same_id id d ≡ b → ((same_id id d || is_among (drop (k + 1) ids) d) || is_under now d n) ≡ true
        → (is_among (drop (k + 1) ids) d || is_under next d n) ≡ true
    by d true e told =
        or_right (is_among (drop (k + 1) ids) d) (is_under next d n)
        (add d n ∙ or_left (same_id id d && nat_eq n n) (is_under now d n) (λ i. e i && same_number n i))
    by d false e told =
        (λ i. is_among (drop (k + 1) ids) d || (add d n ∙ ap (λ b. (b && nat_eq n n) || is_under now d n) e) i)
        ∙ (ap (λ b. (b || is_among (drop (k + 1) ids) d) || is_under now d n) (sym e) ∙ told)

pub laid_all : (n : ℕ) (ids left : List Id) (old now : SleeperLists) → left ≡ [] → LaidSoFar n ids left old now → SleepsUnder now n ids
laid_all n ids left old now none so d among = ap (λ (t : List Id). is_among t d || is_under now d n) (sym none) ∙ so.under d among

-- nothing changed
pub laid_none : (kept : Kept) (waiting : List ℕ) (sleepers : SleeperLists) → LaysDown kept waiting waiting sleepers sleepers
laid_none kept waiting sleepers = record {
  sleepers = λ d m under. under;
  rests = λ n l at waits out. absurd (false≢true (sym out ∙ waits));
}

-- one that has no step waits no more
pub laid_down : (kept : Kept) (waiting waiting' : List ℕ) (old new : SleeperLists) (n : ℕ) (l : Line) → slice_get kept.lines n ≡ Some l
    → step_of_line (steps_of kept) l ≡ None → SleepsUnder new n (deps_in l.answer) → SleepOn old new → ((m : ℕ) → has waiting' m ≡ cond (nat_eq m n) false (has waiting m))
    → LaysDown kept waiting waiting' old new
laid_down kept waiting waiting' old new n l here none under rest drops = record {
  sleepers = rest;
  rests = λ m x at waits out. by m x at waits out (nat_eq m n) refl;
}
  where
    by : (m : ℕ) (x : Line) → slice_get kept.lines m ≡ Some x → has waiting m ≡ true → has waiting' m ≡ false → (b : Bool) → nat_eq m n ≡ b → IsAtRest kept new m x
    by m x at waits out true e =
        let number : m ≡ n = eqb-true m n e in
        let one : Some l ≡ Some x = sym here ∙ (ap (slice_get kept.lines) (sym number) ∙ at) in
        let same : l ≡ x = cc in
        subst (λ (k : ℕ). IsAtRest kept new k x) (sym number) (subst (λ (y : Line). IsAtRest kept new n y) same (rest_from kept new n l none under))
    by m x at waits out false e =
        absurd (false≢true (sym out ∙ (drops m ∙ (ap (λ b. cond b false (has waiting m)) e ∙ waits))))
