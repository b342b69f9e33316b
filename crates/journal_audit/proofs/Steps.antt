-- The step of a message by what is kept of it.
use Rattle.std.proofs.Common.{◌≡◌, ℕ, zero, suc, Bool, true, false, cond, not, ◌||◌, ◌+◌, List, [], ◌∷◌, Option, Some, None, refl, sym, ◌∙◌, ap, subst, is_some}
use Rattle.std.specs.Option.{option_or}
use Rattle.std.specs.FinSet as fin_set
use Rattle.std.proofs.lemmas.Bool.{false≢true}
use Rattle.std.specs.List.{AllByRecursion, cons_option, slice_get}
use Rattle.std.specs.List.Sorted.{IsStrictlySortedBy}
use Rattle.std.specs.Ordering.{nat_cmp}
use Rattle.sync_rules.specs.declared.answers.Judgement.{Judgement}
use Rattle.sync_rules.specs.declared.answers.Judgement.TheVariants as judgement
use Rattle.sync_rules.specs.declared.entries.Entry.{Entry}
use Rattle.sync_rules.specs.declared.entries.Entry.TheVariants as entry
use Rattle.sync_rules.specs.Clients.{Meaning}
use Rattle.sync_rules.specs.Facts.{Facts, Held, Id, held_at}
use Rattle.sync_rules.specs.Left.{left_among, left_for, left_of}
use Rattle.sync_rules.specs.Lists.{same_id}
use Rattle.sync_rules.specs.Steps.{first_step, is_elsewhere, is_ended, is_failing, next, step}
use Rattle.sync_rules.specs.Steps.{step_by, step_open, verdict_in}
use Rattle.sync_rules.specs.Views.{IsPlace, place_of}
use Rattle.journal_audit.specs.declared.facts.PlainFacts.{PlainFacts}
use Rattle.journal_audit.specs.declared.messages.Line.{Line}
use Rattle.journal_audit.specs.Lines.{AreLines, Kept, held_in, held_of, invalid_in, judged_in, left_for_line, left_in}
use Rattle.journal_audit.specs.Looks.{first_at, of_held, picks_at, picks_of, step_at, step_of_line}
use Rattle.journal_audit.specs.Numbers.{has}
use Rattle.journal_audit.specs.Plain.{IsPlainSound, KnowsMeanings, facts_of}
use Rattle.journal_audit.proofs.Lines.{flag_at, flagged_is, get_held, held_get, not_flagged, own_flag, place_none}
use Rattle.journal_audit.specs.Sleeping.{steps_of}
use Rattle.journal_audit.proofs.Sleeps.{rest_step}
use Rattle.journal_audit.proofs.Sparse.{picks_all}
use Rattle.journal_audit.proofs.Took.{line_named}

-- ---- dependencies

pub not_failing : (kept : Kept) (group id : Id) → place_of (held_in kept.lines) id ≡ None → false ≡ is_failing (steps_of kept) group id
not_failing kept group id none =
    let ls = kept.lines in
    let away : held_at (held_in ls) id ≡ None = place_none (held_in ls) id none in
    let valid : fin_set.contains (invalid_in ls) id ≡ false = flagged_is (λ l. l.invalid) ls id ∙ not_flagged (λ l. l.invalid) ls id (ap is_some away) in
    λ i. is_elsewhere group (sym away i) || sym valid i

pub failing_line : (kept : Kept) (group id : Id) (n : ℕ) (l : Line) → AreLines kept → IsPlace (held_in kept.lines) id n → slice_get kept.lines n ≡ Some l
    → (cond (same_id l.message.group group) false true || l.invalid) ≡ is_failing (steps_of kept) group id
failing_line kept group id n l are place at =
    let ls = kept.lines in
    let one : Some (held_of l) ≡ Some place.message = sym (get_held ls n l at) ∙ place.stands in
    let same : place.message ≡ held_of l = cc in
    let here : held_at (held_in ls) id ≡ Some (held_of l) = place.first ∙ ap (λ (h : Held). Some h) same in
    let valid : fin_set.contains (invalid_in ls) id ≡ l.invalid =
    flagged_is (λ x. x.invalid) ls id ∙ subst (λ (x : Id). flag_at (λ y. y.invalid) ls x ≡ l.invalid) (line_named ls id n l place at) (own_flag (λ x. x.invalid) ls n l are.distinct at) in
    λ i. is_elsewhere group (sym here i) || sym valid i

pub elsewhere : (b c : Bool) → true ≡ not b → true ≡ (cond b false true || c)
elsewhere true c other = absurd (false≢true (sym other))
elsewhere false c other = refl

pub beside : (b c : Bool) → false ≡ not b → c ≡ (cond b false true || c)
beside true c other = refl
beside false c other = absurd (false≢true other)

-- ---- one step

pub known_at : (clients : Meaning) (p : PlainFacts) (ls : List Line) (n : ℕ) (l : Line) → AllByRecursion (λ x. x.answer ≡ verdict_in clients p.groups x.message) ls → slice_get ls n ≡ Some l
    → l.answer ≡ verdict_in clients p.groups l.message
known_at clients p [] n l known at = cc
known_at clients p (x ∷ ls) zero l known at =
    let same : x ≡ l = cc in subst (λ (y : Line). y.answer ≡ verdict_in clients p.groups y.message) same known.0
known_at clients p (x ∷ ls) (suc n) l known at = known_at clients p ls n l known.1 at

-- the step of a line is the step of its message
pub line_step : (clients : Meaning) (p : PlainFacts) (n : ℕ) (l : Line) → IsPlainSound p → KnowsMeanings clients p → slice_get p.messages.lines n ≡ Some l
    → step_of_line (facts_of p) l ≡ step clients (facts_of p) (held_of l)
line_step clients p n l sound knows at =
    let ls = p.messages.lines in
    let judged : fin_set.contains (judged_in ls) l.id ≡ l.judged = flagged_is (λ x. x.judged) ls l.id ∙ own_flag (λ x. x.judged) ls n l sound.lines.distinct at in
    let invalid : fin_set.contains (invalid_in ls) l.id ≡ l.invalid = flagged_is (λ x. x.invalid) ls l.id ∙ own_flag (λ x. x.invalid) ls n l sound.lines.distinct at in
    let delivered = sound.lines.ended n l at in
    let ended : is_ended (facts_of p) l.id ≡ (l.delivered || l.invalid) = λ i. delivered i || invalid i in
    by l.judged ended
    ∙ sym (λ i. step_by (facts_of p) (held_of l) (cond (judged i) (Some (sym (known_at clients p ls n l knows at) i)) None))
  where
    by : (b : Bool) → is_ended (facts_of p) l.id ≡ (l.delivered || l.invalid)
        → cond b (cond (l.delivered || l.invalid) None (step_open (facts_of p) (held_of l) l.answer)) (Some (entry.Judged l.id))
        ≡ step_by (facts_of p) (held_of l) (cond b (Some l.answer) None)
    by true ended = ap (λ b. cond b None (step_open (facts_of p) (held_of l) l.answer)) (sym ended)
    by false ended = refl

get_none : (ls : List Line) (n : ℕ) → slice_get ls n ≡ None → slice_get (held_in ls) n ≡ None
get_none [] n none = refl
get_none (l ∷ ls) zero none = let wrong : Some l ≡ None = none in cc
get_none (l ∷ ls) (suc n) none = get_none ls n none

step_held : (clients : Meaning) (p : PlainFacts) (n : ℕ) → IsPlainSound p → KnowsMeanings clients p
    → step_at (facts_of p) (slice_get p.messages.lines n) ≡ of_held (step clients (facts_of p)) (slice_get (held_in p.messages.lines) n)
step_held clients p n sound knows = by (slice_get p.messages.lines n) refl where
  by : (o : Option Line) → slice_get p.messages.lines n ≡ o → step_at (facts_of p) (slice_get p.messages.lines n) ≡ of_held (step clients (facts_of p)) (slice_get (held_in p.messages.lines) n)
  by None at = ap (step_at (facts_of p)) at ∙ sym (ap (of_held (step clients (facts_of p))) (get_none p.messages.lines n at))
  by (Some l) at =
      ap (step_at (facts_of p)) at
      ∙ (line_step clients p n l sound knows at ∙ sym (ap (of_held (step clients (facts_of p))) (get_held p.messages.lines n l at)))

-- ---- the next step

abbrev first_of : List Entry → Option Entry
first_of [] = None
first_of (e ∷ es) = Some e

first_cons : (o : Option Entry) (es : List Entry) → option_or o (first_of es)
    ≡ first_of (cons_option o es)
first_cons None es = refl
first_cons (Some e) es = refl

first_picked : (clients : Meaning) (p : PlainFacts) (ns : List ℕ) → IsPlainSound p → KnowsMeanings clients p
    → first_at (facts_of p) p.messages.lines ns ≡ first_of (picks_at (step clients (facts_of p)) (held_in p.messages.lines) ns)
first_picked clients p [] sound knows = refl
first_picked clients p (n ∷ ns) sound knows =
    (λ i. option_or (step_held clients p n sound knows i) (first_picked clients p ns sound knows i))
    ∙ first_cons (of_held (step clients (facts_of p)) (slice_get (held_in p.messages.lines) n)) (picks_at (step clients (facts_of p)) (held_in p.messages.lines) ns)

first_is : (clients : Meaning) (f : Facts) (hs : List Held) → first_of (picks_of (step clients f) hs) ≡ first_step clients f hs
first_is clients f [] = refl
first_is clients f (h ∷ hs) = sym (first_cons (step clients f h) (picks_of (step clients f) hs))
    ∙ ap (option_or (step clients f h)) (first_is clients f hs)

-- a step looks at nothing else of the facts
open_steps : (p : PlainFacts) (h : Held) (answer : Judgement) → step_open (facts_of p) h answer ≡ step_open (steps_of p.messages) h answer
open_steps p h judgement.Refuse = refl
open_steps p h (judgement.Accept deps share) = refl

line_steps : (p : PlainFacts) (l : Line) → step_of_line (facts_of p) l ≡ step_of_line (steps_of p.messages) l
line_steps p l = ap (λ (o : Option Entry). cond l.judged (cond (l.delivered || l.invalid) None o) (Some (entry.Judged l.id))) (open_steps p (held_of l) l.answer)

at_steps : (p : PlainFacts) (o : Option Line) → step_at (facts_of p) o ≡ step_at (steps_of p.messages) o
at_steps p None = refl
at_steps p (Some l) = line_steps p l

pub first_steps : (p : PlainFacts) (ls : List Line) (ns : List ℕ) → first_at (facts_of p) ls ns ≡ first_at (steps_of p.messages) ls ns
first_steps p ls [] = refl
first_steps p ls (n ∷ ns) = λ i. option_or (at_steps p (slice_get ls n) i) (first_steps p ls ns i)

-- a message that does not wait has no step
no_step : (clients : Meaning) (p : PlainFacts) (n : ℕ) (h : Held) → IsPlainSound p → KnowsMeanings clients p → slice_get (held_in p.messages.lines) n ≡ Some h → has p.waiting n ≡ false
    → step clients (facts_of p) h ≡ None
no_step clients p n h sound knows at out =
    let found = held_get p.messages.lines n h at in
    let l = found.line in
    let none : step_of_line (facts_of p) l ≡ None = line_steps p l ∙ rest_step p.messages p.sleepers n l (sound.waits n l found.at out) in
    ap (step clients (facts_of p)) found.is ∙ (sym (line_step clients p n l sound knows found.at) ∙ none)

-- the first step among those that wait is the next one
pub next_waits : (clients : Meaning) (p : PlainFacts) (ns : List ℕ) → IsPlainSound p → KnowsMeanings clients p → ns ≡ p.waiting → IsStrictlySortedBy nat_cmp p.waiting
    → first_at (facts_of p) p.messages.lines ns ≡ next clients (facts_of p)
next_waits clients p ns sound knows is ascends =
    ap (first_at (facts_of p) p.messages.lines) is
    ∙ (first_picked clients p p.waiting sound knows
    ∙ (ap first_of (picks_all (step clients (facts_of p)) (held_in p.messages.lines) p.waiting ascends (λ n h at out. no_step clients p n h sound knows at out))
    ∙ first_is clients (facts_of p) (held_in p.messages.lines)))

-- ---- the steps that are left

left_same : (f : Facts) (ls : List Line) → ((n : ℕ) (l : Line) → slice_get ls n ≡ Some l → left_for_line l ≡ left_for f l.id) → left_in ls ≡ left_among f (held_in ls)
left_same f [] same = refl
left_same f (l ∷ ls) same = λ i. same 0 l refl i + left_same f ls (λ n x at. same (suc n) x at) i

pub left_is : (p : PlainFacts) → IsPlainSound p → left_in p.messages.lines ≡ left_of (facts_of p)
left_is p sound =
    let ls = p.messages.lines in
    left_same (facts_of p) ls
    (λ n l at.
    let judged : fin_set.contains (judged_in ls) l.id ≡ l.judged = flagged_is (λ x. x.judged) ls l.id ∙ own_flag (λ x. x.judged) ls n l sound.lines.distinct at in
    let invalid : fin_set.contains (invalid_in ls) l.id ≡ l.invalid = flagged_is (λ x. x.invalid) ls l.id ∙ own_flag (λ x. x.invalid) ls n l sound.lines.distinct at in
    let delivered = sound.lines.ended n l at in
    λ i. cond (sym judged i) (cond (sym delivered i || sym invalid i) 0 1) 2)
