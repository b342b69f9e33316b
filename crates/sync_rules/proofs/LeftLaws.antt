-- The steps that are left: each step lowers them, and there are at most two for each held message.
use Rattle.std.proofs.Common.{◌≡◌, ℕ, ◌+◌, ◌*◌, ◌≤◌, Bool, true, false, cond, ◌||◌, List, [], ◌∷◌, length, Some, refl, ap, ◌∙◌, subst, inl, inr, arith}
use Rattle.std.specs.FinSet as fin_set
use Rattle.sync_rules.specs.declared.entries.Entry.{Entry}
use Rattle.sync_rules.specs.declared.entries.Entry.TheVariants as entry
use Rattle.sync_rules.specs.Clients.{Meaning}
use Rattle.sync_rules.specs.EntryTests.{IsSettlingEntry, ends, judges}
use Rattle.sync_rules.specs.Facts.{Facts, Held, Id, after, after_all}
use Rattle.sync_rules.specs.Steps.{is_ended, next}
use Rattle.sync_rules.specs.Legal.{IsSettling}
use Rattle.sync_rules.specs.Left.{left_for, left_among, left_of}
use Rattle.sync_rules.specs.Lists.{In}
use Rattle.sync_rules.proofs.Elements.{same_id_itself}
use Rattle.sync_rules.proofs.Flags.{ended_scan, judged_scan}
use Rattle.sync_rules.proofs.StepLaws.{Told, first_step_some, next_is_settling, told_some}

abbrev left_by : Bool → Bool → ℕ
left_by judged ended = cond judged (cond ended 0 1) 2

-- a message that is judged or has ended stays so
falls : (a b judged ended : Bool) → left_by (a || judged) (b || ended) ≤ left_by judged ended
falls true true true true = omega arith
falls true true true false = omega arith
falls true true false ended = omega arith
falls true false true true = omega arith
falls true false true false = omega arith
falls true false false true = omega arith
falls true false false false = omega arith
falls false true true true = omega arith
falls false true true false = omega arith
falls false true false ended = omega arith
falls false false true true = omega arith
falls false false true false = omega arith
falls false false false ended = omega arith

after_is : (f : Facts) (e : Entry) (id : Id) → left_for (after f e) id ≡ left_by (judges id e || fin_set.contains f.judged id) (ends id e || is_ended f id)
after_is f e id = ap (λ j. left_by j (is_ended (after f e) id)) (judged_scan id f e) ∙ ap (left_by (judges id e || fin_set.contains f.judged id)) (ended_scan id f e)

one_falls : (f : Facts) (e : Entry) (id : Id) → left_for (after f e) id ≤ left_for f id
one_falls f e id = omega (arith, after_is f e id, falls (judges id e) (ends id e) (fin_set.contains f.judged id) (is_ended f id))

all_fall : (f : Facts) (e : Entry) (hs : List Held) → left_among (after f e) hs ≤ left_among f hs
all_fall f e [] = omega arith
all_fall f e (h ∷ hs) = omega (arith, one_falls f e h.id, all_fall f e hs)

judged_now : (b judged ended : Bool) → judged ≡ false → left_by (true || judged) (b || ended) + 1 ≤ left_by judged ended
judged_now true true true not_so = cc
judged_now true true false not_so = cc
judged_now false true true not_so = cc
judged_now false true false not_so = cc
judged_now true false ended not_so = omega arith
judged_now false false true not_so = omega arith
judged_now false false false not_so = omega arith

ended_now : (a judged ended : Bool) → judged ≡ true → ended ≡ false → left_by (a || judged) (true || ended) + 1 ≤ left_by judged ended
ended_now a false ended is_so not_so = cc
ended_now a true true is_so not_so = cc
ended_now true true false is_so not_so = omega arith
ended_now false true false is_so not_so = omega arith

-- the message that a step is of
step_falls : (clients : Meaning) (f : Facts) (h : Held) (e : Entry) → Told clients f h (Some e) → left_for (after f e) h.id + 1 ≤ left_for f h.id
step_falls clients f h (entry.Judged id) t =
    let here : judges h.id (entry.Judged id) ≡ true = ap (λ x. judges h.id (entry.Judged x)) t.same ∙ same_id_itself h.id in
    let now : left_for (after f (entry.Judged id)) h.id ≡ left_by (true || fin_set.contains f.judged h.id) (ends h.id (entry.Judged id) || is_ended f h.id) =
    after_is f (entry.Judged id) h.id ∙ ap (λ b. left_by (b || fin_set.contains f.judged h.id) (ends h.id (entry.Judged id) || is_ended f h.id)) here in
    omega (arith, now, judged_now (ends h.id (entry.Judged id)) (fin_set.contains f.judged h.id) (is_ended f h.id) t.unjudged)
step_falls clients f h (entry.Deliver id) t =
    let here : ends h.id (entry.Deliver id) ≡ true = ap (λ x. ends h.id (entry.Deliver x)) t.same ∙ ap (λ b. b || false) (same_id_itself h.id) in
    let now : left_for (after f (entry.Deliver id)) h.id ≡ left_by (judges h.id (entry.Deliver id) || fin_set.contains f.judged h.id) (true || is_ended f h.id) =
    after_is f (entry.Deliver id) h.id ∙ ap (λ b. left_by (judges h.id (entry.Deliver id) || fin_set.contains f.judged h.id) (b || is_ended f h.id)) here in
    omega (arith, now, ended_now (judges h.id (entry.Deliver id)) (fin_set.contains f.judged h.id) (is_ended f h.id) t.still_open.judged t.still_open.no_end)
step_falls clients f h (entry.Invalid id) t =
    let here : ends h.id (entry.Invalid id) ≡ true = ap (λ x. ends h.id (entry.Invalid x)) t.same ∙ ap (λ b. false || b) (same_id_itself h.id) in
    let now : left_for (after f (entry.Invalid id)) h.id ≡ left_by (judges h.id (entry.Invalid id) || fin_set.contains f.judged h.id) (true || is_ended f h.id) =
    after_is f (entry.Invalid id) h.id ∙ ap (λ b. left_by (judges h.id (entry.Invalid id) || fin_set.contains f.judged h.id) (b || is_ended f h.id)) here in
    omega (arith, now, ended_now (judges h.id (entry.Invalid id)) (fin_set.contains f.judged h.id) (is_ended f h.id) t.still_open.judged t.still_open.no_end)
step_falls clients f h _ t = absurd t

among_fall : (clients : Meaning) (f : Facts) (h : Held) (e : Entry) (hs : List Held) → Told clients f h (Some e) → In h hs → left_among (after f e) hs + 1 ≤ left_among f hs
among_fall clients f h e [] t inside = absurd inside
among_fall clients f h e (x ∷ hs) t inside =
    elim inside [
      | inl here ↦
          let mine : left_for (after f e) x.id + 1 ≤ left_for f x.id =
          subst (λ (y : Held). left_for (after f e) y.id + 1 ≤ left_for f y.id) here (step_falls clients f h e t) in
          omega (arith, mine, all_fall f e hs)
      | inr later ↦ omega (arith, one_falls f e x.id, among_fall clients f h e hs t later)
    ]

-- a step brings no message
held_kept : (f : Facts) (e : Entry) → IsSettlingEntry e → (after f e).held ≡ f.held
held_kept f (entry.Judged id) settles = refl
held_kept f (entry.Deliver id) settles = refl
held_kept f (entry.Invalid id) settles = refl
held_kept f _ settles = absurd settles

pub step_lowers : (clients : Meaning) (f : Facts) (e : Entry) → next clients f ≡ Some e → left_of (after f e) + 1 ≤ left_of f
step_lowers clients f e is =
    let s = first_step_some clients f f.held e is in
    let told = told_some clients f s.of (Some e) s.steps in
    let same : left_of (after f e) ≡ left_among (after f e) f.held = ap (left_among (after f e)) (held_kept f e (next_is_settling clients f e is)) in
    omega (arith, same, among_fall clients f s.of e f.held told s.inside)

pub steps_lower : (clients : Meaning) (f : Facts) (es : List Entry) → IsSettling clients f es → left_of (after_all f es) + length es ≤ left_of f
steps_lower clients f [] settling = omega arith
steps_lower clients f (e ∷ es) settling = omega (arith, steps_lower clients (after f e) es settling.1, step_lowers clients f e settling.0)

-- ---- the bound

at_most_two : (judged ended : Bool) → left_by judged ended ≤ 2
at_most_two true true = omega arith
at_most_two true false = omega arith
at_most_two false ended = omega arith

among_few : (f : Facts) (hs : List Held) → left_among f hs ≤ 2 * length hs
among_few f [] = omega arith
among_few f (h ∷ hs) = omega (arith, at_most_two (fin_set.contains f.judged h.id) (is_ended f h.id), among_few f hs)

pub left_few : (f : Facts) → left_of f ≤ 2 * length f.held
left_few f = among_few f f.held
