-- Marks that grow by rounds reach just the good messages, or just the bad ones.
use Rattle.std.proofs.Common.{◌≡◌, ◌≢◌, ℕ, zero, suc, ◌+◌, ◌*◌, ◌<◌, ◌≤◌, ◌⊎◌, inl, inr, Bool, true}
use Rattle.std.proofs.Common.{false, cond, ◌&&◌, ◌||◌, List, [], ◌∷◌, length, length-set, Option}
use Rattle.std.proofs.Common.{Some, None, refl, sym, ◌∙◌, ap, subst, arith, add-one, get_or, set}
use Rattle.std.proofs.Common.{replicate}
use Rattle.std.specs.List.{AllByRecursion, count_by, list_any, slice_get}
use Rattle.std.proofs.lemmas.Bool.{and_from, and_parts, false≢true, or_cases, or_left, or_right}
use Rattle.std.proofs.lemmas.Bool.Decides.{eqb_tells}
use Rattle.std.proofs.lemmas.List.{get_or-set_other, length-map}
use Rattle.std.proofs.lemmas.List.Folds.{sum_by-replicate}
use Rattle.std.proofs.lemmas.List.Sums.{count_by-le-length, sum_by-cons, sum_by-set}
use Rattle.sync_rules.specs.declared.answers.Judgement.{Judgement}
use Rattle.sync_rules.specs.declared.answers.Judgement.TheVariants as judgement
use Rattle.sync_rules.specs.Facts.{Held, Id, held_at}
use Rattle.sync_rules.specs.Consistency.{ids_of_held}
use Rattle.sync_rules.specs.Lists.{has_repeat}
use Rattle.sync_rules.specs.Rounds.{Graph, bad, bad_by, bad_first, bad_more, good, good_by, good_next, worse_by}
use Rattle.sync_rules.specs.Steps.{is_beside, is_elsewhere}
use Rattle.sync_rules.specs.Views.{IsFound, IsPlace, place_of}
use Rattle.sync_rules.proofs.Elements.{all_weaker, any_weaker}
use Rattle.sync_rules.proofs.RoundLaws.{bad_le, good_le}
use Rattle.journal_audit.specs.declared.messages.Line.{Line}
use Rattle.journal_audit.specs.Lines.{held_in, held_of}
use Rattle.journal_audit.specs.Rounding.{AreMarked, AreStable, IsGraphOfLines, in_round, is_bad_by, is_good_by, is_marked, is_next, is_next_at, mark_at, round_count}
use Rattle.journal_audit.proofs.Lines.{get_held, held_get, place_own}
use Rattle.sync_rules.proofs.PlaceLaws.{place_found}

-- ---- rounds

in_round_le : (of_good : Bool) (g : Graph) (n k : ℕ) (id : Id) → k ≤ n → in_round of_good g k id ≡ true → in_round of_good g n id ≡ true
in_round_le true g n k id le in_k = good_le g n k id le in_k
in_round_le false g n k id le in_k = bad_le g n k id le in_k

-- what is said of a message
verdict_at : (g : Graph) (ls : List Line) (n : ℕ) (l : Line) → AllByRecursion (λ x. x.answer ≡ g.verdict (held_of x)) ls → slice_get ls n ≡ Some l → l.answer ≡ g.verdict (held_of l)
verdict_at g [] n l all at = cc
verdict_at g (x ∷ ls) zero l all at = let same : x ≡ l = cc in subst (λ (y : Line). y.answer ≡ g.verdict (held_of y)) same all.0
verdict_at g (x ∷ ls) (suc n) l all at = verdict_at g ls n l all.1 at

-- a message whose dependencies are good in a round is good in the next
good_more : (g : Graph) (marks : List Bool) (k : ℕ) (group : Id) (answer : Judgement) → ((id : Id) → is_marked g.held marks id ≡ true → good g k id ≡ true)
    → is_good_by g.held marks group answer ≡ true → good_by g (good g k) group answer ≡ true
good_more g marks k group judgement.Refuse up by = absurd (false≢true by)
good_more g marks k group (judgement.Accept deps share) up by =
    all_weaker (λ d. is_beside group (held_at g.held d) && is_marked g.held marks d) (λ d. is_beside group (held_at g.held d) && good g k d)
    (λ d t. let both = and_parts (is_beside group (held_at g.held d)) (is_marked g.held marks d) t in and_from (is_beside group (held_at g.held d)) (good g k d) both.0 (up d both.1))
    deps by

-- a message that is refused, or has a dependency elsewhere or bad in a round
bad_cases : (g : Graph) (marks : List Bool) (k : ℕ) (group : Id) (answer : Judgement) → ((id : Id) → is_marked g.held marks id ≡ true → bad g k id ≡ true)
    → is_bad_by g.held marks group answer ≡ true → (bad_by g group answer ≡ true) ⊎ (worse_by (bad g k) answer ≡ true)
bad_cases g marks k group judgement.Refuse up by = inl refl
bad_cases g marks k group (judgement.Accept deps share) up by = parts deps by where
  parts : (ds : List Id) → list_any (λ d. is_elsewhere group (held_at g.held d) || is_marked g.held marks d) ds ≡ true
      → (list_any (λ d. is_elsewhere group (held_at g.held d)) ds ≡ true) ⊎ (list_any (bad g k) ds ≡ true)
  parts [] any = absurd (false≢true any)
  parts (d ∷ ds) any =
      let away = is_elsewhere group (held_at g.held d) in
      let more : (list_any (λ e. is_elsewhere group (held_at g.held e)) ds ≡ true) ⊎ (list_any (bad g k) ds ≡ true)
      → (list_any (λ e. is_elsewhere group (held_at g.held e)) (d ∷ ds) ≡ true) ⊎ (list_any (bad g k) (d ∷ ds) ≡ true) =
      λ rest. elim rest [
        | inl a ↦ inl (or_right away _ a)
        | inr b ↦ inr (or_right (bad g k d) _ b)
      ] in
      elim (or_cases (away || is_marked g.held marks d) _ any) [
        | inl here ↦
            elim (or_cases away (is_marked g.held marks d) here) [
              | inl a ↦ inl (or_left away _ a)
              | inr m ↦ inr (or_left (bad g k d) _ (up d m))
            ]
        | inr later ↦ more (parts ds later)
      ]

-- the message of a line is in the next round
next_round : (of_good : Bool) (g : Graph) (marks : List Bool) (k : ℕ) (id : Id) (l : Line) → held_at g.held id ≡ Some (held_of l) → l.answer ≡ g.verdict (held_of l)
    → ((d : Id) → is_marked g.held marks d ≡ true → in_round of_good g k d ≡ true) → is_next of_good g.held marks l ≡ true → in_round of_good g (suc k) id ≡ true
next_round true g marks k id l at said up by =
    ap (good_next g (good g k)) at ∙ ap (good_by g (good g k) l.message.group) (sym said) ∙ good_more g marks k l.message.group l.answer up by
next_round false g marks k id l at said up by =
    elim (bad_cases g marks k l.message.group l.answer up by) [
      | inl first ↦
          let zeroth : bad g 0 id ≡ true = ap (bad_first g) at ∙ (ap (bad_by g l.message.group) (sym said) ∙ first) in
          bad_le g (suc k) 0 id (omega arith) zeroth
      | inr worse ↦
          or_right (bad g k id) (bad_more g (bad g k) (held_at g.held id)) (ap (bad_more g (bad g k)) at ∙ (ap (worse_by (bad g k)) (sym said) ∙ worse))
    ]

-- ---- one mark more

-- the message of a place, by its line
line_placed : (ls : List Line) (id : Id) (n : ℕ) (l : Line) → IsPlace (held_in ls) id n → slice_get ls n ≡ Some l → held_at (held_in ls) id ≡ Some (held_of l)
line_placed ls id n l place at =
    let one : Some (held_of l) ≡ Some place.message = sym (get_held ls n l at) ∙ place.stands in
    place.first ∙ sym one

-- a line that is next is there
next_there : (of_good : Bool) (ls : List Line) (marks : List Bool) (o : Option Line) → is_next_at of_good ls marks o ≡ true
    → (l : Line) × (o ≡ Some l) × (is_next of_good (held_in ls) marks l ≡ true)
next_there of_good ls marks None next = absurd (false≢true next)
next_there of_good ls marks (Some l) next = (l, refl, next)

counted_more : (marks : List Bool) (n : ℕ) → n < length marks → get_or marks n false ≡ false → count_by (λ b. b) (set marks n true) ≡ count_by (λ b. b) marks + 1
counted_more marks n within off =
    let moved = sum_by-set (λ (b : Bool). cond b 1 0) marks n true false within in
    let was : ◌≡◌ {A = ℕ} (cond (get_or marks n false) 1 0) 0 = ap (λ (b : Bool). cond b 1 0) off in
    omega (arith, moved, was)

-- the mark of an id, once one more message is marked
mark_cases : (marks : List Bool) (n : ℕ) (o : Option ℕ) → mark_at (set marks n true) o ≡ true → (o ≡ Some n) ⊎ (mark_at marks o ≡ true)
mark_cases marks n None on = absurd (false≢true on)
mark_cases marks n (Some m) on =
    elim (eqb_tells m n) [
      | inl same ↦ inl (ap (λ (k : ℕ). Some k) same.1)
      | inr apart ↦ inr (sym (get_or-set_other marks n m true false apart.1) ∙ on)
    ]

pub marked_one : (of_good : Bool) (ls : List Line) (marks marks' : List Bool) (count n : ℕ) → AreMarked of_good ls marks count → n < length ls → marks' ≡ set marks n true
    → get_or marks n false ≡ false → is_next_at of_good ls marks (slice_get ls n) ≡ true → AreMarked of_good ls marks' (count + 1)
marked_one of_good ls marks marks' count n are within is off next =
    let here = next_there of_good ls marks (slice_get ls n) next in
    let l = here.0 in
    let inside : n < length marks = omega (arith, within, are.long) in
    let was = are.counted in
    record {
      long = ap length is ∙ (length-set marks n true ∙ are.long);
      counted = sym (ap (count_by (λ b. b)) is ∙ (counted_more marks n inside off ∙ ap (λ k. k + 1) (sym was)));
      sound = λ g graph id on.
          let up : (d : Id) → is_marked g.held marks d ≡ true → in_round of_good g count d ≡ true =
          λ d t. are.sound g graph d (ap (λ (hs : List Held). is_marked hs marks d) (sym graph.held_is) ∙ t) in
          let moved : mark_at (set marks n true) (place_of (held_in ls) id) ≡ true = ap (λ (ms : List Bool). mark_at ms (place_of (held_in ls) id)) (sym is) ∙ on in
          let next_up : is_next of_good g.held marks l ≡ true = ap (λ (hs : List Held). is_next of_good hs marks l) graph.held_is ∙ here.2 in
          subst (λ (k : ℕ). in_round of_good g k id ≡ true) (sym (add-one count))
          (elim (mark_cases marks n (place_of (held_in ls) id) moved) [
            | inl same ↦
                let P : Option ℕ → Type 0 = λ o. IsFound (held_in ls) id o in
                let place : IsPlace (held_in ls) id n = subst P same (place_found (held_in ls) id) in
                next_round of_good g marks count id l
                (ap (λ (hs : List Held). held_at hs id) graph.held_is ∙ line_placed ls id n l place here.1)
                (verdict_at g ls n l graph.verdicts here.1) up next_up
            | inr old ↦ in_round_le of_good g (suc count) count id (omega arith) (are.sound g graph id old)
          ]);
    }

-- ---- none

none_marked : (n : ℕ) (o : Option ℕ) → mark_at (replicate n false) o ≡ true → ⊥
none_marked n None on = false≢true on
none_marked n (Some m) on = off n m on where
  off : (n m : ℕ) → get_or (replicate n false) m false ≡ true → ⊥
  off zero m on = false≢true on
  off (suc n) zero on = false≢true on
  off (suc n) (suc m) on = off n m on

pub marked_none : (of_good : Bool) (ls : List Line) (marks : List Bool) (n : ℕ) → marks ≡ replicate n false → length marks ≡ length ls → AreMarked of_good ls marks 0
marked_none of_good ls marks n is long =
    let none : count_by (λ b. b) (replicate n false) ≡ n * 0 = sum_by-replicate (λ (b : Bool). cond b 1 0) n false in
    let count : count_by (λ b. b) marks ≡ n * 0 = ap (count_by (λ b. b)) is ∙ none in
    record {
      long = long;
      counted = omega (arith, count);
      sound = λ g graph id on. absurd (none_marked n (place_of (held_in ls) id) (ap (λ (ms : List Bool). mark_at ms (place_of (held_in ls) id)) (sym is) ∙ on));
    }

-- ---- all that are good, or bad, are marked

-- the line of a held message, and its place
record LineOf (ls : List Line) (id : Id) (h : Held) : Type 0 where
  place : ℕ
  line : Line
  placed : place_of (held_in ls) id ≡ Some place
  at : slice_get ls place ≡ Some line
  is : h ≡ held_of line

line_of : (ls : List Line) (id : Id) (h : Held) → held_at (held_in ls) id ≡ Some h → LineOf ls id h
line_of ls id h there = by (place_of (held_in ls) id) refl where
  by : (o : Option ℕ) → place_of (held_in ls) id ≡ o → LineOf ls id h
  by None e =
      let P : Option ℕ → Type 0 = λ o. IsFound (held_in ls) id o in
      let none : held_at (held_in ls) id ≡ None = subst P e (place_found (held_in ls) id) in
      let wrong : Some h ≡ None = sym there ∙ none in
      cc
  by (Some n) e =
      let P : Option ℕ → Type 0 = λ o. IsFound (held_in ls) id o in
      let found : IsPlace (held_in ls) id n = subst P e (place_found (held_in ls) id) in
      let line = held_get ls n found.message found.stands in
      let one : Some h ≡ Some found.message = sym there ∙ found.first in
      let same : h ≡ found.message = cc in
      record { place = n; line = line.line; placed = e; at = line.at; is = same ∙ line.is }

-- a held message that is next is marked
marked_by : (of_good : Bool) (g : Graph) (ls : List Line) (marks : List Bool) (id : Id) (h : Held) → IsGraphOfLines g ls → AreStable of_good ls marks → held_at g.held id ≡ Some h
    → ((l : Line) → h ≡ held_of l → l.answer ≡ g.verdict h → is_next of_good g.held marks l ≡ true) → is_marked g.held marks id ≡ true
marked_by of_good g ls marks id h graph stable there next =
    let there' : held_at (held_in ls) id ≡ Some h = ap (λ (hs : List Held). held_at hs id) (sym graph.held_is) ∙ there in
    let found = line_of ls id h there' in
    let said : found.line.answer ≡ g.verdict h = verdict_at g ls found.place found.line graph.verdicts found.at ∙ ap g.verdict (sym found.is) in
    let here : is_next of_good (held_in ls) marks found.line ≡ true =
    ap (λ (hs : List Held). is_next of_good hs marks found.line) (sym graph.held_is) ∙ next found.line found.is said in
    let on : get_or marks found.place false ≡ true = stable found.place (ap (is_next_at of_good ls marks) found.at ∙ here) in
    ap (λ (hs : List Held). is_marked hs marks id) graph.held_is ∙ (ap (mark_at marks) found.placed ∙ on)

all_good_marked : (g : Graph) (marks : List Bool) (k : ℕ) (group : Id) (answer : Judgement) → ((d : Id) → good g k d ≡ true → is_marked g.held marks d ≡ true)
    → good_by g (good g k) group answer ≡ true → is_good_by g.held marks group answer ≡ true
all_good_marked g marks k group judgement.Refuse up by = absurd (false≢true by)
all_good_marked g marks k group (judgement.Accept deps share) up by =
    all_weaker (λ d. is_beside group (held_at g.held d) && good g k d) (λ d. is_beside group (held_at g.held d) && is_marked g.held marks d)
    (λ d t. let both = and_parts (is_beside group (held_at g.held d)) (good g k d) t in and_from (is_beside group (held_at g.held d)) (is_marked g.held marks d) both.0 (up d both.1))
    deps by

first_bad_marked : (g : Graph) (marks : List Bool) (group : Id) (answer : Judgement) → bad_by g group answer ≡ true → is_bad_by g.held marks group answer ≡ true
first_bad_marked g marks group judgement.Refuse by = refl
first_bad_marked g marks group (judgement.Accept deps share) by =
    any_weaker (λ d. is_elsewhere group (held_at g.held d)) (λ d. is_elsewhere group (held_at g.held d) || is_marked g.held marks d)
    (λ d t. or_left (is_elsewhere group (held_at g.held d)) (is_marked g.held marks d) t) deps by

worse_marked : (g : Graph) (marks : List Bool) (k : ℕ) (group : Id) (answer : Judgement) → ((d : Id) → bad g k d ≡ true → is_marked g.held marks d ≡ true)
    → worse_by (bad g k) answer ≡ true → is_bad_by g.held marks group answer ≡ true
worse_marked g marks k group judgement.Refuse up by = refl
worse_marked g marks k group (judgement.Accept deps share) up by =
    any_weaker (bad g k) (λ d. is_elsewhere group (held_at g.held d) || is_marked g.held marks d)
    (λ d t. or_right (is_elsewhere group (held_at g.held d)) (is_marked g.held marks d) (up d t)) deps by

good_marked : (g : Graph) (ls : List Line) (marks : List Bool) → IsGraphOfLines g ls → AreStable true ls marks → (k : ℕ) (id : Id) → good g k id ≡ true → is_marked g.held marks id ≡ true
good_marked g ls marks graph stable zero id in_k = absurd (false≢true in_k)
good_marked g ls marks graph stable (suc k) id in_k = by (good_marked g ls marks graph stable k) (held_at g.held id) refl in_k where
  by : ((d : Id) → good g k d ≡ true → is_marked g.held marks d ≡ true) → (o : Option Held) → held_at g.held id ≡ o → good_next g (good g k) o ≡ true → is_marked g.held marks id ≡ true
  by up None there next = absurd (false≢true next)
  by up (Some h) there next =
      marked_by true g ls marks id h graph stable there
      (λ l is said. all_good_marked g marks k l.message.group l.answer up
      (ap (λ (x : Held). good_by g (good g k) x.message.group l.answer) (sym is) ∙ (ap (good_by g (good g k) h.message.group) said ∙ next)))

bad_marked : (g : Graph) (ls : List Line) (marks : List Bool) → IsGraphOfLines g ls → AreStable false ls marks → (k : ℕ) (id : Id) → bad g k id ≡ true → is_marked g.held marks id ≡ true
bad_marked g ls marks graph stable zero id in_k = by (held_at g.held id) refl in_k where
  by : (o : Option Held) → held_at g.held id ≡ o → bad_first g o ≡ true → is_marked g.held marks id ≡ true
  by None there next = absurd (false≢true next)
  by (Some h) there next =
      marked_by false g ls marks id h graph stable there
      (λ l is said. first_bad_marked g marks l.message.group l.answer
      (ap (λ (x : Held). bad_by g x.message.group l.answer) (sym is) ∙ (ap (bad_by g h.message.group) said ∙ next)))
bad_marked g ls marks graph stable (suc k) id in_k =
    elim (or_cases (bad g k id) (bad_more g (bad g k) (held_at g.held id)) in_k) [
      | inl before ↦ bad_marked g ls marks graph stable k id before
      | inr more ↦ by (bad_marked g ls marks graph stable k) (held_at g.held id) refl more
    ]
  where
    by : ((d : Id) → bad g k d ≡ true → is_marked g.held marks d ≡ true) → (o : Option Held) → held_at g.held id ≡ o → bad_more g (bad g k) o ≡ true → is_marked g.held marks id ≡ true
    by up None there next = absurd (false≢true next)
    by up (Some h) there next =
        marked_by false g ls marks id h graph stable there (λ l is said. worse_marked g marks k l.message.group l.answer up (ap (worse_by (bad g k)) said ∙ next))

all_marked : (of_good : Bool) (g : Graph) (ls : List Line) (marks : List Bool) → IsGraphOfLines g ls → AreStable of_good ls marks → (k : ℕ) (id : Id) → in_round of_good g k id ≡ true
    → is_marked g.held marks id ≡ true
all_marked true g ls marks graph stable k id in_k = good_marked g ls marks graph stable k id in_k
all_marked false g ls marks graph stable k id in_k = bad_marked g ls marks graph stable k id in_k

-- ---- how many

both_ways : (a b : Bool) → (a ≡ true → b ≡ true) → (b ≡ true → a ≡ true) → a ≡ b
both_ways true b up down = sym (up refl)
both_ways false true up down = down refl
both_ways false false up down = refl

count_by-same : (test : Held → Bool) (hs : List Held) (marks : List Bool) → length marks ≡ length hs
    → ((n : ℕ) (h : Held) → slice_get hs n ≡ Some h → test h ≡ get_or marks n false) → count_by test hs ≡ count_by (λ b. b) marks
count_by-same test [] [] long same = refl
count_by-same test [] (m ∷ marks) long same = absurd (omega (arith, long))
count_by-same test (h ∷ hs) [] long same = absurd (omega (arith, long))
count_by-same test (h ∷ hs) (m ∷ marks) long same =
    let here : test h ≡ m = same 0 h refl in
    let rest = count_by-same test hs marks (omega (arith, long)) (λ n x at. same (suc n) x at) in
    sum_by-cons (λ (x : Held). cond (test x) 1 0) h hs
    ∙ ((λ i. cond (here i) 1 0 + rest i) ∙ sym (sum_by-cons (λ (b : Bool). cond b 1 0) m marks))

pub round_counted : (of_good : Bool) (g : Graph) (ls : List Line) (marks : List Bool) (count : ℕ) → has_repeat (ids_of_held (held_in ls)) ≡ false → AreMarked of_good ls marks count
    → AreStable of_good ls marks → IsGraphOfLines g ls → count ≡ round_count of_good g (held_in ls)
round_counted of_good g ls marks count distinct are stable graph =
    let few = count_by-le-length (λ (b : Bool). b) marks in
    let held = held_in ls in
    let long : length held ≡ length ls = length-map ls held_of in
    let counted = are.counted in
    let within : count ≤ length held = omega (arith, few, long, counted, are.long) in
    are.counted
    ∙ sym (count_by-same (λ h. in_round of_good g (length held) h.id) held marks (are.long ∙ sym long)
    (λ n h at.
    let mark : is_marked held marks h.id ≡ get_or marks n false = ap (mark_at marks) (place_own held n h distinct at) in
    both_ways (in_round of_good g (length held) h.id) (is_marked held marks h.id)
    (λ in_k. ap (λ (hs : List Held). is_marked hs marks h.id) (sym graph.held_is) ∙ all_marked of_good g ls marks graph stable (length held) h.id in_k)
    (λ on. in_round_le of_good g (length held) count h.id within (are.sound g graph h.id on))
    ∙ mark))

-- ---- the loops

-- what a pass has come to: so many are marked, and as long as no further one was, none of those passed is next
pub record Passes (of_good : Bool) (ls : List Line) (marks : List Bool) (count now passed : ℕ) : Type 0 where
  pub more : count ≤ now
  pub marked : AreMarked of_good ls marks now
  pub stable : now ≡ count → (n : ℕ) → n < passed → is_next_at of_good ls marks (slice_get ls n) ≡ true → get_or marks n false ≡ true

pub passes_none : (of_good : Bool) (ls : List Line) (marks : List Bool) (count : ℕ) → AreMarked of_good ls marks count → Passes of_good ls marks count count 0
passes_none of_good ls marks count are = record { more = omega arith; marked = are; stable = λ same n below. absurd (omega (arith, below)) }

pub passes_one : (of_good : Bool) (ls : List Line) (marks marks' : List Bool) (count now n : ℕ) → Passes of_good ls marks count now n → AreMarked of_good ls marks' (now + 1)
    → Passes of_good ls marks' count (now + 1) (n + 1)
passes_one of_good ls marks marks' count now n on are =
    let le = on.more in
    record { more = omega (arith, le); marked = are; stable = λ same. absurd (omega (arith, le, same)) }

pub passes_by : (of_good : Bool) (ls : List Line) (marks marks' : List Bool) (count now n : ℕ) → Passes of_good ls marks count now n → marks' ≡ marks
    → (is_next_at of_good ls marks (slice_get ls n) ≡ true → get_or marks n false ≡ true) → Passes of_good ls marks' count now (n + 1)
passes_by of_good ls marks marks' count now n on is there =
    subst (λ (ms : List Bool). Passes of_good ls ms count now (n + 1)) (sym is)
    (record {
      more = on.more;
      marked = on.marked;
      stable = λ same m below.
          elim (eqb_tells m n) [
            | inl at ↦ subst (λ (k : ℕ). is_next_at of_good ls marks (slice_get ls k) ≡ true → get_or marks k false ≡ true) (sym at.1) there
            | inr apart ↦ let other : m ≢ n = apart.1 in on.stable same m (omega (arith, below, other))
          ];
    })

pub passes_all : (of_good : Bool) (ls : List Line) (marks : List Bool) (count now n : ℕ) → Passes of_good ls marks count now n → length ls ≤ n → now ≡ count → AreStable of_good ls marks
passes_all of_good ls marks count now n on all same m next =
    let here = next_there of_good ls marks (slice_get ls m) next in
    let within : m < length ls = get_within ls m here.0 here.1 in
    on.stable same m (omega (arith, within, all)) next
  where
    get_within : (xs : List Line) (m : ℕ) (l : Line) → slice_get xs m ≡ Some l → m < length xs
    get_within [] m l at = cc
    get_within (x ∷ xs) zero l at = omega arith
    get_within (x ∷ xs) (suc m) l at = let rest = get_within xs m l at in omega (arith, rest)

pub marked_few : (of_good : Bool) (ls : List Line) (marks : List Bool) (count : ℕ) → AreMarked of_good ls marks count → count ≤ length ls
marked_few of_good ls marks count are =
    let few = count_by-le-length (λ (b : Bool). b) marks in
    let counted = are.counted in
    omega (arith, few, counted, are.long)
