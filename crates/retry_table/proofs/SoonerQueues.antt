-- Queues of what goes before its time: what a change leaves, and that a search of all of them is one of the rows.
use Rattle.std.proofs.Common.{◌≡◌, ◌≢◌, ℕ, zero, suc, ◌+◌, ◌-◌, ◌*◌, ◌/◌, ◌^◌, ◌<◌, ◌≤◌, min, Bool, true, false, not, cond, ◌&&◌, ◌||◌, nat_eq, nat_le, nat_lt, List, [], ◌∷◌, ◌++◌, length, drop, Option, None, Some, IfSome, refl, sym, ap, subst, ◌∙◌, get_or, set, replicate, arith, length-append, length-drop, inl, inr, eqb-true}
use Rattle.std.proofs.lemmas.List.{length-set, length-replicate, get_or-set_same, get_or-set_other, get_or_past, get_or-drop}
use Rattle.std.proofs.lemmas.Bool.{cases_eq, cases_lt, false≢true}
use Rattle.std.proofs.lemmas.Bool.Decides.{nat_tests}
use Rattle.std.specs.List.{position_from}
use Rattle.due_tree.specs.Due.{is_due}
use Rattle.due_tree.specs.Cells.{lesser}
use Rattle.due_tree.proofs.Places.{longer_at, position_none}
use Rattle.sync_rules.specs.Facts.{expiry_after, one_more_try}
use Rattle.sync_rules.specs.Sessions.{goes_sooner}
use Rattle.retry_table.specs.declared.blocks.Times.TheVariants as times
use Rattle.retry_table.specs.declared.classes.Classes.{Classes}
use Rattle.retry_table.specs.Table.{KeptRow, no_kept, kept_in}
use Rattle.retry_table.specs.Due.{may_be_sent, is_sooner_at}
use Rattle.retry_table.specs.Queues.{AreClasses, AreLeast, class_at, is_sooner_below, is_sooner_in, is_timely, next_timely, sooner_bound, sooner_place, time_place}
use Rattle.retry_table.proofs.BlockLaws.{least-places, least-rows, rows_alike}
use Rattle.retry_table.proofs.Follows.{position_alike}

-- ---- a search for one or another

first_stays : (i j : ℕ) (p : KeptRow → Bool) (xs : List KeptRow) → i ≤ j → lesser (Some i) (position_from p j xs) ≡ Some i
first_stays i j p [] h = refl
first_stays i j p (x ∷ xs) h =
    elim (p x) as (λ b. lesser (Some i) (cond b (Some j) (position_from p (j + 1) xs)) ≡ Some i) [
      | true ↦ ap Some (omega arith)
      | false ↦ first_stays i (j + 1) p xs (omega arith)
    ]

other_stays : (i j : ℕ) (p : KeptRow → Bool) (xs : List KeptRow) → i ≤ j → lesser (position_from p j xs) (Some i) ≡ Some i
other_stays i j p [] h = refl
other_stays i j p (x ∷ xs) h =
    elim (p x) as (λ b. lesser (cond b (Some j) (position_from p (j + 1) xs)) (Some i) ≡ Some i) [
      | true ↦ ap Some (omega arith)
      | false ↦ other_stays i (j + 1) p xs (omega arith)
    ]

-- the first that passes one of two tests is the earlier of the first that pass each
pub position_or : (p q : KeptRow → Bool) (i : ℕ) (xs : List KeptRow) → lesser (position_from p i xs) (position_from q i xs) ≡ position_from (λ x. p x || q x) i xs
position_or p q i [] = refl
position_or p q i (x ∷ xs) =
    by (position_or p q (i + 1) xs) (p x) (q x)
  where
    by : lesser (position_from p (i + 1) xs) (position_from q (i + 1) xs) ≡ position_from (λ x. p x || q x) (i + 1) xs
        → (a b : Bool) → lesser (cond a (Some i) (position_from p (i + 1) xs)) (cond b (Some i) (position_from q (i + 1) xs)) ≡ cond (a || b) (Some i) (position_from (λ x. p x || q x) (i + 1) xs)
    by rest true true = ap Some (omega arith)
    by rest true false = first_stays i (i + 1) q xs (omega arith)
    by rest false true = other_stays i (i + 1) p xs (omega arith)
    by rest false false = rest

-- tests that agree on each row find the same
pub same_position : (p q : KeptRow → Bool) (i : ℕ) (xs : List KeptRow) → ((n : ℕ) → n < length xs → p (kept_in xs n) ≡ q (kept_in xs n)) → position_from p i xs ≡ position_from q i xs
same_position p q i [] h = refl
same_position p q i (x ∷ xs) h =
    (λ j. cond (h 0 (omega arith) j) (Some i) (same_position p q (i + 1) xs (λ n within. h (suc n) (omega (arith, within))) j))

-- ---- one row

-- of a row that was tried so often the bound says whether it goes before its time
bound_is : (expiry b : ℕ) → nat_lt b (2 ^ 64 - 1) ≡ true → nat_le (2 ^ 64 - 1 - expiry) (2 ^ 64 - 2 - b) ≡ nat_lt b expiry
bound_is expiry b h = grind (arith, nat_tests)

timely_one : (may asked : Bool) (e t expiry latency now : ℕ) → nat_lt (expiry_after now latency (one_more_try t)) (2 ^ 64 - 1) ≡ true → (same : Bool) → nat_eq e t ≡ same
    → is_due (2 ^ 64 - 2 - expiry_after now latency (one_more_try t)) (cond (may && (not asked && same)) (Some (2 ^ 64 - 1 - expiry)) None)
    ≡ (same && (may && (not asked && nat_lt (expiry_after now latency (one_more_try e)) expiry)))
timely_one true false e t expiry latency now h true is =
    bound_is expiry (expiry_after now latency (one_more_try t)) h
    ∙ ap (λ k. nat_lt (expiry_after now latency (one_more_try k)) expiry) (sym (eqb-true e t is))
timely_one true false e t expiry latency now h false is = refl
timely_one true true e t expiry latency now h true is = refl
timely_one true true e t expiry latency now h false is = refl
timely_one false asked e t expiry latency now h true is = refl
timely_one false asked e t expiry latency now h false is = refl

pub timely_is : (tries latency now : ℕ) (kept : KeptRow) → nat_lt (expiry_after now latency (one_more_try tries)) (2 ^ 64 - 1) ≡ true
    → is_timely (times.Sooner tries) (2 ^ 64 - 2 - expiry_after now latency (one_more_try tries)) kept ≡ is_sooner_in latency now tries kept
timely_is tries latency now kept h =
    timely_one (may_be_sent kept) kept.row.asked kept.row.tries tries kept.row.expiry latency now h (nat_eq kept.row.tries tries) refl

-- where a try sets the greatest expiry no row goes before its time
none_in : (b e : ℕ) → nat_lt b (2 ^ 64 - 1) ≡ false → e < 2 ^ 64 → nat_lt b e ≡ false
none_in b e h small = grind (arith, nat_tests)

never_one : (may asked : Bool) (e t expiry latency now : ℕ) → nat_lt (expiry_after now latency (one_more_try t)) (2 ^ 64 - 1) ≡ false → expiry < 2 ^ 64 → (same : Bool) → nat_eq e t ≡ same
    → (same && (may && (not asked && nat_lt (expiry_after now latency (one_more_try e)) expiry))) ≡ false
never_one may asked e t expiry latency now h small false is = refl
never_one false asked e t expiry latency now h small true is = refl
never_one true true e t expiry latency now h small true is = refl
never_one true false e t expiry latency now h small true is =
    ap (λ k. nat_lt (expiry_after now latency (one_more_try k)) expiry) (eqb-true e t is)
    ∙ none_in (expiry_after now latency (one_more_try t)) expiry h small

pub never_in : (tries latency now : ℕ) (kept : KeptRow) → nat_lt (expiry_after now latency (one_more_try tries)) (2 ^ 64 - 1) ≡ false → kept.row.expiry < 2 ^ 64 → is_sooner_in latency now tries kept ≡ false
never_in tries latency now kept h small =
    never_one (may_be_sent kept) kept.row.asked kept.row.tries tries kept.row.expiry latency now h small (nat_eq kept.row.tries tries) refl

-- ---- a search of one queue is one of the rows that were tried so often

pub found_in : (rows : List KeptRow) (from tries latency now bound : ℕ) → Some bound ≡ sooner_bound latency now tries
    → next_timely (times.Sooner tries) from bound rows ≡ position_from (is_sooner_in latency now tries) from (drop from rows)
found_in rows from tries latency now bound e =
    by (nat_lt (expiry_after now latency (one_more_try tries)) (2 ^ 64 - 1)) refl e
  where
    by : (b : Bool) → nat_lt (expiry_after now latency (one_more_try tries)) (2 ^ 64 - 1) ≡ b → Some bound ≡ cond b (Some (2 ^ 64 - 2 - expiry_after now latency (one_more_try tries))) None
        → next_timely (times.Sooner tries) from bound rows ≡ position_from (is_sooner_in latency now tries) from (drop from rows)
    by false is e = cc
    by true is e =
        let same : bound ≡ 2 ^ 64 - 2 - expiry_after now latency (one_more_try tries) = cc in
        same_position (is_timely (times.Sooner tries) bound) (is_sooner_in latency now tries) from (drop from rows)
        (λ n within. ap (λ k. is_timely (times.Sooner tries) k (kept_in (drop from rows) n)) same ∙ timely_is tries latency now (kept_in (drop from rows) n) is)

pub none_found_in : (rows : List KeptRow) (from tries latency now : ℕ) → ((n : ℕ) → (kept_in rows n).row.expiry < 2 ^ 64) → None ≡ sooner_bound latency now tries
    → None ≡ position_from (is_sooner_in latency now tries) from (drop from rows)
none_found_in rows from tries latency now told e =
    by (nat_lt (expiry_after now latency (one_more_try tries)) (2 ^ 64 - 1)) refl e
  where
    by : (b : Bool) → nat_lt (expiry_after now latency (one_more_try tries)) (2 ^ 64 - 1) ≡ b → None ≡ cond b (Some (2 ^ 64 - 2 - expiry_after now latency (one_more_try tries))) None
        → None ≡ position_from (is_sooner_in latency now tries) from (drop from rows)
    by true is e = cc
    by false is e =
        sym (position_none (is_sooner_in latency now tries) (drop from rows) from no_kept
        (λ n within. never_in tries latency now (kept_in (drop from rows) n) is
        (let there = get_or-drop from rows n no_kept in subst (λ (k : KeptRow). k.row.expiry < 2 ^ 64) (sym there) (told (from + n)))))

-- ---- a search of all queues

below_none : (tries : ℕ) → nat_lt tries 0 ≡ false
below_none tries = grind (arith, nat_tests)

pub none_below : (rows : List KeptRow) (from latency now : ℕ) → None ≡ position_from (is_sooner_below latency now 0) from (drop from rows)
none_below rows from latency now =
    sym (position_none (is_sooner_below latency now 0) (drop from rows) from no_kept
    (λ n within. ap (λ b. b && is_sooner_at latency now (kept_in (drop from rows) n)) (below_none (kept_in (drop from rows) n).row.tries)))

one_more : (tries k : ℕ) → (nat_lt tries k || nat_eq tries k) ≡ nat_lt tries (k + 1)
one_more tries k = grind (arith, nat_tests)

both_and : (a b c : Bool) → ((a && c) || (b && c)) ≡ ((a || b) && c)
both_and true true true = refl
both_and true true false = refl
both_and true false true = refl
both_and true false false = refl
both_and false true true = refl
both_and false true false = refl
both_and false false c = refl

pub more_below : (rows : List KeptRow) (from latency now tries : ℕ) (first next : Option ℕ) → first ≡ position_from (is_sooner_below latency now tries) from (drop from rows)
    → next ≡ position_from (is_sooner_in latency now tries) from (drop from rows) → lesser first next ≡ position_from (is_sooner_below latency now (tries + 1)) from (drop from rows)
more_below rows from latency now tries first next e f =
    (λ i. lesser (e i) (f i))
    ∙ (position_or (is_sooner_below latency now tries) (is_sooner_in latency now tries) from (drop from rows)
    ∙ same_position (λ kept. is_sooner_below latency now tries kept || is_sooner_in latency now tries kept) (is_sooner_below latency now (tries + 1)) from (drop from rows)
    (λ n within. let kept : KeptRow = kept_in (drop from rows) n in
    both_and (nat_lt kept.row.tries tries) (nat_eq kept.row.tries tries) (is_sooner_at latency now kept)
    ∙ ap (λ b. b && is_sooner_at latency now kept) (one_more kept.row.tries tries)))

is_below : (m n : ℕ) → m < n → nat_lt m n ≡ true
is_below m n h = grind (arith, nat_tests)

pub all_below : (rows : List KeptRow) (from latency now tries : ℕ) (first : Option ℕ) → ((n : ℕ) → (kept_in rows n).row.tries < tries)
    → first ≡ position_from (is_sooner_below latency now tries) from (drop from rows) → first ≡ position_from (is_sooner_at latency now) from (drop from rows)
all_below rows from latency now tries first tried e =
    e ∙ same_position (is_sooner_below latency now tries) (is_sooner_at latency now) from (drop from rows)
    (λ n within. let kept : KeptRow = kept_in (drop from rows) n in
    let there = get_or-drop from rows n no_kept in
    let few : kept.row.tries < tries = subst (λ (k : KeptRow). k.row.tries < tries) (sym there) (tried (from + n)) in
    ap (λ b. b && is_sooner_at latency now kept) (is_below kept.row.tries tries few))

-- ---- a row is written in place of an old one

not_same : (m n : ℕ) → m ≢ n → nat_eq m n ≡ false
not_same m n h = grind (arith, nat_tests, h)

without_place : (may asked same : Bool) (expiry : ℕ) → same ≡ false → cond (may && (not asked && same)) (Some (2 ^ 64 - 1 - expiry)) None ≡ None
without_place true true same expiry e = refl
without_place true false true expiry e = absurd (false≢true (sym e))
without_place true false false expiry e = refl
without_place false asked same expiry e = refl

-- a row that was tried otherwise has no place in the queue
pub no_place : (tries : ℕ) (kept : KeptRow) → kept.row.tries ≢ tries → time_place (times.Sooner tries) kept ≡ None
no_place tries kept h = without_place (may_be_sent kept) kept.row.asked (nat_eq kept.row.tries tries) kept.row.expiry (not_same kept.row.tries tries h)

module _ (rows : List KeptRow) (n : ℕ) (old : KeptRow) (within : n < length rows) where
  -- the queue of other numbers of tries stays as it is
  pub other_class : (tries : ℕ) (tree : List (Option ℕ)) → old.row.tries ≢ tries → (kept_in rows n).row.tries ≢ tries → AreLeast (times.Sooner tries) (set rows n old) tree → AreLeast (times.Sooner tries) rows tree
  other_class tries tree was is b =
      rows_alike (times.Sooner tries) (set rows n old) rows tree b (sym (length-set rows n old))
      (λ k. elim (cases_eq k n) [
        | inl here ↦ subst (λ m. time_place (times.Sooner tries) (kept_in rows m) ≡ time_place (times.Sooner tries) (kept_in (set rows n old) m)) (sym here)
            (no_place tries (kept_in rows n) is
            ∙ sym (ap (time_place (times.Sooner tries)) (get_or-set_same rows n old no_kept within) ∙ no_place tries old was))
        | inr other ↦ ap (time_place (times.Sooner tries)) (sym (get_or-set_other rows n k old no_kept other))
      ])

  tried_still : (most more m : ℕ) → ((k : ℕ) → (kept_in (set rows n old) k).row.tries < most) → most ≤ more → (kept_in rows n).row.tries < more → (kept_in rows m).row.tries < more
  tried_still most more m was up is =
      elim (cases_eq m n) [
        | inl here ↦ subst (λ k. (kept_in rows k).row.tries < more) (sym here) is
        | inr other ↦
            let few : (kept_in rows m).row.tries < most = subst (λ (k : KeptRow). k.row.tries < most) (get_or-set_other rows n m old no_kept other) (was m) in
            omega (arith, few, up)
      ]

  told_still : (m : ℕ) → ((k : ℕ) → (kept_in (set rows n old) k).row.expiry < 2 ^ 64) → (kept_in rows n).row.expiry < 2 ^ 64 → (kept_in rows m).row.expiry < 2 ^ 64
  told_still m was is =
      elim (cases_eq m n) [
        | inl here ↦ subst (λ k. (kept_in rows k).row.expiry < 2 ^ 64) (sym here) is
        | inr other ↦ subst (λ (k : KeptRow). k.row.expiry < 2 ^ 64) (get_or-set_other rows n m old no_kept other) (was m)
      ]

  -- the queues of the old and of the new number of tries were mended
  pub mended_classes : (before after : Classes) (was is : ℕ) → AreClasses (set rows n old) before → (kept_in rows n).row.expiry < 2 ^ 64 → was ≡ old.row.tries → is ≡ (kept_in rows n).row.tries
      → length after.trees.items ≡ length before.trees.items → before.most ≤ after.most → is < after.most
      → (was < length after.trees.items → AreLeast (times.Sooner was) rows (class_at after.trees.items was))
      → (is < length after.trees.items → AreLeast (times.Sooner is) rows (class_at after.trees.items is))
      → ((k : ℕ) → k ≢ was → k ≢ is → class_at after.trees.items k ≡ class_at before.trees.items k)
      → AreClasses rows after
  mended_classes before after was is a told old_tries new_tries many up above mended_old mended_new others = record {
    each = λ k there. elim (cases_eq k was) [
      | inl e ↦ subst (λ m. AreLeast (times.Sooner m) rows (class_at after.trees.items m)) (sym e) (mended_old (subst (λ m. m < length after.trees.items) e there))
      | inr x ↦ elim (cases_eq k is) [
        | inl e ↦ subst (λ m. AreLeast (times.Sooner m) rows (class_at after.trees.items m)) (sym e) (mended_new (subst (λ m. m < length after.trees.items) e there))
        | inr y ↦
            let within_before : k < length before.trees.items = omega (arith, many, there) in
            subst (λ (t : List (Option ℕ)). AreLeast (times.Sooner k) rows t) (sym (others k x y))
            (other_class k (class_at before.trees.items k) (λ e. x (sym e ∙ sym old_tries)) (λ e. y (sym e ∙ sym new_tries)) (a.each k within_before))
      ]
    ];
    few = omega (arith, a.few, many);
    tried = λ m. tried_still before.most after.most m a.tried up (subst (λ k. k < after.most) new_tries above);
    told = λ m. told_still m a.told told;
  }

-- ---- more rows

pub classes-rows : (rows : List KeptRow) (classes : Classes) (numbers : ℕ) → AreClasses rows classes
    → ((tries : ℕ) → tries < length classes.trees.items → numbers ≤ 64 * length (class_at classes.trees.items tries))
    → AreClasses (rows ++ replicate (numbers - length rows) no_kept) classes
classes-rows rows classes numbers a room = record {
  each = λ tries there. least-rows (times.Sooner tries) rows (class_at classes.trees.items tries) (a.each tries there) numbers (room tries there);
  few = a.few;
  tried = λ n. subst (λ (k : KeptRow). k.row.tries < classes.most) (sym (longer_at rows (numbers - length rows) n no_kept)) (a.tried n);
  told = λ n. subst (λ (k : KeptRow). k.row.expiry < 2 ^ 64) (sym (longer_at rows (numbers - length rows) n no_kept)) (a.told n);
}

-- ---- more places, and more queues

last_class : (trees : List (List (Option ℕ))) (tree : List (Option ℕ)) → class_at (trees ++ tree ∷ []) (length trees) ≡ tree
last_class [] tree = refl
last_class (t ∷ trees) tree = last_class trees tree

get_or-append_left : (trees more : List (List (Option ℕ))) (k : ℕ) (d : List (Option ℕ)) → k < length trees → get_or (trees ++ more) k d ≡ get_or trees k d
get_or-append_left [] more k d h = absurd (omega arith)
get_or-append_left (t ∷ trees) more zero d h = refl
get_or-append_left (t ∷ trees) more (suc k) d h = get_or-append_left trees more k d (omega (arith, h))

pub longer_class : (rows : List KeptRow) (old new : Classes) (tries places : ℕ) (tree made : List (Option ℕ)) → AreClasses rows old → tries < length old.trees.items → places ≤ 2 ^ 32
    → class_at old.trees.items tries ≡ tree → made ≡ tree ++ replicate (places - length tree) None → new.trees.items ≡ set old.trees.items tries made → new.most ≡ old.most
    → AreClasses rows new
longer_class rows old new tries places tree made a there fits read is trees most = record {
  each = λ k within. elim (cases_eq k tries) [
    | inl e ↦ subst (λ m. AreLeast (times.Sooner m) rows (class_at new.trees.items m)) (sym e)
        (subst (λ (t : List (Option ℕ)). AreLeast (times.Sooner tries) rows t)
        (sym (ap (λ (ts : List (List (Option ℕ))). class_at ts tries) trees ∙ get_or-set_same old.trees.items tries made [] there ∙ is))
        (least-places (times.Sooner tries) rows tree (subst (λ (t : List (Option ℕ)). AreLeast (times.Sooner tries) rows t) read (a.each tries there)) places fits))
    | inr other ↦
        let many : length new.trees.items ≡ length old.trees.items = ap length trees ∙ length-set old.trees.items tries made in
        let before : k < length old.trees.items = omega (arith, within, many) in
        subst (λ (t : List (Option ℕ)). AreLeast (times.Sooner k) rows t)
        (sym (ap (λ (ts : List (List (Option ℕ))). class_at ts k) trees ∙ get_or-set_other old.trees.items tries k made [] other)) (a.each k before)
  ];
  few = let many : length new.trees.items ≡ length old.trees.items = ap length trees ∙ length-set old.trees.items tries made in omega (arith, a.few, many);
  tried = λ n. subst (λ m. (kept_in rows n).row.tries < m) (sym most) (a.tried n);
  told = a.told;
}

-- the same queues
pub same_classes : (rows : List KeptRow) (old new : Classes) → AreClasses rows old → new.trees.items ≡ old.trees.items → new.most ≡ old.most → AreClasses rows new
same_classes rows old new a trees most = record {
  each = λ k. subst (λ (ts : List (List (Option ℕ))). k < length ts → AreLeast (times.Sooner k) rows (class_at ts k)) (sym trees) (a.each k);
  few = subst (λ (ts : List (List (Option ℕ))). length ts ≤ 65) (sym trees) a.few;
  tried = λ n. subst (λ m. (kept_in rows n).row.tries < m) (sym most) (a.tried n);
  told = a.told;
}

pub one_more_class : (rows : List KeptRow) (old new : Classes) (tree : List (Option ℕ)) → AreClasses rows old → length old.trees.items < 65 → AreLeast (times.Sooner (length old.trees.items)) rows tree
    → new.trees.items ≡ old.trees.items ++ tree ∷ [] → new.most ≡ old.most → AreClasses rows new
one_more_class rows old new tree a few b trees most =
    let many : length new.trees.items ≡ length old.trees.items + 1 = ap length trees ∙ length-append old.trees.items (tree ∷ []) in
    record {
      each = λ k within. elim (cases_lt k (length old.trees.items)) [
        | inl l ↦ subst (λ (t : List (Option ℕ)). AreLeast (times.Sooner k) rows t) (sym (ap (λ (ts : List (List (Option ℕ))). class_at ts k) trees ∙ get_or-append_left old.trees.items (tree ∷ []) k [] l)) (a.each k l)
        | inr past ↦
            let e : k ≡ length old.trees.items = omega (arith, past, within, many) in
            subst (λ m. AreLeast (times.Sooner m) rows (class_at new.trees.items m)) (sym e)
            (subst (λ (t : List (Option ℕ)). AreLeast (times.Sooner (length old.trees.items)) rows t) (sym (ap (λ (ts : List (List (Option ℕ))). class_at ts (length old.trees.items)) trees ∙ last_class old.trees.items tree)) b)
      ];
      few = omega (arith, few, many);
      tried = λ n. subst (λ m. (kept_in rows n).row.tries < m) (sym most) (a.tried n);
      told = a.told;
    }
