-- The set of those nodes that have a step: what a change leaves, and its first one.
use Rattle.std.proofs.Common.{◌≡◌, ℕ, zero, suc, ◌+◌, ◌-◌, ◌<◌, ◌≤◌, Bool, true, false, ◌||◌, cond, List, [], ◌∷◌, ◌++◌, length, map, get_or, is_some, replicate, Option, None, Some, refl, sym, ap, ◌∙◌, set, arith, length-append, append_assoc}
use Rattle.std.proofs.lemmas.List.{length-map, length-set, map-set, map-append, set-append_left, set-append_right, length-replicate, replicate-append-replicate}
use Rattle.std.proofs.lemmas.Bool.{true≢false}
use Rattle.std.specs.List.{position_from}
use Rattle.due_tree.specs.Sets.{next_set}
use Rattle.message_graph.specs.declared.states.Waiting.{Waiting}
use Rattle.message_graph.specs.Waits.{has_step, AreClear, Marked, but_last}

none_set : (places i : ℕ) → position_from (λ is_in. is_in) i (replicate places false) ≡ None
none_set zero i = refl
none_set (suc places) i = none_set places (i + 1)

-- the first of the set has the first step
pub first_marked : (waits : List Waiting) (places i : ℕ) → position_from (λ is_in. is_in) i (map has_step waits ++ replicate places false) ≡ position_from has_step i waits
first_marked [] places i = none_set places i
first_marked (wait ∷ waits) places i = ap (λ rest. cond (has_step wait) (Some i) rest) (first_marked waits places (i + 1))

pub first_of_marked : (ready : List Bool) (waits : List Waiting) → Marked ready waits → next_set 0 ready ≡ position_from has_step 0 waits
first_of_marked ready waits h = ap (λ places. position_from (λ is_in. is_in) 0 places) h ∙ first_marked waits (length ready - length waits) 0

pub marked-set : (ready : List Bool) (waits : List Waiting) (number : ℕ) (wait : Waiting) (v : Bool) → Marked ready waits → number < length waits → v ≡ has_step wait → Marked (set ready number v) (set waits number wait)
marked-set ready waits number wait v h within is =
    let n = length ready - length waits in
    let len : length (map has_step waits) ≡ length waits = length-map waits has_step in
    let same : n ≡ length (set ready number v) - length (set waits number wait) = (λ i. sym (length-set ready number v) i - sym (length-set waits number wait) i) in
    ap (λ r. set r number v) h ∙ set-append_left (map has_step waits) (replicate n false) number v (omega (arith, len))
    ∙ (λ i. set (map has_step waits) number (is i) ++ replicate (same i) false)
    ∙ ap (λ ms. ms ++ replicate (length (set ready number v) - length (set waits number wait)) false) (sym (map-set has_step waits number wait))

pub marked-push : (ready : List Bool) (waits : List Waiting) (wait : Waiting) (v : Bool) → Marked ready waits → length waits < length ready → v ≡ has_step wait → Marked (set ready (length waits) v) (waits ++ wait ∷ [])
marked-push ready waits wait v h room is =
    let n = length ready - length waits in
    let len : length (map has_step waits) ≡ length waits = length-map waits has_step in
    let one : n ≡ suc (n - 1) = omega arith in
    let rest : length ready - (length waits + 1) ≡ n - 1 = omega arith in
    let same : n - 1 ≡ length (set ready (length waits) v) - length (waits ++ wait ∷ []) = sym rest ∙ (λ i. sym (length-set ready (length waits) v) i - sym (length-append waits (wait ∷ [])) i) in
    let head : set (replicate n false) (length waits - length waits) v ≡ v ∷ replicate (n - 1) false =
    (λ i. set (replicate (one i) false) (zero_at i) v) in
    ap (λ r. set r (length waits) v) h ∙ set-append_right (map has_step waits) (replicate n false) (length waits) (length waits) v len (omega arith)
    ∙ ap (λ xs. map has_step waits ++ xs) head ∙ sym (append_assoc (map has_step waits) (v ∷ []) (replicate (n - 1) false))
    ∙ (λ i. (map has_step waits ++ is i ∷ []) ++ replicate (same i) false)
    ∙ ap (λ ms. ms ++ replicate (length (set ready (length waits) v) - length (waits ++ wait ∷ [])) false) (sym (map-append has_step waits (wait ∷ [])))
  where
    zero_at : length waits - length waits ≡ 0
    zero_at = omega arith

-- there are no more nodes than places
pub marked_room : (ready : List Bool) (waits : List Waiting) → Marked ready waits → length waits ≤ length ready
marked_room ready waits h =
    let n = length ready - length waits in
    let len : length ready ≡ length waits + n = ap length h ∙ length-append (map has_step waits) (replicate n false) ∙ (λ i. length-map waits has_step i + length-replicate n false i) in omega arith

pub marked-reserve : (ready : List Bool) (waits : List Waiting) (more : ℕ) → Marked ready waits → Marked (ready ++ replicate more false) waits
marked-reserve ready waits more h =
    let within = marked_room ready waits h in
    let n = length ready - length waits in
    let len : length (ready ++ replicate more false) ≡ length ready + more = length-append ready (replicate more false) ∙ ap (λ k. length ready + k) (length-replicate more false) in
    let same : n + more ≡ length (ready ++ replicate more false) - length waits = omega (arith, len) in
    ap (λ r. r ++ replicate more false) h ∙ append_assoc (map has_step waits) (replicate n false) (replicate more false)
    ∙ ap (λ xs. map has_step waits ++ xs) (replicate-append-replicate n more false ∙ ap (λ k. replicate k false) same)

-- all but the last, once there is one more
pub but_last-push : (waits : List Waiting) (wait : Waiting) → but_last (waits ++ wait ∷ []) ≡ waits
but_last-push [] wait = refl
but_last-push (first ∷ []) wait = refl
but_last-push (first ∷ next ∷ rest) wait = ap (λ ws. first ∷ ws) (but_last-push (next ∷ rest) wait)

pub length-but_last : (waits : List Waiting) → length (but_last waits) ≡ length waits - 1
length-but_last [] = refl
length-but_last (wait ∷ []) = refl
length-but_last (wait ∷ next ∷ rest) = omega (arith, length-but_last (next ∷ rest))

-- with the last they are all
pub and_last : (waits : List Waiting) (last : ℕ) (d : Waiting) → length waits ≡ last + 1 → but_last waits ++ get_or waits last d ∷ [] ≡ waits
and_last [] last d len = absurd (omega arith)
and_last (first ∷ []) zero d len = refl
and_last (first ∷ []) (suc last) d len = absurd (omega arith)
and_last (first ∷ next ∷ rest) zero d len = absurd (omega arith)
and_last (first ∷ next ∷ rest) (suc last) d len = ap (λ ws. first ∷ ws) (and_last (next ∷ rest) last d (omega arith))

pub but_last-set_last : (waits : List Waiting) (number : ℕ) (wait : Waiting) → length waits ≤ number + 1 → but_last (set waits number wait) ≡ but_last waits
but_last-set_last [] number wait h = refl
but_last-set_last (first ∷ []) zero wait h = refl
but_last-set_last (first ∷ []) (suc number) wait h = refl
but_last-set_last (first ∷ next ∷ rest) zero wait h = absurd (omega arith)
but_last-set_last (first ∷ next ∷ []) (suc zero) wait h = refl
but_last-set_last (first ∷ next ∷ []) (suc (suc number)) wait h = refl
but_last-set_last (first ∷ next ∷ more ∷ rest) (suc zero) wait h = absurd (omega arith)
but_last-set_last (first ∷ next ∷ more ∷ rest) (suc (suc number)) wait h = ap (λ ws. first ∷ ws) (but_last-set_last (next ∷ more ∷ rest) (suc number) wait (omega arith))

pub but_last-set : (waits : List Waiting) (number : ℕ) (wait : Waiting) → number + 1 < length waits → but_last (set waits number wait) ≡ set (but_last waits) number wait
but_last-set [] number wait h = refl
but_last-set (first ∷ []) number wait h = absurd (omega arith)
but_last-set (first ∷ next ∷ rest) zero wait h = refl
but_last-set (first ∷ next ∷ []) (suc number) wait h = absurd (omega arith)
but_last-set (first ∷ next ∷ more ∷ rest) (suc zero) wait h = refl
but_last-set (first ∷ next ∷ more ∷ rest) (suc (suc number)) wait h = ap (λ ws. first ∷ ws) (but_last-set (next ∷ more ∷ rest) (suc number) wait (omega arith))

-- the first that has a step, or else the last
abbrev or_last : Option ℕ → Option ℕ → Option ℕ
or_last None later = later
or_last (Some first) later = Some first

position-push : (waits : List Waiting) (wait : Waiting) (i : ℕ) → position_from has_step i (waits ++ wait ∷ []) ≡ or_last (position_from has_step i waits) (cond (has_step wait) (Some (i + length waits)) None)
position-push [] wait i = ap (λ k. cond (has_step wait) (Some k) None) (omega arith)
position-push (first ∷ rest) wait i =
    elim (has_step first) as (λ b. cond b (Some i) (position_from has_step (i + 1) (rest ++ wait ∷ [])) ≡ or_last (cond b (Some i) (position_from has_step (i + 1) rest)) (cond (has_step wait) (Some (i + suc (length rest))) None)) [
      | true ↦ refl
      | false ↦ position-push rest wait (i + 1) ∙ ap (λ k. or_last (position_from has_step (i + 1) rest) (cond (has_step wait) (Some k) None)) (omega arith)
    ]

-- with none before the last
pub none_before : (waits : List Waiting) (last : ℕ) (d : Waiting) (o : Option ℕ) → o ≡ position_from has_step 0 (but_last waits) → is_some o ≡ false → length waits ≡ last + 1
    → position_from has_step 0 waits ≡ cond (has_step (get_or waits last d)) (Some last) None
none_before waits last d (Some first) e none len = absurd (true≢false none)
none_before waits last d None e none len =
    ap (position_from has_step 0) (sym (and_last waits last d len)) ∙ position-push (but_last waits) (get_or waits last d) 0
    ∙ ap (λ o. or_last o (cond (has_step (get_or waits last d)) (Some (0 + length (but_last waits))) None)) (sym e)
    ∙ ap (λ k. cond (has_step (get_or waits last d)) (Some k) None) (omega (arith, len, length-but_last waits))

first_before : (waits : List Waiting) (i first : ℕ) → position_from has_step i (but_last waits) ≡ Some first → position_from has_step i waits ≡ Some first
first_before [] i first h = h
first_before (wait ∷ []) i first h = absurd (let e : None ≡ Some first = h in cc)
first_before (wait ∷ next ∷ rest) i first h =
    elim (has_step wait) as (λ b. cond b (Some i) (position_from has_step (i + 1) (but_last (next ∷ rest))) ≡ Some first → cond b (Some i) (position_from has_step (i + 1) (next ∷ rest)) ≡ Some first) [
      | true ↦ λ here. here
      | false ↦ first_before (next ∷ rest) (i + 1) first
    ] h

-- with one before the last
pub some_before : (waits : List Waiting) (o : Option ℕ) → o ≡ position_from has_step 0 (but_last waits) → is_some o ≡ true → o ≡ position_from has_step 0 waits
some_before waits None e some = absurd (true≢false (sym some))
some_before waits (Some first) e some = sym (first_before waits 0 first (sym e))

-- with none at all
pub none_there : (waits : List Waiting) → (1 ≤ length waits → ⊥) → position_from has_step 0 waits ≡ None
none_there [] short = refl
none_there (wait ∷ waits) short = absurd (short (omega arith))

-- an empty set has no first place
pub none_clear : (ready : List Bool) → AreClear ready → next_set 0 ready ≡ None
none_clear ready h = ap (position_from (λ is_in. is_in) 0) h ∙ none_set (length ready) 0

pub clear-set : (ready : List Bool) (place : ℕ) (v : Bool) → AreClear ready → v ≡ false → AreClear (set ready place v)
clear-set ready place v h is =
    (λ i. set (h i) place (is i)) ∙ stays (length ready) place ∙ ap (λ k. replicate k false) (sym (length-set ready place v))
  where
    stays : (places k : ℕ) → set (replicate places false) k false ≡ replicate places false
    stays zero k = refl
    stays (suc places) zero = refl
    stays (suc places) (suc k) = ap (λ ps. false ∷ ps) (stays places k)

pub clear-reserve : (ready : List Bool) (more : ℕ) → AreClear ready → AreClear (ready ++ replicate more false)
clear-reserve ready more h =
    ap (λ r. r ++ replicate more false) h ∙ replicate-append-replicate (length ready) more false
    ∙ ap (λ k. replicate k false) (sym (length-append ready (replicate more false) ∙ ap (λ k. length ready + k) (length-replicate more false)))

-- neither of two is
pub neither : (a b : Bool) → (a || b) ≡ false → (a ≡ false) × (b ≡ false)
neither true b h = absurd (true≢false h)
neither false b h = (refl, h)
