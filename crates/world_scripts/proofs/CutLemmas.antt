-- A script and its first line.
use Rattle.std.proofs.Common.{◌≡◌, ℕ, suc, ◌+◌, ◌-◌, ◌<◌, ◌≤◌, nat_lt, ◌==◌, Bool, true, false}
use Rattle.std.proofs.Common.{cond, not, List, [], ◌∷◌, length, take, drop, refl, sym, ◌∙◌, ap}
use Rattle.std.proofs.Common.{subst, arith, add-one, take_all, length-drop, lt-ltb, Some}
use Rattle.std.proofs.Common.{None}
use Rattle.std.proofs.lemmas.Bool.{le-ltb, ltb-true, ltb-false}
use Rattle.std.proofs.lemmas.List.Sums.{prefix_len-le-length}
use Rattle.std.specs.List.{position, position_or_len, onto_first, after_first, slice_split}
use Rattle.world_scripts.specs.Cuts.{is_line_feed, lines, front_of, behind}

-- ---- a line that ends in a line feed

abbrev Ended : List ℕ → ℕ → List (List ℕ) → Type 0
Ended script n all = all ≡ take n script ∷ lines (drop (n + 1) script)

ended_by : (b : ℕ) (script : List ℕ) (test : Bool) (n : ℕ)
    → ((m : ℕ) → position_or_len is_line_feed script ≡ m → m < length script
    → Ended script m (lines script))
    → cond (not test) (1 + position_or_len is_line_feed script) 0 ≡ n → n < length (b ∷ script)
    → Ended (b ∷ script) n (cond test ([] ∷ lines script) (onto_first b (lines script)))
ended_by b script true n more at within = subst
    (λ (k : ℕ). Ended (b ∷ script) k ([] ∷ lines script)) at refl
ended_by b script false n more at within =
    let m = position_or_len is_line_feed script in
    let is : suc m ≡ n = omega arith in
    let small : m < length script = omega arith in
    let rest : drop (m + 1) script ≡ drop (suc m + 1) (b ∷ script) =
    ap (λ k. drop k script) (add-one m) ∙ ap (λ k. drop k (b ∷ script)) (sym (add-one (suc m))) in
    subst (λ (k : ℕ). Ended (b ∷ script) k (onto_first b (lines script))) is
    (ap (onto_first b) (more m refl small) ∙ ap (λ left. (b ∷ take m script) ∷ lines left) rest)

pub ended : (script : List ℕ) (n : ℕ) → position_or_len is_line_feed script ≡ n → n < length script
    → lines script ≡ take n script ∷ lines (drop (n + 1) script)
unfolding lines
ended [] n at within = absurd (omega arith)
ended (b ∷ script) n at within = ended_by b script (b == 10) n (ended script) at within

-- ---- a last line without one

unended_by : (b : ℕ) (script : List ℕ) (test : Bool)
    → (0 < length script → position_or_len is_line_feed script ≡ length script
    → lines script ≡ script ∷ [])
    → lines [] ≡ [] → cond (not test) (1 + position_or_len is_line_feed script) 0 ≡ length
    (b ∷ script)
    → cond test ([] ∷ lines script) (onto_first b (lines script)) ≡ (b ∷ script) ∷ []
unended_by b script true more none at = absurd (omega arith)
unended_by b [] false more none at = ap (onto_first b) none
unended_by b (c ∷ script) false more none at =
    let some : 0 < length (c ∷ script) = omega arith in
    let all : position_or_len is_line_feed (c ∷ script) ≡ length (c ∷ script) = omega arith in
    ap (onto_first b) (more some all)

pub unended : (script : List ℕ) → 0 < length script
    → position_or_len is_line_feed script ≡ length script → lines script ≡ script ∷ []
unfolding lines
unended [] some at = absurd (omega arith)
unended (b ∷ script) some at = unended_by b script (b == 10) (unended script) refl at

-- ---- a text and its first cut

pub front_all : (at : ℕ) (text : List ℕ) → position_or_len (λ b. b == at) text ≡ length text
    → front_of at text ≡ text
unfolding front_of
front_all at text none = ap (λ n. take n text) none ∙ take_all (length text) text (omega arith)

pub behind_none : (at : ℕ) (text : List ℕ) → position_or_len (λ b. b == at) text ≡ length text
    → behind at text ≡ None
unfolding behind
behind_none at text none =
    ap (λ t. cond t (Some (after_first (λ b. b == at) text)) None)
    (le-ltb (position_or_len (λ b. b == at) text) (length text) (omega arith))

pub behind_some : (at : ℕ) (text : List ℕ) → position_or_len (λ b. b == at) text < length text
    → behind at text ≡ Some (after_first (λ b. b == at) text)
unfolding behind
behind_some at text some =
    ap (λ t. cond t (Some (after_first (λ b. b == at) text)) None)
    (lt-ltb (position_or_len (λ b. b == at) text) (length text) some)

-- a text without the byte is one part
single_by : (at : ℕ) (b : ℕ) (text : List ℕ) (test : Bool)
    → (length text ≤ position_or_len (λ b. b == at) text
    → slice_split (λ b. b == at) text ≡ text ∷ [])
    → length (b ∷ text) ≤ cond (not test) (1 + position_or_len (λ b. b == at) text) 0
    → cond test ([] ∷ slice_split (λ b. b == at) text)
    (onto_first b (slice_split (λ b. b == at) text)) ≡ (b ∷ text) ∷ []
single_by at b text true more none = absurd (omega arith)
single_by at b text false more none = ap (onto_first b) (more (omega arith))

pub single : (at : ℕ) (text : List ℕ) → length text ≤ position_or_len (λ b. b == at) text
    → slice_split (λ b. b == at) text ≡ text ∷ []
single at [] none = refl
single at (b ∷ text) none = single_by at b text (b == at) (single at text) none

-- ---- the answers of `cut_line`

pub no_lines : (script : List ℕ) → length script ≡ 0 → lines script ≡ []
unfolding lines
no_lines [] none = refl
no_lines (b ∷ script) none = absurd (omega arith)

whole : (xs : List ℕ) (k : ℕ) → take (length xs - k) (drop k xs) ≡ drop k xs
whole xs k = take_all (length xs - k) (drop k xs) (omega (arith, length-drop k xs))

ended_with : (script : List ℕ) (n : ℕ) (test : Bool)
    → nat_lt (position_or_len is_line_feed script) (length script) ≡ test
    → Some n ≡ cond test (Some (position_or_len is_line_feed script)) None
    → lines script ≡ take n script ∷ lines (take (length script - (n + 1)) (drop (n + 1) script))
ended_with script n true within is =
    let at : position_or_len is_line_feed script ≡ n = cc in
    let some : position_or_len is_line_feed script < length script =
    ltb-true (position_or_len is_line_feed script) (length script) within in
    let small : n < length script = omega arith in
    ended script n at small ∙ ap (λ left. take n script ∷ lines left) (sym (whole script (n + 1)))
ended_with script n false within is = absurd (let e : Some n ≡ None = is in cc)

pub ended_at : (script : List ℕ) (n : ℕ) → Some n ≡ position is_line_feed script
    → lines script ≡ take n script ∷ lines (take (length script - (n + 1)) (drop (n + 1) script))
ended_at script n is = ended_with script n (nat_lt (position_or_len is_line_feed script)
    (length script)) refl is

last_with : (script : List ℕ) (test : Bool) → 0 < length script
    → nat_lt (position_or_len is_line_feed script) (length script) ≡ test
    → None ≡ cond test (Some (position_or_len is_line_feed script)) None
    → lines script ≡ script ∷ []
last_with script true some within is = absurd
    (let e : None ≡ Some (position_or_len is_line_feed script) = is in cc)
last_with script false some within is =
    let most : position_or_len is_line_feed script ≤ length script =
    prefix_len-le-length (λ b. not (is_line_feed b)) script in
    let least : length script ≤ position_or_len is_line_feed script =
    ltb-false (position_or_len is_line_feed script) (length script) within in
    let at : position_or_len is_line_feed script ≡ length script = omega arith in
    unended script some at

pub last_line : (script : List ℕ) → 0 < length script → None ≡ position is_line_feed script
    → lines script ≡ script ∷ lines (take (length script - length script)
    (drop (length script) script))
unfolding lines
last_line script some is =
    let none : 0 ≡ length script - length script = omega arith in
    last_with script (nat_lt (position_or_len is_line_feed script) (length script)) some refl is
    ∙ ap (λ n. script ∷ lines (take n (drop (length script) script))) none
