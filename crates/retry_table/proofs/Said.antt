-- Rows with what was said of whole groups: one by one, and what a change leaves of them.
use Rattle.std.proofs.Common.{◌≡◌, ◌≢◌, ℕ, zero, suc, ◌+◌, ◌-◌, ◌<◌, ◌≤◌, Bool, true, false, cond, nat_eq, nat_lt, List, [], ◌∷◌, ◌++◌, length, map, Option, None, Some, refl, sym, ap, subst, ◌∙◌, get_or, set, replicate, arith, length-append, inl, inr, take, drop}
use Rattle.std.proofs.lemmas.List.{length-set, length-replicate, get_or-set_same, get_or-set_other, get_or_past, get_or_default, get_or-drop, length-drop, same_lists}
use Rattle.std.proofs.lemmas.Bool.{cases_eq, cases_lt, true≢false}
use Rattle.std.proofs.lemmas.Bool.Decides.{nat_tests}
use Rattle.due_tree.proofs.Places.{longer_at, position_found, position_none}
use Rattle.std.specs.List.{position_from}
use Rattle.sync_ids.specs.declared.lists.TheConstants.{MAX_IDS}
use Rattle.sync_rules.specs.Facts.{Row}
use Rattle.retry_table.specs.declared.contact_rows.Released.{Released}
use Rattle.retry_table.specs.declared.contact_rows.Turn.{Turn}
use Rattle.retry_table.specs.Due.{numbers_where, owed_in}
use Rattle.retry_table.specs.Table.{KeptRow, no_kept, kept_in, is_of_group, with_numbers, with_ready}
use Rattle.retry_table.specs.Turns.{as_said, group_of, said_at, said_before, said_of, turned, with_turn, word_of, turns_in, IsSaid}
use Rattle.retry_table.proofs.Follows.{numbers_alike}

-- ---- one by one

module _ (said : ℕ → Option Bool) where
  pub said_length : (i : ℕ) (rows : List KeptRow) → length (as_said said i rows) ≡ length rows
  unfolding as_said
  said_length i [] = refl
  said_length i (kept ∷ rows) = ap suc (said_length (i + 1) rows)

  said_in : (i n : ℕ) (rows : List KeptRow) → n < length rows → kept_in (as_said said i rows) n ≡ turned (said (i + n)) (kept_in rows n)
  unfolding as_said
  said_in i n [] h = absurd (omega arith)
  said_in i zero (kept ∷ rows) h = let e : i ≡ i + 0 = omega arith in ap (λ m. turned (said m) kept) e
  said_in i (suc n) (kept ∷ rows) h =
      let e : (i + 1) + n ≡ i + suc n = omega arith in
      said_in (i + 1) n rows (omega arith) ∙ ap (λ m. turned (said m) (kept_in rows n)) e

  pub said_one : (n : ℕ) (rows : List KeptRow) → n < length rows → kept_in (as_said said 0 rows) n ≡ turned (said n) (kept_in rows n)
  said_one n rows h = let e : 0 + n ≡ n = omega arith in said_in 0 n rows h ∙ ap (λ m. turned (said m) (kept_in rows n)) e

  pub said_past : (n : ℕ) (rows : List KeptRow) → length rows ≤ n → kept_in (as_said said 0 rows) n ≡ no_kept
  said_past n rows h = get_or_past (as_said said 0 rows) n no_kept (omega (arith, h, said_length 0 rows))

pub rows_same : (xs ys : List KeptRow) → length xs ≡ length ys → ((n : ℕ) → n < length xs → kept_in xs n ≡ kept_in ys n) → xs ≡ ys
rows_same xs ys many each =
    same_lists xs ys many (λ k d h. get_or_default xs k d no_kept h ∙ (each k h ∙ sym (get_or_default ys k d no_kept (omega (arith, many, h)))))

turned_row : (o : Option Bool) (kept : KeptRow) → (turned o kept).row ≡ kept.row
turned_row None kept = refl
turned_row (Some b) kept = refl

pub row_said : (said : ℕ → Option Bool) (rows : List KeptRow) (n : ℕ) → (kept_in (as_said said 0 rows) n).row ≡ (kept_in rows n).row
row_said said rows n =
    elim (cases_lt n (length rows)) [
      | inl h ↦ ap (λ (k : KeptRow). k.row) (said_one said n rows h) ∙ turned_row (said n) (kept_in rows n)
      | inr h ↦ ap (λ (k : KeptRow). k.row) (said_past said n rows h ∙ sym (get_or_past rows n no_kept h))
    ]

-- ---- what a change leaves

pub said_twice : (one two all : ℕ → Option Bool) (rows : List KeptRow) → ((n : ℕ) (kept : KeptRow) → n < length rows → turned (one n) (turned (two n) kept) ≡ turned (all n) kept)
    → as_said one 0 (as_said two 0 rows) ≡ as_said all 0 rows
said_twice one two all rows each =
    let inner : length (as_said two 0 rows) ≡ length rows = said_length two 0 rows in
    let outer : length (as_said one 0 (as_said two 0 rows)) ≡ length (as_said two 0 rows) = said_length one 0 (as_said two 0 rows) in
    rows_same (as_said one 0 (as_said two 0 rows)) (as_said all 0 rows) (outer ∙ (inner ∙ sym (said_length all 0 rows)))
    (λ n h.
    let within : n < length rows = omega (arith, h, inner, outer) in
    said_one one n (as_said two 0 rows) (omega (arith, within, inner))
    ∙ (ap (turned (one n)) (said_one two n rows within) ∙ (each n (kept_in rows n) within ∙ sym (said_one all n rows within))))

pub said_ext : (one two : ℕ → Option Bool) (rows : List KeptRow) → ((n : ℕ) → n < length rows → one n ≡ two n) → as_said one 0 rows ≡ as_said two 0 rows
said_ext one two rows each =
    let many : length (as_said one 0 rows) ≡ length rows = said_length one 0 rows in
    rows_same (as_said one 0 rows) (as_said two 0 rows) (many ∙ sym (said_length two 0 rows))
    (λ n h.
    let within : n < length rows = omega (arith, h, many) in
    said_one one n rows within ∙ (ap (λ o. turned o (kept_in rows n)) (each n within) ∙ sym (said_one two n rows within)))

pub said_none : (said : ℕ → Option Bool) (rows : List KeptRow) → ((n : ℕ) → n < length rows → said n ≡ None) → as_said said 0 rows ≡ rows
said_none said rows each =
    let many : length (as_said said 0 rows) ≡ length rows = said_length said 0 rows in
    rows_same (as_said said 0 rows) rows many
    (λ n h. let within : n < length rows = omega (arith, h, many) in said_one said n rows within ∙ ap (λ o. turned o (kept_in rows n)) (each n within))

pub said_set : (said : ℕ → Option Bool) (rows : List KeptRow) (n : ℕ) (kept : KeptRow) → n < length rows
    → as_said said 0 (set rows n kept) ≡ set (as_said said 0 rows) n (turned (said n) kept)
said_set said rows n kept within =
    let many : length (as_said said 0 (set rows n kept)) ≡ length (set rows n kept) = said_length said 0 (set rows n kept) in
    let long : length (set rows n kept) ≡ length rows = length-set rows n kept in
    let other : length (as_said said 0 rows) ≡ length rows = said_length said 0 rows in
    rows_same (as_said said 0 (set rows n kept)) (set (as_said said 0 rows) n (turned (said n) kept))
    (many ∙ (long ∙ (sym other ∙ sym (length-set (as_said said 0 rows) n (turned (said n) kept)))))
    (λ m h.
    let inside : m < length rows = omega (arith, h, many, long) in
    let left : kept_in (as_said said 0 (set rows n kept)) m ≡ turned (said m) (kept_in (set rows n kept) m) = said_one said m (set rows n kept) (omega (arith, inside, long)) in
    left ∙ elim (cases_eq m n) [
      | inl here ↦ subst (λ x. turned (said x) (kept_in (set rows n kept) x) ≡ kept_in (set (as_said said 0 rows) n (turned (said n) kept)) x) (sym here)
          (ap (turned (said n)) (get_or-set_same rows n kept no_kept within) ∙ sym (get_or-set_same (as_said said 0 rows) n (turned (said n) kept) no_kept (omega (arith, within, other))))
      | inr away ↦ ap (turned (said m)) (get_or-set_other rows n m kept no_kept away)
          ∙ (sym (said_one said m rows inside) ∙ sym (get_or-set_other (as_said said 0 rows) n m (turned (said n) kept) no_kept away))
    ])

none_there : (o : Option Bool) (n most : ℕ) → ((b : Bool) → o ≡ Some b → n < most) → most ≤ n → o ≡ None
none_there None n most h past = refl
none_there (Some b) n most h past = absurd (let low : n < most = h b refl in omega (arith, low, past))

pub said_more : (said : ℕ → Option Bool) (rows : List KeptRow) (numbers : ℕ) → ((n : ℕ) (b : Bool) → said n ≡ Some b → n < length rows)
    → as_said said 0 (with_numbers numbers rows) ≡ with_numbers numbers (as_said said 0 rows)
said_more said rows numbers there =
    let more = with_numbers numbers rows in
    let all : length (as_said said 0 more) ≡ length more = said_length said 0 more in
    let same : length (as_said said 0 rows) ≡ length rows = said_length said 0 rows in
    let left : length more ≡ length rows + (numbers - length rows) = length-append rows (replicate (numbers - length rows) no_kept) ∙ ap (λ k. length rows + k) (length-replicate (numbers - length rows) no_kept) in
    let right : length (with_numbers numbers (as_said said 0 rows)) ≡ length (as_said said 0 rows) + (numbers - length (as_said said 0 rows)) =
    length-append (as_said said 0 rows) (replicate (numbers - length (as_said said 0 rows)) no_kept)
    ∙ ap (λ k. length (as_said said 0 rows) + k) (length-replicate (numbers - length (as_said said 0 rows)) no_kept) in
    rows_same (as_said said 0 more) (with_numbers numbers (as_said said 0 rows)) (omega (arith, all, same, left, right))
    (λ n h.
    said_one said n more (omega (arith, h, all))
    ∙ (ap (turned (said n)) (longer_at rows (numbers - length rows) n no_kept)
    ∙ (elim (cases_lt n (length rows)) as (λ _. turned (said n) (kept_in rows n) ≡ kept_in (as_said said 0 rows) n) [
      | inl inside ↦ sym (said_one said n rows inside)
      | inr past ↦ ap (λ o. turned o (kept_in rows n)) (none_there (said n) n (length rows) (there n) past)
          ∙ (get_or_past rows n no_kept past ∙ sym (said_past said n rows past))
    ]
    ∙ sym (longer_at (as_said said 0 rows) (numbers - length (as_said said 0 rows)) n no_kept))))

pub owed_said : (said : ℕ → Option Bool) (rows : List KeptRow) → owed_in (as_said said 0 rows) ≡ owed_in rows
owed_said said rows =
    ap (take MAX_IDS)
    (numbers_alike (λ (k : KeptRow). k.row.owed) (λ (k : KeptRow). k.row.owed) no_kept no_kept refl refl (as_said said 0 rows) rows 0
    (λ n. ap (λ (r : Row). r.owed) (row_said said rows n)))

-- ---- what is said of a group

turned_twice : (ready : Bool) (o : Option Bool) (kept : KeptRow) → with_ready ready (turned o kept) ≡ with_ready ready kept
turned_twice ready None kept = refl
turned_twice ready (Some b) kept = refl

-- a word on a group goes to each message that was released in it before
word_is : (turns : ℕ → Option Turn) (group : ℕ) (turn : Turn) (o : Option Released) (kept : KeptRow) → ((at : Released) → o ≡ Some at → at.place < turn.before)
    → turned (cond (is_of_group (group_of o) group) (Some turn.shared) None) (turned (said_of turns o) kept) ≡ turned (said_of (with_turn group turn turns) o) kept
word_is turns group turn None kept early = refl
word_is turns group turn (Some at) kept early =
    let before : nat_lt at.place turn.before ≡ true = (let low : at.place < turn.before = early at refl in grind (arith, low)) in
    elim (nat_eq group at.group) as
    (λ b. turned (cond b (Some turn.shared) None) (turned (said_before at.place (turns at.group)) kept)
    ≡ turned (said_before at.place (cond b (Some turn) (turns at.group))) kept) [
      | true ↦ turned_twice turn.shared (said_before at.place (turns at.group)) kept ∙ ap (λ b. turned (cond b (Some turn.shared) None) kept) (sym before)
      | false ↦ refl
    ]

pub group_in : (released : List (Option Released)) (n : ℕ) → get_or (map group_of released) n None ≡ group_of (get_or released n None)
group_in [] n = refl
group_in (o ∷ released) zero = refl
group_in (o ∷ released) (suc n) = group_in released n

pub group_said : (released : List (Option Released)) (turns : ℕ → Option Turn) (group : ℕ) (turn : Turn) (rows : List KeptRow)
    → ((n : ℕ) (at : Released) → get_or released n None ≡ Some at → at.place < turn.before)
    → as_said (said_at (with_turn group turn turns) released) 0 rows ≡ as_said (word_of (map group_of released) group turn.shared) 0 (as_said (said_at turns released) 0 rows)
group_said released turns group turn rows early =
    sym (said_twice (word_of (map group_of released) group turn.shared) (said_at turns released) (said_at (with_turn group turn turns) released) rows
    (λ n kept within.
    ap (λ o. turned (cond (is_of_group o group) (Some turn.shared) None) (turned (said_at turns released n) kept)) (group_in released n)
    ∙ word_is turns group turn (get_or released n None) kept (early n)))

-- ---- words on fewer messages

pub fewer_said : (less more : ℕ → Option Turn) → ((g : ℕ) (t : Turn) → less g ≡ Some t → more g ≡ Some t) → (o : Option Released) (b : Bool) → said_of less o ≡ Some b → said_of more o ≡ Some b
fewer_said less more h None b e = cc
fewer_said less more h (Some at) b e = by (less at.group) refl
  where
    by : (t : Option Turn) → less at.group ≡ t → said_before at.place (more at.group) ≡ Some b
    by None is = let none : None ≡ Some b = ap (said_before at.place) (sym is) ∙ e in cc
    by (Some t) is = ap (said_before at.place) (h at.group t is) ∙ (ap (said_before at.place) (sym is) ∙ e)

pub said_still : (released : List (Option Released)) (count : ℕ) (turns new : List (ℕ × Turn)) (rows more : List KeptRow) → IsSaid released count turns rows
    → ((g : ℕ) (t : Turn) → turns_in new g ≡ Some t → turns_in turns g ≡ Some t) → length rows ≤ length more → IsSaid released count new more
said_still released count turns new rows more s h long = record {
  early = λ g t e. s.early g t (h g t e);
  within = λ n b e. let low : n < length rows = s.within n b (fewer_said (turns_in new) (turns_in turns) h (get_or released n None) b e) in omega (arith, low, long);
}

-- ---- a walk for what is sought

pub sought_found : (p : KeptRow → Bool) (xs : List KeptRow) (from n : ℕ) → from ≤ n → n < length xs → ((k : ℕ) → from ≤ k → k < n → p (kept_in xs k) ≡ false) → p (kept_in xs n) ≡ true
    → position_from p from (drop from xs) ≡ Some n
sought_found p xs from n low high before here =
    let place : from + (n - from) ≡ n = omega arith in
    position_found p (drop from xs) from (n - from) no_kept (omega (arith, length-drop from xs))
    (λ k h. ap p (get_or-drop from xs k no_kept) ∙ before (from + k) (omega arith) (omega arith))
    (ap p (get_or-drop from xs (n - from) no_kept ∙ ap (kept_in xs) place) ∙ here) ∙ ap Some place

pub sought_none : (p : KeptRow → Bool) (xs : List KeptRow) (from : ℕ) → ((k : ℕ) → from ≤ k → k < length xs → p (kept_in xs k) ≡ false) → position_from p from (drop from xs) ≡ None
sought_none p xs from none =
    position_none p (drop from xs) from no_kept
    (λ k h. ap p (get_or-drop from xs k no_kept) ∙ none (from + k) (omega arith) (omega (arith, h, length-drop from xs)))

-- rows that were brought in order one by one
pub brought : (said : ℕ → Option Bool) (rows now : List KeptRow) (n : ℕ) → length rows ≤ n → length now ≡ length rows → ((k : ℕ) → k < n → kept_in now k ≡ turned (said k) (kept_in rows k)) → now ≡ as_said said 0 rows
brought said rows now n all many each =
    rows_same now (as_said said 0 rows) (many ∙ sym (said_length said 0 rows))
    (λ k h. let within : k < length rows = omega (arith, h, many) in each k (omega (arith, within, all)) ∙ sym (said_one said k rows within))

-- rows of which those below a number were brought in order
pub record IsBrought (said : ℕ → Option Bool) (rows now : List KeptRow) (n : ℕ) : Type 0 where
  pub many : length now ≡ length rows
  pub done : (k : ℕ) → k < n → kept_in now k ≡ turned (said k) (kept_in rows k)
  pub rest : (k : ℕ) → n ≤ k → kept_in now k ≡ kept_in rows k

pub brought_none : (said : ℕ → Option Bool) (rows : List KeptRow) → IsBrought said rows rows 0
brought_none said rows = record { many = refl; done = λ k h. absurd (omega arith); rest = λ k h. refl }

pub brought_more : (said : ℕ → Option Bool) (rows now : List KeptRow) (n : ℕ) → IsBrought said rows now n → n < length now → IsBrought said rows (set now n (turned (said n) (kept_in now n))) (n + 1)
brought_more said rows now n b within = record {
  many = length-set now n (turned (said n) (kept_in now n)) ∙ b.many;
  done = λ k h. elim (cases_eq k n) [
    | inl here ↦ subst (λ m. kept_in (set now n (turned (said n) (kept_in now n))) m ≡ turned (said m) (kept_in rows m)) (sym here)
        (get_or-set_same now n (turned (said n) (kept_in now n)) no_kept within ∙ ap (turned (said n)) (b.rest n (omega arith)))
    | inr away ↦ get_or-set_other now n k (turned (said n) (kept_in now n)) no_kept away ∙ b.done k (omega (arith, h, away))
  ];
  rest = λ k h. get_or-set_other now n k (turned (said n) (kept_in now n)) no_kept (λ e. absurd (omega (arith, e, h))) ∙ b.rest k (omega (arith, h));
}

-- a word on a group that is said again once the rows are in order
again_is : (new turns : ℕ → Option Turn) (group : ℕ) (turn : Turn) → ((g : ℕ) → new g ≡ cond (nat_eq group g) (Some turn) None) → (o : Option Released) (kept : KeptRow) → ((at : Released) → o ≡ Some at → at.place < turn.before)
    → turned (said_of new o) (turned (said_of turns o) kept) ≡ turned (said_of (with_turn group turn turns) o) kept
again_is new turns group turn h None kept early = refl
again_is new turns group turn h (Some at) kept early =
    let before : nat_lt at.place turn.before ≡ true = (let low : at.place < turn.before = early at refl in grind (arith, low)) in
    ap (λ t. turned (said_before at.place t) (turned (said_before at.place (turns at.group)) kept)) (h at.group)
    ∙ elim (nat_eq group at.group) as
    (λ b. turned (said_before at.place (cond b (Some turn) None)) (turned (said_before at.place (turns at.group)) kept)
    ≡ turned (said_before at.place (cond b (Some turn) (turns at.group))) kept) [
      | true ↦ ap (λ x. turned (cond x (Some turn.shared) None) (turned (said_before at.place (turns at.group)) kept)) before
          ∙ (turned_twice turn.shared (said_before at.place (turns at.group)) kept ∙ ap (λ x. turned (cond x (Some turn.shared) None) kept) (sym before))
      | false ↦ refl
    ]

pub said_again : (released : List (Option Released)) (turns new : List (ℕ × Turn)) (rows now : List KeptRow) (group : ℕ) (turn : Turn) → ((n : ℕ) (at : Released) → get_or released n None ≡ Some at → at.place < turn.before)
    → now ≡ as_said (said_at (turns_in turns) released) 0 rows → ((g : ℕ) → turns_in new g ≡ cond (nat_eq group g) (Some turn) None)
    → as_said (said_at (turns_in new) released) 0 now ≡ as_said (said_at (with_turn group turn (turns_in turns)) released) 0 rows
said_again released turns new rows now group turn early is h =
    ap (as_said (said_at (turns_in new) released) 0) is
    ∙ said_twice (said_at (turns_in new) released) (said_at (turns_in turns) released) (said_at (with_turn group turn (turns_in turns)) released) rows
    (λ n kept within. again_is (turns_in new) (turns_in turns) group turn h (get_or released n None) kept (early n))

pub none_listed : (turns : List (ℕ × Turn)) → length turns ≡ 0 → turns ≡ []
none_listed [] e = refl
none_listed (t ∷ turns) e = absurd (omega arith)

pub nothing_said : (released : List (Option Released)) (n : ℕ) → said_at (turns_in []) released n ≡ None
nothing_said released n = by (get_or released n None)
  where
    by : (o : Option Released) → said_of (turns_in []) o ≡ None
    by None = refl
    by (Some at) = refl

pub said_nothing : (released : List (Option Released)) (turns : List (ℕ × Turn)) (rows : List KeptRow) → length turns ≡ 0 → as_said (said_at (turns_in turns) released) 0 rows ≡ rows
said_nothing released turns rows e =
    ap (λ (ts : List (ℕ × Turn)). as_said (said_at (turns_in ts) released) 0 rows) (none_listed turns e)
    ∙ said_none (said_at (turns_in []) released) rows (λ n h. nothing_said released n)
