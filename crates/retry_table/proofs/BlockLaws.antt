-- Queues of times over blocks of rows: what a change leaves, and that a search of the blocks is one of the rows.
use Rattle.std.proofs.Common.{◌≡◌, ◌≢◌, ℕ, zero, suc, ◌+◌, ◌-◌, ◌*◌, ◌/◌, ◌^◌, ◌<◌, ◌≤◌, min, true, false, nat_le, nat_lt, List, [], ◌++◌, length, drop, Option, None, Some, IfSome, IfNone, refl, sym, ap, subst, ◌∙◌, get_or, set, replicate, arith, length-append, length-drop, inl, inr}
use Rattle.std.proofs.lemmas.List.{length-set, length-replicate, get_or-set_same, get_or-set_other, get_or_past, get_or-drop, set-get_or}
use Rattle.std.proofs.lemmas.Bool.{cases_eq, cases_lt, true≢false}
use Rattle.std.proofs.lemmas.Bool.Decides.{nat_tests}
use Rattle.due_tree.specs.Due.{is_due, next_due}
use Rattle.due_tree.specs.Cells.{lesser}
use Rattle.due_tree.proofs.Places.{position_found, position_none, IsFirst, position_is, position_isnt, longer_at}
use Rattle.due_tree.proofs.Trees.{neither_due}
use Rattle.retry_table.specs.declared.blocks.Times.{Times}
use Rattle.retry_table.specs.declared.blocks.Times.TheVariants as times
use Rattle.retry_table.specs.Table.{KeptRow, no_kept, kept_in}
use Rattle.retry_table.specs.Queues.{time_place, is_later, least_from, place_at, AreLeast, is_timely, next_timely, IsUntimely}

-- ---- the lesser of numbers

min_swap : (a b : ℕ) → min a b ≡ min b a
min_swap a b = omega arith

min_swap_first : (a b c : ℕ) → min a (min b c) ≡ min b (min a c)
min_swap_first a b c = omega arith

min_left : (m n : ℕ) → nat_lt n m ≡ false → min m n ≡ m
min_left m n h = grind (arith, nat_tests)

min_absorb : (m n k : ℕ) → nat_lt n m ≡ false → min m (min n k) ≡ min m k
min_absorb m n k h = grind (arith, nat_tests)

min_above : (m n bound : ℕ) → nat_le m bound ≡ false → nat_le n bound ≡ false → nat_le (min m n) bound ≡ false
min_above m n bound h k = grind (arith, nat_tests)

swap : (a b c : Option ℕ) → lesser a (lesser b c) ≡ lesser b (lesser a c)
swap None b c = refl
swap (Some m) None c = refl
swap (Some m) (Some n) None = ap Some (min_swap m n)
swap (Some m) (Some n) (Some k) = ap Some (min_swap_first m n k)

-- a number that is not later takes the other's place
absorb : (new old rest : Option ℕ) → is_later new old ≡ false → lesser new (lesser old rest) ≡ lesser new rest
absorb None None rest h = refl
absorb (Some m) None rest h = refl
absorb None (Some n) rest h = absurd (true≢false h)
absorb (Some m) (Some n) None h = ap Some (min_left m n h)
absorb (Some m) (Some n) (Some k) h = ap Some (min_absorb m n k h)

later_none : (a : Option ℕ) → is_later a None ≡ false
later_none None = refl
later_none (Some m) = refl

min_again : (m n : ℕ) → min m (min m n) ≡ min m n
min_again m n = omega arith

min_past : (m n k : ℕ) → nat_lt n m ≡ true → nat_lt (min n k) n ≡ true → min m k ≡ min n k
min_past m n k h l = grind (arith, nat_tests)

min_rest : (n k : ℕ) → nat_lt (min n k) n ≡ true → k ≡ min n k
min_rest n k l = grind (arith, nat_tests)

min_least : (m n : ℕ) → nat_lt n m ≡ true → min n m ≡ n
min_least m n h = grind (arith, nat_tests)

min_all : (m n k : ℕ) → nat_lt n m ≡ true → nat_lt (min n k) n ≡ false → min n (min m k) ≡ n
min_all m n k h l = grind (arith, nat_tests)

min_first : (n k : ℕ) → nat_lt (min n k) n ≡ false → min n k ≡ n
min_first n k l = grind (arith, nat_tests)

again : (a b : Option ℕ) → lesser a (lesser a b) ≡ lesser a b
again None b = refl
again (Some m) None = ap Some (let e : min m m ≡ m = omega arith in e)
again (Some m) (Some n) = ap Some (min_again m n)

-- a number that is later than one that was not the least leaves the least
stays : (new old rest : Option ℕ) → is_later new old ≡ true → is_later old (lesser old rest) ≡ true → lesser new rest ≡ lesser old rest
stays new None rest h k = absurd (true≢false (sym h ∙ later_none new))
stays new (Some n) None h k = absurd (let e : nat_lt n n ≡ false = grind (arith, nat_tests) in true≢false (sym k ∙ e))
stays None (Some n) (Some r) h k = ap Some (min_rest n r k)
stays (Some m) (Some n) (Some r) h k = ap Some (min_past m n r h k)

-- where the old number was the least, none is below it behind a later one
none_below : (new old rest : Option ℕ) → is_later new old ≡ true → is_later old (lesser old rest) ≡ false → lesser old (lesser new rest) ≡ old
none_below new None rest h k = absurd (true≢false (sym h ∙ later_none new))
none_below None (Some n) None h k = refl
none_below (Some m) (Some n) None h k = ap Some (min_least m n h)
none_below None (Some n) (Some r) h k = ap Some (min_first n r k)
none_below (Some m) (Some n) (Some r) h k = ap Some (min_all m n r h k)

-- where neither of two is due, the lesser is not
lesser_not_due : (bound : ℕ) (a b : Option ℕ) → is_due bound a ≡ false → is_due bound b ≡ false → is_due bound (lesser a b) ≡ false
lesser_not_due bound None b h k = k
lesser_not_due bound (Some m) None h k = h
lesser_not_due bound (Some m) (Some n) h k = min_above m n bound h k

none_place : (what : Times) → time_place what no_kept ≡ None
none_place times.ToSend = refl
none_place times.ToOffer = refl
none_place (times.Sooner tries) = refl

-- ---- the least number of a block

module _ (what : Times) where
  least-same : (rows new : List KeptRow) (first count : ℕ) → ((n : ℕ) → first ≤ n → n < first + count → kept_in new n ≡ kept_in rows n) → least_from what new first count ≡ least_from what rows first count
  unfolding least_from
  least-same rows new first zero h = refl
  least-same rows new first (suc count) h =
      (λ i. lesser (time_place what (h first (omega arith) (omega arith) i)) (least-same rows new (first + 1) count (λ n low high. h n (omega arith) (omega arith)) i))

  least_past : (rows : List KeptRow) (first count : ℕ) → length rows ≤ first → least_from what rows first count ≡ None
  unfolding least_from
  least_past rows first zero h = refl
  least_past rows first (suc count) h =
      let past : time_place what (kept_in rows first) ≡ None = ap (time_place what) (get_or_past rows first no_kept h) ∙ none_place what in
      (λ i. lesser (past i) (least_past rows (first + 1) count (omega arith) i))

  -- from the end of a block or of the rows on there is none
  pub least_end : (rows : List KeptRow) (last : ℕ) → least_from what rows (min (length rows) last) (last - min (length rows) last) ≡ None
  unfolding least_from
  least_end rows last =
      elim (cases_lt (length rows) last) [
        | inl short ↦ least_past rows (min (length rows) last) (last - min (length rows) last) (omega arith)
        | inr long ↦ let none : last - min (length rows) last ≡ 0 = omega arith in ap (least_from what rows (min (length rows) last)) none
      ]

  pub least_step : (rows : List KeptRow) (n last : ℕ) → 0 < n → n ≤ last → least_from what rows (n - 1) (last - (n - 1)) ≡ lesser (time_place what (kept_in rows (n - 1))) (least_from what rows n (last - n))
  unfolding least_from
  least_step rows n last more within =
      let one : last - (n - 1) ≡ suc (last - n) = omega arith in
      let back : n - 1 + 1 ≡ n = omega arith in
      ap (least_from what rows (n - 1)) one ∙ ap (λ k. lesser (time_place what (kept_in rows (n - 1))) (least_from what rows k (last - n))) back

  -- with a row written, the least number is that row's or the least that the others have
  least-but : (rows : List KeptRow) (n : ℕ) (kept : KeptRow) → n < length rows → (first count : ℕ) → first ≤ n → n < first + count
      → least_from what (set rows n kept) first count ≡ lesser (time_place what kept) (least_from what (set rows n no_kept) first count)
  unfolding least_from
  least-but rows n kept within first zero low high = absurd (omega arith)
  least-but rows n kept within first (suc count) low high =
      let cleared = set rows n no_kept in
      elim (cases_eq first n) [
        | inl same ↦
            let here : (k : KeptRow) → kept_in (set rows n k) first ≡ k = λ k. ap (kept_in (set rows n k)) same ∙ get_or-set_same rows n k no_kept within in
            let rest : (k : KeptRow) → least_from what (set rows n k) (first + 1) count ≡ least_from what rows (first + 1) count = λ k. least-same rows (set rows n k) (first + 1) count (λ j from to. get_or-set_other rows n j k no_kept (let ne : j ≢ n = omega arith in ne)) in
            let none : time_place what (kept_in cleared first) ≡ None = ap (time_place what) (here no_kept) ∙ none_place what in
            (λ i. lesser (time_place what (here kept i)) ((rest kept ∙ sym (rest no_kept)) i))
            ∙ ap (λ p. lesser (time_place what kept) (lesser p (least_from what cleared (first + 1) count))) (sym none)
        | inr other ↦
            (λ i. lesser (time_place what ((get_or-set_other rows n first kept no_kept other ∙ sym (get_or-set_other rows n first no_kept no_kept other)) i)) (least-but rows n kept within (first + 1) count (omega arith) (omega arith) i))
            ∙ swap (time_place what (kept_in cleared first)) (time_place what kept) (least_from what cleared (first + 1) count)
      ]

  -- the least number is a row's or the least that the others have
  least-split : (rows : List KeptRow) (n first count : ℕ) → n < length rows → first ≤ n → n < first + count
      → least_from what rows first count ≡ lesser (time_place what (kept_in rows n)) (least_from what (set rows n no_kept) first count)
  least-split rows n first count within low high =
      ap (λ rs. least_from what rs first count) (sym (set-get_or rows n no_kept)) ∙ least-but rows n (kept_in rows n) within first count low high

  -- a row that has a number below which none is has the least
  pub least_met : (rows : List KeptRow) (n first count : ℕ) (floor : Option ℕ) → n < length rows → first ≤ n → n < first + count → time_place what (kept_in rows n) ≡ floor
      → lesser floor (least_from what rows first count) ≡ floor → floor ≡ least_from what rows first count
  least_met rows n first count floor within low high here above =
      let rest = least_from what (set rows n no_kept) first count in
      let all : least_from what rows first count ≡ lesser floor rest = least-split rows n first count within low high ∙ ap (λ p. lesser p rest) here in
      sym above ∙ ap (lesser floor) all ∙ again floor rest ∙ sym all

  -- ---- a row is written in place of an old one

  module _ (rows : List KeptRow) (n : ℕ) (old : KeptRow) (tree : List (Option ℕ)) (within : n < length rows) (b : AreLeast what (set rows n old) tree) where
    same_length : length (set rows n old) ≡ length rows
    same_length = length-set rows n old

    pub block_there : n / 64 < length tree
    block_there = omega (arith, b.room, same_length)

    pub mended : (v : Option ℕ) → v ≡ least_from what rows (64 * (n / 64)) 64 → AreLeast what rows (set tree (n / 64) v)
    mended v is = record {
      same = λ block. elim (cases_eq block (n / 64)) [
        | inl here ↦ subst (λ m. place_at (set tree (n / 64) v) m ≡ least_from what rows (64 * m) 64) (sym here) (get_or-set_same tree (n / 64) v None block_there ∙ is)
        | inr other ↦
            get_or-set_other tree (n / 64) block v None other ∙ b.same block
            ∙ least-same rows (set rows n old) (64 * block) 64 (λ k low high. get_or-set_other rows n k old no_kept (let ne : k ≢ n = omega arith in ne))
      ];
      room = omega (arith, b.room, same_length, length-set tree (n / 64) v);
      small = omega (arith, b.small, length-set tree (n / 64) v);
    }

    others : Option ℕ
    others = least_from what (set rows n no_kept) (64 * (n / 64)) 64

    is_new : least_from what rows (64 * (n / 64)) 64 ≡ lesser (time_place what (kept_in rows n)) others
    unfolding others
    is_new = least-split rows n (64 * (n / 64)) 64 within (omega arith) (omega arith)

    is_held : place_at tree (n / 64) ≡ lesser (time_place what old) others
    unfolding others
    is_held = b.same (n / 64) ∙ least-but rows n old within (64 * (n / 64)) 64 (omega arith) (omega arith)

    -- a number that is no later takes the old one's place
    pub lowered : is_later (time_place what (kept_in rows n)) (time_place what old) ≡ false → lesser (time_place what (kept_in rows n)) (place_at tree (n / 64)) ≡ least_from what rows (64 * (n / 64)) 64
    lowered h =
        let new = time_place what (kept_in rows n) in
        ap (lesser new) is_held ∙ absorb new (time_place what old) others h ∙ sym is_new

    -- a later one leaves the least where that was not the old one
    pub stayed : is_later (time_place what (kept_in rows n)) (time_place what old) ≡ true → is_later (time_place what old) (place_at tree (n / 64)) ≡ true → place_at tree (n / 64) ≡ least_from what rows (64 * (n / 64)) 64
    stayed h k =
        let was = time_place what old in
        is_held ∙ sym (stays (time_place what (kept_in rows n)) was others h (ap (is_later was) (sym is_held) ∙ k)) ∙ sym is_new

    -- and where it was the old one, none is below that
    pub floored : is_later (time_place what (kept_in rows n)) (time_place what old) ≡ true → is_later (time_place what old) (place_at tree (n / 64)) ≡ false → lesser (time_place what old) (least_from what rows (64 * (n / 64)) 64) ≡ time_place what old
    floored h k =
        let was = time_place what old in
        ap (lesser was) is_new ∙ none_below (time_place what (kept_in rows n)) was others h (ap (is_later was) (sym is_held) ∙ k)

  -- ---- more rows, and more blocks

  module _ (rows : List KeptRow) (tree : List (Option ℕ)) (b : AreLeast what rows tree) where
    pub least-places : (count : ℕ) → count ≤ 2 ^ 32 → AreLeast what rows (tree ++ replicate (count - length tree) None)
    least-places count fits =
        let none : Option ℕ = None in
        let len : length (tree ++ replicate (count - length tree) none) ≡ length tree + (count - length tree) = length-append tree (replicate (count - length tree) none) ∙ ap (λ k. length tree + k) (length-replicate (count - length tree) none) in
        record {
          same = λ block. longer_at tree (count - length tree) block None ∙ b.same block;
          room = omega (arith, b.room, len);
          small = omega (arith, b.small, len);
        }

    pub least-rows : (numbers : ℕ) → numbers ≤ 64 * length tree → AreLeast what (rows ++ replicate (numbers - length rows) no_kept) tree
    least-rows numbers fits =
        let len : length (rows ++ replicate (numbers - length rows) no_kept) ≡ length rows + (numbers - length rows) = length-append rows (replicate (numbers - length rows) no_kept) ∙ ap (λ k. length rows + k) (length-replicate (numbers - length rows) no_kept) in
        record {
          same = λ block.
              b.same block
              ∙ sym (least-same rows (rows ++ replicate (numbers - length rows) no_kept) (64 * block) 64 (λ k low high. longer_at rows (numbers - length rows) k no_kept));
          room = omega (arith, b.room, len);
          small = b.small;
        }

  pub least_none : AreLeast what [] []
  least_none = record { same = λ block. sym (least_past [] (64 * block) 64 (omega arith)); room = omega arith; small = omega arith }

  -- rows whose numbers are the same
  least-alike : (rows new : List KeptRow) (first count : ℕ) → ((n : ℕ) → time_place what (kept_in new n) ≡ time_place what (kept_in rows n)) → least_from what new first count ≡ least_from what rows first count
  unfolding least_from
  least-alike rows new first zero h = refl
  least-alike rows new first (suc count) h = (λ i. lesser (h first i) (least-alike rows new (first + 1) count h i))

  pub rows_alike : (rows new : List KeptRow) (tree : List (Option ℕ)) → AreLeast what rows tree → length new ≡ length rows → ((n : ℕ) → time_place what (kept_in new n) ≡ time_place what (kept_in rows n)) → AreLeast what new tree
  rows_alike rows new tree b many h = record {
    same = λ block. b.same block ∙ sym (least-alike rows new (64 * block) 64 h);
    room = omega (arith, b.room, many);
    small = b.small;
  }

  -- a queue of which so many blocks were made, and no other has rows
  pub made_whole : (rows : List KeptRow) (tree : List (Option ℕ)) (blocks : ℕ) → ((block : ℕ) → block < blocks → place_at tree block ≡ least_from what rows (64 * block) 64)
      → ((block : ℕ) → blocks ≤ block → place_at tree block ≡ None) → length rows ≤ 64 * blocks → length rows ≤ 64 * length tree → length tree ≤ 2 ^ 32 → AreLeast what rows tree
  made_whole rows tree blocks made none all room small = record {
    same = λ block. elim (cases_lt block blocks) [
      | inl l ↦ made block l
      | inr past ↦ none block past ∙ sym (least_past rows (64 * block) 64 (omega (arith, past, all)))
    ];
    room = room;
    small = small;
  }

  -- ---- what is due in a block

  module _ (bound : ℕ) (rows : List KeptRow) where
    untimely_past : (n : ℕ) → length rows ≤ n → is_timely what bound (kept_in rows n) ≡ false
    untimely_past n h = ap (is_due bound) (ap (time_place what) (get_or_past rows n no_kept h) ∙ none_place what)

    -- where the least number of some rows is not due, no row of them is
    pub untimely : (first count : ℕ) → is_due bound (least_from what rows first count) ≡ false → IsUntimely what bound rows first (first + count)
    unfolding least_from
    untimely first zero h n low high = absurd (omega arith)
    untimely first (suc count) h n low high =
        let both = neither_due bound (time_place what (kept_in rows first)) (least_from what rows (first + 1) count) h in
        elim (cases_eq n first) [
          | inl same ↦ subst (λ k. is_timely what bound (kept_in rows k) ≡ false) (sym same) both.0
          | inr other ↦ untimely (first + 1) count both.1 n (omega arith) (omega arith)
        ]

    least_not_due : (first count : ℕ) → IsUntimely what bound rows first (first + count) → is_due bound (least_from what rows first count) ≡ false
    unfolding least_from
    least_not_due first zero h = refl
    least_not_due first (suc count) h =
        lesser_not_due bound (time_place what (kept_in rows first)) (least_from what rows (first + 1) count)
        (h first (omega arith) (omega arith)) (least_not_due (first + 1) count (λ n low high. h n (omega arith) (omega arith)))

    -- nothing is due up to the end of a block, or of the rows
    pub untimely_block : (from n last : ℕ) → IsUntimely what bound rows from n → min (length rows) last ≤ n → IsUntimely what bound rows from last
    untimely_block from n last h past k low high =
        elim (cases_lt k n) [ inl l ↦ h k low l | inr behind ↦ untimely_past k (let m : length rows ≤ k = omega arith in m) ]

    pub untimely_more : (from n : ℕ) → IsUntimely what bound rows from n → is_timely what bound (kept_in rows n) ≡ false → IsUntimely what bound rows from (n + 1)
    untimely_more from n h not k low high =
        elim (cases_lt k n) [
          | inl l ↦ h k low l
          | inr behind ↦ let e : n ≡ k = omega arith in subst (λ m. is_timely what bound (kept_in rows m) ≡ false) e not
        ]

    -- ---- the first row from `from` on

    module _ (from : ℕ) where
      there : (k : ℕ) → get_or (drop from rows) k no_kept ≡ kept_in rows (from + k)
      there k = get_or-drop from rows k no_kept

      pub timely_found : (n : ℕ) → from ≤ n → is_timely what bound (kept_in rows n) ≡ true → IsUntimely what bound rows from n → Some n ≡ next_timely what from bound rows
      timely_found n low here before =
          let within : n < length rows = elim (cases_lt n (length rows)) [ inl l ↦ l | inr past ↦ absurd (true≢false (sym here ∙ untimely_past n past)) ] in
          let e : from + (n - from) ≡ n = omega arith in
          sym (position_found (is_timely what bound) (drop from rows) from (n - from) no_kept (omega (arith, length-drop from rows))
          (λ k h. ap (is_timely what bound) (there k) ∙ before (from + k) (omega arith) (omega arith))
          (ap (is_timely what bound) (there (n - from)) ∙ ap (λ m. is_timely what bound (kept_in rows m)) e ∙ here)
          ∙ ap Some e)

      pub timely_none : ((n : ℕ) → from ≤ n → is_timely what bound (kept_in rows n) ≡ false) → None ≡ next_timely what from bound rows
      timely_none none =
          sym (position_none (is_timely what bound) (drop from rows) from no_kept (λ k h. ap (is_timely what bound) (there k) ∙ none (from + k) (omega arith)))

      pub timely_past : length rows ≤ from → None ≡ next_timely what from bound rows
      timely_past h = timely_none (λ n low. untimely_past n (omega arith))

      module _ (tree : List (Option ℕ)) (b : AreLeast what rows tree) (here : IsUntimely what bound rows from (64 * (from / 64) + 64)) where
        block_at : (next k : ℕ) → get_or (drop next tree) k None ≡ least_from what rows (64 * (next + k)) 64
        block_at next k = get_or-drop next tree k None ∙ b.same (next + k)

        -- no block behind the first one has a row that is due
        pub none_behind : None ≡ next_due (from / 64 + 1) bound tree → None ≡ next_timely what from bound rows
        none_behind none =
            let next = from / 64 + 1 in
            timely_none (λ n low. elim (cases_lt (n / 64) next) [
              | inl l ↦ here n low (omega arith)
              | inr behind ↦
                  let e : next + (n / 64 - next) ≡ n / 64 = omega arith in
                  let not : is_due bound (least_from what rows (64 * (n / 64)) 64) ≡ false = subst (λ k. is_due bound (least_from what rows (64 * k) 64) ≡ false) e
                  (ap (is_due bound) (sym (block_at next (n / 64 - next))) ∙ position_isnt (is_due bound) (drop next tree) next None refl (sym none) (n / 64 - next)) in
                  untimely (64 * (n / 64)) 64 not n (omega arith) (omega arith)
            ])

        module _ (block : ℕ) (is : Some block ≡ next_due (from / 64 + 1) bound tree) where
          found : IsFirst (is_due bound) (drop (from / 64 + 1) tree) (from / 64 + 1) block None
          found = position_is (is_due bound) (drop (from / 64 + 1) tree) (from / 64 + 1) block None (sym is)

          pub block_within : block < length tree
          block_within = omega (arith, found.low, found.within, length-drop (from / 64 + 1) tree)

          due : is_due bound (least_from what rows (64 * block) 64) ≡ true
          due =
              let next = from / 64 + 1 in
              let low : next ≤ block = found.low in
              let e : next + (block - next) ≡ block = omega arith in
              subst (λ k. is_due bound (least_from what rows (64 * k) 64) ≡ true) e (ap (is_due bound) (sym (block_at next (block - next))) ∙ found.here)

          before : IsUntimely what bound rows from (64 * block)
          before n low high =
              let next = from / 64 + 1 in
              elim (cases_lt (n / 64) next) [
                | inl l ↦ here n low (omega arith)
                | inr behind ↦
                    let e : next + (n / 64 - next) ≡ n / 64 = omega arith in
                    let not : is_due bound (least_from what rows (64 * (n / 64)) 64) ≡ false = subst (λ k. is_due bound (least_from what rows (64 * k) 64) ≡ false) e
                    (ap (is_due bound) (sym (block_at next (n / 64 - next))) ∙ found.before (n / 64 - next) (omega arith)) in
                    untimely (64 * (n / 64)) 64 not n (omega arith) (omega arith)
              ]

          -- the first row of the block that is due is the first of all
          pub timely_behind : (r : Option ℕ) → IfSome r (λ n. 64 * block ≤ n) → IfSome r (λ n. is_timely what bound (kept_in rows n) ≡ true) → IfSome r (IsUntimely what bound rows (64 * block))
              → IfNone r (IsUntimely what bound rows (64 * block) (64 * (64 * block / 64) + 64)) → r ≡ next_timely what from bound rows
          timely_behind None low timely clear none =
              let same : 64 * (64 * block / 64) + 64 ≡ 64 * block + 64 = omega arith in
              absurd (true≢false (sym due ∙ least_not_due (64 * block) 64 (subst (λ k. IsUntimely what bound rows (64 * block) k) same none)))
          timely_behind (Some n) low timely clear none =
              let behind : from / 64 + 1 ≤ block = found.low in
              timely_found n (omega (arith, low)) timely
              (λ k from_it to. elim (cases_lt k (64 * block)) [ inl l ↦ before k from_it l | inr g ↦ clear k g to ])
