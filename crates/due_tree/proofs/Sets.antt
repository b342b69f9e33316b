-- Sets of places in words: what a write and more room leave, and the first place of the set, from what a search of the words has found.
use Rattle.std.proofs.Common.{◌≡◌, ◌≢◌, ℕ, zero, suc, ◌+◌, ◌-◌, ◌*◌, ◌/◌, ◌%◌, ◌^◌, ◌<◌, ◌≤◌, Bool, true, false, eqb, cond, List, [], ◌∷◌, ◌++◌, length, drop, replicate, Option, None, Some, refl, sym, ap, subst, ◌∙◌, get_or, set, arith, length-append, length-drop, shr-shr, inl, inr}
use Rattle.std.proofs.lemmas.List.{get_or-drop, get_or_past, get_or-set_same, get_or-set_other, get_or_default, length-set, length-replicate, append-nil}
use Rattle.std.proofs.lemmas.Bool.{cases_eq, cases_lt, true≢false, eqb-true}
use Rattle.std.proofs.lemmas.Nat.Bits.{bit_at-zero, bit_at_above}
use Rattle.std.specs.Int.{bit_at}
use Rattle.std.specs.List.{position_from}
use Rattle.due_tree.specs.Due.{is_due, next_due}
use Rattle.due_tree.specs.Sets.{next_set, word_at, has, places_from, mark, AreBits}
use Rattle.due_tree.proofs.Places.{position_found, position_none, IsFirst, position_is, position_isnt, longer_at}

pub length-places : (words : List ℕ) (first count : ℕ) → length (places_from words first count) ≡ count
length-places words first zero = refl
length-places words first (suc count) = omega (arith, length-places words (first + 1) count)

pub place_in : (words : List ℕ) (first count k : ℕ) → k < count → get_or (places_from words first count) k false ≡ has words (first + k)
place_in words first zero k h = absurd (omega arith)
place_in words first (suc count) zero h = let e : first ≡ first + 0 = omega arith in ap (has words) e
place_in words first (suc count) (suc k) h =
    let e : first + 1 + k ≡ first + suc k = omega arith in place_in words (first + 1) count k (omega arith) ∙ ap (has words) e

-- a place of the list is one of the words
pub place_within : (words : List ℕ) (len place : ℕ) (places : List Bool) → places_from words 0 len ≡ places → place < length places → place < len
place_within words len place places e h = omega (arith, length-places words 0 len, ap length e)

-- the same places in other words
places-same : (words new : List ℕ) (first count : ℕ) → ((place : ℕ) → first ≤ place → has new place ≡ has words place) → places_from new first count ≡ places_from words first count
places-same words new first zero h = refl
places-same words new first (suc count) h =
    (λ i. h first (omega arith) i ∷ places-same words new (first + 1) count (λ place low. h place (omega arith)) i)

-- one place is another
pub places-set : (words new : List ℕ) (first count k : ℕ) (v : Bool) → k < count → has new (first + k) ≡ v → ((other : ℕ) → other ≢ first + k → has new other ≡ has words other)
    → places_from new first count ≡ set (places_from words first count) k v
places-set words new first zero k v h here others = absurd (omega arith)
places-set words new first (suc count) zero v h here others =
    let e : first ≡ first + 0 = omega arith in
    let this : has new first ≡ v = ap (has new) e ∙ here in
    let rest = places-same words new (first + 1) count (λ place low. others place (let ne : place ≢ first + 0 = omega arith in ne)) in
    (λ i. this i ∷ rest i)
places-set words new first (suc count) (suc k) v h here others =
    let e : first + suc k ≡ first + 1 + k = omega arith in
    let ne : first ≢ first + suc k = omega arith in
    let rest = places-set words new (first + 1) count k v (omega arith) (subst (λ m. has new m ≡ v) e here)
    (λ other no. others other (let m : other ≢ first + suc k = omega arith in m)) in
    (λ i. others first ne i ∷ rest i)

places-none : (words : List ℕ) (first count : ℕ) → ((place : ℕ) → first ≤ place → has words place ≡ false) → places_from words first count ≡ replicate count false
places-none words first zero h = refl
places-none words first (suc count) h = (λ i. h first (omega arith) i ∷ places-none words (first + 1) count (λ place low. h place (omega arith)) i)

places-more : (words : List ℕ) (first count more : ℕ) → ((place : ℕ) → first + count ≤ place → has words place ≡ false) → places_from words first (count + more) ≡ places_from words first count ++ replicate more false
places-more words first zero more h =
    let e : 0 + more ≡ more = omega arith in
    ap (places_from words first) e ∙ places-none words first more (λ place low. h place (omega arith))
places-more words first (suc count) more h =
    let e : suc count + more ≡ suc (count + more) = omega arith in
    ap (places_from words first) e ∙ ap (λ places. has words first ∷ places) (places-more words (first + 1) count more (λ place low. h place (omega arith)))

-- places that are not in the set are added
pub places-reserved : (words new : List ℕ) (len places : ℕ) → len ≤ places → ((place : ℕ) → has new place ≡ has words place) → ((place : ℕ) → len ≤ place → has words place ≡ false)
    → places_from new 0 places ≡ places_from words 0 len ++ replicate (places - length (places_from words 0 len)) false
places-reserved words new len places more same clear =
    let e : places ≡ len + (places - len) = omega arith in
    let rest : places - len ≡ places - length (places_from words 0 len) = ap (λ n. places - n) (sym (length-places words 0 len)) in
    places-same words new 0 places (λ place low. same place) ∙ ap (places_from words 0) e
    ∙ places-more words 0 len (places - len) (λ place low. clear place (omega arith))
    ∙ ap (λ n. places_from words 0 len ++ replicate n false) rest

-- no more places than there are
pub places-kept : (words : List ℕ) (len places : ℕ) → places ≤ len → places_from words 0 len ≡ places_from words 0 len ++ replicate (places - length (places_from words 0 len)) false
places-kept words len places less =
    let none : 0 ≡ places - length (places_from words 0 len) = omega (arith, length-places words 0 len) in
    let empty : Bool = false in
    sym (append-nil (places_from words 0 len)) ∙ ap (λ n. places_from words 0 len ++ replicate n empty) none

-- ---- one word is another

tested : (v : Bool) → eqb (cond v 1 0) 1 ≡ v
tested true = refl
tested false = refl

has-here : (words : List ℕ) (place new : ℕ) (v : Bool) → place / 64 < length words → bit_at new (place % 64) ≡ cond v 1 0 → has (set words (place / 64) new) place ≡ v
has-here words place new v within bit =
    ap (λ w. eqb (bit_at w (place % 64)) 1) (get_or-set_same words (place / 64) new 0 within) ∙ ap (λ b. eqb b 1) bit ∙ tested v

-- the other bits of a word are as they were
abbrev pub OtherBits : ℕ → ℕ → ℕ → Type 0
OtherBits new old bit = (other : ℕ) → other < 64 → other ≢ bit → bit_at new other ≡ bit_at old other

has-other : (words : List ℕ) (place new other : ℕ) → place / 64 < length words → OtherBits new (word_at words (place / 64)) (place % 64) → other ≢ place → has (set words (place / 64) new) other ≡ has words other
has-other words place new other within bits ne =
    elim (cases_eq (other / 64) (place / 64)) [
      | inl same ↦
          let word : word_at (set words (place / 64) new) (other / 64) ≡ new = ap (word_at (set words (place / 64) new)) same ∙ get_or-set_same words (place / 64) new 0 within in
          let differ : other % 64 ≢ place % 64 = omega arith in
          ap (λ w. eqb (bit_at w (other % 64)) 1) word
          ∙ ap (λ b. eqb b 1) (bits (other % 64) (omega arith) differ ∙ ap (λ k. bit_at (word_at words k) (other % 64)) (sym same))
      | inr differ ↦ ap (λ w. eqb (bit_at w (other % 64)) 1) (get_or-set_other words (place / 64) (other / 64) new 0 differ)
    ]

-- there are more words, of which none has a bit set
more_words_of : (len : ℕ) (words : List ℕ) (filled : List (Option ℕ)) (b : AreBits len words filled) (more places : ℕ) → length words + more ≤ length filled → len ≤ places → places ≤ 64 * (length words + more) → length words + more ≤ 2 ^ 53
    → AreBits places (words ++ replicate more 0) filled
more_words_of len words filled b more places room low enough small =
    let none : ℕ = 0 in
    let len_is : length (words ++ replicate more none) ≡ length words + more = length-append words (replicate more none) ∙ ap (λ n. length words + n) (length-replicate more none) in
    record {
      marked = λ k. b.marked k ∙ ap mark (sym (longer_at words more k 0));
      room = omega (arith, len_is);
      enough = omega (arith, len_is);
      small = omega (arith, len_is);
      clear = λ place high. ap (λ w. eqb (bit_at w (place % 64)) 1) (longer_at words more (place / 64) 0) ∙ b.clear place (omega arith);
    }

-- a word that was read
pub read_word : (words : List ℕ) (k read : ℕ) → k < length words → read ≡ get_or words k read → read ≡ word_at words k
read_word words k read within e = e ∙ get_or_default words k read 0 within

module _ (len : ℕ) (words : List ℕ) (filled : List (Option ℕ)) (b : AreBits len words filled) where
  pub word_within : (place : ℕ) → place < len → place / 64 < length words
  word_within place h = omega (arith, b.enough)

  module _ (place new : ℕ) (v : Bool) (h : place < len) (bit : bit_at new (place % 64) ≡ cond v 1 0) (bits : OtherBits new (word_at words (place / 64)) (place % 64)) where
    pub put_places : places_from (set words (place / 64) new) 0 len ≡ set (places_from words 0 len) place v
    put_places =
        let e : place ≡ 0 + place = omega arith in
        places-set words (set words (place / 64) new) 0 len place v h
        (ap (has (set words (place / 64) new)) (sym e) ∙ has-here words place new v (word_within place h) bit)
        (λ other ne. has-other words place new other (word_within place h) bits (let no : other ≢ place = omega arith in no))

    pub put_bits : AreBits len (set words (place / 64) new) (set filled (place / 64) (mark new))
    put_bits =
        let within = word_within place h in
        let places : place / 64 < length filled = omega (arith, b.room) in
        record {
          marked = λ k. elim (cases_eq k (place / 64)) [
            | inl here ↦ subst (λ m. get_or (set filled (place / 64) (mark new)) m None ≡ mark (word_at (set words (place / 64) new) m)) (sym here)
                (get_or-set_same filled (place / 64) (mark new) None places ∙ ap mark (sym (get_or-set_same words (place / 64) new 0 within)))
            | inr other ↦
                get_or-set_other filled (place / 64) k (mark new) None other ∙ b.marked k
                ∙ ap mark (sym (get_or-set_other words (place / 64) k new 0 other))
          ];
          room = omega (arith, b.room, length-set words (place / 64) new, length-set filled (place / 64) (mark new));
          enough = omega (arith, b.enough, length-set words (place / 64) new);
          small = omega (arith, b.small, length-set words (place / 64) new);
          clear = λ other high. has-other words place new other within bits (let no : other ≢ place = omega arith in no) ∙ b.clear other high;
        }

  -- the tree has more places
  pub more_filled : (more : ℕ) → AreBits len words (filled ++ replicate more None)
  more_filled more = record {
    marked = λ k. longer_at filled more k None ∙ b.marked k;
    room = omega (arith, b.room, length-append filled (replicate more None));
    enough = b.enough;
    small = b.small;
    clear = b.clear;
  }

  pub has_more : (more place : ℕ) → has (words ++ replicate more 0) place ≡ has words place
  has_more more place = ap (λ w. eqb (bit_at w (place % 64)) 1) (longer_at words more (place / 64) 0)

  -- more places in the words that there are
  pub more_places : (places : ℕ) → len ≤ places → places ≤ 64 * length words → AreBits places words filled
  more_places places low enough = record {
    marked = b.marked;
    room = b.room;
    enough = enough;
    small = b.small;
    clear = λ place high. b.clear place (omega arith);
  }

  -- more places, with room for so many words
  module _ (places count : ℕ) (new : List ℕ) (low : len ≤ places) (longer : length words ≤ count) (is : new ≡ words ++ replicate (count - length words) 0) where
    pub reserved_places : places_from new 0 places ≡ places_from words 0 len ++ replicate (places - length (places_from words 0 len)) false
    reserved_places = places-reserved words new len places low (λ place. ap (λ ws. has ws place) is ∙ has_more (count - length words) place) b.clear

    pub reserved_bits : (tree : List (Option ℕ)) → tree ≡ filled ++ replicate (count - length filled) None → places ≤ 64 * count → count ≤ 2 ^ 53 → AreBits places new tree
    reserved_bits tree e enough small =
        let more = count - length words in
        let all : length words + more ≡ count = omega arith in
        let none : Option ℕ = None in
        let room : length words + more ≤ length (filled ++ replicate (count - length filled) none) = omega (arith, length-append filled (replicate (count - length filled) none), length-replicate (count - length filled) none) in
        let bits : AreBits places (words ++ replicate more 0) (filled ++ replicate (count - length filled) none) =
        more_words_of len words (filled ++ replicate (count - length filled) none) (more_filled (count - length filled)) more places room low (omega arith) (omega arith) in
        subst (λ (t : List (Option ℕ)). AreBits places new t) (sym e) (subst (λ (ws : List ℕ). AreBits places ws (filled ++ replicate (count - length filled) none)) (sym is) bits)

  -- ---- the first place from `from` on

  module _ (from : ℕ) where
    there : (k : ℕ) → from + k < len → get_or (drop from (places_from words 0 len)) k false ≡ has words (from + k)
    there k h =
        let e : 0 + (from + k) ≡ from + k = omega arith in
        get_or-drop from (places_from words 0 len) k false ∙ place_in words 0 len (from + k) h ∙ ap (has words) e

    many : length (drop from (places_from words 0 len)) ≡ len - from
    many = length-drop from (places_from words 0 len) ∙ ap (λ n. n - from) (length-places words 0 len)

    pub set_found : (place : ℕ) → from ≤ place → has words place ≡ true → ((k : ℕ) → from ≤ k → k < place → has words k ≡ false) → Some place ≡ next_set from (places_from words 0 len)
    set_found place low here before =
        let within : place < len = elim (cases_lt place len) [ inl l ↦ l | inr past ↦ absurd (true≢false (sym here ∙ b.clear place past)) ] in
        let e : from + (place - from) ≡ place = omega arith in
        sym (position_found (λ is_in. is_in) (drop from (places_from words 0 len)) from (place - from) false (omega (arith, many))
        (λ k h. there k (omega arith) ∙ before (from + k) (omega arith) (omega arith))
        (there (place - from) (omega arith) ∙ ap (has words) e ∙ here)
        ∙ ap Some e)

    pub set_none : ((k : ℕ) → from ≤ k → has words k ≡ false) → None ≡ next_set from (places_from words 0 len)
    set_none none =
        sym (position_none (λ is_in. is_in) (drop from (places_from words 0 len)) from false
        (λ k h. there k (omega (arith, many)) ∙ none (from + k) (omega arith)))

    -- the bits of the first word from there on
    first_word : (j : ℕ) → from % 64 + j < 64 → has words (from + j) ≡ eqb (bit_at (word_at words (from / 64) / 2 ^ (from % 64)) j) 1
    first_word j h =
        let q : (from + j) / 64 ≡ from / 64 = omega arith in
        let m : (from + j) % 64 ≡ from % 64 + j = omega arith in
        (λ i. eqb (bit_at (word_at words (q i)) (m i)) 1)
        ∙ ap (λ n. eqb (n % 2) 1) (sym (shr-shr (word_at words (from / 64)) (from % 64) j))

    -- the lowest bit of the first word is the first place
    pub set_here : (bit : ℕ) → word_at words (from / 64) < 2 ^ 64 → bit_at (word_at words (from / 64) / 2 ^ (from % 64)) bit ≡ 1
        → ((other : ℕ) → other < bit → bit_at (word_at words (from / 64) / 2 ^ (from % 64)) other ≡ 0) → Some (from + bit) ≡ next_set from (places_from words 0 len)
    set_here bit small here before =
        let inside : from % 64 + bit < 64 = elim (cases_lt (from % 64 + bit) 64) [
          | inl l ↦ l
          | inr past ↦
              absurd (let zero_bit : bit_at (word_at words (from / 64)) (from % 64 + bit) ≡ 0 = bit_at_above (word_at words (from / 64)) 64 (from % 64 + bit) small past in
              let one : bit_at (word_at words (from / 64)) (from % 64 + bit) ≡ 1 = ap (λ n. n % 2) (sym (shr-shr (word_at words (from / 64)) (from % 64) bit)) ∙ here in
              omega (arith, zero_bit, one))
        ] in
        set_found (from + bit) (omega arith) (first_word bit inside ∙ ap (λ n. eqb n 1) here)
        (λ k low high.
        let e : from + (k - from) ≡ k = omega arith in
        subst (λ n. has words n ≡ false) e (first_word (k - from) (omega arith) ∙ ap (λ n. eqb n 1) (before (k - from) (omega arith))))

    -- no place is in a word without bits
    zero_word : (place : ℕ) → word_at words (place / 64) ≡ 0 → has words place ≡ false
    zero_word place e = ap (λ w. eqb (bit_at w (place % 64)) 1) e ∙ ap (λ n. eqb n 1) (bit_at-zero (place % 64))

    unmarked : (w : ℕ) → is_due 0 (mark w) ≡ false → w ≡ 0
    unmarked w h =
        elim (eqb w 0) as (λ t. eqb w 0 ≡ t → is_due 0 (cond t None (Some 0)) ≡ false → w ≡ 0) [
          | true ↦ λ e not. eqb-true w 0 e
          | false ↦ λ e not. absurd (true≢false not)
        ] refl h

    is_marked : (w : ℕ) → is_due 0 (mark w) ≡ true → w ≢ 0
    is_marked w h none = true≢false (sym h ∙ ap (λ n. is_due 0 (mark n)) none)

    -- the first word has none, up to the next one
    none_here : word_at words (from / 64) / 2 ^ (from % 64) ≡ 0 → (k : ℕ) → from ≤ k → k / 64 < from / 64 + 1 → has words k ≡ false
    none_here rest k low high =
        let e : from + (k - from) ≡ k = omega arith in
        subst (λ n. has words n ≡ false) e
        (first_word (k - from) (omega arith) ∙ ap (λ w. eqb (bit_at w (k - from)) 1) rest ∙ ap (λ n. eqb n 1) (bit_at-zero (k - from)))

    marked_at : (next k : ℕ) → get_or (drop next filled) k None ≡ mark (word_at words (next + k))
    marked_at next k = get_or-drop next filled k None ∙ b.marked (next + k)

    -- nor has any word behind it
    pub none_behind : word_at words (from / 64) / 2 ^ (from % 64) ≡ 0 → None ≡ next_due (from / 64 + 1) 0 filled → None ≡ next_set from (places_from words 0 len)
    none_behind rest none =
        let next = from / 64 + 1 in
        set_none (λ k low. elim (cases_lt (k / 64) next) [
          | inl l ↦ none_here rest k low l
          | inr behind ↦
              zero_word k (let e : next + (k / 64 - next) ≡ k / 64 = omega arith in
              subst (λ w. word_at words w ≡ 0) e (unmarked (word_at words (next + (k / 64 - next)))
              (ap (is_due 0) (sym (marked_at next (k / 64 - next))) ∙ position_isnt (is_due 0) (drop next filled) next None refl (sym none) (k / 64 - next))))
        ])

    module _ (rest : word_at words (from / 64) / 2 ^ (from % 64) ≡ 0) (word : ℕ) (is : Some word ≡ next_due (from / 64 + 1) 0 filled) where
      found : IsFirst (is_due 0) (drop (from / 64 + 1) filled) (from / 64 + 1) word None
      found = position_is (is_due 0) (drop (from / 64 + 1) filled) (from / 64 + 1) word None (sym is)

      pub some_word : word_at words word ≢ 0
      some_word =
          let next = from / 64 + 1 in
          let low : next ≤ word = found.low in
          let e : next + (word - next) ≡ word = omega arith in
          is_marked (word_at words word) (ap (λ w. is_due 0 (mark (word_at words w))) (sym e) ∙ ap (is_due 0) (sym (marked_at next (word - next))) ∙ found.here)

      pub word_there : word < length words
      word_there = elim (cases_lt word (length words)) [ inl l ↦ l | inr past ↦ absurd (some_word (get_or_past words word 0 past)) ]

      -- the lowest bit of the first word behind it is the first place
      pub set_behind : (bit : ℕ) → bit < 64 → bit_at (word_at words word) bit ≡ 1 → ((other : ℕ) → other < bit → bit_at (word_at words word) other ≡ 0) → Some (64 * word + bit) ≡ next_set from (places_from words 0 len)
      set_behind bit small here before =
          let next = from / 64 + 1 in
          let low : next ≤ word = found.low in
          let in_it : (j : ℕ) → j < 64 → has words (64 * word + j) ≡ eqb (bit_at (word_at words word) j) 1 = (λ j h.
          let q : (64 * word + j) / 64 ≡ word = omega arith in
          let m : (64 * word + j) % 64 ≡ j = omega arith in
          (λ i. eqb (bit_at (word_at words (q i)) (m i)) 1)) in
          set_found (64 * word + bit) (omega arith) (in_it bit small ∙ ap (λ n. eqb n 1) here)
          (λ k from_it below. elim (cases_lt (k / 64) next) [
            | inl l ↦ none_here rest k from_it l
            | inr behind ↦ elim (cases_lt (k / 64) word) [
              | inl l ↦
                  zero_word k (let e : next + (k / 64 - next) ≡ k / 64 = omega arith in
                  subst (λ w. word_at words w ≡ 0) e (unmarked (word_at words (next + (k / 64 - next)))
                  (ap (is_due 0) (sym (marked_at next (k / 64 - next))) ∙ found.before (k / 64 - next) (omega arith))))
              | inr same ↦
                  let e : 64 * word + (k - 64 * word) ≡ k = omega arith in
                  subst (λ n. has words n ≡ false) e (in_it (k - 64 * word) (omega arith) ∙ ap (λ n. eqb n 1) (before (k - 64 * word) (omega arith)))
            ]
          ])
