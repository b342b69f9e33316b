-- What is found at the front of some bytes depends on no more than the bytes up to its line feed.
use Rattle.std.proofs.Common.{◌≡◌, ℕ, ◌+◌, ◌<◌, ◌≤◌, min, Bool, true, false, List, [], ◌++◌, length, take, drop, get_or, refl, sym, ap, ◌∙◌, arith, lt-ltb, le-ltb, ltb-true, ltb-false, length-append}
use Rattle.std.specs.Prelude.{Option, Some, None, nat_lt, if◌then◌else◌, cond}
use Rattle.std.specs.List.{after_first, before_first, position, position_or_len}
use Rattle.std.proofs.lemmas.Fmt.{decimal_nonempty}
use Rattle.std.specs.Prelude.{decimal}
use Rattle.std.proofs.lemmas.List.{drop_all, take_min, get_or_append_left, get_or-take, get_or_default, length-take, length-take-le, same_lists, take-append-le}
use Rattle.std.proofs.lemmas.List.Quantifiers.{position-Some}
use Rattle.std.proofs.lemmas.List.Sums.{position_or_len_is}
use Rattle.request_frames.specs.Heads.{IsHead, both, found_head, found_line, head_in, head_on, is_feed, is_space, length_of, number_in, size_in, some_bytes}
use Rattle.request_frames.specs.Reading.{IsLineOf}
use Rattle.request_frames.specs.declared.head.FoundHead.{FoundHead}
use Rattle.request_frames.specs.declared.head.FoundHead.TheVariants as found
use Rattle.request_frames.specs.declared.head.Head.{Head}
use Rattle.request_frames.specs.declared.head.InputSize.{InputSize}
use Rattle.request_frames.specs.declared.head.InputSize.TheVariants as size
use Rattle.request_frames.proofs.Numbers.{number_none, number_read}

-- the place of the first that passes
pub position_is : (p : ℕ → Bool) (xs : List ℕ) (i : ℕ) → i < length xs → p (get_or xs i 0) ≡ true → ((k : ℕ) → k < i → p (get_or xs k 0) ≡ false) → position p xs ≡ Some i
position_is p xs i within at below =
    let is : position_or_len p xs ≡ i = position_or_len_is p xs i 0 (omega arith) below (λ _. at) in
    rw (is, lt-ltb i (length xs) within) refl

-- the line feed within the front of a head, in bytes that begin with the same
pub same_feed : (b c : List ℕ) (n : ℕ) → position is_feed (take 16 b) ≡ Some n → n < length c → ((k : ℕ) → k ≤ n → get_or c k 0 ≡ get_or b k 0)
    → (n < 16) × (n < length b) × (position is_feed (take 16 c) ≡ Some n)
same_feed b c n e within same =
    let found = position-Some is_feed (take 16 b) n 0 e in
    let short : n < 16 = omega (arith, found.0, length-take 16 b) in
    let long : n < length b = omega (arith, found.0, length-take 16 b) in
    let there : n < length (take 16 c) = omega (arith, length-take 16 c) in
    let read = λ (k : ℕ) (few : k ≤ n). (let below : k < 16 = omega arith in
    get_or-take 16 c k 0 below ∙ same k few ∙ sym (get_or-take 16 b k 0 below)) in (
      short,
      long,
      position_is is_feed (take 16 c) n there (ap is_feed (read n (omega arith)) ∙ found.1)
          (λ k few. ap is_feed (read k (omega arith)) ∙ found.2 k few),
    )

-- the same line in front
same_line : (b c : List ℕ) (n : ℕ) → n < length b → n < length c → ((k : ℕ) → k ≤ n → get_or c k 0 ≡ get_or b k 0) → take n c ≡ take n b
same_line b c n lb lc same =
    same_lists (take n c) (take n b) (length-take-le n c (omega arith) ∙ sym (length-take-le n b (omega arith)))
    (λ k d few. (let below : k < n = omega (arith, length-take-le n c (omega arith)) in
    get_or-take n c k d below ∙ get_or_default c k d 0 (omega arith) ∙ same k (omega arith) ∙ get_or_default b k 0 d (omega arith) ∙ sym (get_or-take n b k d below)))

pub record Stays (b c : List ℕ) (f : FoundHead) (used : ℕ) : Type 0 where
  pub some : 0 < used
  pub short : used ≤ 16
  pub fits : used ≤ length b
  pub stays : used ≤ length c → ((k : ℕ) → k < used → get_or c k 0 ≡ get_or b k 0) → head_in c ≡ f

-- a head in the front
pub head_stays : (b c : List ℕ) (h : Head) (used : ℕ) → head_in b ≡ found.Whole h used → Stays b c (found.Whole h used) used
unfolding head_in
head_stays b c h used e = go (position is_feed (take 16 b)) refl e where
  go : (o : Option ℕ) → position is_feed (take 16 b) ≡ o → found_line b o ≡ found.Whole h used → Stays b c (found.Whole h used) used
  go (Some n) at is = by (head_on (take n b)) refl is where
    by : (on : Option Head) → head_on (take n b) ≡ on → found_head (n + 1) on ≡ found.Whole h used → Stays b c (found.Whole h used) used
    by (Some other) on found_is =
        let counted : n + 1 ≡ used = cc in
        let found = position-Some is_feed (take 16 b) n 0 at in
        record {
          some = omega arith;
          short = omega (arith, found.0, length-take 16 b);
          fits = omega (arith, found.0, length-take 16 b);
          stays = λ long same.
              (let feed = same_feed b c n at (omega arith) (λ k few. same k (omega arith)) in
              let line = same_line b c n feed.1 (omega arith) (λ k few. same k (omega arith)) in
              rw (feed.2, line, on) found_is);
        }
    by None on found_is = cc
  go None at is = none (nat_lt (length b) 16) is where
    none : (short : Bool) → (if short then found.More else found.Fault) ≡ found.Whole h used → Stays b c (found.Whole h used) used
    none true never = cc
    none false never = cc

same_front : (b more : List ℕ) (used k : ℕ) → used ≤ length b → k < used → get_or (take used b ++ more) k 0 ≡ get_or b k 0
same_front b more used k fits few =
    let within : k < length (take used b) = omega (arith, length-take-le used b fits) in
    get_or_append_left (take used b) more 0 k within ∙ get_or-take used b k 0 few

-- the bytes that a head takes are its line, whatever follows
pub line_of : (b : List ℕ) (h : Head) (used : ℕ) → head_in b ≡ found.Whole h used → IsLineOf (take used b) h
line_of b h used e more =
    let s = head_stays b (take used b ++ more) h used e in
    let len : length (take used b) ≡ used = length-take-le used b s.fits in
    rw len (s.stays (omega (arith, length-append (take used b) more, len)) (λ k few. same_front b more used k s.fits few))

-- it is not whole in a front in which it was not found
pub line_used : (x y : List ℕ) (h : Head) (used : ℕ) → head_in x ≡ found.More → head_in (x ++ y) ≡ found.Whole h used → length x < used
line_used x y h used open_at e = by_cases (nat_lt (length x) used) refl where
  by_cases : (b : Bool) → nat_lt (length x) used ≡ b → length x < used
  by_cases true is = omega (arith, ltb-true (length x) used is)
  by_cases false is =
      let long : used ≤ length x = omega (arith, ltb-false (length x) used is) in
      let s = head_stays (x ++ y) x h used e in
      let whole = s.stays long (λ k few. (let within : k < length x = omega arith in sym (get_or_append_left x y 0 k within))) in
      let never : found.More ≡ found.Whole h used = sym open_at ∙ whole in cc

-- a line that is no head stays none
pub fault_stays : (b more : List ℕ) → head_in b ≡ found.Fault → head_in (b ++ more) ≡ found.Fault
unfolding head_in
fault_stays b more e = go (position is_feed (take 16 b)) refl e where
  go : (o : Option ℕ) → position is_feed (take 16 b) ≡ o → found_line b o ≡ found.Fault → found_line (b ++ more) (position is_feed (take 16 (b ++ more))) ≡ found.Fault
  go (Some n) at is =
      let found = position-Some is_feed (take 16 b) n 0 at in
      let long : n < length b = omega (arith, found.0, length-take 16 b) in
      let same = λ (k : ℕ) (few : k ≤ n). (let within : k < length b = omega arith in get_or_append_left b more 0 k within) in
      let feed = same_feed b (b ++ more) n at (omega (arith, length-append b more)) same in
      let line = same_line b (b ++ more) n long (omega (arith, length-append b more)) same in
      rw (feed.2, line) is
  go None at is = none (nat_lt (length b) 16) refl is where
    none : (short : Bool) → nat_lt (length b) 16 ≡ short → (if short then found.More else found.Fault) ≡ found.Fault
        → found_line (b ++ more) (position is_feed (take 16 (b ++ more))) ≡ found.Fault
    none true short no_fault = let never : found.More ≡ found.Fault = no_fault in cc
    none false short fault =
        let long : 16 ≤ length b = ltb-false (length b) 16 short in
        let front : take 16 (b ++ more) ≡ take 16 b = take-append-le 16 b more long in
        let still : nat_lt (length (b ++ more)) 16 ≡ false = le-ltb (length (b ++ more)) 16 (omega (arith, length-append b more)) in
        rw (front, at, still) refl

-- where nothing is decided there are fewer bytes than a head may have
pub more_short : (b : List ℕ) → head_in b ≡ found.More → length b < 16
unfolding head_in
more_short b e = go (position is_feed (take 16 b)) e where
  go : (o : Option ℕ) → found_line b o ≡ found.More → length b < 16
  go (Some n) is = by (head_on (take n b)) is where
    by : (on : Option Head) → found_head (n + 1) on ≡ found.More → length b < 16
    by (Some h) found_is = cc
    by None found_is = cc
  go None is = none (nat_lt (length b) 16) refl is where
    none : (short : Bool) → nat_lt (length b) 16 ≡ short → (if short then found.More else found.Fault) ≡ found.More → length b < 16
    none true short more = ltb-true (length b) 16 short
    none false short more = cc

-- a head keeps the limits
limits_on : (line : List ℕ) (h : Head) → head_on line ≡ Some h → IsHead h
unfolding head_on
limits_on line h e = go (number_in 32768 (before_first is_space line)) (size_in (after_first is_space line)) refl refl e where
  limited : (word : List ℕ) (s : InputSize) (o : Option ℕ) → number_in 268435456 word ≡ o → some_bytes o ≡ Some s → length_of s ≤ 268435456
  limited word s (Some n) on is =
      let same : size.Bytes n ≡ s = cc in
      rw (← same) (number_read 268435456 word n on).1
  limited word s None on is = cc

  sized : (word : List ℕ) (s : InputSize) (failed long : Bool)
      → (if failed then Some size.Failed else if long then Some size.Long else some_bytes (number_in 268435456 word)) ≡ Some s → length_of s ≤ 268435456
  sized word s true long is = let same : size.Failed ≡ s = cc in rw (← same) (omega arith)
  sized word s false true is = let same : size.Long ≡ s = cc in rw (← same) (omega arith)
  sized word s false false is = limited word s (number_in 268435456 word) refl is

  go : (n : Option ℕ) (s : Option InputSize) → number_in 32768 (before_first is_space line) ≡ n → size_in (after_first is_space line) ≡ s → both n s ≡ Some h → IsHead h
  go (Some n) (Some s) en es is =
      let same : record { words = n; input = s } ≡ h = cc in
      rw (← same) (record { words = (number_read 32768 (before_first is_space line) n en).1; input = sized (after_first is_space line) s _ _ es })
  go (Some n) None en es is = cc
  go None s en es is = cc

pub limits : (b : List ℕ) (h : Head) (used : ℕ) → head_in b ≡ found.Whole h used → IsHead h
unfolding head_in
limits b h used e = go (position is_feed (take 16 b)) e where
  go : (o : Option ℕ) → found_line b o ≡ found.Whole h used → IsHead h
  go (Some n) is = by (head_on (take n b)) refl is where
    by : (on : Option Head) → head_on (take n b) ≡ on → found_head (n + 1) on ≡ found.Whole h used → IsHead h
    by (Some other) on found_is = let same : other ≡ h = cc in limits_on (take n b) h (on ∙ ap (λ (x : Head). Some x) same)
    by None on found_is = cc
  go None is = none (nat_lt (length b) 16) is where
    none : (short : Bool) → (if short then found.More else found.Fault) ≡ found.Whole h used → IsHead h
    none true never = cc
    none false never = cc

-- ---- how the code finds it

place_found : (p : ℕ → Bool) (xs : List ℕ) (at : ℕ) → Some at ≡ position p xs → position_or_len p xs ≡ at
place_found p xs at e = go (nat_lt (position_or_len p xs) (length xs)) e where
  go : (b : Bool) → Some at ≡ cond b (Some (position_or_len p xs)) None → position_or_len p xs ≡ at
  go true is = cc
  go false is = cc

place_none : (p : ℕ → Bool) (xs : List ℕ) → None ≡ position p xs → length xs ≤ position_or_len p xs
place_none p xs e = go (nat_lt (position_or_len p xs) (length xs)) refl e where
  go : (b : Bool) → nat_lt (position_or_len p xs) (length xs) ≡ b → None ≡ cond b (Some (position_or_len p xs)) None → length xs ≤ position_or_len p xs
  go true eb is = (let never : None ≡ Some (position_or_len p xs) = is in cc)
  go false eb is = ltb-false (position_or_len p xs) (length xs) eb

pub head_parts : (line : List ℕ) (at : ℕ) (r : Option Head) → Some at ≡ position is_space line → r ≡ both (number_in 32768 (take at line)) (size_in (drop (at + 1) line)) → r ≡ head_on line
unfolding head_on
head_parts line at r e is = let place = place_found is_space line at e in rw place is

no_bytes : size_in [] ≡ None
no_bytes = let none : number_in 268435456 [] ≡ None = number_none 268435456 [] (λ n few is. (let some = decimal_nonempty n (omega arith) in let len : 0 ≡ length (decimal n) = ap length is in absurd (omega arith))) in rw none refl

both_none : (o : Option ℕ) → both o None ≡ None
both_none (Some n) = refl
both_none None = refl

pub head_none : (line : List ℕ) → None ≡ position is_space line → None ≡ head_on line
unfolding head_on
head_none line e =
    let long = place_none is_space line e in
    let behind : drop (position_or_len is_space line + 1) line ≡ [] = drop_all (position_or_len is_space line + 1) line (omega arith) in
    rw (behind, no_bytes) (sym (both_none (number_in 32768 (before_first is_space line))))

front_is : (n : ℕ) (bytes : List ℕ) → n ≡ min (length bytes) 16 → take n bytes ≡ take 16 bytes
front_is n bytes e = let same : n ≡ min 16 (length bytes) = omega arith in ap (λ (k : ℕ). take k bytes) same ∙ take_min 16 bytes

pub line_found : (bytes front : List ℕ) (n at : ℕ) (o : Option Head) → n ≡ min (length bytes) 16 → front ≡ take n bytes → Some at ≡ position is_feed front → o ≡ head_on (take at bytes)
    → found_head (at + 1) o ≡ head_in bytes
unfolding head_in
line_found bytes front n at o en ef e eo =
    let whole : front ≡ take 16 bytes = ef ∙ front_is n bytes en in
    let place : position is_feed (take 16 bytes) ≡ Some at = ap (position is_feed) (sym whole) ∙ sym e in
    rw (place, ← eo) refl

pub line_none : (bytes front : List ℕ) (n : ℕ) → n ≡ min (length bytes) 16 → front ≡ take n bytes → None ≡ position is_feed front
    → (if nat_lt (length bytes) 16 then found.More else found.Fault) ≡ head_in bytes
unfolding head_in
line_none bytes front n en ef e =
    let whole : front ≡ take 16 bytes = ef ∙ front_is n bytes en in
    let place : position is_feed (take 16 bytes) ≡ None = ap (position is_feed) (sym whole) ∙ sym e in
    rw place refl
