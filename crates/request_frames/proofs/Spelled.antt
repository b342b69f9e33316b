-- What is spelled is read back.
use Rattle.std.proofs.Common.{◌≡◌, ℕ, zero, suc, ◌+◌, ◌-◌, ◌^◌, ◌<◌, ◌≤◌, ◌==◌, Bool, true, false, List, [], ◌∷◌, ◌++◌, length, take, drop, get_or, refl, sym, ap, ◌∙◌, arith, length-append, ltb-true, ltb-false, ne_eqb}
use Rattle.std.specs.Prelude.{Some, nat_lt, codes, decimal}
use Rattle.std.specs.List.{position, position_or_len}
use Rattle.std.specs.Str.{bytes_eq}
use Rattle.std.proofs.lemmas.Bool.{false_from_ne_true}
use Rattle.std.proofs.lemmas.Str.Parse.{digit_at}
use Rattle.std.proofs.lemmas.Fmt.{decimal_is_IsNumeral, decimal_nonempty, length-decimal-le}
use Rattle.std.proofs.lemmas.List.{append_assoc, drop_at, get_or_append_left, get_or-append-add, get_or_at, get_or-take, length-take, take_at}
use Rattle.std.proofs.lemmas.List.Sums.{position_or_len_is}
use Rattle.std.proofs.lemmas.Slice.Eq.{bytes_eq-Decides}
use Rattle.request_frames.specs.Heads.{IsHead, head_in, head_on, head_text, is_feed, is_space, length_of, size_in, size_text}
use Rattle.request_frames.specs.Laws.{Answer, IsAnswer, answer_text}
use Rattle.request_frames.specs.Requests.{IsRequest, One, Request, found_in, head_of, request_text}
use Rattle.request_frames.specs.Reading.{IsLineOf}
use Rattle.request_frames.specs.declared.head.FoundHead.TheVariants as found
use Rattle.request_frames.specs.declared.head.Head.{Head}
use Rattle.request_frames.specs.declared.head.InputSize.{InputSize}
use Rattle.request_frames.specs.declared.head.InputSize.TheVariants as size
use Rattle.request_frames.proofs.Heads.{position_is}
use Rattle.request_frames.proofs.Numbers.{High, high_at, high_decimal, number_of, same_number}
use Rattle.request_frames.proofs.Stages.{found_line_at, input_there, words_there}

-- ---- a head

high_apart : (w : List ℕ) (x : ℕ) → High w → x < 48 → (k : ℕ) → k < length w → (get_or w k 0 == x) ≡ false
high_apart w x high low k within = ne_eqb (get_or w k 0) x (λ same. (let above = high_at w k high within in omega arith))

-- a word of digits is no word of letters
not_letters : (w letters : List ℕ) (n : ℕ) → 0 < length w → High w → get_or w 0 0 < 58 → 58 ≤ get_or letters 0 0 → bytes_eq w letters ≡ false
not_letters w letters n some high low letter =
    false_from_ne_true (bytes_eq w letters) (λ yes.
    (let same : w ≡ letters = (bytes_eq-Decides w letters).0 yes in
    let firsts : get_or w 0 0 ≡ get_or letters 0 0 = ap (λ (x : List ℕ). get_or x 0 0) same in omega arith))

first_low : (n : ℕ) → n < 2 ^ 64 → get_or (decimal n) 0 0 < 58
first_low n small = omega (arith, (digit_at (decimal n) 0 (decimal_is_IsNumeral n small).0.1 (decimal_nonempty n small)).1)

size_back : (s : InputSize) → length_of s ≤ 268435456 → size_in (size_text s) ≡ Some s
size_back (size.Bytes n) few =
    let small : n < 2 ^ 64 = omega arith in
    let some = decimal_nonempty n small in
    let high = high_decimal n small in
    let low = first_low n small in
    let failed : bytes_eq (decimal n) (codes "failed") ≡ false = not_letters (decimal n) (codes "failed") n some high low (omega arith) in
    let long : bytes_eq (decimal n) (codes "long") ≡ false = not_letters (decimal n) (codes "long") n some high low (omega arith) in
    rw (failed, long, number_of 268435456 n few small) refl
size_back size.Failed few = refl
size_back size.Long few = refl

-- no line feed stands in what a size is spelled by
size_apart : (s : InputSize) → length_of s ≤ 268435456 → (k : ℕ) → k < length (size_text s) → is_feed (get_or (size_text s) k 0) ≡ false
size_apart (size.Bytes n) few k within = high_apart (decimal n) 10 (high_decimal n (omega arith)) (omega arith) k within
size_apart size.Failed few k within = high_apart (codes "failed") 10 (omega arith, (omega arith, (omega arith, (omega arith, (omega arith, (omega arith, tt)))))) (omega arith) k within
size_apart size.Long few k within = high_apart (codes "long") 10 (omega arith, (omega arith, (omega arith, (omega arith, tt)))) (omega arith) k within

size_short : (s : InputSize) → length_of s ≤ 268435456 → length (size_text s) ≤ 9
size_short (size.Bytes n) few = length-decimal-le 9 n (omega arith) (omega arith) (omega arith)
size_short size.Failed few = omega arith
size_short size.Long few = omega arith

-- a line without its line feed
line_text : Head → List ℕ
line_text h = decimal h.words ++ (32 ∷ size_text h.input)

line_back : (h : Head) → IsHead h → head_on (line_text h) ≡ Some h
unfolding head_on line_text
line_back h is =
    let w : List ℕ = decimal h.words in
    let s : List ℕ = size_text h.input in
    let small : h.words < 2 ^ 64 = omega (arith, is.words) in
    let at : position_or_len is_space (w ++ 32 ∷ s) ≡ length w =
    position_or_len_is is_space (w ++ 32 ∷ s) (length w) 0 (omega (arith, length-append w (32 ∷ s)))
    (λ k few. ap is_space (get_or_append_left w (32 ∷ s) 0 k few) ∙ high_apart w 32 (high_decimal h.words small) (omega arith) k few)
    (λ _. ap is_space (get_or_at w 32 s 0 (length w) refl)) in
    let behind : drop (length w + 1) (w ++ 32 ∷ s) ≡ s =
    ap (drop (length w + 1)) (sym (append_assoc w (32 ∷ []) s)) ∙ drop_at (w ++ 32 ∷ []) s (length w + 1) (length-append w (32 ∷ [])) in
    rw (at, take_at w (32 ∷ s) (length w) refl, behind, number_of 32768 h.words is.words small, size_back h.input is.input) refl

-- no line feed stands in a line
line_apart : (h : Head) → IsHead h → h.words < 2 ^ 64 → (k : ℕ) → k < length (line_text h) → is_feed (get_or (line_text h) k 0) ≡ false
unfolding line_text
line_apart h is small k few = go (nat_lt k (length w)) refl where
  w : List ℕ
  w = decimal h.words

  s : List ℕ
  s = size_text h.input

  go : (b : Bool) → nat_lt k (length w) ≡ b → is_feed (get_or (w ++ (32 ∷ s)) k 0) ≡ false
  go true e =
      let within : k < length w = ltb-true k (length w) e in
      ap is_feed (get_or_append_left w (32 ∷ s) 0 k within) ∙ high_apart w 10 (high_decimal h.words small) (omega arith) k within
  go false e = behind (k - length w) (omega (arith, ltb-false k (length w) e)) where
    behind : (i : ℕ) → k ≡ length w + i → is_feed (get_or (w ++ (32 ∷ s)) k 0) ≡ false
    behind zero same = let at : get_or (w ++ (32 ∷ s)) k 0 ≡ 32 = get_or_at w 32 s 0 k (omega arith) in rw at refl
    behind (suc i) same =
        let at : get_or (w ++ (32 ∷ s)) k 0 ≡ get_or s i 0 = ap (λ (n : ℕ). get_or (w ++ (32 ∷ s)) n 0) same ∙ get_or-append-add w (32 ∷ s) (suc i) 0 in
        rw at (size_apart h.input is.input i (omega (arith, length-append w (32 ∷ s))))

pub head_back : (h : Head) (more : List ℕ) → IsHead h → head_in (head_text h ++ more) ≡ found.Whole h (length (head_text h))
unfolding head_in line_text
head_back h more is =
    let w : List ℕ = decimal h.words in
    let s : List ℕ = size_text h.input in
    let line : List ℕ = w ++ (32 ∷ s) in
    let small : h.words < 2 ^ 64 = omega (arith, is.words) in
    let text : head_text h ++ more ≡ line ++ (10 ∷ more) = append_assoc w (32 ∷ s ++ 10 ∷ []) more ∙ ap (λ (x : List ℕ). w ++ (32 ∷ x)) (append_assoc s (10 ∷ []) more) ∙ sym (append_assoc w (32 ∷ s) (10 ∷ more)) in
    let len_w : length w ≤ 5 = length-decimal-le 5 h.words (omega arith) (omega (arith, is.words)) small in
    let len_s : length s ≤ 9 = size_short h.input is.input in
    let len_line : length line ≡ length w + suc (length s) = length-append w (32 ∷ s) in
    let len : length (head_text h) ≡ length line + 1 = omega (arith, length-append w (32 ∷ s ++ 10 ∷ []), length-append s (10 ∷ []), len_line) in
    let x : List ℕ = line ++ (10 ∷ more) in
    let len_x : length x ≡ length line + suc (length more) = length-append line (10 ∷ more) in
    let feed : position is_feed (take 16 x) ≡ Some (length line) =
    position_is is_feed (take 16 x) (length line) (omega (arith, length-take 16 x, len_x, len_line))
    (ap is_feed (get_or-take 16 x (length line) 0 (omega (arith, len_line)) ∙ get_or_at line 10 more 0 (length line) refl))
    (λ k few. ap is_feed (get_or-take 16 x k 0 (omega (arith, len_line)) ∙ get_or_append_left line (10 ∷ more) 0 k few) ∙ line_apart h is small k few) in
    rw (text, len, feed, take_at line (10 ∷ more) (length line) refl, line_back h is) refl

-- ---- a request

pub request_back : (r : Request) (more : List ℕ) → IsRequest r → found_in (request_text r ++ more) ≡ One r more
request_back r more is =
    let h : Head = head_of r in
    let ok : IsHead h = record { words = is.short; input = is.limited } in
    let line : IsLineOf (head_text h) h = λ others. head_back h others ok in
    let same : request_text r ++ more ≡ head_text h ++ (r.words ++ (r.input ++ more)) =
    append_assoc (head_text h) (r.words ++ r.input) more ∙ ap (λ (x : List ℕ). head_text h ++ x) (append_assoc r.words r.input more) in
    ap found_in same ∙ found_line_at (head_text h) (r.words ++ (r.input ++ more)) h line
    ∙ words_there h r.words (r.input ++ more) true refl is.ended ∙ input_there r.size r.words r.input more is.sized

-- ---- an answer

tails : {x y : ℕ} {xs ys : List ℕ} → x ∷ xs ≡ y ∷ ys → xs ≡ ys
tails e = cc

same_answer : (a b : Answer) → a.status ≡ b.status → a.out ≡ b.out → a.error ≡ b.error → a ≡ b
same_answer a b s o r =
    ap (λ (x : ℕ). let c : Answer = record { status = x; out = a.out; error = a.error } in c) s
    ∙ ap (λ (x : List ℕ). let c : Answer = record { status = b.status; out = x; error = a.error } in c) o
    ∙ ap (λ (x : List ℕ). let c : Answer = record { status = b.status; out = b.out; error = x } in c) r

-- parts of one length are the same in the same bytes
same_parts : (xs ys rest others : List ℕ) → length xs ≡ length ys → xs ++ rest ≡ ys ++ others → (xs ≡ ys) × (rest ≡ others)
same_parts [] [] rest others len e = (refl, e)
same_parts [] (y ∷ ys) rest others len e = absurd (omega arith)
same_parts (x ∷ xs) [] rest others len e = absurd (omega arith)
same_parts (x ∷ xs) (y ∷ ys) rest others len e =
    let heads : x ≡ y = cc in
    let later = same_parts xs ys rest others (omega arith) (tails e) in
    (let front : xs ≡ ys = later.0 in cc, later.1)

laid : (a : Answer) (more : List ℕ) → answer_text a ++ more
    ≡ decimal a.status ++ (32 ∷ decimal (length a.out) ++ (32 ∷ decimal (length a.error) ++ (10 ∷ (a.out ++ (a.error ++ more)))))
laid a more = laid_out (decimal a.status) (decimal (length a.out)) (decimal (length a.error)) a.out a.error more where
  laid_out : (w o e x y m : List ℕ) → ((w ++ (32 ∷ o ++ (32 ∷ e ++ 10 ∷ []))) ++ (x ++ y)) ++ m ≡ w ++ (32 ∷ o ++ (32 ∷ e ++ (10 ∷ (x ++ (y ++ m)))))
  laid_out w o e x y m =
      let end : List ℕ = 10 ∷ [] in
      let tail : List ℕ = 32 ∷ (e ++ end) in
      let z : List ℕ = (x ++ y) ++ m in
      append_assoc (w ++ (32 ∷ (o ++ tail))) (x ++ y) m
      ∙ append_assoc w (32 ∷ (o ++ tail)) z
      ∙ ap (λ (u : List ℕ). w ++ (32 ∷ u)) (append_assoc o tail z)
      ∙ ap (λ (u : List ℕ). w ++ (32 ∷ (o ++ (32 ∷ u)))) (append_assoc e end z)
      ∙ ap (λ (u : List ℕ). w ++ (32 ∷ (o ++ (32 ∷ (e ++ (10 ∷ u)))))) (append_assoc x y m)

pub answers_back : (a b : Answer) (more others : List ℕ) → IsAnswer a → IsAnswer b → answer_text a ++ more ≡ answer_text b ++ others → (a ≡ b) × (more ≡ others)
answers_back a b more others ia ib e =
    let status = same_number a.status b.status 32 32 (decimal (length a.out) ++ (32 ∷ decimal (length a.error) ++ (10 ∷ (a.out ++ (a.error ++ more)))))
    (decimal (length b.out) ++ (32 ∷ decimal (length b.error) ++ (10 ∷ (b.out ++ (b.error ++ others))))) ia.status ib.status (omega arith) (omega arith)
    (sym (laid a more) ∙ e ∙ laid b others) in
    let outs = same_number (length a.out) (length b.out) 32 32 (decimal (length a.error) ++ (10 ∷ (a.out ++ (a.error ++ more))))
    (decimal (length b.error) ++ (10 ∷ (b.out ++ (b.error ++ others)))) ia.out ib.out (omega arith) (omega arith) (tails status.1) in
    let errors = same_number (length a.error) (length b.error) 10 10 (a.out ++ (a.error ++ more)) (b.out ++ (b.error ++ others)) ia.error ib.error (omega arith) (omega arith) (tails outs.1) in
    let texts : a.out ++ (a.error ++ more) ≡ b.out ++ (b.error ++ others) = tails errors.1 in
    let out = same_parts a.out b.out (a.error ++ more) (b.error ++ others) outs.0 texts in
    let error = same_parts a.error b.error more others errors.0 out.1 in
    (let s : a.status ≡ b.status = status.0 in let o : a.out ≡ b.out = out.0 in let r : a.error ≡ b.error = error.0 in same_answer a b s o r, error.1)
