-- The requests of a stream, one by one.
use Rattle.std.proofs.Common.{◌≡◌, ℕ, zero, suc, ◌<◌, ◌≤◌, Bool, true, false, List, [], ◌∷◌, length, take, drop, refl, sym, ap, ◌∙◌, arith, length-drop}
use Rattle.std.specs.Prelude.{nat_lt, if◌then◌else◌}
use Rattle.request_frames.specs.Requests.{Found, Fault, More, One, Parsed, Request, are_words, before, ending, ending_for, found_at, found_behind, found_in, found_words, parsed, requests, rest, step, stop}
use Rattle.request_frames.specs.Heads.{head_in, length_of}
use Rattle.request_frames.specs.declared.head.FoundHead.{FoundHead}
use Rattle.request_frames.specs.declared.head.FoundHead.TheVariants as head
use Rattle.request_frames.specs.declared.head.Head.{Head}
use Rattle.request_frames.specs.declared.head.InputSize.{InputSize}
use Rattle.request_frames.proofs.Heads.{head_stays}

left_of : (n : ℕ) (b left : List ℕ) (q r : Request) → One q (drop n b) ≡ One r left → length left ≤ length b
left_of n b left q r is =
    let same : drop n b ≡ left = cc in
    omega (arith, ap length same, length-drop n b)

behind_shorter : (size : InputSize) (words b : List ℕ) (r : Request) (left : List ℕ) → found_behind size words b ≡ One r left → length left ≤ length b
behind_shorter size words b r left e = go (nat_lt (length b) (length_of size)) e where
  go : (short : Bool)
      → (if short then More else One (record { words = words; size = size; input = take (length_of size) b }) (drop (length_of size) b)) ≡ One r left → length left ≤ length b
  go true is = cc
  go false is = left_of (length_of size) b left (record { words = words; size = size; input = take (length_of size) b }) r is

words_shorter : (h : Head) (b : List ℕ) (r : Request) (left : List ℕ) → found_words h b ≡ One r left → length left ≤ length b
words_shorter h b r left e = go (nat_lt (length b) h.words) (are_words (take h.words b)) e where
  go : (short ended : Bool)
      → (if short then More else if ended then found_behind h.input (take h.words b) (drop h.words b) else Fault) ≡ One r left → length left ≤ length b
  go true ended is = cc
  go false true is = omega (arith, behind_shorter h.input (take h.words b) (drop h.words b) r left is, length-drop h.words b)
  go false false is = cc

-- a request takes some bytes
pub found_shorter : (b : List ℕ) (r : Request) (left : List ℕ) → found_in b ≡ One r left → length left < length b
unfolding found_in
found_shorter b r left e = go (head_in b) refl e where
  go : (f : FoundHead) → head_in b ≡ f → found_at f b ≡ One r left → length left < length b
  go (head.Whole h used) is found =
      let s = head_stays b b h used is in
      omega (arith, words_shorter h (drop used b) r left found, length-drop used b, s.some, s.fits)
  go head.More is found = cc
  go head.Fault is found = cc

pub found_nil : found_in [] ≡ More
unfolding found_in head_in
found_nil = refl

parsed_none : (n : ℕ) → parsed n [] ≡ stop []
unfolding parsed
parsed_none zero = refl
parsed_none (suc n) = rw found_nil refl

-- with as many steps as there are bytes, more steps make no difference
parsed_same : (n m : ℕ) (b : List ℕ) → length b ≤ n → length b ≤ m → parsed n b ≡ parsed m b
unfolding parsed
parsed_same zero zero b few enough = refl
parsed_same zero (suc m) [] few enough = parsed_none zero ∙ sym (parsed_none (suc m))
parsed_same zero (suc m) (x ∷ b) few enough = absurd (omega arith)
parsed_same (suc n) zero [] few enough = parsed_none (suc n) ∙ sym (parsed_none zero)
parsed_same (suc n) zero (x ∷ b) few enough = absurd (omega arith)
parsed_same (suc n) (suc m) b few enough = go (found_in b) refl (λ left fewer enough_too. parsed_same n m left fewer enough_too) where
  go : (f : Found) → found_in b ≡ f → ((left : List ℕ) → length left ≤ n → length left ≤ m → parsed n left ≡ parsed m left)
      → step f b (λ later. parsed n later) ≡ step f b (λ later. parsed m later)
  go (One r left) e same =
      let shorter = found_shorter b r left e in
      ap (before r) (same left (omega arith) (omega arith))
  go More e same = refl
  go Fault e same = refl

parsed_one : (b : List ℕ) (r : Request) (left : List ℕ) → found_in b ≡ One r left → parsed (length b) b ≡ before r (parsed (length left) left)
unfolding parsed
parsed_one [] r left e = let never : More ≡ One r left = sym found_nil ∙ e in cc
parsed_one (x ∷ b) r left e =
    let shorter = found_shorter (x ∷ b) r left e in
    let same = parsed_same (length b) (length left) left (omega arith) (omega arith) in
    rw (e, same) refl

-- the first request, and those behind it
pub record FirstIs (b : List ℕ) (r : Request) (left : List ℕ) : Type 0 where
  pub requests_are : requests b ≡ r ∷ requests left
  pub ending_is : ending b ≡ ending left

pub first_is : (b : List ℕ) (r : Request) (left : List ℕ) → found_in b ≡ One r left → FirstIs b r left
unfolding requests ending rest
first_is b r left e =
    let one = parsed_one b r left e in
    record {
      requests_are = ap (λ (p : Parsed). p.requests) one;
      ending_is = ap (λ (p : Parsed). ending_for p.rest (found_in p.rest)) one;
    }

-- where none stands in front there is none
pub record NoneIs (b : List ℕ) (f : Found) : Type 0 where
  pub none : requests b ≡ []
  pub ending_is : ending b ≡ ending_for b f

parsed_stops : (b : List ℕ) (f : Found) → found_in b ≡ f → ((r : Request) (left : List ℕ) → f ≡ One r left → ⊥) → parsed (length b) b ≡ stop b
unfolding parsed
parsed_stops [] f e none = refl
parsed_stops (x ∷ b) (One r left) e none = absurd (none r left refl)
parsed_stops (x ∷ b) More e none = rw e refl
parsed_stops (x ∷ b) Fault e none = rw e refl

none_is : (b : List ℕ) (f : Found) → found_in b ≡ f → ((r : Request) (left : List ℕ) → f ≡ One r left → ⊥) → NoneIs b f
unfolding requests ending rest
none_is b f e none =
    let stops = parsed_stops b f e none in
    record {
      none = ap (λ (p : Parsed). p.requests) stops;
      ending_is = ap (λ (p : Parsed). ending_for p.rest (found_in p.rest)) stops ∙ ap (ending_for b) e;
    }

pub more_is : (b : List ℕ) → found_in b ≡ More → NoneIs b More
more_is b e = none_is b More e (λ r left is. cc)

pub fault_is : (b : List ℕ) → found_in b ≡ Fault → NoneIs b Fault
fault_is b e = none_is b Fault e (λ r left is. cc)
