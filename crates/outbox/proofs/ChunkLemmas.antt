-- What more bytes change.
use Rattle.std.proofs.Common.{◌≡◌, ◌==◌, true, false, ℕ, zero, suc, ◌+◌, ◌<◌, ◌≤◌, List, [], ◌∷◌, ◌++◌, length, drop, refl, sym, ap, ◌∙◌, append_assoc, arith, length-append}
use Rattle.std.proofs.lemmas.List.{drop-append-le}
use Rattle.std.proofs.lemmas.Bool.Decides.{nat_tests}
use Rattle.std.specs.Global.{Vec}
use Rattle.outbox.specs.Chunks.{AreFull, IsOutbox, TakesOver, bytes_of, first_of}

bytes_more : (chunks : List (Vec ℕ)) (last more : List ℕ) → bytes_of chunks (last ++ more) ≡ bytes_of chunks last ++ more
bytes_more [] last more = refl
bytes_more (c ∷ chunks) last more =
    ap (λ (b : List ℕ). c.items ++ b) (bytes_more chunks last more) ∙ sym (append_assoc c.items (bytes_of chunks last) more)

bytes_moved : (chunks : List (Vec ℕ)) (c : Vec ℕ) (last : List ℕ) → bytes_of (chunks ++ c ∷ []) last ≡ bytes_of chunks (c.items ++ last)
bytes_moved [] c last = refl
bytes_moved (d ∷ chunks) c last = ap (λ (b : List ℕ). d.items ++ b) (bytes_moved chunks c last)

full_moved : (chunks : List (Vec ℕ)) (c : Vec ℕ) → 0 < length c.items → AreFull chunks → AreFull (chunks ++ c ∷ [])
full_moved [] c some full = (some, tt)
full_moved (d ∷ chunks) c some full = (full.0, full_moved chunks c some full.1)

first_moved : (chunks : List (Vec ℕ)) (c : Vec ℕ) (last : List ℕ) → first_of (chunks ++ c ∷ []) last ≡ first_of chunks c.items
first_moved [] c last = refl
first_moved (d ∷ chunks) c last = refl

first_more : (chunks : List (Vec ℕ)) (last more : List ℕ) → length (first_of chunks last) ≤ length (first_of chunks (last ++ more))
first_more [] last more = omega (arith, length-append last more)
first_more (d ∷ chunks) last more = omega arith

first_within : (chunks : List (Vec ℕ)) (last : List ℕ) → length (first_of chunks last) ≤ length (bytes_of chunks last)
first_within [] last = omega arith
first_within (d ∷ chunks) last = omega (arith, length-append d.items (bytes_of chunks last))

-- what has gone is within all bytes
gone_within : (chunks : List (Vec ℕ)) (last : List ℕ) (gone waits : ℕ) → IsOutbox chunks last gone waits → gone ≤ length (bytes_of chunks last)
gone_within chunks last zero waits is = omega arith
gone_within chunks last (suc gone) waits is = omega (arith, is.left (omega arith), first_within chunks last)

-- ---- more bytes lie behind

pub view_more : (chunks : List (Vec ℕ)) (last more : List ℕ) (gone waits : ℕ) → IsOutbox chunks last gone waits
    → drop gone (bytes_of chunks (last ++ more)) ≡ drop gone (bytes_of chunks last) ++ more
view_more chunks last more gone waits is =
    ap (λ (b : List ℕ). drop gone b) (bytes_more chunks last more)
    ∙ drop-append-le gone (bytes_of chunks last) more (gone_within chunks last gone waits is)

pub more_wait : (chunks : List (Vec ℕ)) (last more : List ℕ) (gone waits waits' : ℕ) → IsOutbox chunks last gone waits
    → waits' ≡ waits + length more → IsOutbox chunks (last ++ more) gone waits'
more_wait chunks last more gone waits waits' is counted = record {
  full = is.full;
  left = λ some. omega (arith, is.left some, first_more chunks last more);
  counted = omega (
    arith,
    counted,
    is.counted,
    ap length (view_more chunks last more gone waits is),
    length-append (drop gone (bytes_of chunks last)) more,
  );
}

-- ---- two chunks more

pub takes_one : (chunks : List (Vec ℕ)) (last : List ℕ) (long : Vec ℕ) → last ≡ [] → 0 < length long.items
    → TakesOver chunks (chunks ++ long ∷ []) last long.items
takes_one chunks last long none some = record {
  bytes = λ behind. bytes_moved chunks long behind ∙ ap (λ (l : List ℕ). bytes_of chunks (l ++ (long.items ++ behind))) (sym none);
  full = λ full. full_moved chunks long some full;
  first = λ behind. omega (
    arith,
    first_more chunks [] long.items,
    ap length (first_moved chunks long behind),
    ap (λ (l : List ℕ). length (first_of chunks l)) none,
  );
}

pub takes_two : (chunks : List (Vec ℕ)) (last long : Vec ℕ) → 0 < length last.items → 0 < length long.items
    → TakesOver chunks ((chunks ++ last ∷ []) ++ long ∷ []) last.items long.items
takes_two chunks last long full some = record {
  bytes = λ behind. bytes_moved (chunks ++ last ∷ []) long behind ∙ bytes_moved chunks last (long.items ++ behind);
  full = λ all. full_moved (chunks ++ last ∷ []) long some (full_moved chunks last full all);
  first = λ behind. omega (
    arith,
    ap length (first_moved (chunks ++ last ∷ []) long behind),
    ap length (first_moved chunks last long.items),
  );
}

module _ (old new : List (Vec ℕ)) (last before long behind : List ℕ) (gone waits waits' : ℕ)
    (is : IsOutbox old last gone waits) (takes : TakesOver old new (last ++ before) long) where
  pub view_long : drop gone (bytes_of new behind) ≡ drop gone (bytes_of old last) ++ (before ++ (long ++ behind))
  view_long =
      ap (λ (b : List ℕ). drop gone b) (takes.bytes behind)
      ∙ ap (λ (b : List ℕ). drop gone (bytes_of old b)) (append_assoc last before (long ++ behind))
      ∙ view_more old last (before ++ (long ++ behind)) gone waits is

  pub long_waits : waits' ≡ waits + (length before + (length long + length behind)) → IsOutbox new behind gone waits'
  long_waits counted = record {
    full = takes.full is.full;
    left = λ some. omega (arith, is.left some, first_more old last before, takes.first behind);
    counted = omega (
      arith,
      counted,
      is.counted,
      ap length view_long,
      length-append (drop gone (bytes_of old last)) (before ++ (long ++ behind)),
      length-append before (long ++ behind),
      length-append long behind,
    );
  }

-- ---- what a test for no bytes says

pub not_none : (m n : ℕ) → false ≡ (m == 0) → m ≡ n → 0 < n
not_none zero n test is = cc
not_none (suc m) n test is = omega (arith, is)

pub no_length : (m : ℕ) (xs : List ℕ) → true ≡ (m == 0) → m ≡ length xs → xs ≡ []
no_length m [] test is = refl
no_length zero (x ∷ xs) test is = absurd (omega (arith, is))
no_length (suc m) (x ∷ xs) test is = absurd (grind (arith, nat_tests))
