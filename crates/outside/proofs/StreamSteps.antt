-- One more piece read or written.
use Rattle.std.proofs.Common.{◌≡◌, ℕ, ◌+◌, ◌-◌, ◌<◌, ◌≤◌, min, Bool, true, eqb, List, [], ◌++◌, length, take, drop, get_or, replicate, Option, sym, ap, ◌∙◌, subst, arith, length-take, length-drop, take-append-drop, inr}
use Rattle.std.specs.Io.KnownBytes.{Appends, Consumes}
use Rattle.std.specs.List.{list_any}
use Rattle.std.proofs.KnownBytes.{Appends-trans, Consumes-trans}
use Rattle.std.proofs.Math.Seq.{take-add, take-append_seam}
use Rattle.std.proofs.lemmas.List.{take_more, take-append-le, take_all, drop-drop, drop_all}
use Rattle.outside.specs.Faults.{is_listed, CountRose}
use Rattle.outside.specs.Input.{ReadsPart, ReadsTooMuch}
use Rattle.outside.specs.Streams.{Stream, GetsText}

pub appends_next : (a b c : Option (List ℕ)) (bytes : List ℕ) (done n : ℕ) → Appends a b (take done bytes) → Appends b c (take n (take (length bytes - done) (drop done bytes))) → Appends a c (take (done + n) bytes)
appends_next a b c bytes done n p q =
    let whole : take (length bytes - done) (drop done bytes) ≡ drop done bytes = take_all (length bytes - done) (drop done bytes) (omega (arith, length-drop done bytes)) in
    let joined : take done bytes ++ take n (take (length bytes - done) (drop done bytes)) ≡ take (done + n) bytes =
    ap (λ l. take done bytes ++ take n l) whole ∙ sym (take-add done n bytes) in
    subst (Appends a c) joined (Appends-trans a b c _ _ p q)

-- a front of a text was written, and then a call failed
pub gets_part : (old new : Stream) (text : List ℕ) (done : ℕ) → Appends old.bytes new.bytes (take done text) → CountRose old.faults new.faults → GetsText old new text
gets_part old new text done appended rose =
    (record { got = take done text; rest = drop done text; front = sym (take-append-drop done text); appended = appended }, inr rose)

-- what lies before the new room is as it was
pub front_kept : (old roomy filled : List ℕ) (had more k : ℕ) → had ≡ length old → roomy ≡ take (had + more) old ++ replicate k 0 → take had filled ≡ take had roomy → take had filled ≡ old
front_kept old roomy filled had more k is_length is_roomy same =
    let whole : take (had + more) old ≡ old = take_all (had + more) old (omega arith) in
    let front : take had roomy ≡ take had old =
    ap (take had) (is_roomy ∙ ap (λ l. l ++ replicate k 0) whole) ∙ take-append-le had old (replicate k 0) (omega arith) in
    same ∙ front ∙ take_all had old (omega arith)

pub reads_next : (most had n : ℕ) (first mid last : Option (List ℕ)) (old filled : List ℕ) → ReadsPart most first mid old → take had filled ≡ old → Consumes mid last (take n (drop had filled)) → had + n ≤ most → ReadsPart most first last (take (had + n) filled)
reads_next most had n first mid last old filled part front read fits = record {
  consumed = subst (Consumes first last) (ap (λ l. l ++ take n (drop had filled)) (sym front) ∙ sym (take-add had n filled)) (Consumes-trans first mid last _ _ part.consumed read);
  within = omega (arith, length-take (had + n) filled);
}

pub reads_over : (most had n : ℕ) (first mid last : Option (List ℕ)) (old filled : List ℕ) → ReadsPart most first mid old → take had filled ≡ old → Consumes mid last (take n (drop had filled)) → had + n ≡ most + 1 → had + n ≤ length filled → ReadsTooMuch most first last (take most filled)
reads_over most had n first mid last old filled part front read over there = record {
  byte = get_or filled most 0;
  consumed =
      subst (Consumes first last)
      (ap (λ l. l ++ take n (drop had filled)) (sym front) ∙ sym (take-add had n filled) ∙ ap (λ k. take k filled) over ∙ take_more filled most 0 (omega arith))
      (Consumes-trans first mid last _ _ part.consumed read);
  full = omega (arith, length-take most filled);
}

-- what a read from a list of bytes gives and leaves
pub given_front : (bytes buf copied : List ℕ) (at n len : ℕ) → copied ≡ take (at + n - at) (drop at bytes) → n ≡ min (length buf) (len - at) → len ≡ length bytes → drop at bytes ≡ take n (copied ++ drop n buf) ++ drop (at + n) bytes
given_front bytes buf copied at n len is_copied is_n is_len =
    let still : at + n - at ≡ n = omega arith in
    let same : copied ≡ take n (drop at bytes) = is_copied ∙ ap (λ k. take k (drop at bytes)) still in
    let long : length copied ≡ n = ap length same ∙ omega (arith, length-take n (drop at bytes), length-drop at bytes) in
    let front : take n (copied ++ drop n buf) ≡ copied = ap (λ k. take k (copied ++ drop n buf)) (sym long) ∙ take-append_seam copied (drop n buf) in
    sym (take-append-drop n (drop at bytes)) ∙ ap (λ l. l ++ drop n (drop at bytes)) (sym (front ∙ same)) ∙ ap (λ l. take n (copied ++ drop n buf) ++ l) (drop-drop n at bytes)

pub nothing_left : (bytes buf copied : List ℕ) (at n len : ℕ) → copied ≡ take (at + n - at) (drop at bytes) → n ≡ min (length buf) (len - at) → len ≡ length bytes → n ≡ 0 → 0 < length (copied ++ drop n buf) → drop (at + n) bytes ≡ []
nothing_left bytes buf copied at n len is_copied is_n is_len none room =
    let still : at + n - at ≡ 0 = omega arith in
    let same : copied ++ drop n buf ≡ buf =
    ap (λ l. l ++ drop n buf) (is_copied ∙ ap (λ k. take k (drop at bytes)) still) ∙ ap (λ k. drop k buf) none in
    let long : 0 < length buf = subst (λ (l : List ℕ). 0 < length l) same room in
    drop_all (at + n) bytes (omega arith)

-- a call that was found in a list is one that it has
pub listed_so : (b : Bool) (given items : List ℕ) (call : ℕ) → b ≡ list_any (λ y. eqb y call) given → given ≡ items → b ≡ true → is_listed items call ≡ true
listed_so b given items call is_any same has = ap (λ l. is_listed l call) (sym same) ∙ sym is_any ∙ has
