-- A payload within its frame.
use Rattle.std.proofs.Common.{◌≡◌, ℕ, ◌+◌, ◌-◌, List, [], ◌∷◌, ◌++◌, length, take, drop, refl, sym}
use Rattle.std.proofs.Common.{ap, ◌∙◌, subst, arith, length-append, append_assoc}
use Rattle.std.specs.Int.{w32, to_be_bytes}
use Rattle.std.proofs.Math.Seq.{take-append_seam, drop-append_seam}
use Rattle.outside.specs.Frames.{IsPayload}
use Rattle.frame_journal.specs.Append.{framed_of, payload_of, IsFramed}

be_long : (n : ℕ) → length (to_be_bytes w32 n) ≡ 4
be_long n = refl

pub framed_length : (p : List ℕ) → length (framed_of p) ≡ 5 + length p
framed_length p =
    let head = to_be_bytes w32 (length p) in
    omega (arith, be_long (length p), length-append head p, length-append (head ++ p) (0 ∷ []))

behind_head : (p : List ℕ) → drop 4 (framed_of p) ≡ p ++ 0 ∷ []
behind_head p =
    let head = to_be_bytes w32 (length p) in
    ap (drop 4) (append_assoc head p (0 ∷ []))
    ∙ ap (λ n. drop n (head ++ (p ++ 0 ∷ []))) (sym (be_long (length p)))
    ∙ drop-append_seam head (p ++ 0 ∷ [])

pub payload_framed : (p : List ℕ) → payload_of (framed_of p) ≡ p
payload_framed p =
    let n : length (framed_of p) - 5 ≡ length p = omega (arith, framed_length p) in
    ap (λ k. take k (drop 4 (framed_of p))) n ∙ ap (take (length p)) (behind_head p)
    ∙ take-append_seam p (0 ∷ [])

pub framed_so : (p : List ℕ) → IsPayload p → IsFramed (framed_of p)
framed_so p fits =
    let same = payload_framed p in
    record {
      fits = subst IsPayload (sym same) fits;
      spelled = ap framed_of (sym same);
    }

pub framed_long : (framed : List ℕ) → IsFramed framed → length framed ≡ 5 + length
    (payload_of framed)
framed_long framed is_framed = ap length is_framed.spelled ∙ framed_length (payload_of framed)

pub framed_as : (p framed : List ℕ) → framed ≡ framed_of p → IsPayload p → IsFramed framed
framed_as p framed is fits = subst IsFramed (sym is) (framed_so p fits)
