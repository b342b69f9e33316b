-- What stands at the front of some bytes, by places.
use Rattle.std.proofs.Common.{◌≡◌, ◌≢◌, ◌⊎◌, inl, inr, ℕ, ◌+◌, ◌*◌, ◌^◌, ◌<◌, ◌≤◌, Bool, true, false, List, [], ◌∷◌, length, take, drop, slice_index, refl, ap, ◌∙◌, arith, length-drop}
use Rattle.std.specs.Prelude.{Option, Some, None, ◌==◌, nat_lt, if◌then◌else◌}
use Rattle.std.proofs.lemmas.List.{length-take-le}
use Rattle.std.proofs.lemmas.Bool.Decides.{nat_tests}
use Rattle.record_grammar.specs.Reading.{AnswersBytes, decided_by, decided_header, decided_payload, decided_rest, front_in, kind_of, refused_for, refused_length, timestamp_in}
use Rattle.record_grammar.specs.declared.front.Front.TheVariants as front
use Rattle.record_grammar.specs.declared.front.Kind.{Kind}
use Rattle.record_grammar.specs.declared.front.Kind.TheVariants as kind
use Rattle.record_grammar.specs.declared.front.Reason.{Reason}
use Rattle.record_grammar.specs.declared.front.Reason.TheVariants as reason

pub front_none : (b : List ℕ) → length b ≡ 0 → front_in b ≡ front.More
unfolding front_in
front_none [] none = refl
front_none (x ∷ b) none = absurd (omega arith)

pub front_version : (b : List ℕ) → 0 < length b → slice_index b 0 ≢ 0 → front_in b ≡ front.Bad reason.WrongVersion
unfolding front_in
front_version [] some wrong = absurd (omega arith)
front_version (x ∷ b) some wrong =
    let other : (x == 0) ≡ false = grind (arith, nat_tests) in
    rw other refl

pub front_short : (b : List ℕ) → slice_index b 0 ≡ 0 → length b < 4 → front_in b ≡ front.More
unfolding front_in
front_short [] right short = refl
front_short (v ∷ []) right short = rw right refl
front_short (v ∷ t ∷ []) right short = rw right refl
front_short (v ∷ t ∷ h ∷ []) right short = rw right refl
front_short (v ∷ t ∷ h ∷ l ∷ b) right short = absurd (omega arith)

pub front_header : (b : List ℕ) → slice_index b 0 ≡ 0 → 4 ≤ length b
    → front_in b ≡ decided_header (kind_of (slice_index b 1)) (slice_index b 1) (slice_index b 2 * 256 + slice_index b 3) (drop 4 b)
unfolding front_in
front_header [] right whole = absurd (omega arith)
front_header (v ∷ []) right whole = absurd (omega arith)
front_header (v ∷ t ∷ []) right whole = absurd (omega arith)
front_header (v ∷ t ∷ h ∷ []) right whole = absurd (omega arith)
front_header (v ∷ t ∷ h ∷ l ∷ b) right whole = rw right refl

-- the third point decides for the whole payload or for a bad time
pub payload_cases : (k : Kind) (t : ℕ) (p : List ℕ) → (decided_payload k t p ≡ front.Whole t (length p)) ⊎ (decided_payload k t p ≡ front.Bad reason.BadTimestamp)
payload_cases kind.Message t p =
    elim (nat_lt (timestamp_in p) (2 ^ 63)) as (λ b. ((if b then front.Whole t (length p) else front.Bad reason.BadTimestamp) ≡ front.Whole t (length p)) ⊎ ((if b then front.Whole t (length p) else front.Bad reason.BadTimestamp) ≡ front.Bad reason.BadTimestamp)) [
      | true ↦ inl refl
      | false ↦ inr refl
    ]
payload_cases _ t p = inl refl

-- a length that passes is at most the greatest
pub refused_long : (k : Kind) (len : ℕ) → refused_length k len ≡ None → len ≤ 49152
refused_long k len e = go (nat_lt 49152 len) refl e where
  go : (b : Bool) → nat_lt 49152 len ≡ b → (if b then Some reason.TooLong else refused_for k len) ≡ None → len ≤ 49152
  go true f e = cc
  go false f e = grind (arith, nat_tests)

whole_backs : (b : List ℕ) (t len : ℕ) → 4 + len ≤ length b → refused_length (kind_of t) len ≡ None
    → AnswersBytes b (decided_payload (kind_of t) t (take len (drop 4 b)))
whole_backs b t len fits passes =
    let p : List ℕ = take len (drop 4 b) in
    let len_p : length p ≡ len = length-take-le len (drop 4 b) (omega (arith, length-drop 4 b)) in
    elim (payload_cases (kind_of t) t p) [
      | inl e ↦ rw (e, len_p) (record { fits = fits; passes = passes; decided = e ∙ ap (λ (n : ℕ). front.Whole t n) len_p })
      | inr e ↦ rw e tt
    ]

pub header_backs : (b : List ℕ) (t len : ℕ) → 4 ≤ length b → AnswersBytes b (decided_header (kind_of t) t len (drop 4 b))
header_backs b t len whole = go (refused_length (kind_of t) len) refl (nat_lt (length (drop 4 b)) len) refl where
  go : (o : Option Reason) → refused_length (kind_of t) len ≡ o → (w : Bool) → nat_lt (length (drop 4 b)) len ≡ w
      → AnswersBytes b (decided_by o (if w then front.More else decided_payload (kind_of t) t (take len (drop 4 b))))
  go (Some why) e w f = tt
  go None e true f =
      let most : len ≤ 49152 = refused_long (kind_of t) len e in
      let short : length (drop 4 b) < len = grind (arith, nat_tests) in
      omega (arith, length-drop 4 b)
  go None e false f =
      let fits : len ≤ length (drop 4 b) = grind (arith, nat_tests) in
      whole_backs b t len (omega (arith, length-drop 4 b)) e

-- the answer for any bytes
pub front_backs : (b : List ℕ) → AnswersBytes b (front_in b)
unfolding front_in
front_backs [] = omega arith
front_backs (v ∷ b) = go (v == 0) b where
  go : (w : Bool) (b : List ℕ) → AnswersBytes (v ∷ b) (if w then decided_rest b else front.Bad reason.WrongVersion)
  go false b = tt
  go true [] = omega arith
  go true (t ∷ []) = omega arith
  go true (t ∷ h ∷ []) = omega arith
  go true (t ∷ h ∷ l ∷ rest) = header_backs (v ∷ t ∷ h ∷ l ∷ rest) t (h * 256 + l) (omega arith)
