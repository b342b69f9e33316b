-- What the kind of a byte of type says of the byte.
use Rattle.std.proofs.Common.{◌≡◌, ◌≢◌, ℕ, ◌+◌, ◌<◌, Bool, true, false, refl, arith}
use Rattle.std.specs.Prelude.{◌==◌, if◌then◌else◌}
use Rattle.std.proofs.lemmas.Bool.{eqb-true, eqb-false}
use Rattle.record_grammar.specs.Reading.{kind_of}
use Rattle.record_grammar.specs.declared.front.Kind.{Kind}
use Rattle.record_grammar.specs.declared.front.Kind.TheVariants as kind

abbrev pub Says : Kind → ℕ → Type 0
Says kind.Ack t = t ≡ 0
Says kind.Message t = t ≡ 1
Says kind.Offer t = t ≡ 2
Says kind.Request t = t ≡ 3
Says kind.Versions t = t ≡ 4
Says kind.Priority t = t ≡ 5
Says kind.Other t = 5 < t

next : (n t : ℕ) → n < t + 1 → (t == n) ≡ false → n < t
next n t reach e = let other : t ≢ n = eqb-false t n e in omega arith

says_5 : (t : ℕ) → 4 < t → Says (if t == 5 then kind.Priority else kind.Other) t
says_5 t more = go (t == 5) refl where
  go : (b : Bool) → (t == 5) ≡ b → Says (if b then kind.Priority else kind.Other) t
  go true e = eqb-true t 5 e
  go false e = next 5 t (omega arith) e

says_4 : (t : ℕ) → 3 < t → Says (if t == 4 then kind.Versions else if t == 5 then kind.Priority else kind.Other) t
says_4 t more = go (t == 4) refl where
  go : (b : Bool) → (t == 4) ≡ b → Says (if b then kind.Versions else if t == 5 then kind.Priority else kind.Other) t
  go true e = eqb-true t 4 e
  go false e = says_5 t (next 4 t (omega arith) e)

says_3 : (t : ℕ) → 2 < t → Says (if t == 3 then kind.Request else if t == 4 then kind.Versions else if t == 5 then kind.Priority else kind.Other) t
says_3 t more = go (t == 3) refl where
  go : (b : Bool) → (t == 3) ≡ b → Says (if b then kind.Request else if t == 4 then kind.Versions else if t == 5 then kind.Priority else kind.Other) t
  go true e = eqb-true t 3 e
  go false e = says_4 t (next 3 t (omega arith) e)

says_2 : (t : ℕ) → 1 < t → Says (if t == 2 then kind.Offer else if t == 3 then kind.Request else if t == 4 then kind.Versions else if t == 5 then kind.Priority else kind.Other) t
says_2 t more = go (t == 2) refl where
  go : (b : Bool) → (t == 2) ≡ b → Says (if b then kind.Offer else if t == 3 then kind.Request else if t == 4 then kind.Versions else if t == 5 then kind.Priority else kind.Other) t
  go true e = eqb-true t 2 e
  go false e = says_3 t (next 2 t (omega arith) e)

says_1 : (t : ℕ) → 0 < t → Says (if t == 1 then kind.Message else if t == 2 then kind.Offer else if t == 3 then kind.Request else if t == 4 then kind.Versions else if t == 5 then kind.Priority else kind.Other) t
says_1 t more = go (t == 1) refl where
  go : (b : Bool) → (t == 1) ≡ b → Says (if b then kind.Message else if t == 2 then kind.Offer else if t == 3 then kind.Request else if t == 4 then kind.Versions else if t == 5 then kind.Priority else kind.Other) t
  go true e = eqb-true t 1 e
  go false e = says_2 t (next 1 t (omega arith) e)

pub kind_says : (t : ℕ) → Says (kind_of t) t
kind_says t = go (t == 0) refl where
  go : (b : Bool) → (t == 0) ≡ b → Says (if b then kind.Ack else if t == 1 then kind.Message else if t == 2 then kind.Offer else if t == 3 then kind.Request else if t == 4 then kind.Versions else if t == 5 then kind.Priority else kind.Other) t
  go true e = eqb-true t 0 e
  go false e = says_1 t (next 0 t (omega arith) e)

-- a byte above 5 is of no kind
pub kind_other : (t : ℕ) → 5 < t → kind_of t ≡ kind.Other
kind_other t more = go (kind_of t) (kind_says t) where
  go : (k : Kind) → Says k t → k ≡ kind.Other
  go kind.Ack e = absurd (omega arith)
  go kind.Message e = absurd (omega arith)
  go kind.Offer e = absurd (omega arith)
  go kind.Request e = absurd (omega arith)
  go kind.Versions e = absurd (omega arith)
  go kind.Priority e = absurd (omega arith)
  go kind.Other e = refl
