-- Messages that go again before their time: as time goes on, or for a longer latency, an expiry only rises.
use Rattle.std.proofs.Common.{◌≡◌, ℕ, suc, ◌+◌, ◌-◌, ◌*◌, ◌^◌, ◌<◌, ◌≤◌, min, Bool, true, false, nat_lt, refl, sym, ap, subst, ◌∙◌, arith, inl, inr}
use Rattle.std.proofs.lemmas.Bool.{cases_lt}
use Rattle.std.proofs.lemmas.Bool.Decides.{nat_tests}
use Rattle.std.proofs.lemmas.Nat.{mul-le}
use Rattle.std.proofs.Math.Nat.{pow-le-pow_right}
use Rattle.sync_rules.specs.Facts.{Row, expiry_after, one_more_try}
use Rattle.sync_rules.specs.Sessions.{is_sooner}

pub not_less : (m n : ℕ) → n ≤ m → nat_lt m n ≡ false
not_less m n h = grind (arith, nat_tests)

pub less_than : (m n : ℕ) → nat_lt m n ≡ true → m < n
less_than m n h = grind (arith, nat_tests)

pub at_least : (m n : ℕ) → nat_lt m n ≡ false → n ≤ m
at_least m n h = grind (arith, nat_tests)

pow_rises : (i j : ℕ) → i ≤ j → 2 ^ i ≤ 2 ^ j
pow_rises i j h = let two : 0 < 2 = omega arith in pow-le-pow_right two h

-- an expiry rises with the time, the latency and the tries
pub expiry_rises : (now later latency longer tries more : ℕ) → now ≤ later → latency ≤ longer → tries ≤ more
    → expiry_after now latency tries ≤ expiry_after later longer more
expiry_rises now later latency longer tries more n l t =
    let wait : 2 * latency * 2 ^ (tries - 1) ≤ 2 * longer * 2 ^ (more - 1) =
    mul-le (2 * latency) (2 ^ (tries - 1)) (2 * longer) (2 ^ (more - 1)) (omega arith) (pow_rises (tries - 1) (more - 1) (omega arith)) in
    by (2 * latency * 2 ^ (tries - 1)) (2 * longer * 2 ^ (more - 1)) wait
  where
    by : (a b : ℕ) → a ≤ b → min (2 ^ 64 - 1) (now + a) ≤ min (2 ^ 64 - 1) (later + b)
    by a b h = omega (arith, h, n)

pub tries_rise : (tries : ℕ) → tries ≤ 64 → tries ≤ one_more_try tries
tries_rise tries few = omega (arith, few)

-- behind any try, whatever its tries and its expiry were before
pub tried_not_sooner : (latency longer now tries : ℕ) → latency ≤ longer
    → nat_lt (expiry_after now longer (one_more_try (one_more_try tries))) (expiry_after now latency (one_more_try tries)) ≡ false
tried_not_sooner latency longer now tries l =
    let few : one_more_try tries ≤ 64 = omega arith in
    not_less (expiry_after now longer (one_more_try (one_more_try tries))) (expiry_after now latency (one_more_try tries))
    (expiry_rises now now latency longer (one_more_try tries) (one_more_try (one_more_try tries)) (omega arith) l (tries_rise (one_more_try tries) few))

pub stays_not_sooner : (latency longer now later : ℕ) (r : Row) → latency ≤ longer → now ≤ later → is_sooner latency now r ≡ false → is_sooner longer later r ≡ false
stays_not_sooner latency longer now later r l n isnt =
    let was : r.expiry ≤ expiry_after now latency (one_more_try r.tries) = at_least (expiry_after now latency (one_more_try r.tries)) r.expiry isnt in
    let rises = expiry_rises now later latency longer (one_more_try r.tries) (one_more_try r.tries) n l (omega arith) in
    not_less (expiry_after later longer (one_more_try r.tries)) r.expiry (omega (arith, was, rises))

-- from 63 tries on a try sets the greatest expiry
greatest : (latency now : ℕ) → 1 ≤ latency → expiry_after now latency 64 ≡ 2 ^ 64 - 1
greatest latency now some = omega (arith, some)

pub few_tries : (latency now : ℕ) (r : Row) → 1 ≤ latency → r.expiry < 2 ^ 64 → is_sooner latency now r ≡ true → r.tries ≤ 62
few_tries latency now r some small is =
    elim (cases_lt r.tries 63) [
      | inl few ↦ omega (arith, few)
      | inr many ↦
          let all : one_more_try r.tries ≡ 64 = omega (arith, many) in
          let less : expiry_after now latency 64 < r.expiry = subst (λ k. expiry_after now latency k < r.expiry) all (less_than (expiry_after now latency (one_more_try r.tries)) r.expiry is) in
          absurd (omega (arith, less, greatest latency now some, small))
    ]

pub counted : (tries : ℕ) → tries ≤ 62 → one_more_try tries ≡ tries + 1
counted tries few = omega (arith, few)
