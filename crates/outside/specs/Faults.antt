-- Counts of faults: they never fall, and a call answers a failure only where its count rose.
use Rattle.std.specs.Prelude.{◌≡◌, ℕ, ◌+◌, ◌-◌, ◌^◌, ◌≤◌, ◌==◌, min, List, Bool, false, if◌then◌else◌, Result, OnErr, MatchResult}
use Rattle.std.specs.List.{list_any}

-- a count after one more; a count of 64 bits stands still at its end
abbrev pub one_more : ℕ → ℕ
one_more n = min (n + 1) (2 ^ 64 - 1)

-- the count rose, or stands at its end
abbrev pub CountRose : ℕ → ℕ → Type 0
CountRose before after = one_more before ≤ after

-- the count did not fall, and rose where the call failed
pub record HasCause {T E : Type 0} (before after : ℕ) (result : Result T E) : Type 0 where
  pub later : before ≤ after
  pub failed : OnErr result (CountRose before after)

-- a list of calls, by their numbers, has this one
abbrev pub is_listed : List ℕ → ℕ → Bool
is_listed calls call = list_any (λ c. c == call) calls

-- a count of failures stays at a call that succeeds, and rises by one at one that fails
abbrev pub CountsFailure : {T E : Type 0} → Result T E → ℕ → ℕ → Type 0
CountsFailure result faults faults' = MatchResult result (λ _. faults' ≡ faults) (λ _. faults' ≡ one_more faults)

-- The call failed exactly where the list has it or there was no memory for it; the count `starved` rises by one where
-- that was so, and stays else.
abbrev pub FailsAsListed : {T E : Type 0} → List ℕ → ℕ → ℕ → ℕ → Result T E → Type 0
FailsAsListed failing call starved starved' result =
    MatchResult result (λ _. (is_listed failing call ≡ false) × (starved' ≡ starved))
    (λ _. starved' ≡ (if is_listed failing call then starved else one_more starved))
