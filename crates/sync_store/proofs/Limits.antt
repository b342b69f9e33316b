-- Limits of counts and sums.
use Rattle.std.proofs.Common.{◌≡◌, ℕ, ◌+◌, ◌-◌, ◌*◌, ◌^◌, ◌<◌, ◌≤◌, length, min, nat_lt, arith, ap}
use Rattle.std.proofs.Common.{◌∙◌, mul_comm}
use Rattle.std.proofs.lemmas.Bool.Decides.{nat_tests}
use Rattle.outside.specs.declared.limits.TheConstants.{MAX_JOURNAL}
use Rattle.sync_rules.specs.Facts.{Facts}
use Rattle.entry_codec.specs.declared.naming.Format.{Format}
use Rattle.entry_codec.specs.declared.naming.Format.TheVariants as kind
use Rattle.sync_store.specs.Store.{HasNumbers, IsStore, StoreValue, counts_to, written_in}

-- a sum that stands still at its type's end passes a lower limit exactly where the whole sum does
passes_by : (limit room len end : ℕ) → limit ≤ MAX_JOURNAL
    → nat_lt limit (min (2 ^ 64 - 1)
    (min (2 ^ 64 - 1) (min (2 ^ 64 - 1) room + min len (2 ^ 64 - 1)) + (end + 5)))
    ≡ nat_lt limit (end + 5 + len + room)
passes_by limit room len end low = grind (arith, nat_tests)

pub passes : (limit left step len end : ℕ) → limit ≤ MAX_JOURNAL
    → nat_lt limit (min (2 ^ 64 - 1)
    (min (2 ^ 64 - 1) (min (2 ^ 64 - 1) (left * step) + min len (2 ^ 64 - 1)) + (end + 5)))
    ≡ nat_lt limit (end + 5 + len + step * left)
passes limit left step len end low =
    passes_by limit (left * step) len end low
    ∙ ap (λ (room : ℕ). nat_lt limit (end + 5 + len + room)) (mul_comm left step)

-- ---- the bound on the counts

pub counts_more : (format : Format) (end later : ℕ) → end + 1 ≤ later
    → counts_to format end + 1 ≤ counts_to format later
counts_more kind.Whole end later far = far
counts_more kind.Short end later far = omega (arith, far)

pub counts_few : (format : Format) (end : ℕ) → end ≤ MAX_JOURNAL
    → counts_to format end ≤ MAX_JOURNAL + MAX_JOURNAL
counts_few kind.Whole end few = omega (arith, few)
counts_few kind.Short end few = omega (arith, few)

-- a bound that is greater
pub numbers_wider : (f : Facts) (bound wider : ℕ) → HasNumbers f bound → bound ≤ wider
    → HasNumbers f wider
numbers_wider f bound wider numbers far = record {
  held = omega (arith, numbers.held, far);
  sessions = omega (arith, numbers.sessions, far);
  records = λ session. omega (arith, numbers.records session, far);
}

-- there is a number for one more message
pub few_held : (s : StoreValue) → IsStore s → length s.state.facts.held < 2 ^ 32 - 1
few_held s store =
    omega (
      arith,
      store.numbers.held,
      store.roomy,
      counts_few (written_in s) s.end (omega (arith, store.roomy)),
    )
