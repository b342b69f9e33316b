-- Messages counted one by one, and lines added device by device.
use Rattle.std.proofs.Common.{◌≡◌, ℕ, zero, suc, ◌+◌, List, [], ◌∷◌, take, sym, ap, ◌∙◌, add-one}
use Rattle.std.proofs.Common.{arith, Option, Some}
use Rattle.std.specs.Prelude.{option_map, slice_get}
use Rattle.sync_rules.specs.Facts.{Facts, Held}
use Rattle.sync_rules.specs.Steps.{fate_held}
use Rattle.sync_rules.specs.declared.states.Fate.{Fate}
use Rattle.sync_rules.specs.declared.states.Fate.TheVariants as fate
use Rattle.sync_world.specs.Showing.{CountsOne, HasCounted, number_in_state}
use Rattle.sync_world.specs.Showing.{one_if_same}
use Rattle.sync_world.specs.declared.player.States.{States}

-- the state of the message of this place
abbrev pub fate_at : Facts → List Held → ℕ → Option Fate
fate_at f held n = option_map (λ (h : Held). fate_held f h.id) (slice_get held n)

count_suc : (f : Facts) (state given : Fate) (held : List Held) (n : ℕ)
    → fate_at f held n ≡ Some given
    → number_in_state f state (take (suc n) held) ≡ number_in_state f state (take n held) +
    one_if_same state given
unfolding number_in_state
count_suc f state given [] n is = absurd cc
count_suc f state given (h ∷ held) zero is =
    let same : fate_held f h.id ≡ given = cc in
    let one : one_if_same state (fate_held f h.id) ≡ one_if_same state given =
    ap (λ (x : Fate). one_if_same state x) same in
    omega (arith, one)
count_suc f state given (h ∷ held) (suc n) is =
    let more = count_suc f state given held n is in
    omega (arith, more)

count_more : (f : Facts) (state given : Fate) (held : List Held) (n : ℕ)
    → fate_at f held n ≡ Some given
    → number_in_state f state (take (n + 1) held) ≡ number_in_state f state (take n held) +
    one_if_same state given
count_more f state given held n is = rw add-one (count_suc f state given held n is)

pub counted_more : (f : Facts) (held : List Held) (n : ℕ) (given : Fate) (old new : States)
    → fate_at f held n ≡ Some given → HasCounted f (take n held) old
    → CountsOne given old new → HasCounted f (take (n + 1) held) new
counted_more f held n given old new is counted one = record {
  delivered =
      one.delivered ∙ ap (λ (k : ℕ). k + one_if_same fate.Delivered given) counted.delivered
      ∙ sym (count_more f fate.Delivered given held n is);
  invalid =
      one.invalid ∙ ap (λ (k : ℕ). k + one_if_same fate.Invalid given) counted.invalid
      ∙ sym (count_more f fate.Invalid given held n is);
  pending =
      one.pending ∙ ap (λ (k : ℕ). k + one_if_same fate.Pending given) counted.pending
      ∙ sym (count_more f fate.Pending given held n is);
  unknown =
      one.unknown ∙ ap (λ (k : ℕ). k + one_if_same fate.Unknown given) counted.unknown
      ∙ sym (count_more f fate.Unknown given held n is);
}
