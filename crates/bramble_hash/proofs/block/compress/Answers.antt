use Rattle.std.proofs.Common.{◌≡◌, add-one, arith, refl}
use Rattle.bramble_hash.specs.Blake2b.{compress, rounds}
use Rattle.bramble_hash.proofs.block.compress.Goals as goal

pub rounds-init : goal.rounds-init
unfolding rounds
rounds-init c = refl

pub rounds-preserved : goal.rounds-preserved
unfolding rounds
rounds-preserved c = rw (c.round_at.ensures, c.rounds.invariant, add-one) refl

pub returns : goal.returns
unfolding compress
returns c = λ bytes same.
    let done : c.rounds.r ≡ 12 = omega arith in
    rw (c.xor_halves.ensures, c.rounds.invariant, done, c.start_vector-v.ensures, c.words-m.ensures, ← same) refl
