use Rattle.std.proofs.Common.{◌≡◌, ◌*◌, ◌%◌, arith, refl}
use Rattle.bramble_hash.specs.Blake2b.{initial}
use Rattle.bramble_hash.proofs.block.initial.Goals as goal

pub returns : goal.returns
unfolding initial
returns c =
    let small : c.args.key_len * 256 % 18446744073709551616 ≡ c.args.key_len * 256 = omega arith in
    rw small refl
