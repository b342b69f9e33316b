use Rattle.std.proofs.Common.{◌+◌, ◌≤◌, ◌++◌, List, ℕ, length, refl, ap, ◌∙◌, arith}
use Rattle.std.proofs.lemmas.Slice.{take-put_mid}
use Rattle.sync_ids.proofs.ids.put.Goals as goal

pub returns-clause-front : goal.returns-clause-front
returns-clause-front c = λ front e.
    let at : ℕ = c.args.at in
    let bytes : List ℕ = c.args.bytes.now in
    let within : at ≤ length c.args.block.now = omega arith in
    rw c.copy_from_slice.ensures.after (take-put_mid at _ c.args.block.now bytes (at + length bytes) refl within)
    ∙ ap (λ (x : List ℕ). x ++ bytes) e
