-- The kit's decoding answers Ok exactly where the text is twice as many digits as there are bytes.
use Rattle.std.proofs.Common.{Result, IsOk, List, ℕ, refl, sym, subst}
use Rattle.hex.specs.declared.error.FromHexError.{FromHexError}
use Rattle.hex.proofs.HexLemmas.{IsOk-decode_sized}
use Rattle.sync_ids.proofs.fixed.Fixed.from_hex.Goals as goal

pub returns-in-Ok-clause-accepted : goal.returns-in-Ok-clause-accepted
returns-in-Ok-clause-accepted g c =
    let P : Result (List ℕ) FromHexError → Type 0 = λ r. IsOk r in
    let digits = IsOk-decode_sized c.args.text.now g.row.N in
    (λ _. digits.0 (subst P c.in-Ok.ensures refl), λ _. refl)

pub returns-in-Err-clause-accepted : goal.returns-in-Err-clause-accepted
returns-in-Err-clause-accepted g c =
    let P : Result (List ℕ) FromHexError → Type 0 = λ r. IsOk r in
    let digits = IsOk-decode_sized c.args.text.now g.row.N in
    (λ h. digits.0 (subst P c.in-Err.ensures h), λ h. subst P (sym c.in-Err.ensures) (digits.1 h))
