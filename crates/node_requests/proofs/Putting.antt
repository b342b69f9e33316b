-- Bytes that an output did not take.
use Rattle.std.proofs.Common.{◌≡◌, ℕ, List, [], append-nil, arith, refl, sym, ◌∙◌}
use Rattle.outside.specs.Faults.{one_more}
use Rattle.sync_words.specs.declared.outcome.Outcome.TheVariants as outcome
use Rattle.store_commands.specs.Show.{PrintsText}
use Rattle.node_service.specs.Outputs.{OutputValue, output_told}

-- none of them was written, and its count rose
pub put_failed : (text : List ℕ) (o o' : OutputValue) → o'.bytes ≡ o.bytes
    → o'.faults ≡ one_more o.faults
    → PrintsText text (output_told o) (output_told o') outcome.WriteFault
put_failed text o o' same rose = (
  omega (arith, rose),
  record { got = []; rest = text; front = refl; appended = same ∙ sym (append-nil o.bytes) },
)
