use Rattle.std.proofs.Common.{◌≡◌, ◌^◌, ◌<◌, true, refl, sym, ap, ◌∙◌, arith, Err}
use Rattle.sync_words.specs.Words.{is_number}
use Rattle.sync_words.proofs.WordLemmas.{large_number}
use Rattle.sync_words.proofs.reading.number.Goals as goal

pub returns-in-Err-clause-read : goal.returns-in-Err-clause-read
returns-in-Err-clause-read c =
    let is : is_number c.args.word.now ≡ true = ap is_number (sym c.as_bytes.ensures.value) ∙ cc in
    let within : c.args.most < 2 ^ 64 = omega arith in
    large_number c.args.most c.args.word.now (Err c.in-Err.field-0) c.in-Err.field-0 is c.in-Err.ensures.value.0 refl within
