use Rattle.std.proofs.Common.{refl}
use Rattle.std.proofs.lemmas.Bool.{false≢true}
use Rattle.sync_words.proofs.WordLemmas.{id_read, no_id}
use Rattle.sync_words.proofs.reading.id.Goals as goal

pub returns-in-Ok : goal.returns-in-Ok
returns-in-Ok c = id_read c.args.word.now c.in-Ok.id (c.in-Ok.ensures.accepted.0 refl) c.in-Ok.ensures.value

pub returns-in-Err : goal.returns-in-Err
returns-in-Err c = no_id c.args.word.now (λ digits. false≢true (c.in-Err.ensures.accepted.1 digits))
