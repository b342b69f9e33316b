use Rattle.entry_codec.specs.Payloads.{names_of}
use Rattle.entry_codec.proofs.BatchLaws.{batch_back, written_by}
use Rattle.entry_codec.proofs.laws.batches_read_back.Goals as goal

pub returns : goal.returns
returns c format f are batch is some =
    batch_back format (names_of f) are batch (written_by format (names_of f) batch is.within is.named is.kinds) some
