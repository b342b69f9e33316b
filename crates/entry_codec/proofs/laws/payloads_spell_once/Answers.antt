use Rattle.entry_codec.specs.Payloads.{names_of}
use Rattle.entry_codec.proofs.BatchLaws.{batch_spelled, written_kinds, written_named, written_within}
use Rattle.entry_codec.proofs.laws.payloads_spell_once.Goals as goal

pub returns : goal.returns
returns c format f are bytes batch fits read =
    let spelled = batch_spelled format (names_of f) are bytes batch fits read in (
      spelled.is,
      record {
        kinds = written_kinds format (names_of f) batch spelled.written;
        within = written_within format (names_of f) batch spelled.written;
        named = written_named format (names_of f) batch spelled.written;
      },
    )
