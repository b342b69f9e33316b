use Rattle.std.proofs.Common.{drop}
use Rattle.node_service.specs.Words.{parts_of}
use Rattle.node_service.proofs.WordLemmas.{ReadSo}
use Rattle.node_service.proofs.words.words_of.Given as goal

abbrev pub invariant-bytes : goal.invariant-bytes
invariant-bytes l =
    ReadSo (parts_of l.fn.bytes) l.words.items l.part.items (drop l.byte-index l.bytes)
