use Rattle.std.proofs.Common.{length}
use Rattle.entry_codec.proofs.BatchLaws.{InBatch}
use Rattle.entry_codec.proofs.batches.read_batch.Given as goal

-- the entries so far are those of the front of the bytes
abbrev pub invariant-entries : goal.invariant-entries
invariant-entries g l = InBatch l.format (g.N.Names.named l.names) l.bytes l.front.rest.now l.entries.items

abbrev pub decreases-entries : goal.decreases-entries
decreases-entries g l = length l.front.rest.now
