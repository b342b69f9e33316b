-- The block is that of the definition's parts.
use Rattle.std.proofs.Common.{[]}
use Rattle.bramble_hash.specs.Parts.{hash}
use Rattle.sync_ids.specs.Ids.{message_id_of}
use Rattle.sync_ids.proofs.ids.message_id.Goals as goal

pub returns : goal.returns
unfolding message_id_of hash
returns c =
    let all = c.finalize.ensures [] _ (c.update.ensures.holds [] [] c.new-hasher.ensures.holds) in
    rw (c.message_block.ensures, c.block_hash.ensures.value) at all
