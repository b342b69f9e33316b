-- The parts are those of the definition, one after the other.
use Rattle.sync_ids.specs.Ids.{group_id_of}
use Rattle.sync_ids.proofs.ids.group_id.Goals as goal

pub returns : goal.returns
unfolding group_id_of
returns c =
    let first = c.part-2.ensures.holds _ (c.part.ensures.holds _ c.new-parts.ensures.holds) in
    let all = c.finish.ensures _ (c.part-5.ensures.holds _ (c.part-4.ensures.holds _ (c.part-3.ensures.holds _ first))) in
    rw (c.as_bytes.ensures.value, c.name.ensures.value, c.to_be_bytes.ensures, c.major.ensures, c.descriptor.ensures.value) at all
