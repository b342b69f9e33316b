use Rattle.std.proofs.Common.{◌<◌, length, arith}
use Rattle.std.proofs.lemmas.List.{get_or_read}
use Rattle.session_core.proofs.Counting.{counted_next}
use Rattle.session_core.proofs.first_ids.count_slots.Goals as goal

pub loop-id-preserved : goal.loop-id-preserved
loop-id-preserved c =
    let counts = c.loop-id.counts.items in
    let slot = c.slot_of-slot.result in
    let inside : slot < length counts = omega (arith, c.loop-id.invariant.sized) in
    let read = get_or_read counts slot c.index.result.now inside c.index.ensures 0 in
    counted_next _ c.args.ids.now c.loop-id.id-index counts c.loop-id.invariant
    c.id-item.result slot c.saturating_add.result c.loop-id-test.true c.id-item.is
    c.slot_of-slot.ensures.slot c.slot_of-slot.ensures.below
    (omega (arith, read)) (omega arith) (λ some. omega (arith, read))
