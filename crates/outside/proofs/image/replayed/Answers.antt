use Rattle.std.proofs.Common.{◌≡◌, arith}
use Rattle.outside.specs.MemDisk.{kept}
use Rattle.outside.proofs.ImageSteps.{one_step, replayed_whole}
use Rattle.outside.proofs.image.replayed.Goals as goal

pub loop-call-preserved : goal.loop-call-preserved
loop-call-preserved c = one_step c.args.file c.in_ok-replay.replay _ _ _ _ _ c.loop-call-test.true c.call-item.is c.loop-call.invariant c.in_ok-apply.ensures

pub returns : goal.returns
returns c =
    let is_base = c.in_ok-base.ensures in
    let is_replay : c.in_ok-replay.replay ≡ kept c.in_ok-base.base.items = c.in_ok-replay.ensures in
    replayed_whole c.args.file c.args.start.now _ c.args.calls.now c.last_sync-synced.result _ _ _ _ (c.last_sync-synced.ensures.settled c.args.start.now) is_base (omega arith) is_replay c.loop-call.invariant c.loop-call-test.false
