use Rattle.outside.proofs.ImageSteps.{now_step}
use Rattle.outside.proofs.image.base_of.Goals as goal

pub loop-call-preserved : goal.loop-call-preserved
loop-call-preserved c = now_step c.args.file c.args.start.now _ _ c.args.calls.now _ _ c.loop-call-test.true c.call-item.is c.loop-call.invariant c.in_ok-change_bytes.ensures
