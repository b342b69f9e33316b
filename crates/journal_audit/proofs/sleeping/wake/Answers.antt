use Rattle.std.proofs.Common.{drop}
use Rattle.std.proofs.lemmas.List.{drop_all}
use Rattle.journal_audit.proofs.Sleeps.{woken_all, woken_begun, woken_more}
use Rattle.journal_audit.proofs.sleeping.wake.Goals as goal

pub loop-n-init : goal.loop-n-init
loop-n-init c = woken_begun c.args.messages.now c.args.id.now c.args.sleepers.now c.args.waiting.now

pub loop-n-preserved : goal.loop-n-preserved
loop-n-preserved c =
    woken_more c.args.messages.now c.args.id.now c.args.sleepers.now c.args.waiting.now c.loop-n.waiting c.wake_one.new.waiting c.loop-n.n-index 0 c.loop-n-test.true
    c.loop-n.invariant c.in_ok-wake_one.ensures

pub returns : goal.returns
returns c =
    woken_all c.args.messages.now c.args.id.now c.args.sleepers.now (drop c.loop-n.n-index c.args.sleepers.now) c.args.waiting.now c.loop-n.waiting
    (drop_all c.loop-n.n-index c.args.sleepers.now c.loop-n-test.false) c.loop-n.invariant
