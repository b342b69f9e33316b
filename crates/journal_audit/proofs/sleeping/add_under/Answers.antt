use Rattle.std.proofs.Common.{drop}
use Rattle.std.proofs.lemmas.List.{drop_all}
use Rattle.journal_audit.proofs.Sleeps.{laid_all, laid_begun, laid_more}
use Rattle.journal_audit.proofs.sleeping.add_under.Goals as goal

pub loop-id-init : goal.loop-id-init
loop-id-init c = laid_begun c.args.n c.args.ids.now c.args.sleepers.now

pub loop-id-preserved : goal.loop-id-preserved
loop-id-preserved c =
    laid_more c.args.n c.args.ids.now c.args.sleepers.now c.loop-id.sleepers c.add.new.self c.loop-id.id-index c.id-item.result c.loop-id-test.true c.id-item.is
    c.loop-id.invariant c.in_ok-add.ensures

pub returns-clause-under : goal.returns-clause-under
returns-clause-under c =
    laid_all c.args.n c.args.ids.now (drop c.loop-id.id-index c.args.ids.now) c.args.sleepers.now c.loop-id.sleepers
    (drop_all c.loop-id.id-index c.args.ids.now c.loop-id-test.false) c.loop-id.invariant

pub returns-clause-rest : goal.returns-clause-rest
returns-clause-rest c = c.loop-id.invariant.rest
