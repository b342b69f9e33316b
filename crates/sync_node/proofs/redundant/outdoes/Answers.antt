use Rattle.sync_node.proofs.CourseRuns.{outdoes_when}
use Rattle.sync_node.proofs.redundant.outdoes.Goals as goal

pub returns-in-Some-Some-clause-exact : goal.returns-in-Some-Some-clause-exact
returns-in-Some-Some-clause-exact c =
    outdoes_when c.args.rival.now c.args.link.now c.args.before _ _ c.in-Some-Some.theirs
    c.in-Some-Some.own (c.is_asked.ensures.0 c.if-not-is_asked.false)
    (c.is_asked-else-not-is_asked.ensures.0 c.if-not-is_asked-2.false) c.if-not-same.false
    c.in-Some-Some.is-0 c.in-Some-Some.is-1 c.cmp.ensures c.goes_first.ensures
