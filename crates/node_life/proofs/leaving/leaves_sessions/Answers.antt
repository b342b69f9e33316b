use Rattle.std.proofs.Common.{sym, ◌∙◌}
use Rattle.std.proofs.lemmas.Bool.{not-true}
use Rattle.node_life.proofs.LeaveLemmas.{all_leave}
use Rattle.node_life.proofs.leaving.leaves_sessions.Goals as goal

pub returns-clause-leaves : goal.returns-clause-leaves
returns-clause-leaves c leaves =
    all_leave c.args.words.now
    (sym c.may_change_sessions-may.ensures ∙ not-true c.may_change_sessions-may.result leaves)
