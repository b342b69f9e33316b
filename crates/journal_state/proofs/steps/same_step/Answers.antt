use Rattle.std.proofs.Common.{sym, ◌∙◌}
use Rattle.sync_rules.proofs.SameEntries.{same_entry-is}
use Rattle.journal_state.proofs.steps.same_step.Goals as goal

pub returns-clause-same : goal.returns-clause-same
returns-clause-same c t = same_entry-is c.args.found.now c.args.entry.now (sym c.is_step.ensures ∙ t)
