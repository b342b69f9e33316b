use Rattle.std.proofs.Common.{sym, ◌∙◌}
use Rattle.sync_rules.proofs.SameEntries.{same_entry-is}
use Rattle.sync_rules.proofs.comparing.same_entry.Goals as goal

pub returns-clause-same : goal.returns-clause-same
returns-clause-same c t = same_entry-is c.args.a.now c.args.b.now (sym c.is_entry.ensures ∙ t)
