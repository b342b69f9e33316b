-- What was kept and what is left give what the whole gives.
use Rattle.std.proofs.Common.{◌≡◌, ◌++◌, drop}
use Rattle.sync_rules.specs.Lists.{same_id}
use Rattle.plain_rules.specs.Wants.{lines_without}
use Rattle.plain_rules.proofs.wants.without_held.Given as goal

abbrev pub invariant-loop-line : goal.invariant-loop-line
invariant-loop-line l =
    l.kept.items ++ lines_without (λ w. same_id w.id l.id) (drop l.line-index l.lines) ≡ lines_without (λ w. same_id w.id l.id) l.lines
