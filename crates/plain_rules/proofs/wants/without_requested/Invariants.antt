-- What was kept and what is left give what the whole gives.
use Rattle.std.proofs.Common.{◌≡◌, ◌++◌, ◌&&◌, nat_eq, drop}
use Rattle.sync_rules.specs.Lists.{is_among}
use Rattle.plain_rules.specs.Wants.{lines_without}
use Rattle.plain_rules.proofs.wants.without_requested.Given as goal

abbrev pub invariant-loop-line : goal.invariant-loop-line
invariant-loop-line l =
    l.kept.items ++ lines_without (λ w. nat_eq w.contact l.contact && is_among l.ids w.id) (drop l.line-index l.lines)
    ≡ lines_without (λ w. nat_eq w.contact l.contact && is_among l.ids w.id) l.lines
