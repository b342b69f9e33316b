-- What was pushed and what is left give what the whole gives.
use Rattle.std.proofs.Common.{◌≡◌, ◌++◌, drop}
use Rattle.sync_rules.specs.Facts.{facts}
use Rattle.plain_rules.specs.Lines.{line_ids, is_line_sooner}
use Rattle.plain_rules.proofs.due.sooner_ids.Given as goal

abbrev pub invariant-loop-line : goal.invariant-loop-line
invariant-loop-line l =
    l.ids.items ++ line_ids (is_line_sooner (facts l.j) l.shared l.contact l.latency l.now) (drop l.line-index l.lines)
    ≡ line_ids (is_line_sooner (facts l.j) l.shared l.contact l.latency l.now) l.lines
