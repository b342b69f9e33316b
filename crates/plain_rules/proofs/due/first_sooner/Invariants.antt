-- What is left gives what the whole gives.
use Rattle.std.proofs.Common.{◌≡◌, drop}
use Rattle.sync_rules.specs.Facts.{facts}
use Rattle.plain_rules.specs.Lines.{line_ids, is_line_sooner}
use Rattle.sync_rules.specs.Sessions.{first_id}
use Rattle.plain_rules.proofs.due.first_sooner.Given as goal

abbrev pub invariant-loop-line : goal.invariant-loop-line
invariant-loop-line l =
    first_id (line_ids (is_line_sooner (facts l.j) l.shared l.contact l.latency l.now) (drop l.line-index l.lines))
    ≡ first_id (line_ids (is_line_sooner (facts l.j) l.shared l.contact l.latency l.now) l.lines)
