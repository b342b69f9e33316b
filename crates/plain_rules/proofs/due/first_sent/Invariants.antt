-- What is left gives what the whole gives.
use Rattle.std.proofs.Common.{◌≡◌, drop}
use Rattle.sync_rules.specs.Facts.{facts}
use Rattle.plain_rules.specs.Lines.{line_ids, is_line_sent}
use Rattle.sync_rules.specs.Sessions.{first_id}
use Rattle.plain_rules.proofs.due.first_sent.Given as goal

abbrev pub invariant-loop-line : goal.invariant-loop-line
invariant-loop-line l =
    first_id (line_ids (is_line_sent (facts l.j) l.shared l.contact l.mode l.now) (drop l.line-index l.lines))
    ≡ first_id (line_ids (is_line_sent (facts l.j) l.shared l.contact l.mode l.now) l.lines)
