use Rattle.std.proofs.Common.{true, false, sym, ap, ◌∙◌, ◌&&◌}
use Rattle.sync_rules.specs.Facts.{Row}
use Rattle.sync_rules.specs.Sessions.{goes_sooner}
use Rattle.journal_audit.specs.Looks.{is_line_sendable, is_sooner, seen_of}
use Rattle.journal_audit.proofs.Looks.{sooner_line, picked_line}
use Rattle.journal_audit.proofs.due.sooner_at.Goals as goal

pub returns-then-is_sooner : goal.returns-then-is_sooner
returns-then-is_sooner c =
    let p = c.args.facts.now in
    let l = c.in_ok-line.line.now in
    picked_line (is_sooner (seen_of p) c.args.contact c.args.latency c.args.now) p.messages.lines c.args.n l true (sym c.in_ok-line.ensures)
    (c.if-is_sooner.ensures ∙ (ap (λ (r : Row). is_line_sendable p.levels c.args.contact l r && goes_sooner c.args.latency c.args.now r) c.row-row.ensures
    ∙ sooner_line p c.args.contact c.args.latency c.args.now c.args.n l c.requires (sym c.in_ok-line.ensures)))

pub returns-else-is_sooner : goal.returns-else-is_sooner
returns-else-is_sooner c =
    let p = c.args.facts.now in
    let l = c.in_ok-line.line.now in
    picked_line (is_sooner (seen_of p) c.args.contact c.args.latency c.args.now) p.messages.lines c.args.n l false (sym c.in_ok-line.ensures)
    (c.if-is_sooner.ensures ∙ (ap (λ (r : Row). is_line_sendable p.levels c.args.contact l r && goes_sooner c.args.latency c.args.now r) c.row-row.ensures
    ∙ sooner_line p c.args.contact c.args.latency c.args.now c.args.n l c.requires (sym c.in_ok-line.ensures)))
