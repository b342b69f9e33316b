use Rattle.std.proofs.Common.{true, false, sym, ap, ◌∙◌, ◌&&◌}
use Rattle.sync_rules.specs.Facts.{Row}
use Rattle.sync_rules.specs.Sessions.{is_ripe}
use Rattle.journal_audit.specs.Looks.{is_line_sendable, is_sent, seen_of}
use Rattle.journal_audit.proofs.Looks.{sent_line, picked_line}
use Rattle.journal_audit.proofs.due.sent_at.Goals as goal

pub returns-then-is_sent : goal.returns-then-is_sent
returns-then-is_sent c =
    let p = c.args.facts.now in
    let l = c.in_ok-line.line.now in
    picked_line (is_sent (seen_of p) c.args.contact c.args.mode c.args.now) p.messages.lines c.args.n l true (sym c.in_ok-line.ensures)
    (c.if-is_sent.ensures ∙ (ap (λ (r : Row). is_line_sendable p.levels c.args.contact l r && is_ripe c.args.mode c.args.now r) c.row-row.ensures
    ∙ sent_line p c.args.contact c.args.mode c.args.now c.args.n l c.requires (sym c.in_ok-line.ensures)))

pub returns-else-is_sent : goal.returns-else-is_sent
returns-else-is_sent c =
    let p = c.args.facts.now in
    let l = c.in_ok-line.line.now in
    picked_line (is_sent (seen_of p) c.args.contact c.args.mode c.args.now) p.messages.lines c.args.n l false (sym c.in_ok-line.ensures)
    (c.if-is_sent.ensures ∙ (ap (λ (r : Row). is_line_sendable p.levels c.args.contact l r && is_ripe c.args.mode c.args.now r) c.row-row.ensures
    ∙ sent_line p c.args.contact c.args.mode c.args.now c.args.n l c.requires (sym c.in_ok-line.ensures)))
