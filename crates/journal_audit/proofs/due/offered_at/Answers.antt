use Rattle.std.proofs.Common.{true, false, sym, ap, ◌∙◌, ◌&&◌, not, nat_le}
use Rattle.sync_rules.specs.Facts.{Row}
use Rattle.journal_audit.specs.Looks.{is_line_sendable, is_offered, seen_of}
use Rattle.journal_audit.proofs.Looks.{offered_line, picked_line}
use Rattle.journal_audit.proofs.due.offered_at.Goals as goal

pub returns-then-is_offered : goal.returns-then-is_offered
returns-then-is_offered c =
    let p = c.args.facts.now in
    let l = c.in_ok-line.line.now in
    picked_line (is_offered (seen_of p) c.args.contact c.args.now) p.messages.lines c.args.n l true (sym c.in_ok-line.ensures)
    (c.if-is_offered.ensures ∙ (ap (λ (r : Row). is_line_sendable p.levels c.args.contact l r && (not r.asked && nat_le r.expiry c.args.now)) c.row-row.ensures
    ∙ offered_line p c.args.contact c.args.now c.args.n l c.requires (sym c.in_ok-line.ensures)))

pub returns-else-is_offered : goal.returns-else-is_offered
returns-else-is_offered c =
    let p = c.args.facts.now in
    let l = c.in_ok-line.line.now in
    picked_line (is_offered (seen_of p) c.args.contact c.args.now) p.messages.lines c.args.n l false (sym c.in_ok-line.ensures)
    (c.if-is_offered.ensures ∙ (ap (λ (r : Row). is_line_sendable p.levels c.args.contact l r && (not r.asked && nat_le r.expiry c.args.now)) c.row-row.ensures
    ∙ offered_line p c.args.contact c.args.now c.args.n l c.requires (sym c.in_ok-line.ensures)))
