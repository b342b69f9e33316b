use Rattle.std.proofs.Common.{not, sym, ap, ◌∙◌}
use Rattle.sync_rules.specs.Facts.{Id}
use Rattle.sync_rules.specs.Lists.{same_id}
use Rattle.journal_audit.proofs.Steps.{beside, elsewhere, failing_line, not_failing}
use Rattle.journal_audit.proofs.settling.is_failing.Goals as goal

pub returns-in_default : goal.returns-in_default
returns-in_default c = not_failing c.args.messages.now c.args.group.now c.args.id.now (sym c.in_default.ensures.place)

pub returns-then-ne : goal.returns-then-ne
returns-then-ne c =
    let l = c.line-line.result.now in
    elsewhere (same_id l.message.group c.args.group.now) l.invalid (c.if-ne.ensures ∙ ap (λ (g : Id). not (same_id g c.args.group.now)) c.group.ensures)
    ∙ failing_line c.args.messages.now c.args.group.now c.args.id.now c.in-Some.n l c.requires c.in-Some.ensures.found c.line-line.ensures

pub returns : goal.returns
returns c =
    let l = c.line-line.result.now in
    beside (same_id l.message.group c.args.group.now) l.invalid (c.if-ne.ensures ∙ ap (λ (g : Id). not (same_id g c.args.group.now)) c.group.ensures)
    ∙ failing_line c.args.messages.now c.args.group.now c.args.id.now c.in-Some.n l c.requires c.in-Some.ensures.found c.line-line.ensures
