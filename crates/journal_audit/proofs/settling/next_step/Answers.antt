use Rattle.std.proofs.Common.{sym, ◌∙◌}
use Rattle.journal_audit.proofs.Steps.{first_steps, next_waits}
use Rattle.journal_audit.proofs.settling.next_step.Goals as goal

pub returns : goal.returns
returns c = λ clients knows.
    let p = c.args.facts.now in
    let keys = c.as_set.result.now.keys in
    c.first_step.ensures
    ∙ (sym (first_steps p p.messages.lines keys)
    ∙ next_waits clients c.args.facts.now c.as_set.result.now.keys c.requires knows c.as_set.ensures.value c.as_set.ensures.ascends)
