use Rattle.std.proofs.Common.{ap, ◌∙◌}
use Rattle.sync_rules.specs.Sessions.{first_id, send_of}
use Rattle.journal_audit.specs.declared.facts.PlainFacts.{PlainFacts}
use Rattle.journal_audit.specs.Plain.{facts_of, shared_in}
use Rattle.journal_audit.proofs.Looks.{sent_among}
use Rattle.journal_audit.proofs.view.FactsViewView.next_send.Goals as goal

pub returns-then-not-is_brought : goal.returns-then-not-is_brought
returns-then-not-is_brought c =
    c.first_sent_of_all.ensures ∙ ap (λ (q : PlainFacts). send_of (facts_of q) (shared_in q.messages.lines) c.args.contact c.args.mode c.args.now) c.self.view_is

pub returns : goal.returns
returns c =
    let p = c.self.inside.facts.now in
    let all = sent_among p c.args.contact c.args.mode c.args.now c.numbers_for-numbers.result.now.keys c.self.invariant c.ranges.contact.fits (c.is_brought.ensures c.if-not-is_brought.false) c.numbers_for-numbers.ensures.ascends c.numbers_for-numbers.ensures.value in
    c.first_sent.ensures ∙ ap first_id all ∙ ap (λ (q : PlainFacts). send_of (facts_of q) (shared_in q.messages.lines) c.args.contact c.args.mode c.args.now) c.self.view_is
