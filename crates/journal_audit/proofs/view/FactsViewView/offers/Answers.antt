use Rattle.std.proofs.Common.{◌≡◌, IfOk, List, subst, take}
use Rattle.sync_ids.specs.declared.lists.TheConstants.{MAX_IDS}
use Rattle.sync_rules.specs.Facts.{Id}
use Rattle.sync_rules.specs.Sessions.{offers_of}
use Rattle.journal_audit.specs.declared.facts.PlainFacts.{PlainFacts}
use Rattle.journal_audit.specs.Plain.{facts_of, shared_in}
use Rattle.journal_audit.proofs.Looks.{offered_among}
use Rattle.journal_audit.proofs.view.FactsViewView.offers.Goals as goal

pub returns-then-not-is_brought : goal.returns-then-not-is_brought
returns-then-not-is_brought c =
    let r = c.offered_of_all.result in
    subst (λ (q : PlainFacts). IfOk r (λ ids. ids.items ≡ offers_of (facts_of q) (shared_in q.messages.lines) c.args.contact c.args.now)) c.self.view_is
    c.offered_of_all.ensures

pub returns : goal.returns
returns c =
    let p = c.self.inside.facts.now in
    let r = c.offered_ids.result in
    let all = offered_among p c.args.contact c.args.now c.of-numbers.result.now.keys c.self.invariant c.ranges.contact.fits (c.is_brought.ensures c.if-not-is_brought.false) c.of-numbers.ensures.ascends c.of-numbers.ensures.value in
    subst (λ (q : PlainFacts). IfOk r (λ ids. ids.items ≡ offers_of (facts_of q) (shared_in q.messages.lines) c.args.contact c.args.now)) c.self.view_is
    (subst (λ (xs : List Id). IfOk r (λ ids. ids.items ≡ take MAX_IDS xs)) all c.offered_ids.ensures)
