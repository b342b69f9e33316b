use Rattle.std.proofs.Common.{◌≡◌, IfOk, List, subst, take}
use Rattle.sync_ids.specs.declared.lists.TheConstants.{MAX_IDS}
use Rattle.sync_rules.specs.Facts.{Id}
use Rattle.sync_rules.specs.Sessions.{owed_to}
use Rattle.journal_audit.specs.declared.facts.PlainFacts.{PlainFacts}
use Rattle.journal_audit.specs.Plain.{facts_of}
use Rattle.journal_audit.proofs.Looks.{owed_all}
use Rattle.journal_audit.proofs.view.FactsViewView.owed.Goals as goal

pub returns : goal.returns
returns c =
    let p = c.self.inside.facts.now in
    let r = c.owed_ids.result in
    let all = owed_all p c.args.contact c.of-numbers.result.now.keys c.self.invariant c.ranges.contact.fits c.of-numbers.ensures.ascends c.of-numbers.ensures.value in
    subst (λ (q : PlainFacts). IfOk r (λ ids. ids.items ≡ owed_to (facts_of q) c.args.contact)) c.self.view_is
    (subst (λ (xs : List Id). IfOk r (λ ids. ids.items ≡ take MAX_IDS xs)) all c.owed_ids.ensures)
