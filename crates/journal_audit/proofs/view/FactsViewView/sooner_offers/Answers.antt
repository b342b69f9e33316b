use Rattle.std.proofs.Common.{◌≡◌, IfOk, List, subst, take}
use Rattle.sync_ids.specs.declared.lists.TheConstants.{MAX_IDS}
use Rattle.sync_rules.specs.Facts.{Id}
use Rattle.sync_rules.specs.Sessions.{sooner_offers_of}
use Rattle.journal_audit.specs.declared.facts.PlainFacts.{PlainFacts}
use Rattle.journal_audit.specs.Plain.{facts_of, shared_in}
use Rattle.journal_audit.proofs.Looks.{sooner_from}
use Rattle.journal_audit.proofs.view.FactsViewView.sooner_offers.Goals as goal

pub returns : goal.returns
returns c =
    let p = c.self.inside.facts.now in
    let r = c.sooner_ids.result in
    let e = c.start-from.ensures in
    let all = sooner_from p c.args.contact c.args.latency c.args.now c.start-from.result c.self.invariant e.from e.latency e.time in
    subst (λ (q : PlainFacts). IfOk r (λ ids. ids.items ≡ sooner_offers_of (facts_of q) (shared_in q.messages.lines) c.args.contact c.args.latency c.args.now)) c.self.view_is
    (subst (λ (xs : List Id). IfOk r (λ ids. ids.items ≡ take MAX_IDS xs)) all c.sooner_ids.ensures)
