use Rattle.std.proofs.Common.{◌≡◌, ap, ◌∙◌}
use Rattle.sync_rules.specs.Sessions.{first_id, sooner_of}
use Rattle.journal_audit.specs.declared.facts.PlainFacts.{PlainFacts}
use Rattle.journal_audit.specs.Plain.{facts_of, shared_in}
use Rattle.journal_audit.proofs.Looks.{sooner_from}
use Rattle.journal_audit.proofs.view.FactsViewView.next_sooner.Goals as goal

pub returns : goal.returns
returns c =
    let p = c.self.inside.facts.now in
    let e = c.start-from.ensures in
    c.first_sooner.ensures
    ∙ (ap first_id (sooner_from p c.args.contact c.args.latency c.args.now c.start-from.result c.self.invariant e.from e.latency e.time)
    ∙ ap (λ (q : PlainFacts). sooner_of (facts_of q) (shared_in q.messages.lines) c.args.contact c.args.latency c.args.now) c.self.view_is)
