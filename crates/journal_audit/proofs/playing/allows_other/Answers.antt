use Rattle.std.proofs.Common.{◌≡◌, sym, subst}
use Rattle.sync_rules.specs.Sessions.{shared_ids}
use Rattle.journal_audit.specs.declared.facts.PlainFacts.{PlainFacts}
use Rattle.journal_audit.specs.Plain.{facts_of, shared_in}
use Rattle.journal_audit.proofs.Plays.{shared_is}
use Rattle.journal_audit.proofs.playing.allows_other.Goals as goal

pub allows-requires-clause-shared : goal.allows-requires-clause-shared
allows-requires-clause-shared g c =
    let clients = g.C.Clients.meaning c.args.clients.now in
    subst (λ (p : PlainFacts). shared_in p.messages.lines ≡ shared_ids clients (facts_of p)) (sym c.over-view.ensures)
    (shared_is clients c.args.facts.now c.requires.sound c.requires.knows)
