use Rattle.std.proofs.Common.{◌≡◌, true, sym, subst, ◌∙◌}
use Rattle.sync_rules.specs.Clients.{Meaning}
use Rattle.sync_rules.specs.Facts.{Facts}
use Rattle.sync_rules.specs.Legal.{Allowed}
use Rattle.sync_rules.specs.Allows.{allows}
use Rattle.journal_state.proofs.state.State.admit_other.Goals as goal

pub take_batch-requires-clause-allowed : goal.take_batch-requires-clause-allowed
take_batch-requires-clause-allowed g c =
    let clients : Meaning = g.C.Clients.meaning c.args.clients.now in
    let yes : allows clients c.announce.new.self.facts c.args.batch ≡ true = sym c.in_ok-allows_batch.ensures ∙ c.if-not-branch.false in
    (clients, subst (λ (f : Facts). Allowed clients f c.args.batch) (sym c.reserve.ensures.facts) ((c.allows_is_allowed.ensures clients c.announce.new.self.facts c.args.batch).0 yes))
