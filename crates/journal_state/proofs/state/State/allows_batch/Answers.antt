use Rattle.sync_rules.specs.Steps.{next}
use Rattle.journal_state.proofs.Allowed.{settled_told, shared_is}
use Rattle.journal_state.proofs.state.State.allows_batch.Goals as goal

pub allows-requires-clause-shared : goal.allows-requires-clause-shared
allows-requires-clause-shared g c = shared_is (g.C.Clients.meaning c.args.clients.now) c.args.self.now c.requires.knows

pub allows-requires-clause-settled : goal.allows-requires-clause-settled
allows-requires-clause-settled g c =
    settled_told c.is_settled-settled.result (next (g.C.Clients.meaning c.args.clients.now) c.args.self.now.facts)
    (c.is_settled-settled.ensures (g.C.Clients.meaning c.args.clients.now) c.requires.knows)
