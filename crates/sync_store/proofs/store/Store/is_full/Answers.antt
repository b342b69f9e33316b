use Rattle.std.proofs.Common.{sym, subst}
use Rattle.sync_rules.specs.Legal.{Allowed}
use Rattle.sync_store.specs.Store.{StoreValue}
use Rattle.sync_store.proofs.store.Store.is_full.Goals as goal

pub left_with-requires-clause-allowed : goal.left_with-requires-clause-allowed
left_with-requires-clause-allowed g c =
    let clients = g.C.Clients.meaning c.args.clients.now in (
      clients,
      subst (λ (v : StoreValue). Allowed clients v.state.facts c.args.batch.now)
          (sym c.self.view_is) c.requires.allowed,
    )
