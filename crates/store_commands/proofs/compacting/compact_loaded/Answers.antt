use Rattle.store_commands.proofs.Compacts.{brief_loaded}
use Rattle.store_commands.proofs.compacting.compact_loaded.Goals as goal

pub returns-clause-compacted : goal.returns-clause-compacted
returns-clause-compacted g c start was =
    brief_loaded (g.C.Clients.meaning c.args.clients.now) _ _ _ _ _ c.args.store.now _ was.run
    was.rests was.opened c.shorten.ensures.made
