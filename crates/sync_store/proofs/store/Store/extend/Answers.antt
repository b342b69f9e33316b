use Rattle.session_core.proofs.Unknown.{unknown}
use Rattle.sync_store.proofs.store.Store.extend.Goals as goal

pub extend_known-requires-clause-named : goal.extend_known-requires-clause-named
extend_known-requires-clause-named g c = unknown c.args.batch
