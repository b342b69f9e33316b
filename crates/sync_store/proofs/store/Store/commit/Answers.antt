use Rattle.session_core.proofs.Unknown.{unknown}
use Rattle.sync_store.proofs.store.Store.commit.Goals as goal

pub commit_known-requires-clause-named : goal.commit_known-requires-clause-named
commit_known-requires-clause-named g c = unknown c.args.batch
