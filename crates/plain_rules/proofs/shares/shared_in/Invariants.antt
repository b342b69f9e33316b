-- What was pushed and what is left give what the whole gives.
use Rattle.std.proofs.Common.{◌≡◌, ◌++◌, drop}
use Rattle.sync_rules.specs.Facts.{facts}
use Rattle.plain_rules.specs.Shares.{shared_among}
use Rattle.plain_rules.proofs.shares.shared_in.Given as goal

abbrev pub invariant-loop-batch : goal.invariant-loop-batch
invariant-loop-batch g l =
    l.ids.items ++ shared_among (g.C.Clients.meaning l.clients) (facts l.j) (drop l.batch-index l.j)
    ≡ shared_among (g.C.Clients.meaning l.clients) (facts l.j) l.j
