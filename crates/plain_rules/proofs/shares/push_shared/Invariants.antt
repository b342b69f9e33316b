-- What was pushed and what is left give what the whole gives.
use Rattle.std.proofs.Common.{◌≡◌, ◌++◌, drop}
use Rattle.sync_rules.specs.Facts.{facts}
use Rattle.plain_rules.specs.Shares.{shared_of}
use Rattle.plain_rules.proofs.shares.push_shared.Given as goal

abbrev pub invariant-loop-entry : goal.invariant-loop-entry
invariant-loop-entry g l =
    l.ids.items ++ shared_of (g.C.Clients.meaning l.clients) (facts l.j) (drop l.entry-index l.entries)
    ≡ l.fn.ids.items ++ shared_of (g.C.Clients.meaning l.clients) (facts l.j) l.entries
