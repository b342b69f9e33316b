-- What is left gives what the whole gives.
use Rattle.std.proofs.Common.{◌≡◌, drop}
use Rattle.sync_rules.specs.Facts.{facts}
use Rattle.sync_rules.specs.Scans.{first_step_of}
use Rattle.sync_rules.proofs.steps.first_step_among.Given as goal

abbrev pub invariant-loop-entry : goal.invariant-loop-entry
invariant-loop-entry g l =
    first_step_of (g.C.Clients.meaning l.clients) (facts l.j) (drop l.entry-index l.entries) ≡ first_step_of (g.C.Clients.meaning l.clients) (facts l.j) l.entries
