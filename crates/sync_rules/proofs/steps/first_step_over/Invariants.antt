-- What is left gives what the whole gives.
use Rattle.std.proofs.Common.{◌≡◌, drop}
use Rattle.sync_rules.specs.Facts.{facts}
use Rattle.sync_rules.specs.Scans.{first_step_in}
use Rattle.sync_rules.proofs.steps.first_step_over.Given as goal

abbrev pub invariant-loop-batch : goal.invariant-loop-batch
invariant-loop-batch g l =
    first_step_in (g.C.Clients.meaning l.clients) (facts l.j) (drop l.batch-index l.batches) ≡ first_step_in (g.C.Clients.meaning l.clients) (facts l.j) l.batches
