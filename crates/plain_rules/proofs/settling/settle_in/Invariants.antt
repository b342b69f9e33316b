-- The journal was extended by settling alone, and less is left to do with each step.
use Rattle.sync_rules.specs.Facts.{facts}
use Rattle.sync_rules.specs.Hearing.{SettlesJournal}
use Rattle.sync_rules.specs.Left.{left_of}
use Rattle.plain_rules.proofs.settling.settle_in.Given as goal

abbrev pub invariant-steps : goal.invariant-steps
invariant-steps g l = SettlesJournal (g.C.Clients.meaning l.clients) l.fn.j.items l.j.items

abbrev pub decreases-steps : goal.decreases-steps
decreases-steps g l = left_of (facts l.j.items)
