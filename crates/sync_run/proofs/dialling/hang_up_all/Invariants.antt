use Rattle.sync_run.specs.Dialling.{PassesTime}
use Rattle.sync_run.proofs.dialling.hang_up_all.Given as goal

abbrev pub invariant-links : goal.invariant-links
invariant-links g l = PassesTime (g.H.Disk.tells l.initial.host) (g.H.Disk.tells l.host)
