use Rattle.outside_real.proofs.early.EarlySource.read_early.Given as goal

abbrev pub decreases-pieces : goal.decreases-pieces
decreases-pieces g l = l.left
