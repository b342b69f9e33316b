-- The lines stand for the entries so far.
use Rattle.std.proofs.Common.{take}
use Rattle.sync_rules.specs.Facts.{after_all, facts}
use Rattle.plain_rules.specs.Wants.{WantsAre}
use Rattle.plain_rules.proofs.wants.want_batch.Given as goal

abbrev pub invariant-loop-k : goal.invariant-loop-k
invariant-loop-k l = WantsAre (after_all (facts l.earlier) (take l.k l.entries)) l.lines.items
