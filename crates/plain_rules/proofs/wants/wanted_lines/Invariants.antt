-- The lines stand for the batches so far.
use Rattle.std.proofs.Common.{take}
use Rattle.sync_rules.specs.Facts.{facts}
use Rattle.plain_rules.specs.Wants.{WantsAre}
use Rattle.plain_rules.proofs.wants.wanted_lines.Given as goal

abbrev pub invariant-loop-i : goal.invariant-loop-i
invariant-loop-i l = WantsAre (facts (take l.i l.j)) l.lines.items
