-- All lines were pushed.
use Rattle.std.proofs.Common.{refl, ◌∙◌}
use Rattle.plain_rules.specs.Lines.{lines_among}
use Rattle.plain_rules.proofs.LineScans.{lines_found}
use Rattle.plain_rules.proofs.Loops.{pushed_all}
use Rattle.plain_rules.proofs.lines.held_lines.Goals as goal

pub returns : goal.returns
returns c =
    pushed_all lines_among c.args.j.now c.loop-batch.batch-index c.loop-batch.lines.items _ c.loop-batch-test.false refl c.loop-batch.invariant ∙ lines_found c.args.j.now
