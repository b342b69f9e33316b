use Rattle.std.proofs.Common.{◌≡◌, ◌<◌, ◌≤◌, ◌*◌, ℕ, length, arith}
use Rattle.retry_table.specs.declared.blocks.Times.TheVariants as times
use Rattle.retry_table.proofs.BlockLaws.{made_whole}
use Rattle.retry_table.proofs.classes.class_of.Goals as goal

pub returns : goal.returns
returns c =
    let i = c.loop-block.invariant in
    made_whole (times.Sooner c.args.tries) c.args.rows.now c.loop-block.tree c.loop-block.block i.made i.none
    (omega (arith, c.div_ceil-blocks.ensures, c.loop-block-test.false)) (omega (arith, i.many)) (omega (arith, i.many, c.requires.few))
