use Rattle.std.proofs.Common.{◌∙◌, arith}
use Rattle.retry_table.proofs.BlockLaws.{timely_found, none_behind, block_within, timely_behind}
use Rattle.retry_table.proofs.blocks.next_at_most.Goals as goal

pub returns-in-Some : goal.returns-in-Some
returns-in-Some c =
    timely_found c.args.times c.args.bound c.args.rows.now c.args.from c.in-Some.n c.in-Some.ensures.low c.in-Some.ensures.timely c.in-Some.ensures.before

pub returns-in_err-block : goal.returns-in_err-block
returns-in_err-block c =
    c.from_residual.ensures ∙ none_behind c.args.times c.args.bound c.args.rows.now c.args.from c.args.tree.now c.requires c.in_default.ensures.none c.in_err-block.ensures

pub overflow_mul-block : goal.overflow_mul-block
overflow_mul-block c =
    omega (arith, c.requires.small, block_within c.args.times c.args.bound c.args.rows.now c.args.from c.args.tree.now c.requires c.in_default.ensures.none c.in_ok-block.block c.in_ok-block.ensures)

pub next_in_block-requires : goal.next_in_block-requires
next_in_block-requires c =
    omega (arith, c.requires.small, block_within c.args.times c.args.bound c.args.rows.now c.args.from c.args.tree.now c.requires c.in_default.ensures.none c.in_ok-block.block c.in_ok-block.ensures)

pub returns : goal.returns
returns c =
    let e = c.next_in_block.ensures in
    timely_behind c.args.times c.args.bound c.args.rows.now c.args.from c.args.tree.now c.requires c.in_default.ensures.none c.in_ok-block.block c.in_ok-block.ensures
    c.next_in_block.result e.low e.timely e.before e.none
