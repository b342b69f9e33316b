use Rattle.std.proofs.Common.{◌≡◌, ◌∙◌, ◌<◌, ◌≤◌, ℕ, length, arith}
use Rattle.std.specs.Vec.{vec_len}
use Rattle.retry_table.specs.Table.{kept_in}
use Rattle.retry_table.proofs.SoonerQueues.{all_below, more_below, none_below}
use Rattle.retry_table.proofs.classes.Classes.next_sooner.Goals as goal

pub loop-tries-init : goal.loop-tries-init
loop-tries-init c = none_below c.args.rows.now c.args.from c.args.latency c.args.now

pub loop-tries-preserved : goal.loop-tries-preserved
loop-tries-preserved c =
    c.earlier-first.ensures
    ∙ more_below c.args.rows.now c.args.from c.args.latency c.args.now c.loop-tries.tries c.loop-tries.first c.next_in.result c.loop-tries.invariant c.next_in.ensures

pub returns : goal.returns
returns c =
    let many : c.args.self.now.most ≤ c.loop-tries.tries = omega (arith, c.requires.whole, c.len-tries-end.ensures, c.args.self.now.trees.ok.0, c.loop-tries-test.false) in
    all_below c.args.rows.now c.args.from c.args.latency c.args.now c.loop-tries.tries c.loop-tries.first
    (λ n. let few = c.requires.kept.tried n in omega (arith, few, many)) c.loop-tries.invariant
