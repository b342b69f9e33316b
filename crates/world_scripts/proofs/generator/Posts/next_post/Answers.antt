use Rattle.std.proofs.Common.{◌<◌, ◌∙◌, ap, arith}
use Rattle.world_scripts.specs.Generator.{post_of}
use Rattle.world_scripts.proofs.Generated.{moved_first, moved_second, post_first, post_second}
use Rattle.world_scripts.proofs.generator.Posts.next_post.Goals as goal

pub invariant_of-self : goal.invariant_of-self
invariant_of-self c =
    let more : c.self.inside.posted < c.self.inside.count = grind arith in
    moved_second c.self.inside.seed c.self.inside.count c.self.inside.posted c.self.inside.number
    c.self.inside.last_of_first
    c.self.inside.last_of_second c.self.invariant c.advanced-number.result c.from-label.result
    c.advanced-number.ensures c.from-label.ensures
    more c.if-is_second.true

pub returns-then-is_second-clause-ok : goal.returns-then-is_second-clause-ok
returns-then-is_second-clause-ok c =
    post_second c.self.inside.seed c.self.inside.count c.self.inside.posted c.self.inside.number
    c.self.inside.last_of_first
    c.self.inside.last_of_second c.self.invariant c.advanced-number.result c.from-label.result
    c.advanced-number.ensures c.from-label.ensures
    c.in_ok-step.step c.if-is_second.true c.in_ok-step.ensures
    ∙ ap (λ p. post_of p.seed p.posted) c.self.view_is

pub invariant_of-self-2 : goal.invariant_of-self-2
invariant_of-self-2 c =
    let more : c.self.inside.posted < c.self.inside.count = grind arith in
    moved_first c.self.inside.seed c.self.inside.count c.self.inside.posted c.self.inside.number
    c.self.inside.last_of_first
    c.self.inside.last_of_second c.self.invariant c.advanced-number.result c.from-label.result
    c.advanced-number.ensures c.from-label.ensures
    more c.if-is_second.false

pub returns-clause-ok : goal.returns-clause-ok
returns-clause-ok c =
    post_first c.self.inside.seed c.self.inside.count c.self.inside.posted c.self.inside.number
    c.self.inside.last_of_first
    c.self.inside.last_of_second c.self.invariant c.advanced-number.result c.from-label.result
    c.advanced-number.ensures c.from-label.ensures
    c.in_ok-step-2.step c.if-is_second.false c.in_ok-step-2.ensures
    ∙ ap (λ p. post_of p.seed p.posted) c.self.view_is
