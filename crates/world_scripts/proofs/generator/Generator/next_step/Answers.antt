use Rattle.std.proofs.Common.{◌≡◌, ◌+◌, ◌<◌, ◌≤◌, [], ◌∷◌, ◌∙◌, ap, sym}
use Rattle.std.proofs.Common.{arith, eqb-true}
use Rattle.std.proofs.lemmas.Bool.{eqb-false}
use Rattle.world_scripts.specs.Generator.{is_rest_behind, post_of, steps_left}
use Rattle.world_scripts.proofs.Generated.{all_made, opened_more, posted_more, rested}
use Rattle.world_scripts.proofs.generator.Generator.next_step.Goals as goal

pub returns-then-self-lt-OPENING_STEPS-clause-ok : goal.returns-then-self-lt-OPENING_STEPS-clause-ok
returns-then-self-lt-OPENING_STEPS-clause-ok c =
    sym c.self.view_is
    ∙ opened_more c.self.inside.opened c.self.inside.rests c.self.inside.posts c.in_ok-step.step
    c.in_ok-step.ensures

pub returns-then-self-clause-ok : goal.returns-then-self-clause-ok
returns-then-self-clause-ok c =
    sym c.self.view_is ∙ ap (λ r. steps_left c.self.inside.opened r c.self.inside.posts)
    c.if-self.true
    ∙ rested c.self.inside.opened c.self.inside.posts c.if-self-lt-OPENING_STEPS.false

pub returns-then-is_over-clause-ok : goal.returns-then-is_over-clause-ok
returns-then-is_over-clause-ok c =
    let over : c.self.inside.posts.posted ≡ c.self.inside.posts.count =
    eqb-true c.self.inside.posts.posted c.self.inside.posts.count (sym c.if-is_over.ensures.over) in
    let none : c.args.self.now ≡ [] =
    sym c.self.view_is ∙ ap (λ r. steps_left c.self.inside.opened r c.self.inside.posts)
    c.if-self.false
    ∙ all_made c.self.inside.opened c.self.inside.posts c.if-self-lt-OPENING_STEPS.false over in
    (none, none)

pub returns-clause-ok : goal.returns-clause-ok
returns-clause-ok c =
    let differ : c.self.inside.posts.posted ≡ c.self.inside.posts.count → ⊥ =
    eqb-false c.self.inside.posts.posted c.self.inside.posts.count
    (sym c.if-is_over.ensures.over) in
    let within : c.self.inside.posts.posted ≤ c.self.inside.posts.count =
    c.if-is_over.ensures.within in
    let more : c.self.inside.posts.posted < c.self.inside.posts.count = omega arith in
    let made : post_of c.self.inside.posts.seed c.self.inside.posts.posted ≡ c.in_ok-step-2.step =
    sym c.in_ok-step-2.ensures.ok in
    let moved : record c.self.inside.posts { posted = c.self.inside.posts.posted + 1 }
    ≡ c.next_post.new.self =
    sym c.in_ok-step-2.ensures.moved in
    sym c.self.view_is ∙ ap (λ r. steps_left c.self.inside.opened r c.self.inside.posts)
    c.if-self.false
    ∙ posted_more c.self.inside.opened c.self.inside.posts.seed c.self.inside.posts.count
    c.self.inside.posts.posted
    c.if-self-lt-OPENING_STEPS.false more
    ∙ (λ i. made i ∷ steps_left c.self.inside.opened
    (is_rest_behind (moved i).count (moved i).posted) (moved i))
    ∙ ap (λ r. c.in_ok-step-2.step ∷ steps_left c.self.inside.opened r c.next_post.new.self)
    (sym c.rests-self-inside.ensures)
