use Rattle.std.proofs.Common.{refl, sym, ap, ◌∙◌, arith, Some}
use Rattle.std.proofs.lemmas.Option.{slice_get-get_or}
use Rattle.sync_node.proofs.CourseRuns.{none_at_all, none_yet, one_more, some_beats}
use Rattle.sync_node.specs.declared.link.Link.{Link}
use Rattle.sync_node.proofs.redundant.is_redundant.Goals as goal

pub rivals-init : goal.rivals-init
rivals-init c = none_yet _ _

pub rivals-preserved : goal.rivals-preserved
rivals-preserved c =
    let rival = slice_get-get_or c.args.links.now c.rivals.other c.index-links-other.result (omega (arith, c.rivals-test.true))
    ∙ ap (λ (x : Link). Some x) (sym c.index-links-other.is) in
    let here = slice_get-get_or c.args.links.now c.args.place c.index-links-place.result (omega (arith, c.requires))
    ∙ ap (λ (x : Link). Some x) (sym c.index-links-place.is) in
    one_more c.args.links.now c.args.place c.rivals.other _ c.index-links-other.result c.index-links-place.result c.outdoes.result rival here c.outdoes.ensures.exact
    c.if-outdoes.false refl c.rivals.invariant

pub returns-then-outdoes-clause-exact : goal.returns-then-outdoes-clause-exact
returns-then-outdoes-clause-exact c = λ heard l at.
    let rival = slice_get-get_or c.args.links.now c.rivals.other c.index-links-other.result (omega (arith, c.rivals-test.true))
    ∙ ap (λ (x : Link). Some x) (sym c.index-links-other.is) in
    let here = slice_get-get_or c.args.links.now c.args.place c.index-links-place.result (omega (arith, c.requires))
    ∙ ap (λ (x : Link). Some x) (sym c.index-links-place.is) in
    some_beats c.args.links.now c.args.place c.rivals.other c.index-links-other.result c.index-links-place.result c.outdoes.result rival here c.outdoes.ensures.exact
    c.if-outdoes.true c.rivals.invariant heard l at

pub returns-clause-exact : goal.returns-clause-exact
returns-clause-exact c = λ heard l at.
    none_at_all c.args.links.now c.args.place c.rivals.other c.rivals-test.false c.rivals.invariant heard l at
