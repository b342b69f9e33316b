use Rattle.std.proofs.Common.{◌≡◌, length, refl, arith}
use Rattle.std.proofs.lemmas.Option.{slice_get-get_or}
use Rattle.sync_node.proofs.CourseRuns.{closed_all, closed_none, closes_it, get_there, leaves_it}
use Rattle.sync_node.proofs.CauseLaws.{closes_none, closes_one}
use Rattle.sync_node.proofs.redundant.close_redundant.Goals as goal
use Rattle.sync_node.proofs.redundant.close_redundant.Goals.{then-is_redundant, else-is_redundant}

pub links-init : goal.links-init
links-init c = record { some = closes_none _; exact = closed_none _ }

pub links-preserved : goal.links-preserved
links-preserved c = elim c.if-is_redundant.branch [
  | then-is_redundant w ↦
      let here = slice_get-get_or c.links.links c.links.place w.index-links-place.result (omega (arith, c.links-test.true, c.links.auto.links)) in
      rw w.links-is (record {
        some = closes_one c.args.links.now c.links.links c.links.place _ c.links.invariant.some here (c.is_redundant.ensures.going w.if-is_redundant.true _ here);
        exact = closes_it c.args.links.now c.links.links c.links.place _ here c.is_redundant.result c.is_redundant.ensures.exact c.links.invariant.exact w.if-is_redundant.true _ refl;
      })
  | else-is_redundant w ↦
      let there = get_there c.links.links c.links.place (omega (arith, c.links-test.true, c.links.auto.links)) in
      rw w.links-is (record {
        some = c.links.invariant.some;
        exact = leaves_it c.args.links.now c.links.links c.links.place there.0 there.1 c.is_redundant.result c.is_redundant.ensures.exact c.links.invariant.exact w.if-is_redundant.false _ refl;
      })
]

pub returns-clause-some : goal.returns-clause-some
returns-clause-some c = c.links.invariant.some

pub returns-clause-exact : goal.returns-clause-exact
returns-clause-exact c =
    let all : c.links.place ≡ length c.args.links.now = omega (arith, c.links-test.false, c.links.auto.place-end) in
    closed_all c.args.links.now c.links.links c.links.place all c.links.invariant.exact
