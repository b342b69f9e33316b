use Rattle.std.proofs.Common.{refl, arith}
use Rattle.sync_node.proofs.AsideLaws.{aside_closed, closes_as, exact_as, kept_closed}
use Rattle.sync_node.proofs.CauseLaws.{kept_same}
use Rattle.sync_node.proofs.aside.Aside.close_redundant.Goals as goal

pub invariant_of-self : goal.invariant_of-self
invariant_of-self c =
    let kept =
    kept_same c.self.inside.links.len c.self.inside.links.items _ c.close_redundant.new.links
    (omega (arith, c.as_mut_slice.ensures.len)) c.as_mut_slice.ensures.value
    (omega (arith, c.close_redundant.auto.links)) in
    let closes = closes_as c.as_mut_slice.ensures.value kept c.close_redundant.ensures.some in
    (c.self.invariant.0, omega (arith, c.self.invariant.1, closes.same_number))

pub returns : goal.returns
returns c =
    let kept =
    kept_same c.self.inside.links.len c.self.inside.links.items _ c.close_redundant.new.links
    (omega (arith, c.as_mut_slice.ensures.len)) c.as_mut_slice.ensures.value
    (omega (arith, c.close_redundant.auto.links)) in
    let closes = closes_as c.as_mut_slice.ensures.value kept c.close_redundant.ensures.some in
    rw (← c.self.view_is) (record {
      some = closes;
      exact = exact_as c.as_mut_slice.ensures.value kept c.close_redundant.ensures.exact;
      rest = refl;
      kept = λ s. kept_closed closes s c.self.inside.first c.self.inside.closed;
      aside = λ s aside. aside_closed closes s c.self.inside.first c.self.inside.closed aside;
    })
