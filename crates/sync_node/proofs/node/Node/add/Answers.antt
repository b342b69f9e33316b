use Rattle.std.proofs.Common.{List, length, ap}
use Rattle.sync_node.specs.declared.link.Link.{Link}
use Rattle.sync_node.proofs.AsideLaws.{aside_of, goes_as, node_same}
use Rattle.sync_node.proofs.node.Node.add.Goals as goal

pub add-requires-clause-aside : goal.add-requires-clause-aside
add-requires-clause-aside g c = aside_of c.self.invariant

pub add-requires-clause-may : goal.add-requires-clause-may
add-requires-clause-may g c = rw (← c.self.view_is) at c.requires.may

pub add-requires-clause-allowed : goal.add-requires-clause-allowed
add-requires-clause-allowed g c = rw (← c.self.view_is) at c.requires.allowed

pub invariant_of-self : goal.invariant_of-self
invariant_of-self g c =
    node_same c.self.invariant c.add.ensures.goes.aside
    (ap (λ (ls : List Link). length ls) c.add.ensures.links)

pub returns : goal.returns
returns g c =
    rw (← c.self.view_is) (record {
      answers = c.add.ensures.answers;
      may = c.add.ensures.may;
      goes = goes_as (invariant_of-self g c) c.add.ensures.goes;
      links = c.add.ensures.links;
      stops = c.add.ensures.stops;
      went = c.add.ensures.went;
      stopped = c.add.ensures.stopped;
      leads = c.add.ensures.leads;
    })
