use Rattle.sync_node.proofs.AsideLaws.{aside_of, goes_as, node_kept}
use Rattle.sync_node.proofs.node.Node.receive.Goals as goal

pub receive-requires-clause-aside : goal.receive-requires-clause-aside
receive-requires-clause-aside g c = aside_of c.self.invariant

pub receive-requires-clause-may : goal.receive-requires-clause-may
receive-requires-clause-may g c = rw (← c.self.view_is) at c.requires.may

pub receive-requires-clause-attached : goal.receive-requires-clause-attached
receive-requires-clause-attached g c = rw (← c.self.view_is) at c.requires.attached

pub receive-requires-clause-asked : goal.receive-requires-clause-asked
receive-requires-clause-asked g c = rw (← c.self.view_is) at c.requires.asked

pub invariant_of-self : goal.invariant_of-self
invariant_of-self g c =
    node_kept c.self.invariant c.receive.ensures.goes.aside c.receive.ensures.kept

pub returns : goal.returns
returns g c =
    rw (← c.self.view_is) (record {
      answers = c.receive.ensures.answers;
      may = c.receive.ensures.may;
      goes = goes_as (invariant_of-self g c) c.receive.ensures.goes;
      kept = c.receive.ensures.kept;
      stops = c.receive.ensures.stops;
      went = c.receive.ensures.went;
      stopped = c.receive.ensures.stopped;
    })
