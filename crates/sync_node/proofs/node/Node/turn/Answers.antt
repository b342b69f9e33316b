use Rattle.sync_node.proofs.AsideLaws.{aside_of, goes_as, node_kept}
use Rattle.sync_node.proofs.node.Node.turn.Goals as goal

pub turn-requires-clause-aside : goal.turn-requires-clause-aside
turn-requires-clause-aside g c = aside_of c.self.invariant

pub turn-requires-clause-may : goal.turn-requires-clause-may
turn-requires-clause-may g c = rw (← c.self.view_is) at c.requires.may

pub invariant_of-self : goal.invariant_of-self
invariant_of-self g c =
    node_kept c.self.invariant c.turn.ensures.goes.aside c.turn.ensures.kept

pub returns : goal.returns
returns g c =
    rw (← c.self.view_is) (record {
      answers = c.turn.ensures.answers;
      may = c.turn.ensures.may;
      goes = goes_as (invariant_of-self g c) c.turn.ensures.goes;
      kept = c.turn.ensures.kept;
      stops = c.turn.ensures.stops;
      went = c.turn.ensures.went;
      stopped = c.turn.ensures.stopped;
    })
