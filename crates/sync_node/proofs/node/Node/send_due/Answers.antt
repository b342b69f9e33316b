use Rattle.sync_node.proofs.AsideLaws.{aside_of, goes_as, node_kept}
use Rattle.sync_node.proofs.node.Node.send_due.Goals as goal

pub send_due-requires-clause-aside : goal.send_due-requires-clause-aside
send_due-requires-clause-aside g c = aside_of c.self.invariant

pub send_due-requires-clause-may : goal.send_due-requires-clause-may
send_due-requires-clause-may g c = rw (← c.self.view_is) at c.requires.may

pub send_due-requires-clause-attached : goal.send_due-requires-clause-attached
send_due-requires-clause-attached g c = rw (← c.self.view_is) at c.requires.attached

pub send_due-requires-clause-unclosed : goal.send_due-requires-clause-unclosed
send_due-requires-clause-unclosed g c = rw (← c.self.view_is) at c.requires.unclosed

pub invariant_of-self : goal.invariant_of-self
invariant_of-self g c =
    node_kept c.self.invariant c.send_due.ensures.goes.aside c.send_due.ensures.kept

pub returns : goal.returns
returns g c =
    rw (← c.self.view_is) (record {
      answers = c.send_due.ensures.answers;
      may = c.send_due.ensures.may;
      goes = goes_as (invariant_of-self g c) c.send_due.ensures.goes;
      kept = c.send_due.ensures.kept;
      stops = c.send_due.ensures.stops;
      went = c.send_due.ensures.went;
      stopped = c.send_due.ensures.stopped;
    })
