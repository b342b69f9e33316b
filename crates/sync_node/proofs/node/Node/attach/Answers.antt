use Rattle.std.proofs.Common.{◌≡◌, false, arith, subst, sym}
use Rattle.sync_rules.specs.Steps.{IsSettled}
use Rattle.sync_node.specs.Node.{NodeValue}
use Rattle.sync_node.proofs.AsideLaws.{aside_of, goes_as, node_pushed}
use Rattle.sync_node.proofs.node.Node.attach.Goals as goal

pub attach-requires-clause-aside : goal.attach-requires-clause-aside
attach-requires-clause-aside g c = aside_of c.self.invariant

pub attach-requires-clause-may : goal.attach-requires-clause-may
attach-requires-clause-may g c = rw (← c.self.view_is) at c.requires.may

pub attach-requires-clause-settled : goal.attach-requires-clause-settled
attach-requires-clause-settled g c =
    subst (λ (n : NodeValue). n.closed ≡ false
    → IsSettled (g.C.Clients.meaning c.args.clients.now) n.store.state.facts)
    (sym c.self.view_is) c.requires.settled

pub attach-requires-clause-begun : goal.attach-requires-clause-begun
attach-requires-clause-begun g c = rw (← c.self.view_is) at c.requires.begun

pub attach-requires-clause-contact : goal.attach-requires-clause-contact
attach-requires-clause-contact g c = rw (← c.self.view_is) at c.requires.contact

pub attach-requires-clause-next : goal.attach-requires-clause-next
attach-requires-clause-next g c = rw (← c.self.view_is) at c.requires.next

pub attach-requires-clause-few : goal.attach-requires-clause-few
attach-requires-clause-few g c = omega (arith, c.requires.few)

pub invariant_of-self : goal.invariant_of-self
invariant_of-self g c =
    node_pushed c.self.invariant c.attach.result c.attach.ensures.goes.aside
    (let next = (rw (← c.self.view_is) at c.requires.next) in omega (arith, c.requires.few, next)) c.attach.ensures.links

pub returns : goal.returns
returns g c =
    rw (← c.self.view_is) (record {
      answers = c.attach.ensures.answers;
      may = c.attach.ensures.may;
      goes = goes_as (invariant_of-self g c) c.attach.ensures.goes;
      links = c.attach.ensures.links;
      stops = c.attach.ensures.stops;
      went = c.attach.ensures.went;
      stopped = c.attach.ensures.stopped;
    })
