use Rattle.std.proofs.Common.{refl}
use Rattle.sync_node.proofs.CallLaws.{aside_is, with_is, add_keeps, adding_left, leaves_closed, never, node_by, node_may}
use Rattle.sync_node.proofs.CallLaws.{stopped_by, stops_by, went_by, works_by}
use Rattle.sync_node.proofs.aside.Aside.add.Goals as goal

pub same-self : goal.same-self
same-self g c = refl

pub returns-then-self : goal.returns-then-self
returns-then-self g c =
    let leaves =
    leaves_closed (Unit {0}) (g.C.Clients.meaning c.args.clients.now) _ c.args.host.now
    (g.H.Disk.tells c.args.host.now) (aside_is c.self.view_is c.args.store.now c.requires.aside) c.if-self.true in
    rw (← c.self.view_is) (record {
      answers = leaves.answers;
      may = leaves.may;
      goes = leaves.goes;
      stops = never _ c.if-self.true;
      went = tt;
      stopped = never _ c.if-self.true;
      leads = never _ c.if-self.true;
      links = refl;
    })

pub add_settled-work-requires-clause-ready : goal.add_settled-work-requires-clause-ready
add_settled-work-requires-clause-ready g c =
    (node_may (with_is c.self.view_is c.args.store.now) c.requires.may c.if-self.false).ready

pub add_settled-work-requires-clause-allowed : goal.add_settled-work-requires-clause-allowed
add_settled-work-requires-clause-allowed g c =
    (rw (← c.self.view_is) at c.requires.allowed) c.if-self.false

pub invariant_of-self : goal.invariant_of-self
invariant_of-self g c = (
  c.self.invariant.0,
  c.self.invariant.1,
)

pub returns : goal.returns
returns g c =
    let works =
    works_by c.add_settled-work.result (aside_is c.self.view_is c.args.store.now c.requires.aside) c.if-self.false c.answer.ensures.closed
    (add_keeps _ c.args.batch c.self.inside.links.items _ _ _ _ _ c.requires.plain
    (node_may (with_is c.self.view_is c.args.store.now) c.requires.may c.if-self.false) c.add_settled-work.ensures.went
    c.add_settled-work.ensures.stopped)
    c.args.host.now c.add_settled-work.new.host c.answer.ensures.answer in
    rw (← c.self.view_is) (record {
      answers = works.leaves.answers;
      may = works.leaves.may;
      goes = works.leaves.goes;
      links = refl;
      stops = λ opened.
          stops_by c.add_settled-work.result c.answer.ensures.answer _
          (adding_left _ c.args.batch _ _ _ _ _ _ c.add_settled-work.result
          c.add_settled-work.ensures.stopped c.add_settled-work.ensures.undone);
      went = went_by c.add_settled-work.result c.answer.ensures.answer _ c.add_settled-work.ensures.went;
      stopped = λ opened.
          stopped_by c.add_settled-work.result c.answer.ensures.answer _ c.add_settled-work.ensures.stopped;
      leads = λ opened. c.add_settled-work.ensures.leads;
    })
