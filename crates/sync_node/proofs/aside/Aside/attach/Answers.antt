use Rattle.std.proofs.Common.{◌≡◌, ℕ, false, length, refl, sym, ap, subst, arith}
use Rattle.std.proofs.lemmas.Result.{on_ok_weaker}
use Rattle.sync_rules.specs.Steps.{IsSettled}
use Rattle.sync_node.specs.Node.{AsideValue}
use Rattle.sync_node.specs.Plans.{session_of}
use Rattle.sync_node.proofs.StartActs.{attach_comes, begin_stopped, begin_went, plan_allowed}
use Rattle.sync_node.proofs.CallLaws.{aside_is, with_is, if_stopped, leaves_by, leaves_closed, never, node_may}
use Rattle.sync_node.proofs.CallLaws.{stopped_by, stops_by, went_by}
use Rattle.sync_node.proofs.aside.Aside.attach.Goals as goal

pub same-self : goal.same-self
same-self g c = refl

pub returns-then-self : goal.returns-then-self
returns-then-self g c =
    let leaves =
    leaves_closed (Unit {0}) (g.C.Clients.meaning c.args.clients.now) _ c.args.host.now
    (g.H.Disk.tells c.args.host.now) (aside_is c.self.view_is c.args.store.now c.requires.aside) c.if-self.true in
    rw (← c.self.view_is) (record {
      answers = leaves.answers;
      may = leaves.may;
      goes = leaves.goes;
      stops = never _ c.if-self.true;
      went = never _ c.if-self.true;
      stopped = never _ c.if-self.true;
      links = refl;
    })

pub attach_on-work-requires-clause-ready : goal.attach_on-work-requires-clause-ready
attach_on-work-requires-clause-ready g c =
    (node_may (with_is c.self.view_is c.args.store.now) c.requires.may c.if-self.false).ready

pub attach_on-work-requires-clause-allowed : goal.attach_on-work-requires-clause-allowed
attach_on-work-requires-clause-allowed g c =
    plan_allowed (g.C.Clients.meaning c.args.clients.now) c.args.store.now.state.facts
    (session_of c.sessions.result c.args.plan.now c.args.nonce)
    (subst (λ (a : AsideValue). a.closed ≡ false
    → IsSettled (g.C.Clients.meaning c.args.clients.now) c.args.store.now.state.facts)
    (sym c.self.view_is) c.requires.settled c.if-self.false)
    c.sessions.ensures c.requires.begun c.requires.contact c.requires.latency c.requires.nonce

pub attach_on-work-requires-clause-dialled : goal.attach_on-work-requires-clause-dialled
attach_on-work-requires-clause-dialled g c = c.requires.dialled

pub attach_on-work-requires-clause-last : goal.attach_on-work-requires-clause-last
attach_on-work-requires-clause-last g c =
    omega (arith, c.requires.next, ap (λ (a : AsideValue). length a.links) c.self.view_is)

pub invariant_of-self : goal.invariant_of-self
invariant_of-self g c =
    let last : length c.self.inside.links.items ≡ c.args.link =
    omega (arith, c.requires.next, ap (λ (a : AsideValue). length a.links) c.self.view_is) in (
      c.self.invariant.0,
      (attach_comes (g.C.Clients.meaning c.args.clients.now) c.args.link
          (session_of c.sessions.result c.args.plan.now c.args.nonce) (g.H.Disk.tells c.args.host.now)
          (g.H.Disk.tells c.attach_on-work.new.host)
          (aside_is c.self.view_is c.args.store.now c.requires.aside) c.if-self.false
          c.sessions.ensures last c.requires.few c.requires.dialled
          c.attach_on-work.ensures.work.goes c.attach_on-work.result c.answer.ensures.closed
          c.attach_on-work.ensures.went c.attach_on-work.ensures.same).node.few,
    )

pub returns : goal.returns
returns g c =
    let last : length c.self.inside.links.items ≡ c.args.link =
    omega (arith, c.requires.next, ap (λ (a : AsideValue). length a.links) c.self.view_is) in
    let session = session_of c.sessions.result c.args.plan.now c.args.nonce in
    let is = ap (λ (k : ℕ). session_of k c.args.plan.now c.args.nonce) c.sessions.ensures in
    let comes =
    attach_comes (g.C.Clients.meaning c.args.clients.now) c.args.link session
    (g.H.Disk.tells c.args.host.now) (g.H.Disk.tells c.attach_on-work.new.host)
    (aside_is c.self.view_is c.args.store.now c.requires.aside) c.if-self.false c.sessions.ensures last
    c.requires.few c.requires.dialled c.attach_on-work.ensures.work.goes c.attach_on-work.result
    c.answer.ensures.closed c.attach_on-work.ensures.went c.attach_on-work.ensures.same in
    let leaves =
    leaves_by c.attach_on-work.result c.answer.ensures.answer (g.C.Clients.meaning c.args.clients.now) _ _
    c.args.host.now c.attach_on-work.new.host _ _ c.if-self.false comes.node refl c.answer.ensures.closed
    comes.go c.attach_on-work.ensures.work.same_limit c.attach_on-work.ensures.work.same_format comes.may in
    rw (← c.self.view_is) (record {
      answers = leaves.answers;
      may = leaves.may;
      goes = leaves.goes;
      links = comes.pushes _ c.answer.ensures.answer;
      stops = λ opened.
          stops_by c.attach_on-work.result c.answer.ensures.answer _
          (if_stopped c.attach_on-work.result _ c.attach_on-work.ensures.work.stops);
      went = λ opened.
          went_by c.attach_on-work.result c.answer.ensures.answer _
          (on_ok_weaker c.attach_on-work.result
          (begin_went _ session _ is c.self.inside.links.items _ _ _ c.args.link _ _ last)
          c.attach_on-work.ensures.went);
      stopped = λ opened.
          stopped_by c.attach_on-work.result c.answer.ensures.answer _
          (begin_stopped _ session _ is c.self.inside.links.items _ _ _ _ _ c.attach_on-work.result
          c.attach_on-work.ensures.same c.attach_on-work.ensures.work.stopped);
    })
