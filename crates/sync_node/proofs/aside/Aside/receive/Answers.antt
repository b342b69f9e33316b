use Rattle.std.proofs.Common.{ℕ, Bool, List, length, refl, ap, arith, ◌∙◌}
use Rattle.std.proofs.lemmas.Result.{IfErr-weaker, IfOk-weaker}
use Rattle.sync_node.specs.Node.{AsideValue}
use Rattle.sync_node.proofs.CallLaws.{aside_is, with_is, leaves_closed, never, node_able, node_by, node_link}
use Rattle.sync_node.proofs.CallLaws.{node_works, stopped_by, went_by, works_by}
use Rattle.sync_node.proofs.CauseLaws.{kept_long}
use Rattle.sync_node.proofs.RunActLaws.{asking_stopped, asking_went}
use Rattle.sync_node.proofs.aside.Aside.receive.Goals as goal

pub same-self : goal.same-self
same-self g c = refl

pub returns-then-self : goal.returns-then-self
returns-then-self g c =
    let leaves =
    leaves_closed Bool (g.C.Clients.meaning c.args.clients.now) _ c.args.host.now
    (g.H.Disk.tells c.args.host.now) (aside_is c.self.view_is c.args.store.now c.requires.aside) c.if-self.true in
    rw (← c.self.view_is) (record {
      answers = leaves.answers;
      may = leaves.may;
      goes = leaves.goes;
      kept = record { same_first = refl; same_sessions = refl };
      stops = never _ c.if-self.true;
      went = never _ c.if-self.true;
      stopped = never _ c.if-self.true;
    })

pub index_mut-requires : goal.index_mut-requires
index_mut-requires g c =
    omega (arith, c.requires.attached, ap (λ (n : AsideValue). length n.links) c.self.view_is)

pub receive_on-idle-requires-clause-able : goal.receive_on-idle-requires-clause-able
receive_on-idle-requires-clause-able g c =
    node_able (with_is c.self.view_is c.args.store.now) c.requires.may c.if-self.false (aside_is c.self.view_is c.args.store.now c.requires.aside) c.requires.attached
    c.index_mut.ensures.value

pub receive_on-idle-requires-clause-asked : goal.receive_on-idle-requires-clause-asked
receive_on-idle-requires-clause-asked g c =
    (rw (← c.self.view_is) at c.requires.asked) _
    (node_link (with_is c.self.view_is c.args.store.now) c.requires.may c.if-self.false (aside_is c.self.view_is c.args.store.now c.requires.aside) c.requires.attached
    c.index_mut.ensures.value).at

pub receive_on-idle-requires-clause-whole : goal.receive_on-idle-requires-clause-whole
receive_on-idle-requires-clause-whole g c =
    ap (λ (b : List ℕ). length b) c.as_mut_slice.ensures.value ∙ c.self.invariant.0

pub invariant_of-self : goal.invariant_of-self
invariant_of-self g c =
    let keeps =
    node_works (with_is c.self.view_is c.args.store.now) c.requires.may c.if-self.false (aside_is c.self.view_is c.args.store.now c.requires.aside) c.requires.attached
    c.index_mut.ensures.value c.receive_on-idle.result c.receive_on-idle.ensures.work.keeps
    c.receive_on-idle.ensures.waits in (
      kept_long _ _ _ _ _ c.self.invariant.0 (omega (arith, c.as_mut_slice.ensures.len))
          c.as_mut_slice.ensures.value (omega (arith, c.receive_on-idle.auto.buffer)),
      (node_by c.receive_on-idle.result (aside_is c.self.view_is c.args.store.now c.requires.aside) c.if-self.false c.answer.ensures.closed keeps).few,
    )

pub returns : goal.returns
returns g c =
    let in_run =
    node_link (with_is c.self.view_is c.args.store.now) c.requires.may c.if-self.false (aside_is c.self.view_is c.args.store.now c.requires.aside) c.requires.attached
    c.index_mut.ensures.value in
    let keeps =
    node_works (with_is c.self.view_is c.args.store.now) c.requires.may c.if-self.false (aside_is c.self.view_is c.args.store.now c.requires.aside) c.requires.attached
    c.index_mut.ensures.value c.receive_on-idle.result c.receive_on-idle.ensures.work.keeps
    c.receive_on-idle.ensures.waits in
    let works =
    works_by c.receive_on-idle.result (aside_is c.self.view_is c.args.store.now c.requires.aside) c.if-self.false c.answer.ensures.closed keeps
    c.args.host.now c.receive_on-idle.new.host c.answer.ensures.answer in
    rw (← c.self.view_is) (record {
      answers = works.leaves.answers;
      may = works.leaves.may;
      goes = works.leaves.goes;
      kept = works.kept;
      stops = λ opened. works.stops;
      went = λ opened.
          went_by c.receive_on-idle.result c.answer.ensures.answer _
          (IfOk-weaker c.receive_on-idle.result _ _ (λ idle heard. asking_went in_run heard)
          c.receive_on-idle.ensures.work.went);
      stopped = λ opened.
          stopped_by c.receive_on-idle.result c.answer.ensures.answer _
          (IfErr-weaker c.receive_on-idle.result _ _ (λ e halted. asking_stopped in_run halted)
          c.receive_on-idle.ensures.work.stopped);
    })
