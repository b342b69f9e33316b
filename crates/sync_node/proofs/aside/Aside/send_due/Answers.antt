use Rattle.std.proofs.Common.{ℕ, length, refl, ap, arith}
use Rattle.std.proofs.lemmas.Result.{IfErr-weaker, IfOk-weaker}
use Rattle.record_stream.specs.Reading.{AwaitsBytes}
use Rattle.sync_node.specs.Node.{AsideValue}
use Rattle.sync_node.proofs.CallLaws.{aside_is, with_is, leaves_closed, never, node_able, node_by, node_link}
use Rattle.sync_node.proofs.CallLaws.{node_works, stopped_by, went_by, works_by}
use Rattle.sync_node.proofs.OutLaws.{still_so}
use Rattle.sync_node.proofs.RunActLaws.{outs_sent, outs_stopped}
use Rattle.sync_node.proofs.aside.Aside.send_due.Goals as goal

pub same-self : goal.same-self
same-self g c = refl

pub returns-then-self : goal.returns-then-self
returns-then-self g c =
    let leaves =
    leaves_closed ℕ (g.C.Clients.meaning c.args.clients.now) _ c.args.host.now
    (g.H.Disk.tells c.args.host.now) (aside_is c.self.view_is c.args.store.now c.requires.aside) c.if-self.true in
    rw (← c.self.view_is) (record {
      answers = leaves.answers;
      may = leaves.may;
      goes = leaves.goes;
      kept = record { same_first = refl; same_sessions = refl };
      stops = never _ c.if-self.true;
      went = never _ c.if-self.true;
      stopped = never _ c.if-self.true;
    })

pub index_mut-requires : goal.index_mut-requires
index_mut-requires g c =
    omega (arith, c.requires.attached, ap (λ (n : AsideValue). length n.links) c.self.view_is)

pub send_all-made-requires-clause-able : goal.send_all-made-requires-clause-able
send_all-made-requires-clause-able g c =
    (node_able (with_is c.self.view_is c.args.store.now) c.requires.may c.if-self.false (aside_is c.self.view_is c.args.store.now c.requires.aside)
    c.requires.attached c.index_mut.ensures.value).able

pub send_all-made-requires-clause-unclosed : goal.send_all-made-requires-clause-unclosed
send_all-made-requires-clause-unclosed g c =
    (rw (← c.self.view_is) at c.requires.unclosed) _
    (node_link (with_is c.self.view_is c.args.store.now) c.requires.may c.if-self.false (aside_is c.self.view_is c.args.store.now c.requires.aside) c.requires.attached
    c.index_mut.ensures.value).at

pub invariant_of-self : goal.invariant_of-self
invariant_of-self g c =
    let keeps =
    node_works (with_is c.self.view_is c.args.store.now) c.requires.may c.if-self.false (aside_is c.self.view_is c.args.store.now c.requires.aside) c.requires.attached
    c.index_mut.ensures.value c.send_all-made.result c.send_all-made.ensures.keeps
    (IfOk-weaker c.send_all-made.result _ _ (λ made due.
    still_so AwaitsBytes _ _ due.sent (node_able (with_is c.self.view_is c.args.store.now) c.requires.may c.if-self.false
    (aside_is c.self.view_is c.args.store.now c.requires.aside) c.requires.attached c.index_mut.ensures.value).waits)
    c.send_all-made.ensures.went) in (
      c.self.invariant.0,
      (node_by c.send_all-made.result (aside_is c.self.view_is c.args.store.now c.requires.aside) c.if-self.false c.answer.ensures.closed keeps).few,
    )

pub returns : goal.returns
returns g c =
    let in_run =
    node_link (with_is c.self.view_is c.args.store.now) c.requires.may c.if-self.false (aside_is c.self.view_is c.args.store.now c.requires.aside) c.requires.attached
    c.index_mut.ensures.value in
    let keeps =
    node_works (with_is c.self.view_is c.args.store.now) c.requires.may c.if-self.false (aside_is c.self.view_is c.args.store.now c.requires.aside) c.requires.attached
    c.index_mut.ensures.value c.send_all-made.result c.send_all-made.ensures.keeps
    (IfOk-weaker c.send_all-made.result _ _ (λ made due.
    still_so AwaitsBytes _ _ due.sent (node_able (with_is c.self.view_is c.args.store.now) c.requires.may c.if-self.false
    (aside_is c.self.view_is c.args.store.now c.requires.aside) c.requires.attached c.index_mut.ensures.value).waits)
    c.send_all-made.ensures.went) in
    let works =
    works_by c.send_all-made.result (aside_is c.self.view_is c.args.store.now c.requires.aside) c.if-self.false c.answer.ensures.closed keeps
    c.args.host.now c.send_all-made.new.host c.answer.ensures.answer in
    rw (← c.self.view_is) (record {
      answers = works.leaves.answers;
      may = works.leaves.may;
      goes = works.leaves.goes;
      kept = works.kept;
      stops = λ opened. works.stops;
      went = λ opened.
          went_by c.send_all-made.result c.answer.ensures.answer _
          (IfOk-weaker c.send_all-made.result _ _ (λ made due. outs_sent in_run due)
          c.send_all-made.ensures.went);
      stopped = λ opened.
          stopped_by c.send_all-made.result c.answer.ensures.answer _
          (IfErr-weaker c.send_all-made.result _ _ (λ e halted. outs_stopped in_run halted)
          c.send_all-made.ensures.stopped);
    })
