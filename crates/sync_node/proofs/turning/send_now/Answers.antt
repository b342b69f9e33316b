use Rattle.std.proofs.Common.{refl}
use Rattle.std.proofs.lemmas.Result.{IfErr-weaker, IfOk-weaker}
use Rattle.sync_node.proofs.CauseLaws.{link_kept, link_none}
use Rattle.sync_node.proofs.KeepLaws.{work_link, work_none, work_then}
use Rattle.sync_node.proofs.SendActs.{sending_closed, sending_read, sending_stops}
use Rattle.sync_node.proofs.WorkLaws.{able_calm, goes_read}
use Rattle.sync_node.proofs.turning.send_now.Goals as goal

pub returns-then-not-may_send : goal.returns-then-not-may_send
returns-then-not-may_send g c = record {
  went =
      sending_closed _ _ _ _ _
      (λ may. let yes = c.may_send.ensures.1 may in let no = c.if-not-may_send.true in cc);
  stopped = tt;
  keeps = work_none link_none c.requires.able;
}

pub returns : goal.returns
returns g c =
    let may = c.may_send.ensures.0 c.if-not-may_send.false in
    record {
      went =
          IfOk-weaker c.send_all.result _ _
          (sending_read _ _ _ _ _ _ _ may c.now-now.ensures.links c.now-now.ensures.call _ _ _)
          c.send_all.ensures.went;
      stopped =
          IfErr-weaker c.send_all.result _ _
          (sending_stops _ _ _ _ _ _ _ may c.now-now.ensures.links c.now-now.ensures.call _ _ _)
          c.send_all.ensures.stopped;
      keeps =
          work_then (work_link (link_kept (goes_read _ _ _ c.now-now.ensures.call
          c.now-now.ensures.links) refl refl) c.now-now.ensures.call.same_files
          c.requires.able) c.send_all.ensures.keeps;
    }

pub send_all-requires-clause-able : goal.send_all-requires-clause-able
send_all-requires-clause-able g c =
    able_calm _ _ _ _ _ _ _ c.now-now.ensures.call c.now-now.ensures.links.same_dialled
    c.requires.able

pub send_all-requires-clause-unclosed : goal.send_all-requires-clause-unclosed
send_all-requires-clause-unclosed g c = c.may_send.ensures.0 c.if-not-may_send.false
