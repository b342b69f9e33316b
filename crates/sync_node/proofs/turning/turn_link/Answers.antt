use Rattle.record_stream.specs.Reading.{AwaitsBytes}
use Rattle.sync_node.proofs.KeepLaws.{able_kept, work_then, works_was}
use Rattle.sync_node.proofs.OutLaws.{still_so}
use Rattle.sync_node.proofs.SendActs.{turned_loud, turned_quiet, turned_stops}
use Rattle.sync_node.proofs.turning.turn_link.Goals as goal

pub returns-then-quiet-clause-waits : goal.returns-then-quiet-clause-waits
returns-then-quiet-clause-waits g c =
    still_so AwaitsBytes _ _ c.in_ok-made.ensures.went.sent c.in_ok-quiet.ensures.waits

pub returns-else-quiet-clause-waits : goal.returns-else-quiet-clause-waits
returns-else-quiet-clause-waits g c =
    still_so AwaitsBytes _ _ c.in_ok-made.ensures.went.sent c.in_ok-quiet.ensures.waits

pub send_now-requires : goal.send_now-requires
send_now-requires g c =
    record { able = able_kept c.requires.able.able c.in_ok-quiet.ensures.work.keeps }

pub returns-in_err-quiet-clause-work : goal.returns-in_err-quiet-clause-work
returns-in_err-quiet-clause-work g c =
    works_was _ c.in_err-quiet.field-0.0 c.from_residual.ensures.1
    c.in_err-quiet.ensures.work.stopped c.in_err-quiet.ensures.work.keeps

pub returns-in_err-made-clause-work : goal.returns-in_err-made-clause-work
returns-in_err-made-clause-work g c =
    works_was _ c.in_err-made.field-0.0 c.from_residual-in_err-made.ensures.1
    (turned_stops c.in_ok-quiet.ensures.work.keeps.link.same_session
    c.in_ok-quiet.ensures.work.went c.in_err-made.ensures.stopped)
    (work_then c.in_ok-quiet.ensures.work.keeps c.in_err-made.ensures.keeps)

pub returns-then-quiet-clause-work : goal.returns-then-quiet-clause-work
returns-then-quiet-clause-work g c = record {
  went =
      turned_quiet c.in_ok-quiet.ensures.work.keeps.link.same_session
      c.in_ok-quiet.ensures.work.went c.if-quiet.true c.in_ok-made.ensures.went;
  stopped = tt;
  keeps = work_then c.in_ok-quiet.ensures.work.keeps c.in_ok-made.ensures.keeps;
}

pub returns-else-quiet-clause-work : goal.returns-else-quiet-clause-work
returns-else-quiet-clause-work g c = record {
  went =
      turned_loud c.in_ok-quiet.ensures.work.keeps.link.same_session
      c.in_ok-quiet.ensures.work.went c.if-quiet.false c.in_ok-made.ensures.went;
  stopped = tt;
  keeps = work_then c.in_ok-quiet.ensures.work.keeps c.in_ok-made.ensures.keeps;
}
