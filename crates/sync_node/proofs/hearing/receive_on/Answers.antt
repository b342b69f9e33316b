use Rattle.std.proofs.Common.{refl, sym, ap, ◌∙◌, arith}
use Rattle.sync_course.specs.Links.{stands_ended}
use Rattle.sync_node.proofs.CauseLaws.{ended_unfailed, link_failed, link_kept, link_unfailed}
use Rattle.sync_node.proofs.LinkActs.{hear_ended, hear_failed, hear_idle, hear_piece, hear_stops}
use Rattle.sync_node.proofs.KeepLaws.{work_link, work_then, works_was}
use Rattle.sync_node.proofs.WorkLaws.{able_calm, ended_not_going, goes_heard}
use Rattle.sync_node.proofs.hearing.receive_on.Goals as goal

pub recv-requires-clause-link : goal.recv-requires-clause-link
recv-requires-clause-link g c = c.requires.able.able.dialled

pub recv-requires-clause-room : goal.recv-requires-clause-room
recv-requires-clause-room g c = omega (arith, c.requires.whole)

pub take_group-requires-clause-able : goal.take_group-requires-clause-able
take_group-requires-clause-able g c =
    able_calm _ _ _ _ _ _ _ c.recv.ensures.call c.recv.ensures.links.same_dialled c.requires.able.able

pub take_group-requires-clause-asked : goal.take_group-requires-clause-asked
take_group-requires-clause-asked g c = c.requires.asked

pub end-requires : goal.end-requires
end-requires g c = (c.requires.able.waits c.requires.asked).rest

pub returns-in_ok-take_group-in-Got-clause-waits : goal.returns-in_ok-take_group-in-Got-clause-waits
returns-in_ok-take_group-in-Got-clause-waits g c = c.in_ok-take_group-in-Got.ensures.waits

pub returns-in-Idle-clause-waits : goal.returns-in-Idle-clause-waits
returns-in-Idle-clause-waits g c = c.requires.able.waits

pub returns-in-End-clause-waits : goal.returns-in-End-clause-waits
returns-in-End-clause-waits g c =
    λ going. absurd (ended_not_going _ (sym c.ended-link.ensures ∙ going))

pub returns-in-Failed-clause-waits : goal.returns-in-Failed-clause-waits
returns-in-Failed-clause-waits g c = λ going. cc

pub returns-in_err-take_group-in-Got-clause-work : goal.returns-in_err-take_group-in-Got-clause-work
returns-in_err-take_group-in-Got-clause-work g c =
    works_was _ c.in_err-take_group-in-Got.field-0.0 c.from_residual.ensures.1
    (hear_stops _ _ _ _ _ _ c.recv.new.buf (c.recv.auto.buf ∙ c.requires.whole) c.requires.asked c.in-Got.ensures.call
    c.cite_laws.ensures.widen c.in-Got.count c.in-Got.ensures.links c.in-Got.ensures.answer
    (rw c.new-piece.ensures at c.in_err-take_group-in-Got.ensures.work.stopped))
    (work_then (work_link (link_kept (goes_heard _ _ _ _ _ c.recv.ensures.call c.recv.ensures.links)
    refl refl) c.recv.ensures.call.same_files c.requires.able.able)
    c.in_err-take_group-in-Got.ensures.work.keeps)

pub returns-in_ok-take_group-in-Got-clause-work : goal.returns-in_ok-take_group-in-Got-clause-work
returns-in_ok-take_group-in-Got-clause-work g c = record {
  went =
      hear_piece _ _ _ _ _ _ c.recv.new.buf (c.recv.auto.buf ∙ c.requires.whole) c.requires.asked c.in-Got.ensures.call
      c.cite_laws.ensures.widen c.in-Got.count c.in-Got.ensures.links c.in-Got.ensures.answer
      (rw c.new-piece.ensures at c.in_ok-take_group-in-Got.ensures.work.went);
  stopped = tt;
  keeps =
      work_then (work_link (link_kept (goes_heard _ _ _ _ _ c.recv.ensures.call
      c.recv.ensures.links) refl refl) c.recv.ensures.call.same_files c.requires.able.able)
      c.in_ok-take_group-in-Got.ensures.work.keeps;
}

pub returns-in-Idle-clause-work : goal.returns-in-Idle-clause-work
returns-in-Idle-clause-work g c = record {
  went =
      hear_idle _ _ _ _ _ _ c.recv.new.buf (c.recv.auto.buf ∙ c.requires.whole) c.requires.asked c.in-Idle.ensures.call
      c.in-Idle.ensures.links c.in-Idle.ensures.answer;
  stopped = tt;
  keeps =
      work_link (link_kept (goes_heard _ _ _ _ _ c.recv.ensures.call c.recv.ensures.links) refl refl)
      c.recv.ensures.call.same_files c.requires.able.able;
}

pub returns-in-End-clause-work : goal.returns-in-End-clause-work
returns-in-End-clause-work g c = record {
  went =
      hear_ended _ _ _ _ _ _ c.recv.new.buf (c.recv.auto.buf ∙ c.requires.whole) c.requires.asked c.in-End.ensures.call
      (c.ended-link.ensures ∙ ap stands_ended c.end.ensures.ending) c.in-End.ensures.links
      c.in-End.ensures.answer;
  stopped = tt;
  keeps =
      work_link (link_unfailed (goes_heard _ _ _ _ _ c.recv.ensures.call c.recv.ensures.links) refl
      (λ failed. ended_unfailed _ (sym c.ended-link.ensures ∙ failed)))
      c.recv.ensures.call.same_files c.requires.able.able;
}

pub returns-in-Failed-clause-work : goal.returns-in-Failed-clause-work
returns-in-Failed-clause-work g c = record {
  went =
      hear_failed _ _ _ _ _ _ c.recv.new.buf (c.recv.auto.buf ∙ c.requires.whole) c.requires.asked c.in-Failed.ensures.call
      c.in-Failed.ensures.links c.in-Failed.ensures.answer;
  stopped = tt;
  keeps =
      work_link (link_failed {number = c.args.number}
      (goes_heard _ _ _ _ _ c.recv.ensures.call c.recv.ensures.links) refl
      (omega (arith, c.in-Failed.ensures.answer))) c.recv.ensures.call.same_files c.requires.able.able;
}
