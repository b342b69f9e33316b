use Rattle.std.proofs.Common.{ap, refl, Ok, Err}
use Rattle.request_frames.specs.declared.reader.Ending.TheVariants as ends
use Rattle.node_service.specs.declared.ear.Came.TheVariants as came
use Rattle.node_service.proofs.LifeLemmas.{ends_at_fault, ends_done, ends_in_fault}
use Rattle.node_service.proofs.LifeLemmas.{ends_read_fault, ends_too_much, goes_on, lived_first}
use Rattle.node_service.proofs.LifeLemmas.{lived_counted, lived_none, lived_untold, next_whole}
use Rattle.node_service.proofs.LifeLemmas.{stops}
use Rattle.node_service.proofs.life.serve.Goals as goal

pub returns-in_default : goal.returns-in_default
returns-in_default g c =
    lived_none (g.N.Node.answers c.args.node.now) c.args.host.now (g.S.Source.tells c.args.input.now)
    (g.W.Sink.tells c.args.out.now)

pub returns-in-Err : goal.returns-in-Err
returns-in-Err g c =
    lived_untold (g.N.Node.answers c.args.node.now) c.args.host.now
    (g.S.Source.tells c.args.input.now) (g.W.Sink.tells c.args.out.now)
    (g.W.Sink.tells c.write_text.new.sink) c.in-Err.ensures.cause.failed c.in-Err.ensures.gets.0

pub requests-init : goal.requests-init
requests-init g c = (
  lived_first (g.N.Node.answers c.args.node.now) c.args.host.now
      (g.S.Source.tells c.args.input.now) (g.W.Sink.tells c.args.out.now)
      (g.W.Sink.tells c.write_text.new.sink) c.in-Ok.ear c.in-Ok.ensures.sound
      c.in-Ok.ensures.stands c.in-Ok-write_text.ensures.ok
      c.in-Ok-write_text.ensures.cause.later,
  c.requires,
)

pub answer_next-requires-clause-whole : goal.answer_next-requires-clause-whole
answer_next-requires-clause-whole g c =
    next_whole _ _ _ _ _ _ _ _ _ _ _ _ c.requests.invariant.0 came.Request c.in-Request.ensures.hears refl

pub returns-in-Err-answer_next : goal.returns-in-Err-answer_next
returns-in-Err-answer_next g c =
    rw c.stopped.ensures
    (stops _ _ _ _ _ _ _ _ _ _ _ _ c.requests.invariant.0 came.Request c.in-Request.ensures.hears refl
    c.answer_next.new.host (g.W.Sink.tells c.answer_next.new.out) (Err c.in-Err-answer_next.stop)
    (λ request words keeps. c.in-Err-answer_next.ensures.answers request words keeps)
    c.in-Err-answer_next.stop refl)

pub returns-in-End-Fault : goal.returns-in-End-Fault
returns-in-End-Fault g c =
    ends_in_fault _ _ _ _ _ _ _ _ _ _ _ _ c.requests.invariant.0 (came.End c.in-End-Fault.field-0)
    c.in-End-Fault.ensures.hears (ap came.End c.in-End-Fault.field-0-is)
    (g.W.Sink.tells c.tell_fault.new.out) c.tell_fault.result c.tell_fault.ensures

pub returns-in-End-Clean : goal.returns-in-End-Clean
returns-in-End-Clean g c =
    ends_done _ _ _ _ _ _ _ _ _ _ _ _ c.requests.invariant.0 (came.End c.in-End-Clean.field-0)
    c.in-End-Clean.ensures.hears ends.Clean (λ fault. cc) (ap came.End c.in-End-Clean.field-0-is)

pub returns-in-End-Inside : goal.returns-in-End-Inside
returns-in-End-Inside g c =
    ends_done _ _ _ _ _ _ _ _ _ _ _ _ c.requests.invariant.0 (came.End c.in-End-Inside.field-0)
    c.in-End-Inside.ensures.hears ends.Inside (λ fault. cc)
    (ap came.End c.in-End-Inside.field-0-is)

pub returns-in-Fault : goal.returns-in-Fault
returns-in-Fault g c =
    ends_at_fault _ _ _ _ _ _ _ _ _ _ _ _ c.requests.invariant.0 came.Fault c.in-Fault.ensures.hears
    refl (g.W.Sink.tells c.tell_fault-in-Fault.new.out) c.tell_fault-in-Fault.result
    c.tell_fault-in-Fault.ensures

pub returns-in-ReadFault : goal.returns-in-ReadFault
returns-in-ReadFault g c =
    ends_read_fault _ _ _ _ _ _ _ _ _ _ _ _ c.requests.invariant.0 came.ReadFault
    c.in-ReadFault.ensures.hears refl

pub returns-in-TooMuch : goal.returns-in-TooMuch
returns-in-TooMuch g c =
    ends_too_much _ _ _ _ _ _ _ _ _ _ _ _ c.requests.invariant.0 came.TooMuch
    c.in-TooMuch.ensures.hears refl

pub requests-preserved : goal.requests-preserved
requests-preserved g c = (
  goes_on _ _ _ _ _ _ _ _ _ _ _ _ c.requests.invariant.0 came.Request c.in-Request.ensures.hears refl
      c.answer_next.new.host (g.W.Sink.tells c.answer_next.new.out) (Ok tt)
      (λ request words keeps. c.in-Ok-answer_next.ensures.answers request words keeps)
      (g.N.Node.answers c.answer_next.new.node) c.in-Ok-answer_next.ensures.same refl
      c.in-Request.ensures.sound c.in-Ok-answer_next.ensures.later,
  c.in-Ok-answer_next.ensures.stays,
)

pub returns : goal.returns
returns g c =
    lived_counted _ _ _ _ _ _ _ _ _ _ c.requests.invariant.0 c.requests-test.false
