use Rattle.node_service.specs.declared.ear.Came.TheVariants as came
use Rattle.node_service.proofs.EarLemmas.{comes_end, comes_fault, comes_now, piece_far}
use Rattle.node_service.proofs.ear.Ear.next.Goals as goal

pub returns-in-Fault-clause-hears : goal.returns-in-Fault-clause-hears
returns-in-Fault-clause-hears g c =
    comes_now _ _ _ _ _ _ c.pieces.invariant came.Fault
    (λ read told s. c.in-Fault.ensures.hears read told s)

pub returns-in-Ok-eq0-clause-hears : goal.returns-in-Ok-eq0-clause-hears
returns-in-Ok-eq0-clause-hears g c =
    comes_end _ _ _ _ c.hear.new.self _ c.pieces.invariant c.readings_are_whole.ensures _ c.read.new.self
    c.in-Ok-eq0.field-0 c.end.result (λ read told s. c.in-More.ensures.hears read told s)
    c.in-More.ensures.waits.0 c.in-More.ensures.waits.1 c.in-Ok-eq0.ensures.read c.in-Ok-eq0.field-0-test
    c.in-Ok-eq0.ensures.cause.later c.end.ensures.ending

pub returns-in-Err-clause-hears : goal.returns-in-Err-clause-hears
returns-in-Err-clause-hears g c =
    comes_fault _ _ _ _ c.hear.new.self _ c.pieces.invariant c.readings_are_whole.ensures _ c.read.new.self
    c.in-Err.field-0 (λ read told s. c.in-More.ensures.hears read told s) c.in-More.ensures.waits.0
    c.in-More.ensures.waits.1 c.in-Err.ensures.read c.in-Err.ensures.cause.later
    c.in-Err.ensures.cause.failed

pub pieces-preserved : goal.pieces-preserved
pieces-preserved g c =
    piece_far _ _ _ _ c.hear.new.self _ c.pieces.invariant _ c.read.new.self c.in-Ok.field-0
    (λ read told s. c.in-More.ensures.hears read told s) c.in-More.ensures.waits.0
    c.in-Ok.ensures.read c.in-Ok.ensures.cause.later c.in-Ok.field-0-test.1 c.in-Ok.ensures.sound
