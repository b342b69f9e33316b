use Rattle.std.proofs.Common.{refl}
use Rattle.node_service.proofs.EarLemmas.{heard_fault, heard_more, heard_request}
use Rattle.node_service.proofs.ear.Ear.hear_asked.Goals as goal

pub returns-in-Whole-clause-hears : goal.returns-in-Whole-clause-hears
returns-in-Whole-clause-hears c = λ read told s.
    heard_request c.readings_go_on.ensures read told _ _ _ c.in-Whole.ensures.heard s refl

pub returns-in-More-clause-hears : goal.returns-in-More-clause-hears
returns-in-More-clause-hears c = λ read told s.
    heard_more c.readings_go_on.ensures read told _ _ _ c.in-More.ensures.heard s refl

pub returns-in-Fault-clause-hears : goal.returns-in-Fault-clause-hears
returns-in-Fault-clause-hears c = λ read told s.
    heard_fault c.readings_go_on.ensures read told _ _ _ c.in-Fault.ensures.heard s
    c.readings_are_whole.ensures refl
