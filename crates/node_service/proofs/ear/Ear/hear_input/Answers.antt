use Rattle.node_service.proofs.EarLemmas.{asked_stands}
use Rattle.node_service.proofs.ear.Ear.hear_input.Goals as goal

pub returns-clause-hears : goal.returns-clause-hears
returns-clause-hears c = λ read told s.
    c.hear_asked.ensures.hears read told
    (asked_stands c.keeping_goes_on.ensures read told _ _ c.ask.ensures.asks s)
