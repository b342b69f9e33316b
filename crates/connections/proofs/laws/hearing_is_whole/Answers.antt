use Rattle.connections.proofs.HearLemmas.{all_told}
use Rattle.connections.proofs.laws.hearing_is_whole.Goals as goal

pub returns : goal.returns
returns c = λ brought told connection stands all.
    all_told c.readings_are_whole.ensures brought told connection stands all.0 all.1
