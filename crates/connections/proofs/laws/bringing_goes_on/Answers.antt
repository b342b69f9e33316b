use Rattle.connections.proofs.HearLemmas.{brought_more}
use Rattle.connections.proofs.laws.bringing_goes_on.Goals as goal

pub returns : goal.returns
returns c = λ brought bytes told connection stands. brought_more brought bytes told connection stands
