use Rattle.client_sharing.proofs.Spelled.{saying_spelled}
use Rattle.client_sharing.proofs.bodies.sayings_are_spelled.Goals as goal

pub returns : goal.returns
returns c = saying_spelled
