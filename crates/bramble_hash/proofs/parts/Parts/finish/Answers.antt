use Rattle.std.proofs.Common.{[]}
use Rattle.bramble_hash.specs.Parts.{hash, preimage}
use Rattle.bramble_hash.proofs.parts.Parts.finish.Goals as goal

pub returns : goal.returns
unfolding hash
returns c = λ parts held. c.finalize.ensures [] (preimage parts) (rw c.self.view_is held.taken)
