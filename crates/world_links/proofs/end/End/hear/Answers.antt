use Rattle.std.proofs.Common.{arith}
use Rattle.world_links.specs.declared.end.TheConstants.{PIECE_LEN}
use Rattle.world_links.proofs.EndLaws.{input_left}
use Rattle.world_links.proofs.end.End.hear.Goals as goal

pub returns-clause-input : goal.returns-clause-input
returns-clause-input c = let left = input_left c.self.inside.heard PIECE_LEN c.self.inside.given.items c.self.invariant in grind (arith, left)
