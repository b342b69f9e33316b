-- The product is cut before the sum, which changes nothing.
use Rattle.std.proofs.Common.{◌*◌, ◌^◌}
use Rattle.std.proofs.Math.Nat.{mod-add-mod}
use Rattle.world_scripts.specs.Generator.{number_behind}
use Rattle.world_scripts.proofs.generator.advanced.Goals as goal

pub returns : goal.returns
unfolding number_behind
returns c = mod-add-mod (c.args.number * 6364136223846793005) (2 ^ 64) 1442695040888963407
