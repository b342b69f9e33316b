use Rattle.world_scripts.proofs.Generated.{none_posted}
use Rattle.world_scripts.proofs.generator.Posts.new.Goals as goal

pub invariant_of-result : goal.invariant_of-result
invariant_of-result c = none_posted c.args.seed c.args.count c.requires
