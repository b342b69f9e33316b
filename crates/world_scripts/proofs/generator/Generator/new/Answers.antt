use Rattle.std.proofs.Common.{◌∙◌, ap, sym, false}
use Rattle.world_scripts.specs.Generator.{steps_left}
use Rattle.world_scripts.proofs.Generated.{none_made}
use Rattle.world_scripts.proofs.generator.Generator.new.Goals as goal

pub returns : goal.returns
returns c = ap (steps_left 0 false) c.new.ensures ∙ sym (none_made c.args.seed c.args.count)
