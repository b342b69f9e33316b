use Rattle.std.specs.Option.{option_copied}
use Rattle.world_scripts.specs.Forms.{pick_in}
use Rattle.world_scripts.proofs.WordLemmas.{reads_missing, reads_value}
use Rattle.world_scripts.proofs.words.Words.pick.Goals as goal

pub returns-in_err-word : goal.returns-in_err-word
returns-in_err-word c =
    reads_missing pick_in (option_copied c.args.self.now.left)
    (option_copied c.word.new.self.left) c.from_residual.result c.in_err-word.ensures (cc)

pub returns : goal.returns
returns c =
    reads_value pick_in (option_copied c.args.self.now.left) c.in_ok-word.field-0.now
    (option_copied c.word.new.self.left) c.pick.result
    c.in_ok-word.ensures c.pick.ensures
