use Rattle.std.specs.Option.{option_copied}
use Rattle.sync_words.specs.Words.{level_in}
use Rattle.world_scripts.proofs.WordLemmas.{reads_missing, reads_value}
use Rattle.world_scripts.proofs.words.Words.level.Goals as goal

pub returns-in_err-word : goal.returns-in_err-word
returns-in_err-word c =
    reads_missing level_in (option_copied c.args.self.now.left)
    (option_copied c.word.new.self.left) c.from_residual.result c.in_err-word.ensures (cc)

pub returns : goal.returns
returns c =
    reads_value level_in (option_copied c.args.self.now.left) c.in_ok-word.field-0.now
    (option_copied c.word.new.self.left) c.level.result
    c.in_ok-word.ensures c.level.ensures
