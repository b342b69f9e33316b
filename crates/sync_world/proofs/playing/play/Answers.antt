use Rattle.sync_words.specs.Words.{texts}
use Rattle.sync_world.proofs.PrintLemmas.{misread}
use Rattle.sync_world.specs.Asking.{asks_replay}
use Rattle.sync_world.proofs.playing.play.Goals as goal

pub returns-in_err-read_words : goal.returns-in_err-read_words
returns-in_err-read_words g c =
    misread (asks_replay (texts c.args.words.now)) c.from_residual.result
    c.in_err-read_words.field-0.0 _ _
    c.from_residual.ensures.1 c.in_err-read_words.ensures.asked
