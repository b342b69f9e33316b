use Rattle.stream_commands.proofs.PlayLemmas.{plays_more, plays_same}
use Rattle.stream_commands.proofs.player.PlayerListener.hear.Goals as goal

pub returns-in_default : goal.returns-in_default
returns-in_default g c = λ first items heard. plays_same _ _ items _ _ _ c.in_default.ensures heard

pub returns : goal.returns
returns g c =
    λ first items heard. plays_more _ _ items _ _ _ _ _ c.in-Some.ensures c.in_ok-hear.ensures heard
