use Rattle.sync_top.proofs.SoundLemmas.{runs_sound}
use Rattle.sync_top.proofs.laws.runs_are_sound.Goals as goal

pub returns : goal.returns
returns c =
    runs_sound c.once.ensures.brings c.once.ensures.judges c.once.ensures.ends c.order.ensures
    c.origin.ensures c.output.ensures c.standing_is_legal.ensures
