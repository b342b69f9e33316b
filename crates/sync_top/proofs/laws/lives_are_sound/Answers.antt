use Rattle.sync_top.proofs.SoundLemmas.{lives_sound}
use Rattle.sync_top.proofs.laws.lives_are_sound.Goals as goal

pub returns : goal.returns
returns c =
    lives_sound c.once.ensures.brings c.once.ensures.judges c.once.ensures.ends c.order.ensures
    c.origin.ensures c.standing_is_legal.ensures
