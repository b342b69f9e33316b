use Rattle.sync_world.proofs.playing.act.Goals as goal

pub returns : goal.returns
returns c = (c.in-Err.fault, c.in-Err.ensures, c.ended_by.ensures)
