use Rattle.sync_run.proofs.DialLaws.{stills_call, stills_none, stills_then}
use Rattle.sync_run.proofs.dialling.hang_up_all.Goals as goal

pub links-init : goal.links-init
links-init g c = stills_none _

pub links-preserved : goal.links-preserved
links-preserved g c = stills_then _ _ _ c.links.invariant (stills_call _ _ c.hang_up.ensures.call c.hang_up.ensures.links)
