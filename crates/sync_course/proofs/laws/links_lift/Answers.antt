use Rattle.sync_course.proofs.LiftLaws.{link_lifts, others_keep}
use Rattle.sync_course.proofs.laws.links_lift.Goals as goal

pub returns-clause-lifts : goal.returns-clause-lifts
returns-clause-lifts c = λ clients terms n place p q es within path. link_lifts clients terms n place within p q es path

pub returns-clause-others : goal.returns-clause-others
returns-clause-others c = others_keep
