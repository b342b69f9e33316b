use Rattle.world_laws.proofs.Steps.{new_is_sound, step_keeps, steps_lead}
use Rattle.world_laws.proofs.steps_keep.Goals as goal

pub returns-clause-new : goal.returns-clause-new
returns-clause-new c = new_is_sound

pub returns-clause-step : goal.returns-clause-step
returns-clause-step c = step_keeps

pub returns-clause-steps : goal.returns-clause-steps
returns-clause-steps c = steps_lead
