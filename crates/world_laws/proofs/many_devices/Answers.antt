use Rattle.world_laws.specs.Worlds.{last_of}
use Rattle.world_laws.proofs.Steps.{new_is_sound, rest_is_done, steps_lead}
use Rattle.world_laws.proofs.many_devices.Goals as goal

pub returns-clause-sound : goal.returns-clause-sound
returns-clause-sound c = λ clients w worlds new steps. steps_lead clients w worlds (new_is_sound clients w new) steps

pub returns-clause-seen : goal.returns-clause-seen
returns-clause-seen c = λ clients w worlds new steps. (steps_lead clients w worlds (new_is_sound clients w new) steps).seen

pub returns-clause-written : goal.returns-clause-written
returns-clause-written c = λ clients w worlds new steps. (steps_lead clients w worlds (new_is_sound clients w new) steps).written

pub returns-clause-rest : goal.returns-clause-rest
returns-clause-rest c = λ clients w worlds new steps.
    rest_is_done clients (last_of w worlds) (steps_lead clients w worlds (new_is_sound clients w new) steps)
