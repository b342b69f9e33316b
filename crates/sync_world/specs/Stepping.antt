-- What a step makes of a world.
use Rattle.std.specs.Prelude.{◌≡◌, Some, None, Result, Err, IsErrOf}
use Rattle.sync_world.specs.Doing.{DoesBy}
use Rattle.sync_world.specs.Leaving.{IsSame}
use Rattle.sync_world.specs.Moving.{fault_after}
use Rattle.sync_world.specs.Refusing.{refuses}
use Rattle.sync_world.specs.Standing.{IsManyDevices}
use Rattle.world_devices.specs.Refusals.{RefusedBy}
use Rattle.sync_world.specs.declared.stage.Stage.{Stage}
use Rattle.world_devices.specs.declared.stop.StepFault.{StepFault}
use Rattle.world_devices.specs.declared.stop.StepFault.TheVariants as fault_kind
use Rattle.world_scripts.specs.declared.step.WorldStep.{WorldStep}

-- a step was made of a world and answered so
pub record HasStepped (made : WorldStep) (old new : Stage)
    (result : Result (Unit {0}) StepFault) : Type 0 where
  pub for_good : (fault : StepFault) → old.fault ≡ Some fault → (result ≡ Err fault) × (new ≡ old)
  pub fault : old.fault ≡ None → new.fault ≡ fault_after result
  pub many : IsManyDevices new.devices.items
  pub refused : old.fault ≡ None → RefusedBy (refuses made old) result
  pub same : old.fault ≡ None → IsErrOf result fault_kind.Refused → IsSame old new
  pub does : old.fault ≡ None → DoesBy made result old new
