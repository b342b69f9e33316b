use Rattle.std.proofs.Common.{◌∙◌, ap, Some}
use Rattle.world_scripts.proofs.DeviceLemmas.{line_within}
use Rattle.world_scripts.proofs.reading.open_script.Goals as goal

pub returns-in-Ok-Devices-clause-fewest : goal.returns-in-Ok-Devices-clause-fewest
returns-in-Ok-Devices-clause-fewest c =
    (line_within c.in-Some.line.now c.in-Ok-Devices.devices
    (c.in-Ok-Devices.ensures ∙ ap (λ l. Some l) c.in-Ok-Devices.field-0-is)).0

pub returns-in-Ok-Devices-clause-most : goal.returns-in-Ok-Devices-clause-most
returns-in-Ok-Devices-clause-most c =
    (line_within c.in-Some.line.now c.in-Ok-Devices.devices
    (c.in-Ok-Devices.ensures ∙ ap (λ l. Some l) c.in-Ok-Devices.field-0-is)).1
