use Rattle.std.proofs.Common.{◌∙◌}
use Rattle.world_devices.proofs.HostLaws.{plans_linked, silent_fresh}
use Rattle.world_devices.proofs.starting.begin.Goals as goal

pub returns-in-Ok-init-clause-silent : goal.returns-in-Ok-init-clause-silent
returns-in-Ok-init-clause-silent c = record {
  plans = λ link.
      plans_linked c.in-Ok-new.host c.init.new.disk c.init.ensures.run.same_links link
      ∙ (silent_fresh c.in-Ok-new.host c.in-Ok.disk c.in-Ok-new.ensures.host).plans link;
}
