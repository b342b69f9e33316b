use Rattle.std.proofs.Common.{sym}
use Rattle.client_basic.specs.Bodies.{bundle_meaning}
use Rattle.world_devices.proofs.AllowedLaws.{group_allowed}
use Rattle.world_devices.proofs.CallLaws.{runs_none}
use Rattle.world_devices.proofs.RunningLaws.{may_add}
use Rattle.world_devices.proofs.device.Device.add_group.Goals as goal

pub add-requires : goal.add-requires
add-requires c =
    may_add c.args.self.now.node c.in-Some.store.now _ c.in-Some.ensures tt
    (λ settled. group_allowed bundle_meaning c.in-Some.store.now.state.facts c.args.def c.in-Ok.field-0 settled (sym c.in-Ok.ensures))

pub returns-in_default-clause-runs : goal.returns-in_default-clause-runs
returns-in_default-clause-runs c = runs_none c.args.self.now

pub returns-in-Err-clause-runs : goal.returns-in-Err-clause-runs
returns-in-Err-clause-runs c = runs_none c.args.self.now
