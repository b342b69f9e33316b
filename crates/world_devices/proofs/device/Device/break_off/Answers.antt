use Rattle.world_devices.proofs.StartLaws.{comes_same}
use Rattle.world_devices.proofs.device.Device.break_off.Goals as goal

pub returns-in_default-clause-left : goal.returns-in_default-clause-left
returns-in_default-clause-left c = comes_same c.args.self.now.host
