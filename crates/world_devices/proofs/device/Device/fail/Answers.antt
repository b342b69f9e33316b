use Rattle.world_devices.proofs.StartLaws.{comes_same}
use Rattle.world_devices.proofs.device.Device.fail.Goals as goal

pub returns-in-Full-clause-left : goal.returns-in-Full-clause-left
returns-in-Full-clause-left g c = comes_same c.args.self.now.host

pub returns-in-Memory-clause-left : goal.returns-in-Memory-clause-left
returns-in-Memory-clause-left g c = comes_same c.args.self.now.host
