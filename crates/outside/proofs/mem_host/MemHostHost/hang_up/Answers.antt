use Rattle.std.proofs.Common.{refl}
use Rattle.outside.proofs.HostCalls.{calm_call}
use Rattle.outside.proofs.mem_host.MemHostHost.hang_up.Goals as goal

pub returns-clause-call : goal.returns-clause-call
returns-clause-call c = calm_call c.args.self.now c.args.self.now refl
