use Rattle.std.proofs.Common.{ap}
use Rattle.outside.specs.MemHost.{MemHostValue}
use Rattle.outside.proofs.HostCalls.{calm_call}
use Rattle.outside.proofs.HostLinks.{reading_links}
use Rattle.outside.proofs.mem_host.MemHostHost.now.Goals as goal

pub returns-clause-links : goal.returns-clause-links
returns-clause-links c = reading_links c.make_reading.result c.args.self.now c.make_reading.new.self c.make_reading.ensures

pub returns-clause-call : goal.returns-clause-call
returns-clause-call c = calm_call c.args.self.now c.make_reading.new.self (ap (λ (h : MemHostValue). h.disk) c.make_reading.ensures.rest)
