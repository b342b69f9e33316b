use Rattle.outside.proofs.HostCalls.{dials_call}
use Rattle.outside.proofs.HostLinks.{dials_links}
use Rattle.outside.proofs.mem_host.MemHostHost.dial.Goals as goal

pub returns-clause-call : goal.returns-clause-call
returns-clause-call c = dials_call c.args.spec.now c.make_dial.result c.args.self.now c.make_dial.new.self c.make_dial.ensures

pub returns-clause-links : goal.returns-clause-links
returns-clause-links c = dials_links c.args.spec.now c.make_dial.result c.args.self.now c.make_dial.new.self c.make_dial.ensures
