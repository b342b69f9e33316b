use Rattle.outside.proofs.HostCalls.{sends_call}
use Rattle.outside.proofs.HostLinks.{sends_links}
use Rattle.outside.proofs.mem_host.MemHostHost.send.Goals as goal

pub returns-clause-call : goal.returns-clause-call
returns-clause-call c = sends_call c.args.link c.args.bytes.now c.make_send.result c.args.self.now c.make_send.new.self c.make_send.ensures

pub returns-clause-links : goal.returns-clause-links
returns-clause-links c = sends_links c.args.link c.args.bytes.now c.make_send.result c.args.self.now c.make_send.new.self c.make_send.ensures
