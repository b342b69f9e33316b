use Rattle.outside.proofs.HostCalls.{answers_call}
use Rattle.outside.proofs.HostLinks.{answers_links}
use Rattle.outside.proofs.mem_host.MemHostHost.recv.Goals as goal

pub returns-clause-call : goal.returns-clause-call
returns-clause-call c = answers_call c.args.link c.make_answer.result c.make_answer.new.buf c.args.self.now c.make_answer.new.self c.make_answer.ensures.makes

pub returns-clause-links : goal.returns-clause-links
returns-clause-links c = answers_links c.args.link c.make_answer.result c.make_answer.new.buf c.args.self.now c.make_answer.new.self c.make_answer.ensures.makes
