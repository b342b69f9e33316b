use Rattle.outside.proofs.HostCalls.{nonce_call}
use Rattle.outside.proofs.mem_host.MemHostHost.nonce.Goals as goal

pub returns-clause-call : goal.returns-clause-call
returns-clause-call c = nonce_call c.args.link c.make_nonce.result c.args.self.now c.make_nonce.new.self c.make_nonce.ensures
