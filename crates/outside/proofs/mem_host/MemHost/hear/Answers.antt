use Rattle.outside.proofs.HostCalls.{wired_answered}
use Rattle.outside.proofs.mem_host.MemHost.hear.Goals as goal

pub invariant_of-self : goal.invariant_of-self
invariant_of-self c =
    wired_answered c.self.inside.disk c.keep_answer.new.self c.args.link _ _ c.self.inside.scripts.items _ c.in-Ok.ensures.ok c.pass.ensures.len c.self.invariant
