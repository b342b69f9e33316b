use Rattle.std.proofs.Common.{ap, length}
use Rattle.outside.specs.MemDisk.{bytes_each}
use Rattle.outside.proofs.HostCalls.{no_links_yet, wired_fresh}
use Rattle.outside.proofs.mem_host.MemHost.restart.Goals as goal

pub invariant_of-self-2 : goal.invariant_of-self-2
invariant_of-self-2 c =
    wired_fresh c.self.inside.disk _ _ _ c.in_ok-keep_hosted.ensures.ok (ap bytes_each c.new.ensures.items) (ap length c.in_ok-scripts.ensures)

pub returns-clause-no_links : goal.returns-clause-no_links
returns-clause-no_links c = no_links_yet c.self.inside.disk _ c.in_ok-keep_hosted.ensures.ok
