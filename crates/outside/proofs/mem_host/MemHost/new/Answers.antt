use Rattle.std.proofs.Common.{ap, length}
use Rattle.outside.specs.MemDisk.{bytes_each}
use Rattle.outside.proofs.HostCalls.{no_links_yet, wired_fresh}
use Rattle.outside.proofs.mem_host.MemHost.new.Goals as goal

pub invariant_of-result : goal.invariant_of-result
invariant_of-result c =
    wired_fresh c.args.disk _ _ _ c.in_ok-keep_hosted.ensures.ok (ap bytes_each c.new.ensures.items) (ap length c.in_ok-no_scripts.ensures)

pub returns-clause-no_links : goal.returns-clause-no_links
returns-clause-no_links c = no_links_yet c.args.disk _ c.in_ok-keep_hosted.ensures.ok
