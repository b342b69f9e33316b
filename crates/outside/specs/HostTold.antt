-- What a host in memory tells.
use Rattle.std.specs.Prelude.{refl, slice_index}
use Rattle.outside.specs.Outside.{Outside}
use Rattle.outside.specs.MemDisk.{calls_of}
use Rattle.outside.specs.MemTold.{mem_told}
use Rattle.outside.specs.MemHost.{MemHostValue}
use Rattle.outside.specs.LinksTold.{sent_by, links_told}
use Rattle.outside.specs.MemLaws.{each_told, each_heard}

abbrev pub host_told : MemHostValue → Outside
host_told host =
    mem_told sent_by (calls_of host.disk)
    (links_told host.disk.calls host.silences host.faults host.clock host.scripts)
    host.disk.faults refl (each_told host.disk.calls)
    (each_heard host.disk.calls (λ i. slice_index host.silences i))
