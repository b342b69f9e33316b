use Rattle.std.proofs.Common.{◌≡◌, map, take}
use Rattle.outside.specs.MemDisk.{change_of}
use Rattle.outside.specs.MemImage.{now_after}
use Rattle.outside.proofs.image.base_of.Given as goal

abbrev pub invariant-loop-call : goal.invariant-loop-call
invariant-loop-call l = l.bytes.items ≡ now_after l.file l.start (map change_of (take l.call-index l.calls))
