use Rattle.std.proofs.Common.{◌≡◌, map, take}
use Rattle.outside.specs.MemDisk.{change_of}
use Rattle.outside.specs.MemImage.{one_after}
use Rattle.outside.proofs.image.replayed.Given as goal

abbrev pub invariant-loop-call : goal.invariant-loop-call
invariant-loop-call l = l.replay ≡ one_after l.file l.initial.replay (map change_of (take l.call-index l.call-items))
